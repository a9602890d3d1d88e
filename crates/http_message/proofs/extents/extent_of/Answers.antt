use Rattle.std.proofs.Common.{◌≡◌, inl, refl, length, take, drop, arith}
use Rattle.std.proofs.lemmas.List.{length-take-le, take-append-drop}
use Rattle.std.proofs.lemmas.Result.{IfOk-weaker}
use Rattle.http_message.proofs.ExtentLemmas.{head_extent, never_hopeless, never_too_long}
use Rattle.http_message.proofs.extents.extent_of.Goals as goal

pub returns-in-Whole : goal.returns-in-Whole
returns-in-Whole c =
    let bytes = c.args.bytes.now in
    let n = c.min.result in
    let long : length (take n bytes) ≡ n = length-take-le n bytes (omega (arith, c.min.ensures)) in
    IfOk-weaker c.extent_of_head.result _ _ (λ it known. head_extent bytes (take n bytes) (drop n bytes) c.parse.new.fields c.in-Whole.spans it (take-append-drop n bytes)
    (omega (arith, long, c.min.ensures)) c.parse.array_long c.in-Whole.ensures known) c.extent_of_head.ensures

pub returns-else-front-lt-MOST_HEAD : goal.returns-else-front-lt-MOST_HEAD
returns-else-front-lt-MOST_HEAD c =
    let bytes = c.args.bytes.now in
    let n = c.min.result in
    let long : length (take n bytes) ≡ n = length-take-le n bytes (omega (arith, c.min.ensures)) in
    inl (never_too_long bytes (take n bytes) (drop n bytes) (take-append-drop n bytes) (omega (arith, long, c.min.ensures, c.if-front-lt-MOST_HEAD.false)) c.in-Unfinished.ensures, refl, refl)

pub returns-in-Hopeless : goal.returns-in-Hopeless
returns-in-Hopeless c =
    let bytes = c.args.bytes.now in
    let n = c.min.result in
    inl (never_hopeless bytes (take n bytes) (drop n bytes) (take-append-drop n bytes) c.in-Hopeless.ensures, refl, refl)
