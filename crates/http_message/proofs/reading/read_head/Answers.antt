use Rattle.std.proofs.Common.{◌≡◌, ◌∷◌, ◌++◌, [], ◌||◌, not, true, false, rules, arith, ap, ◌∙◌, subst, sym}
use Rattle.std.specs.List.{list_all}
use Rattle.httparse.specs.Grammar.{HasNoRequest}
use Rattle.http_message.proofs.HeadLemmas.{first_read, one_more, none_in_more, none_in_line_ends, line_end_first, line_end_more, not_begun, hopeless_is_bad, full_is_bad, cut_is_bad, found_is_whole}
use Rattle.http_message.specs.Reading as spec
use Rattle.http_message.proofs.reading.read_head.Goals as goal
use Rattle.http_message.proofs.reading.read_head.Goals.{then-begun+then-byte-eq10+in-Unfinished, else-begun, else-begun-via-then-begun+else-byte-eq10, else-begun-via-else-begun}

pub loop-count-init : goal.loop-count-init
loop-count-init g c =
    let is : c.push.new.self.items ≡ c.in-Some.first ∷ [] = search rules in
    let read = rw c.in-Some.is at c.in_ok-first.ensures.read in (
      first_read _ _ c.push.new.self.items c.in-Some.first read is,
      (λ e. ap (list_all spec.is_line_end) is ∙ line_end_first c.in-Some.first c.is_line_end-begun.result c.is_line_end-begun.ensures e),
      omega (arith, c.in-Ok.ensures.capacity, c.push.ensures.capacity),
      omega (arith, c.in-Ok.ensures.len, c.in-Ok-push.ensures.len),
    )

pub returns-in_default-2-clause-read : goal.returns-in_default-2-clause-read
returns-in_default-2-clause-read g c =
    let end = rw c.in_default-2.is at c.in_ok-byte.ensures.read in
    cut_is_bad _ _ c.loop-count.bytes.items c.loop-count._count c.loop-count.invariant.0 (omega arith) end.0

pub returns-in-Whole-clause-read : goal.returns-in-Whole-clause-read
returns-in-Whole-clause-read g c =
    let is : c.push-in-loop-count.new.self.items ≡ c.loop-count.bytes.items ++ c.in-Some-2.byte ∷ [] = search rules in
    let read = rw c.in-Some-2.is at c.in_ok-byte.ensures.read in
    rw c.new.ensures (found_is_whole _ _ _ c.loop-count.bytes.items c.loop-count._count c.in-Some-2.byte c.push-in-loop-count.new.self.items c.parse.new.fields c.in-Whole.spans c.loop-count.invariant.0 read is (omega arith) (c.parse.array_long) (rw c.deref.ensures.value at c.in-Whole.ensures))

pub returns-in-Hopeless-clause-read : goal.returns-in-Hopeless-clause-read
returns-in-Hopeless-clause-read g c =
    let is : c.push-in-loop-count.new.self.items ≡ c.loop-count.bytes.items ++ c.in-Some-2.byte ∷ [] = search rules in
    let read = rw c.in-Some-2.is at c.in_ok-byte.ensures.read in
    hopeless_is_bad _ _ _ c.loop-count.bytes.items c.loop-count._count c.in-Some-2.byte _ c.loop-count.invariant.0 read is (search rules)

pub loop-count-preserved : goal.loop-count-preserved
loop-count-preserved g c =
    let is : c.push-in-loop-count.new.self.items ≡ c.loop-count.bytes.items ++ c.in-Some-2.byte ∷ [] = search rules in
    let read = rw c.in-Some-2.is at c.in_ok-byte.ensures.read in
    let ends : (c.loop-count.begun || not c.is_line_end.result) ≡ false → list_all spec.is_line_end c.push-in-loop-count.new.self.items ≡ true =
    λ e. ap (list_all spec.is_line_end) is
    ∙ line_end_more c.loop-count.bytes.items c.in-Some-2.byte
    (c.loop-count.invariant.1 (not_begun c.loop-count.begun c.is_line_end.result e).0)
    (sym c.is_line_end.ensures ∙ (not_begun c.loop-count.begun c.is_line_end.result e).1)
    in
    let none : HasNoRequest c.push-in-loop-count.new.self.items = elim c.if-begun.branch [
      | then-begun+then-byte-eq10+in-Unfinished w ↦ search rules
      | else-begun w ↦ elim w.else-begun.branch [
        | else-begun-via-then-begun+else-byte-eq10 w' ↦ subst HasNoRequest (sym is) (none_in_more c.loop-count.bytes.items c.in-Some-2.byte (search rules) c.loop-count.invariant.0.none)
        | else-begun-via-else-begun w' ↦ none_in_line_ends c.push-in-loop-count.new.self.items (ends (search rules))
      ]
    ] in
    (one_more _ _ _ c.loop-count.bytes.items c.loop-count._count c.in-Some-2.byte _ c.loop-count.invariant.0 read is none, ends, omega (arith, c.loop-count.invariant.2, c.push-in-loop-count.ensures.capacity), omega (arith, c.loop-count.invariant.3, c.in-Ok-push-2.ensures.len))

pub returns-clause-read : goal.returns-clause-read
returns-clause-read g c = full_is_bad _ _ c.loop-count.bytes.items c.loop-count._count c.loop-count.invariant.0 (omega arith)
