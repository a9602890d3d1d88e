use Rattle.std.proofs.Common.{◌≡◌, ◌<◌, ◌++◌, ap, ◌∙◌, arith, subst, sym}
use Rattle.std.specs.Str.{IsUtf8}
use Rattle.time117.specs.Instant.{written}
use Rattle.time117.proofs.AsciiInstants.{IsUtf8-written}
use Rattle.report.proofs.instants.instant.Goals as goal

pub unwrap-requires : goal.unwrap-requires
unwrap-requires c =
    let lt : c.args.minute < 52_596_000 = omega (arith, c.number-in_range.ensures.in_range, c.number-in_range.ensures.value) in
    let text : c.write.new.text.items ≡ written c.args.minute = c.in_ok-write.ensures.ok ∙ ap (λ items. items ++ written c.args.minute) c.new-text.ensures.items in
    c.from_utf8.ensures.succeeds (subst IsUtf8 (sym text) (IsUtf8-written c.args.minute lt))
