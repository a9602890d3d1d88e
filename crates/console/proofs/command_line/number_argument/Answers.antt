use Rattle.std.proofs.Common.{rules, ◌≡◌, ◌∙◌, Some, ap, codes}
use Rattle.std.specs.Range.{range_inclusive_end, range_inclusive_start}
use Rattle.clap.specs.Values.{NarrowsTo}
use Rattle.clap.specs.Walk.{Rule, rule_of}
use Rattle.clap.specs.declared.builder.value_parser.ValueParser.TheVariants.{Unsigned}
use Rattle.console.specs.CommandLine.{last_number, wanted}
use Rattle.console.proofs.command_line.number_argument.Goals as goal

pub returns-clause-rule : goal.returns-clause-rule
returns-clause-rule c =
    let given = c.value_parser-2.ensures.given in
    let narrows : NarrowsTo (Unsigned 0 18446744073709551615) (Some (range_inclusive_start c.new.result))
    (Some (range_inclusive_end c.new.result)) c.range.result = rw c.value_parser.ensures at c.range.ensures in
    let made : c.range.result ≡ Unsigned 1 last_number = rw (c.new.ensures.start, c.new.ensures.end) at narrows in
    let help_is : rule_of c.help.result ≡ wanted (codes "number") = search rules in
    let parsed : c.value_parser-2.result.value_parser ≡ Some (Unsigned 1 last_number) =
    given.1 ∙ ap Some (given.2 ∙ made) in
    ap rule_of c.value_parser-2.ensures.others
    ∙ (ap (λ q. record (rule_of c.help.result) { parser = q }) parsed
    ∙ ap (λ (r : Rule). record r { parser = Some (Unsigned 1 last_number) }) help_is)
