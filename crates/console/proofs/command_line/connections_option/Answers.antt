use Rattle.std.proofs.Common.{rules, ◌≡◌, ◌∙◌, None, Some, ap}
use Rattle.std.specs.Range.{range_inclusive_end, range_inclusive_start}
use Rattle.clap.specs.Values.{NarrowsTo}
use Rattle.clap.specs.Walk.{Rule, rule_of}
use Rattle.clap.specs.declared.builder.value_parser.ValueParser.TheVariants.{Unsigned}
use Rattle.console.specs.CommandLine.{connections, most_connections, rule}
use Rattle.console.proofs.command_line.connections_option.Goals as goal

pub returns-clause-rule : goal.returns-clause-rule
returns-clause-rule c =
    let given = c.value_parser-2.ensures.given in
    let narrows : NarrowsTo (Unsigned 0 18446744073709551615) (Some (range_inclusive_start c.new-2.result))
    (Some (range_inclusive_end c.new-2.result)) c.range.result = rw c.value_parser.ensures at c.range.ensures in
    let made : c.range.result ≡ Unsigned 1 most_connections = rw (c.new-2.ensures.start, c.new-2.ensures.end) at narrows in
    let plain : rule_of c.default_value.result ≡ record (rule connections) { parser = None } = search rules in
    let parsed : c.value_parser-2.result.value_parser ≡ Some (Unsigned 1 most_connections) =
    given.1 ∙ ap Some (given.2 ∙ made) in
    ap rule_of c.value_parser-2.ensures.others
    ∙ (ap (λ q. record (rule_of c.default_value.result) { parser = q }) parsed
    ∙ ap (λ (r : Rule). record r { parser = Some (Unsigned 1 most_connections) }) plain)
