use Rattle.std.proofs.Common.{ap, ◌∙◌}
use Rattle.serde_json.specs.Written.{has_float}
use Rattle.report_json.proofs.Plain.{pairings_plain}
use Rattle.report_json.proofs.pairings.pairings_json.Goals as goal

pub written-requires : goal.written-requires
written-requires c = ap has_float c.in_ok-pairings_value.ensures ∙ pairings_plain c.args.roster.now c.args.which
