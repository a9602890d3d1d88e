use Rattle.std.proofs.Common.{ap, ◌∙◌}
use Rattle.std.specs.Option.{option_copied}
use Rattle.serde_json.specs.Written.{has_float}
use Rattle.report_json.proofs.Plain.{limits_plain}
use Rattle.report_json.proofs.nearest_limits.text_of.Goals as goal

pub written-requires : goal.written-requires
written-requires c =
    ap has_float c.in_ok-value_of.ensures ∙ limits_plain c.args.who.now c.args.member.now (option_copied c.args.pairing) c.args.limits.now
