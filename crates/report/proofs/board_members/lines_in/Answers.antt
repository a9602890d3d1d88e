use Rattle.std.proofs.Common.{rules, ap, ◌∙◌}
use Rattle.std.specs.List.{filter}
use Rattle.std.proofs.lemmas.Fn.{filter_same}
use Rattle.request.specs.Days.{meets}
use Rattle.report.proofs.board_members.lines_in.Goals as goal

pub returns : goal.returns
returns c =
    filter_same _ (λ line. meets c.args.days line.begin line.end) _ (λ x b f' k. search rules) _ _ c.retain.ensures.filtered
    ∙ ap (filter (λ line. meets c.args.days line.begin line.end)) c.in_ok-lines.ensures
