use Rattle.std.proofs.Common.{◌≡◌}
use Rattle.sqlite.specs.Held.{state}
use Rattle.roster.specs.Steps.{step_of}
use Rattle.store.proofs.Parting.{is_told, read_fault}
use Rattle.store.proofs.store.Store.judge.Goals as goal

pub returns-clause-verdict : goal.returns-clause-verdict
returns-clause-verdict g c = is_told (λ s verdict. verdict ≡ step_of s c.args.key c.args.command.now) _ _ c.judge-verdict.result c.judge-verdict.ensures.told.1

pub returns-clause-caused : goal.returns-clause-caused
returns-clause-caused g c = read_fault _ (state g.S.Store c.args.self.now) (state g.S.Store c.judge-verdict.new.source) c.judge-verdict.result c.judge-verdict.ensures.caused
