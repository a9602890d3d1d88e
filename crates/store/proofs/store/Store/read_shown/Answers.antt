use Rattle.std.proofs.Common.{◌≡◌}
use Rattle.sqlite.specs.Held.{state}
use Rattle.part.specs.Shown.{shown_part}
use Rattle.store.proofs.Parting.{is_told, read_fault, shown_alike}
use Rattle.store.proofs.store.Store.read_shown.Goals as goal

pub returns-clause-part : goal.returns-clause-part
returns-clause-part g c = is_told (λ s roster. roster ≡ shown_part s c.args.what.now) _ _ c.gather_shown-shown.result c.gather_shown-shown.ensures.told.1

pub returns-clause-text : goal.returns-clause-text
returns-clause-text g c s shows clean = shown_alike c.args.what.now s c.gather_shown-shown.result (returns-clause-part g c s shows clean)

pub returns-clause-caused : goal.returns-clause-caused
returns-clause-caused g c = read_fault _ (state g.S.Store c.args.self.now) (state g.S.Store c.gather_shown-shown.new.source) c.gather_shown-shown.result c.gather_shown-shown.ensures.caused
