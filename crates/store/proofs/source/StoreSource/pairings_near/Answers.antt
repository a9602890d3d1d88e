use Rattle.std.proofs.Common.{Result, Ok, Err, None}
use Rattle.std.specs.Prelude.{IfOk}
use Rattle.std.specs.FinMap as fin
use Rattle.sqlite.specs.Held.{state}
use Rattle.values.specs.Name.{name_cmp}
use Rattle.roster.specs.Near.{AreHeldNear}
use Rattle.roster.specs.State.{State}
use Rattle.roster.specs.declared.state.PairingEntry.{PairingEntry}
use Rattle.lookup.specs.Near.{AreKnownSo}
use Rattle.lookup.specs.Reads.{Shows}
use Rattle.lookup.proofs.ReadLemmas.{over_on}
use Rattle.part.specs.Near.{AreSo}
use Rattle.store.proofs.source.StoreSource.pairings_near.Goals as goal

ok_then : {A E : Type 0} {P Q : A → Type 0} (result : Result A E) → ((a : A) → P a → Q a) → IfOk result P → IfOk result Q
ok_then (Ok a) then told = then a told
ok_then (Err fault) then told = tt

-- pairings that are true of the state's are known, but for who holds them
known_so : (s : State) (known : fin.FinMap name_cmp PairingEntry) → AreSo s known → AreKnownSo s known
known_so s known so id some there =
    let it = so id some there in
    (it.0, it.1, λ i. record { plan = it.2.plan i; actuals = it.2.actuals i; captain = None; first_officer = None })

pub invariant_of-self : goal.invariant_of-self
invariant_of-self g c = (c.pairings_near_at.ensures.stays.outside, over_on _ _ c.pairings_near_at.ensures.stays c.self.invariant.1)

pub returns-clause-told : goal.returns-clause-told
returns-clause-told g c = rw (← c.self.view_is) (
  c.pairings_near_at.ensures.stays.nothing_new.disk,
  λ clean s shows. ok_then c.pairings_near_at.result (λ found told. (told.0, λ so. told.1 (known_so s c.args.known.now so))) (c.pairings_near_at.ensures.told clean s shows),
)
