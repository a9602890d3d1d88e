-- States whose tables are right down to the segments have the same pairings, but for who holds the seats.
use Rattle.std.proofs.Common.{◌≡◌, refl, ap, ◌∙◌, ℕ, List, Some}
use Rattle.std.specs.FinMap as fin
use Rattle.sqlite_value.specs.Order.{Row, column}
use Rattle.sqlite.specs.Effect.{Database}
use Rattle.roster.specs.State.{State}
use Rattle.roster.specs.declared.state.PairingEntry.{PairingEntry}
use Rattle.entries.specs.Right.{IsPlanned, IsSegmentRight}
use Rattle.state_rows.specs.Rows.{StateTable, table, HasJust, pairing, period, segment, row_of_pairing}
use Rattle.entries.proofs.SamePairings.{Planned, SamePlan, same_plan}
use Rattle.state_rows.proofs.Values.{text_is}

-- what one has another has too, if both have just the rows of a table
pub told : (it : StateTable) (db : Database) (P Q : Row → Type 0) → HasJust (table it) db P → HasJust (table it) db Q → (row : Row) → P row → Q row
told it db P Q p q row is = (q row).0 ((p row).1 is)

of_planned : (id : List ℕ) (r : PairingEntry) → IsPlanned id r → Planned id r
of_planned id r is = record { named = is.named; planned = is.planned; places = is.places; actuals = λ i a e. (is.actuals i a e).0 }

-- the pairing of an id in the other state
pub record Beside (t : State) (id : List ℕ) (r : PairingEntry) : Type 0 where
  pub other : PairingEntry
  pub there : fin.get t.pairings id ≡ Some other
  pub same : SamePlan r other

module _ (s t : State) (db : Database) (a : IsSegmentRight s db) (b : IsSegmentRight t db) where
  pub beside : (id : List ℕ) (r : PairingEntry) → fin.get s.pairings id ≡ Some r → Beside t id r
  beside id r here =
      let crew_and_pairings = a.0.0 in
      let its = b.0.0 in
      let x = told pairing db _ _ crew_and_pairings.1.1 its.1.1 (row_of_pairing id) (record { name = id; value = r; there = here }, refl) in
      let same_id : id ≡ x.0.name = text_is (ap (λ (row : Row). column row 0) x.1) in
      let there : fin.get t.pairings id ≡ Some x.0.value = ap (fin.get t.pairings) same_id ∙ x.0.there in
      record {
        other = x.0.value;
        there = there;
        same = same_plan s t id r x.0.value here there (of_planned id r (a.3 id r here)) (of_planned id x.0.value (b.3 id x.0.value there))
            (told period db _ _ a.1 b.1) (told period db _ _ b.1 a.1) (told segment db _ _ a.2.1 b.2.1) (told segment db _ _ b.2.1 a.2.1);
      }
