-- The reads of a member, one after the other.
use Rattle.std.proofs.Common.{◌≡◌, subst, ◌∷◌, [], ℕ, List, map, Ok, Err}
use Rattle.std.specs.Prelude.{Bool}
use Rattle.sqlite_value.specs.declared.value.Value.TheVariants.{Text}
use Rattle.sqlite_value.specs.Order.{Row}
use Rattle.sqlite.specs.Effect.{Database}
use Rattle.sqlite.specs.State.{State, HasCleanDisk, IsUnchanged}
use Rattle.tables.specs.Records.{crew_base_row, crew_row}
use Rattle.tables.specs.Rows.{Finds, begins_with}
use Rattle.state_rows.specs.Rows.{table, crew, crew_base}
use Rattle.state_rows.specs.declared.fault.StoreFault.{StoreFault}
use Rattle.lookup.specs.Reads.{IsCausedIfStore, Stays}
use Rattle.lookup.specs.Members.{ReadsMember}
use Rattle.lookup.specs.declared.member.MemberRecords.{MemberRecords}
use Rattle.lookup.proofs.Causes.{cause_then}
use Rattle.lookup.proofs.Changes.{of_stays}
use Rattle.lookup.proofs.PlanReads.{if_some, of_none, stays_on, unchanged_on}

module _ (id : List ℕ) where
  abbrev test : Row → Bool
  test = begins_with (Text id ∷ [])

  pub not_first : (a b : State) (fault : StoreFault) → Stays a b → IsCausedIfStore a b fault → ReadsMember id a b (Err fault)
  not_first a b fault stays caused = record { stays = stays; told = λ clean. tt; caused = caused }

  pub not_second : (a b c : State) (fault : StoreFault) → Stays a b → Stays b c → IsCausedIfStore b c fault → ReadsMember id a c (Err fault)
  not_second a b c fault p q caused = record {
    stays = stays_on a b c p q;
    told = λ clean. tt;
    caused = λ clean is. cause_then a b c (of_stays a b p) (of_stays b c q) clean (caused clean is);
  }

  pub both_read : (a b c : State) (rows : MemberRecords) → Stays a b → Stays b c →
      (HasCleanDisk b → IsUnchanged a b × Finds (table crew) test a.now (map crew_row rows.crew.items)) →
      (HasCleanDisk c → IsUnchanged b c × Finds (table crew_base) test b.now (map crew_base_row rows.bases.items)) → ReadsMember id a c (Ok rows)
  both_read a b c rows p q one two = record {
    stays = stays_on a b c p q;
    told = λ clean.
        let second = two clean in
        let first = one (q.nothing_new.disk clean) in (
          unchanged_on a b c first.0 second.0,
          record {
            crew = first.1;
            bases = if_some rows.crew.items _ (subst (λ (db : Database). Finds (table crew_base) test db (map crew_base_row rows.bases.items)) first.0.0.now_is second.1);
          },
        );
    caused = tt;
  }

  -- where there is no such member
  pub no_member : (a b : State) (rows : MemberRecords) → Stays a b → (HasCleanDisk b → IsUnchanged a b × Finds (table crew) test a.now (map crew_row rows.crew.items)) →
      rows.crew.items ≡ [] → ReadsMember id a b (Ok rows)
  no_member a b rows p one none = record {
    stays = p;
    told = λ clean. let first = one clean in (first.0, record { crew = first.1; bases = of_none rows.crew.items _ none });
    caused = tt;
  }
