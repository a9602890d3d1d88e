-- The reads of an outside period, one after the other.
use Rattle.std.proofs.Common.{◌≡◌, subst, ◌∷◌, [], ℕ, List, map, Ok, Err}
use Rattle.std.specs.Prelude.{Bool}
use Rattle.sqlite_value.specs.declared.value.Value.TheVariants.{Text}
use Rattle.sqlite_value.specs.Order.{Row}
use Rattle.sqlite.specs.Effect.{Database}
use Rattle.sqlite.specs.State.{State, HasCleanDisk, IsUnchanged}
use Rattle.tables.specs.Records.{outside_row, outside_segment_row}
use Rattle.tables.specs.Rows.{Finds, begins_with}
use Rattle.state_rows.specs.Rows.{table, outside, outside_segment}
use Rattle.state_rows.specs.declared.fault.StoreFault.{StoreFault}
use Rattle.lookup.specs.Reads.{IsCausedIfStore, Stays}
use Rattle.lookup.specs.Outsides.{ReadsOutside}
use Rattle.lookup.specs.declared.outside.OutsideRecords.{OutsideRecords}
use Rattle.lookup.proofs.Causes.{cause_then}
use Rattle.lookup.proofs.Changes.{of_stays}
use Rattle.lookup.proofs.PlanReads.{if_some, of_none, stays_on, unchanged_on}

module _ (id : List ℕ) where
  abbrev test : Row → Bool
  test = begins_with (Text id ∷ [])

  pub not_first : (a b : State) (fault : StoreFault) → Stays a b → IsCausedIfStore a b fault → ReadsOutside id a b (Err fault)
  not_first a b fault stays caused = record { stays = stays; told = λ clean. tt; caused = caused }

  pub not_second : (a b c : State) (fault : StoreFault) → Stays a b → Stays b c → IsCausedIfStore b c fault → ReadsOutside id a c (Err fault)
  not_second a b c fault p q caused = record {
    stays = stays_on a b c p q;
    told = λ clean. tt;
    caused = λ clean is. cause_then a b c (of_stays a b p) (of_stays b c q) clean (caused clean is);
  }

  pub both_read : (a b c : State) (rows : OutsideRecords) → Stays a b → Stays b c →
      (HasCleanDisk b → IsUnchanged a b × Finds (table outside) test a.now (map outside_row rows.periods.items)) →
      (HasCleanDisk c → IsUnchanged b c × Finds (table outside_segment) test b.now (map outside_segment_row rows.segments.items)) → ReadsOutside id a c (Ok rows)
  both_read a b c rows p q one two = record {
    stays = stays_on a b c p q;
    told = λ clean.
        let second = two clean in
        let first = one (q.nothing_new.disk clean) in (
          unchanged_on a b c first.0 second.0,
          record {
            periods = first.1;
            segments = if_some rows.periods.items _ (subst (λ (db : Database). Finds (table outside_segment) test db (map outside_segment_row rows.segments.items)) first.0.0.now_is second.1);
          },
        );
    caused = tt;
  }

  -- where there is no such period
  pub no_outside : (a b : State) (rows : OutsideRecords) → Stays a b → (HasCleanDisk b → IsUnchanged a b × Finds (table outside) test a.now (map outside_row rows.periods.items)) →
      rows.periods.items ≡ [] → ReadsOutside id a b (Ok rows)
  no_outside a b rows p one none = record {
    stays = p;
    told = λ clean. let first = one clean in (first.0, record { periods = first.1; segments = of_none rows.periods.items _ none });
    caused = tt;
  }
