-- The reads of a pairing, one after the other.
use Rattle.std.proofs.Common.{◌≡◌, sym, subst, ◌∙◌, ◌∷◌, [], ℕ, List, map, Ok, Err}
use Rattle.sqlite_value.specs.declared.value.Value.TheVariants.{Text}
use Rattle.sqlite_value.specs.Order.{Row}
use Rattle.std.specs.Prelude.{Bool}
use Rattle.sqlite.specs.Effect.{Database}
use Rattle.sqlite.specs.State.{State, HasCleanDisk, IsUnchanged}
use Rattle.tables.specs.Records.{period_row, seat_row, segment_row}
use Rattle.tables.specs.Rows.{Finds, begins_with}
use Rattle.state_rows.specs.Rows.{table, period, seat, segment}
use Rattle.state_rows.specs.declared.fault.StoreFault.{StoreFault}
use Rattle.lookup.specs.Reads.{IsCausedIfStore, Stays}
use Rattle.lookup.specs.Plans.{IfSome, ReadsPlan}
use Rattle.lookup.proofs.Causes.{cause_then}
use Rattle.lookup.proofs.Changes.{changes_then, of_stays}
use Rattle.lookup.specs.declared.pairing.PlanRecords.{PlanRecords}

pub stays_on : (a b c : State) → Stays a b → Stays b c → Stays a c
stays_on a b c p q =
    let it = changes_then a b c (of_stays a b p) (of_stays b c q) in
    record { nothing_new = it.nothing_new; still_shown = it.still_shown; outside = q.outside; faults = it.faults; still_open = it.still_open; limit = it.limit }

pub if_some : {A : Type 0} (xs : List A) (P : Type 0) → P → IfSome xs P
if_some [] P is = tt
if_some (x ∷ xs) P is = is

pub of_none : {A : Type 0} (xs : List A) (P : Type 0) → xs ≡ [] → IfSome xs P
of_none xs P none = subst (λ l. IfSome l P) (sym none) tt

pub unchanged_on : (a b c : State) → IsUnchanged a b → IsUnchanged b c → IsUnchanged a c
unchanged_on a b c one two = (
  record {
    was_open = one.0.was_open;
    is_open = two.0.is_open;
    now_is = two.0.now_is ∙ one.0.now_is;
    committed_is = two.0.committed_is ∙ one.0.committed_is;
    mode = two.0.mode ∙ one.0.mode;
  },
  record { changes = two.1.changes ∙ one.1.changes; last_rowid = two.1.last_rowid ∙ one.1.last_rowid },
  two.2 ∙ one.2,
)

module _ (id : List ℕ) where
  abbrev test : Row → Bool
  test = begins_with (Text id ∷ [])

  pub not_first : (a b : State) (fault : StoreFault) → Stays a b → IsCausedIfStore a b fault → ReadsPlan id a b (Err fault)
  not_first a b fault stays caused = record { stays = stays; told = λ clean. tt; caused = caused }

  pub not_second : (a b c : State) (fault : StoreFault) → Stays a b → Stays b c → IsCausedIfStore b c fault → ReadsPlan id a c (Err fault)
  not_second a b c fault p q caused = record {
    stays = stays_on a b c p q;
    told = λ clean. tt;
    caused = λ clean is. cause_then a b c (of_stays a b p) (of_stays b c q) clean (caused clean is);
  }

  pub not_third : (a b c d : State) (fault : StoreFault) → Stays a b → Stays b c → Stays c d → IsCausedIfStore c d fault → ReadsPlan id a d (Err fault)
  not_third a b c d fault p q r caused = record {
    stays = stays_on a c d (stays_on a b c p q) r;
    told = λ clean. tt;
    caused = λ clean is. cause_then a c d (of_stays a c (stays_on a b c p q)) (of_stays c d r) clean (caused clean is);
  }

  pub all_read : (a b c d : State) (rows : PlanRecords) → Stays a b → Stays b c → Stays c d →
      (HasCleanDisk b → IsUnchanged a b × Finds (table period) test a.now (map period_row rows.periods.items)) →
      (HasCleanDisk c → IsUnchanged b c × Finds (table segment) test b.now (map segment_row rows.segments.items)) →
      (HasCleanDisk d → IsUnchanged c d × Finds (table seat) test c.now (map seat_row rows.seats.items)) → ReadsPlan id a d (Ok rows)
  all_read a b c d rows p q r one two three = record {
    stays = stays_on a c d (stays_on a b c p q) r;
    told = λ clean.
        let third = three clean in
        let second = two (r.nothing_new.disk clean) in
        let first = one (q.nothing_new.disk (r.nothing_new.disk clean)) in
        let same_b = first.0.0.now_is in
        let same_c = second.0.0.now_is ∙ same_b in (
          unchanged_on a c d (unchanged_on a b c first.0 second.0) third.0,
          record {
            periods = first.1;
            segments = if_some rows.periods.items _ (subst (λ (db : Database). Finds (table segment) test db (map segment_row rows.segments.items)) same_b second.1);
            seats = if_some rows.periods.items _ (subst (λ (db : Database). Finds (table seat) test db (map seat_row rows.seats.items)) same_c third.1);
          },
        );
    caused = tt;
  }

  -- where there is no period
  pub no_plan : (a b : State) (rows : PlanRecords) → Stays a b → (HasCleanDisk b → IsUnchanged a b × Finds (table period) test a.now (map period_row rows.periods.items)) →
      rows.periods.items ≡ [] → ReadsPlan id a b (Ok rows)
  no_plan a b rows p one none = record {
    stays = p;
    told = λ clean.
        let first = one clean in
        (first.0, record { periods = first.1; segments = of_none rows.periods.items _ none; seats = of_none rows.periods.items _ none });
    caused = tt;
  }
