-- The pairings of a state are what its rows give, and what rows give has those rows.
use Rattle.std.proofs.Common.{◌≡◌, ◌↔◌, refl, sym, ap, subst, ◌∙◌, arith, ℕ, zero, suc, ◌+◌, ◌<◌, Bool, true, ◌&&◌, List, [], ◌∷◌, length, Option, Some, None, slice_get}
use Rattle.std.specs.FinMap as fin
use Rattle.std.specs.List.{list_all}
use Rattle.std.specs.Option.{option_map}
use Rattle.std.proofs.lemmas.Bool.{and_parts, and_from}
use Rattle.std.proofs.lemmas.Option.{slice_get_within}
use Rattle.sqlite_value.specs.Order.{Row, column}
use Rattle.duty.specs.Plans.{ActualTimes}
use Rattle.duty.specs.declared.fdp.Fdp.{Fdp}
use Rattle.duty.specs.declared.segment.BlockTimes.{BlockTimes}
use Rattle.duty.specs.declared.segment.Segment.{Segment}
use Rattle.stored_json.specs.Instants.{is_instant, times_have_instants, segment_has_instants, period_has_instants}
use Rattle.roster.specs.State.{State}
use Rattle.roster.specs.declared.state.PairingEntry.{PairingEntry}
use Rattle.tables.specs.Records.{period_row, segment_row}
use Rattle.tables.specs.declared.period.PeriodRecord.{PeriodRecord}
use Rattle.tables.specs.declared.segment.SegmentRecord.{SegmentRecord}
use Rattle.state_rows.proofs.FewPeriods.{few_segments}
use Rattle.state_rows.proofs.Lists.{same_list, some_same, one_value}
use Rattle.entries.proofs.PlanKeys.{period_names_same, segment_names_same}
use Rattle.entries.proofs.PlanLemmas.{there_within, same_plan, same_listed, times_once, block_pairs_same, Beside, beside, beside_once}
use Rattle.entries.proofs.SamePairings.{planned_report}
use Rattle.state_rows.proofs.Values.{numbers_same, text_is, number_is}
use Rattle.entries.specs.Right.{IsPlanned, HasInstantTimes}
use Rattle.entries.specs.PlanRows.{Periods, Segments, period_name, segment_name, AreTimes, block_pair, actual_pair, IsSegment, HasRowOf, HasPeriodRow, IsReadPeriod, HasSegments, IsPairingOfRows, PeriodRows, SegmentRows, ArePeriodsKeyed, AreSegmentsKeyed}
use Rattle.state_rows.specs.Rows.{InPeriod, InSegment, At, PeriodOf, SegmentOf, row_of_period, row_of_segment, times_flown}

pub all_at : {A : Type 0} (test : A → Bool) (xs : List A) → list_all test xs ≡ true → (i : ℕ) (x : A) → slice_get xs i ≡ Some x → test x ≡ true
all_at test [] e i x there = absurd (cc)
all_at test (y ∷ xs) e zero x there = ap test (sym (some_same there)) ∙ (and_parts (test y) (list_all test xs) e).0
all_at test (y ∷ xs) e (suc i) x there = all_at test xs (and_parts (test y) (list_all test xs) e).1 i x there

all_from : {A : Type 0} (test : A → Bool) (xs : List A) → ((i : ℕ) (x : A) → slice_get xs i ≡ Some x → test x ≡ true) → list_all test xs ≡ true
all_from test [] each = refl
all_from test (y ∷ xs) each = and_from (test y) (list_all test xs) (each zero y refl) (all_from test xs (λ i x e. each (suc i) x e))

-- the report, the release and the segments of a period with instants have them
period_parts : (f : Fdp) → period_has_instants f ≡ true → (is_instant f.report ≡ true) × (is_instant f.release ≡ true) × (list_all segment_has_instants f.segments ≡ true)
period_parts f e =
    let first = and_parts (is_instant f.report && is_instant f.release) (list_all segment_has_instants f.segments) e in
    let times = and_parts (is_instant f.report) (is_instant f.release) first.0 in
    (times.0, times.1, first.1)

-- ---- Times

block_times_are : (a b : Option ℕ) (t : Option BlockTimes) → option_map (λ x. x.block_out) t ≡ a → option_map (λ x. x.block_in) t ≡ b → ((x : BlockTimes) → t ≡ Some x → times_have_instants x ≡ true) → AreTimes a b (option_map block_pair t)
block_times_are None None None e f w = tt
block_times_are None None (Some t) e f w = absurd (cc)
block_times_are None (Some b) None e f w = absurd (cc)
block_times_are None (Some b) (Some t) e f w = absurd (cc)
block_times_are (Some a) b None e f w = absurd (cc)
block_times_are (Some a) None (Some t) e f w = absurd (cc)
block_times_are (Some a) (Some b) (Some t) e f w =
    let x : t.block_out ≡ a = some_same e in
    let y : t.block_in ≡ b = some_same f in
    let parts = and_parts (is_instant t.block_out) (is_instant t.block_in) (w t refl) in
    ((λ i. (x i, y i)), ap is_instant (sym x) ∙ parts.0, ap is_instant (sym y) ∙ parts.1)

actual_times_are : (a b : Option ℕ) (t : Option ActualTimes) → option_map (λ x. x.report) t ≡ a → option_map (λ x. x.release) t ≡ b → ((x : ActualTimes) → t ≡ Some x → HasInstantTimes x) → AreTimes a b (option_map actual_pair t)
actual_times_are None None None e f w = tt
actual_times_are None None (Some t) e f w = absurd (cc)
actual_times_are None (Some b) None e f w = absurd (cc)
actual_times_are None (Some b) (Some t) e f w = absurd (cc)
actual_times_are (Some a) b None e f w = absurd (cc)
actual_times_are (Some a) None (Some t) e f w = absurd (cc)
actual_times_are (Some a) (Some b) (Some t) e f w =
    let x : t.report ≡ a = some_same e in
    let y : t.release ≡ b = some_same f in
    let both = w t refl in
    ((λ i. (x i, y i)), ap is_instant (sym x) ∙ both.0, ap is_instant (sym y) ∙ both.1)

-- and back
block_columns : (a b : Option ℕ) (t : Option BlockTimes) → AreTimes a b (option_map block_pair t) → (option_map (λ x. x.block_out) t ≡ a) × (option_map (λ x. x.block_in) t ≡ b)
block_columns None None None are = (refl, refl)
block_columns None None (Some t) are = absurd are
block_columns None (Some b) t are = absurd are
block_columns (Some a) None t are = absurd are
block_columns (Some a) (Some b) None are = absurd are
block_columns (Some a) (Some b) (Some t) are = let e = are.0 in ((λ i. Some (e i).0), (λ i. Some (e i).1))

actual_columns : (a b : Option ℕ) (t : Option ActualTimes) → AreTimes a b (option_map actual_pair t) → (option_map (λ x. x.report) t ≡ a) × (option_map (λ x. x.release) t ≡ b)
actual_columns None None None are = (refl, refl)
actual_columns None None (Some t) are = absurd are
actual_columns None (Some b) t are = absurd are
actual_columns (Some a) None t are = absurd are
actual_columns (Some a) (Some b) None are = absurd are
actual_columns (Some a) (Some b) (Some t) are = let e = are.0 in ((λ i. Some (e i).0), (λ i. Some (e i).1))

actual_instants : (a b : Option ℕ) (x : ActualTimes) → AreTimes a b (Some (actual_pair x)) → (is_instant x.report ≡ true) × (is_instant x.release ≡ true)
actual_instants None None x are = absurd are
actual_instants None (Some b) x are = absurd are
actual_instants (Some a) None x are = absurd are
actual_instants (Some a) (Some b) x are = (ap (λ p. is_instant p.0) are.0 ∙ are.1, ap (λ p. is_instant p.1) are.0 ∙ are.2)

block_instants : (a b : Option ℕ) (t : BlockTimes) → AreTimes a b (Some (block_pair t)) → times_have_instants t ≡ true
block_instants None None t are = absurd are
block_instants None (Some b) t are = absurd are
block_instants (Some a) None t are = absurd are
block_instants (Some a) (Some b) t are = and_from _ _ (ap (λ p. is_instant p.0) are.0 ∙ are.1) (ap (λ p. is_instant p.1) are.0 ∙ are.2)

-- ---- The rows of a state give each of its pairings

module _ (s : State) (m : Periods) (n : Segments) (m_keyed : ArePeriodsKeyed m) (n_keyed : AreSegmentsKeyed n)
    (periods : (row : Row) → PeriodRows m row ↔ InPeriod s row) (segments : (row : Row) → SegmentRows n row ↔ InSegment s row)
    (id : List ℕ) (r : PairingEntry) (here : fin.get s.pairings id ≡ Some r) (is : IsPlanned id r) where
  flown_at : (place : ℕ) (actual : Option ActualTimes) → slice_get r.actuals place ≡ Some actual → (j : ℕ) (x : BlockTimes) → times_flown actual j ≡ Some x → times_have_instants x ≡ true
  flown_at place None b j x e = absurd (cc)
  flown_at place (Some a) b j x e = all_at times_have_instants a.segments (is.actuals place a b).1.2 j x e

  module _ (place : ℕ) (fdp : Fdp) (actual : Option ActualTimes) (a : slice_get r.plan.periods place ≡ Some fdp) (b : slice_get r.actuals place ≡ Some actual) where
    instants : period_has_instants fdp ≡ true
    instants = all_at period_has_instants r.plan.periods is.instants place fdp a

    segment_each : (j : ℕ) (segment : Segment) → slice_get fdp.segments j ≡ Some segment → HasRowOf n id (place + 1) j segment (times_flown actual j)
    segment_each j segment c =
        let at : At s.pairings = record { name = id; value = r; there = here } in
        let p : PeriodOf r = record { place = place; fdp = fdp; actual = actual; planned = a; flown = b } in
        let g : SegmentOf fdp = record { place = j; segment = segment; planned = c } in
        let row = (segments (row_of_segment id place j segment (times_flown actual j))).1 (at, p, g, refl) in
        let it = row.0 in
        let e = row.2 in
        let at_column = λ (k : ℕ). ap (λ (x : Row). column x k) e in
        let same_id : id ≡ it.pairing = text_is (at_column 0) in
        let same_period : place + 1 ≡ it.period = number_is (at_column 1) in
        let same_number : j + 1 ≡ it.number = number_is (at_column 2) in
        let all = (period_parts fdp instants).2 in (
          it,
          ap (fin.get n) (λ i. segment_name (same_id i) (same_period i) (same_number i)) ∙ row.1,
          record {
            planned = λ i. record {
              flight = text_is (at_column 3) i;
              from = text_is (at_column 4) i;
              block_out = number_is (at_column 6) i;
              to = text_is (at_column 5) i;
              block_in = number_is (at_column 7) i;
            };
            instants = all_at segment_has_instants fdp.segments all j segment c;
            flown = block_times_are it.act_out it.act_in (times_flown actual j) (numbers_same _ _ (at_column 8)) (numbers_same _ _ (at_column 9)) (flown_at place actual b j);
          },
        )

    segment_all : (number : ℕ) (it : SegmentRecord) → fin.get n (segment_name id (place + 1) number) ≡ Some it → (i : ℕ) × (number ≡ i + 1) × (i < length fdp.segments)
    segment_all number it e =
        let name = n_keyed (segment_name id (place + 1) number) it e in
        let known = segment_names_same id it.pairing (place + 1) it.period number it.number name in
        let row = (segments (segment_row it)).0 (it, ap (fin.get n) (sym name) ∙ e, refl) in
        let f = row.3 in
        let at_column = λ (k : ℕ). ap (λ (x : Row). column x k) f in
        let same_id : id ≡ row.0.name = known.0 ∙ text_is (at_column 0) in
        let same_period : place + 1 ≡ row.1.place + 1 = known.1 ∙ number_is (at_column 1) in
        let same_place : place ≡ row.1.place = omega (arith, same_period) in
        let same : r ≡ row.0.value = one_value here (ap (fin.get s.pairings) same_id ∙ row.0.there) in
        let fdp_is : row.1.fdp ≡ fdp = one_value row.1.planned (ap (λ (x : PairingEntry). slice_get x.plan.periods row.1.place) (sym same) ∙ ap (slice_get r.plan.periods) (sym same_place) ∙ a) in
        (row.2.place, known.2 ∙ number_is (at_column 2), subst (λ (x : Fdp). row.2.place < length x.segments) fdp_is (slice_get_within row.1.fdp.segments row.2.place row.2.segment row.2.planned))

    period_each : HasPeriodRow m n id place fdp actual
    period_each =
        let at : At s.pairings = record { name = id; value = r; there = here } in
        let p : PeriodOf r = record { place = place; fdp = fdp; actual = actual; planned = a; flown = b } in
        let row = (periods (row_of_period id place fdp actual)).1 (at, p, refl) in
        let it = row.0 in
        let e = row.2 in
        let at_column = λ (k : ℕ). ap (λ (x : Row). column x k) e in
        let same_id : id ≡ it.pairing = text_is (at_column 0) in
        let same_number : place + 1 ≡ it.number = number_is (at_column 1) in (
          it,
          ap (fin.get m) (λ i. period_name (same_id i) (same_number i)) ∙ row.1,
          record {
            planned = planned_report r.plan.periods is.planned place fdp a;
            report = number_is (at_column 2);
            release = number_is (at_column 3);
            report_instant = (period_parts fdp instants).0;
            release_instant = (period_parts fdp instants).1;
            few = few_segments r.plan is.plan place fdp a;
            flown = actual_times_are it.act_report it.act_release actual (numbers_same _ _ (at_column 4)) (numbers_same _ _ (at_column 5)) (λ x f. (is.actuals place x (b ∙ ap Some f)).1);
            whole = λ x f. let ia = (is.actuals place x (b ∙ ap Some f)).0 in (ia.number, ap (λ (d : Fdp). length d.segments) (one_value a ia.planned) ∙ ia.count, ia.in_order);
            has_segments = record { each = segment_each; all = segment_all };
          },
        )

  period_all : (number : ℕ) (it : PeriodRecord) → fin.get m (period_name id number) ≡ Some it → (i : ℕ) × (number ≡ i + 1) × (i < length r.plan.periods)
  period_all number it e =
      let name = m_keyed (period_name id number) it e in
      let known = period_names_same id it.pairing number it.number name in
      let row = (periods (period_row it)).0 (it, ap (fin.get m) (sym name) ∙ e, refl) in
      let f = row.2 in
      let at_column = λ (k : ℕ). ap (λ (x : Row). column x k) f in
      let same_id : id ≡ row.0.name = known.0 ∙ text_is (at_column 0) in
      let same : row.0.value ≡ r = one_value (ap (fin.get s.pairings) same_id ∙ row.0.there) here in
      (row.1.place, known.1 ∙ number_is (at_column 1), subst (λ (x : PairingEntry). row.1.place < length x.plan.periods) same (slice_get_within row.0.value.plan.periods row.1.place row.1.fdp row.1.planned))

  -- so the refusal of a pairing is right: no state has it
  pub state_told : IsPairingOfRows m n id r
  state_told = record { named = is.named; plan = is.plan; places = is.places; each = period_each; all = period_all }

-- ---- What rows give has those rows, and is a pairing that is planned

module _ (m : Periods) (n : Segments) (m_keyed : ArePeriodsKeyed m) (n_keyed : AreSegmentsKeyed n) (id : List ℕ) (r : PairingEntry) (told : IsPairingOfRows m n id r) where
  period_same : (place : ℕ) (fdp : Fdp) (actual : Option ActualTimes) (it : PeriodRecord) → fin.get m (period_name id (place + 1)) ≡ Some it → IsReadPeriod n id (place + 1) it fdp actual →
      row_of_period id place fdp actual ≡ period_row it
  period_same place fdp actual it e is =
      let known = period_names_same id it.pairing (place + 1) it.number (m_keyed (period_name id (place + 1)) it e) in
      let times = actual_columns it.act_report it.act_release actual is.flown in
      λ i. period_row (record { pairing = known.0 i; number = known.1 i; report_at = is.report i; release_at = is.release i; act_report = times.0 i; act_release = times.1 i })

  segment_same : (place : ℕ) (j : ℕ) (segment : Segment) (times : Option BlockTimes) (it : SegmentRecord) → fin.get n (segment_name id (place + 1) (j + 1)) ≡ Some it → IsSegment it segment times →
      row_of_segment id place j segment times ≡ segment_row it
  segment_same place j segment times it e is =
      let known = segment_names_same id it.pairing (place + 1) it.period (j + 1) it.number (n_keyed (segment_name id (place + 1) (j + 1)) it e) in
      let flown = block_columns it.act_out it.act_in times is.flown in
      let p = is.planned in
      λ i. segment_row (record {
        pairing = known.0 i;
        period = known.1 i;
        number = known.2 i;
        flight = (p i).flight;
        origin = (p i).from;
        destination = (p i).to;
        out_at = (p i).block_out;
        in_at = (p i).block_in;
        act_out = flown.0 i;
        act_in = flown.1 i;
      })

  pub its_period : (p : PeriodOf r) → PeriodRows m (row_of_period id p.place p.fdp p.actual)
  its_period p =
      let row = told.each p.place p.fdp p.actual p.planned p.flown in
      let name = m_keyed (period_name id (p.place + 1)) row.0 row.1 in
      (row.0, ap (fin.get m) (sym name) ∙ row.1, period_same p.place p.fdp p.actual row.0 row.1 row.2)

  pub its_segment : (p : PeriodOf r) (g : SegmentOf p.fdp) → SegmentRows n (row_of_segment id p.place g.place g.segment (times_flown p.actual g.place))
  its_segment p g =
      let period = told.each p.place p.fdp p.actual p.planned p.flown in
      let row = period.2.has_segments.each g.place g.segment g.planned in
      let name = n_keyed (segment_name id (p.place + 1) (g.place + 1)) row.0 row.1 in
      (row.0, ap (fin.get n) (sym name) ∙ row.1, segment_same p.place g.place g.segment (times_flown p.actual g.place) row.0 row.1 row.2)

  abbrev period_there : (i : ℕ) → i < length r.plan.periods → PeriodOf r
  period_there i below =
      let fdp = there_within r.plan.periods i below in
      let actual = there_within r.actuals i (let c = told.places in omega (arith, below, c)) in
      record { place = i; fdp = fdp.0; actual = actual.0; planned = fdp.1; flown = actual.1 }

  pub of_its_period : (it : PeriodRecord) → fin.get m (period_name id it.number) ≡ Some it → (p : PeriodOf r) × (p.place + 1 ≡ it.number) × (period_row it ≡ row_of_period id p.place p.fdp p.actual)
  of_its_period it e =
      let at = told.all it.number it e in
      let p = period_there at.0 at.2 in
      let row = told.each p.place p.fdp p.actual p.planned p.flown in
      let alike : row.0 ≡ it = one_value row.1 (ap (λ k. fin.get m (period_name id k)) (sym at.1) ∙ e) in
      (p, sym at.1, ap period_row (sym alike) ∙ sym (period_same p.place p.fdp p.actual row.0 row.1 row.2))

  pub of_its_segment : (p : PeriodOf r) (it : SegmentRecord) → fin.get n (segment_name id (p.place + 1) it.number) ≡ Some it →
      (g : SegmentOf p.fdp) × (segment_row it ≡ row_of_segment id p.place g.place g.segment (times_flown p.actual g.place))
  of_its_segment p it e =
      let period = told.each p.place p.fdp p.actual p.planned p.flown in
      let at = period.2.has_segments.all it.number it e in
      let there = there_within p.fdp.segments at.0 at.2 in
      let g : SegmentOf p.fdp = record { place = at.0; segment = there.0; planned = there.1 } in
      let row = period.2.has_segments.each g.place g.segment g.planned in
      let alike : row.0 ≡ it = one_value row.1 (ap (λ k. fin.get n (segment_name id (p.place + 1) k)) (sym at.1) ∙ e) in
      (g, ap segment_row (sym alike) ∙ sym (segment_same p.place g.place g.segment (times_flown p.actual g.place) row.0 row.1 row.2))

  flown_all : (place : ℕ) (fdp : Fdp) (a : ActualTimes) (it : PeriodRecord) → IsReadPeriod n id (place + 1) it fdp (Some a) → HasInstantTimes a
  flown_all place fdp a it is =
      let count = (is.whole a refl).1 in
      let both = actual_instants it.act_report it.act_release a is.flown in (
        both.0,
        both.1,
        all_from times_have_instants a.segments (λ j t e.
            let segment = there_within fdp.segments j (let k = slice_get_within a.segments j t e in omega (arith, k, count)) in
            let row = is.has_segments.each j segment.0 segment.1 in
            block_instants row.0.act_out row.0.act_in t (subst (λ u. AreTimes row.0.act_out row.0.act_in (option_map block_pair u)) e row.2.flown)),
      )

  pub told_planned : IsPlanned id r
  told_planned = record {
    named = told.named;
    plan = told.plan;
    planned = same_plan r.plan.periods (λ i fdp e. let p = period_there i (slice_get_within r.plan.periods i fdp e) in
        (told.each i fdp p.actual e p.flown).2.planned);
    instants = all_from period_has_instants r.plan.periods (λ i fdp e.
        let p = period_there i (slice_get_within r.plan.periods i fdp e) in
        let is = (told.each i fdp p.actual e p.flown).2 in
        and_from _ _ (and_from _ _ is.report_instant is.release_instant) (all_from segment_has_instants fdp.segments (λ j segment f. (is.has_segments.each j segment f).2.instants)));
    places = told.places;
    actuals = λ i a e.
        let fdp = there_within r.plan.periods i (let k = slice_get_within r.actuals i (Some a) e in let c = told.places in omega (arith, k, c)) in
        let row = told.each i fdp.0 (Some a) fdp.1 e in
        let w = row.2.whole a refl in
        (record { fdp = fdp.0; planned = fdp.1; number = w.0; count = w.1; in_order = w.2 }, flown_all i fdp.0 a row.0 row.2);
  }

-- ---- Rows give one pairing

module _ (n : Segments) (id : List ℕ) (number : ℕ) (fdp : Fdp) where
  times_in : (actual flight : Option ActualTimes) → HasSegments n id number fdp actual → HasSegments n id number fdp flight → (i : ℕ) → i < length fdp.segments → times_flown actual i ≡ times_flown flight i
  times_in actual flight has also i below =
      let segment = there_within fdp.segments i below in
      let row = has.each i segment.0 segment.1 in
      let other = also.each i segment.0 segment.1 in
      let alike : other.0 ≡ row.0 = one_value other.1 row.1 in
      let flown = subst (λ v. IsSegment v segment.0 (times_flown flight i)) alike other.2 in
      block_pairs_same (times_flown actual i) (times_flown flight i) (times_once row.0.act_out row.0.act_in _ _ row.2.flown flown.flown)

  actual_once : (it : PeriodRecord) (actual flight : Option ActualTimes) → IsReadPeriod n id number it fdp actual → IsReadPeriod n id number it fdp flight → actual ≡ flight
  actual_once it None None is also = refl
  actual_once it None (Some b) is also = absurd (let e = times_once it.act_report it.act_release None (Some (actual_pair b)) is.flown also.flown in cc)
  actual_once it (Some a) None is also = absurd (let e = times_once it.act_report it.act_release (Some (actual_pair a)) None is.flown also.flown in cc)
  actual_once it (Some a) (Some b) is also =
      let pair : actual_pair a ≡ actual_pair b = some_same (times_once it.act_report it.act_release (Some (actual_pair a)) (Some (actual_pair b)) is.flown also.flown) in
      let w = is.whole a refl in
      let v = also.whole b refl in
      let segments : a.segments ≡ b.segments = same_list a.segments b.segments
      (λ i t e. sym (times_in (Some a) (Some b) is.has_segments also.has_segments i (let k = slice_get_within a.segments i t e in let c = w.1 in omega (arith, k, c))) ∙ e)
      (λ i t e. times_in (Some a) (Some b) is.has_segments also.has_segments i (let k = slice_get_within b.segments i t e in let c = v.1 in omega (arith, k, c)) ∙ e) in
      let same : a ≡ b = λ i. record { period = (w.0 ∙ sym v.0) i; report = (pair i).0; release = (pair i).1; segments = segments i } in
      ap Some same

module _ (m : Periods) (n : Segments) (id : List ℕ) (r q : PairingEntry) (told : IsPairingOfRows m n id r) (also : IsPairingOfRows m n id q) where
  periods_once : r.plan.periods ≡ q.plan.periods
  periods_once = same_listed (λ k. fin.get m (period_name id k)) (Beside m n id r.actuals) (Beside m n id q.actuals) r.plan.periods q.plan.periods
      (beside m n id r.plan.periods r.actuals told.places told.each, told.all) (beside m n id q.plan.periods q.actuals also.places also.each, also.all) (beside_once m n id r.actuals q.actuals)

  actual_kept : (i : ℕ) (a : Option ActualTimes) → slice_get r.actuals i ≡ Some a → slice_get q.actuals i ≡ Some a
  actual_kept i a e =
      let fdp = there_within r.plan.periods i (let k = slice_get_within r.actuals i a e in let c = told.places in omega (arith, k, c)) in
      let its : slice_get q.plan.periods i ≡ Some fdp.0 = ap (λ l. slice_get l i) (sym periods_once) ∙ fdp.1 in
      let b = there_within q.actuals i (let k = slice_get_within q.plan.periods i fdp.0 its in let c = also.places in omega (arith, k, c)) in
      let row = told.each i fdp.0 a fdp.1 e in
      let other = also.each i fdp.0 b.0 its b.1 in
      let alike : other.0 ≡ row.0 = one_value other.1 row.1 in
      let same : a ≡ b.0 = actual_once n id (i + 1) fdp.0 row.0 a b.0 row.2 (subst (λ v. IsReadPeriod n id (i + 1) v fdp.0 b.0) alike other.2) in
      b.1 ∙ ap Some (sym same)

pub told_once : (m : Periods) (n : Segments) (id : List ℕ) (r q : PairingEntry) → IsPairingOfRows m n id r → IsPairingOfRows m n id q → (r.plan ≡ q.plan) × (r.actuals ≡ q.actuals)
told_once m n id r q told also = (
  λ i. record { id = (told.named ∙ sym also.named) i; periods = periods_once m n id r q told also i },
  same_list r.actuals q.actuals (actual_kept m n id r q told also) (actual_kept m n id q r also told),
)

-- ---- A state of which the rows give each pairing has just these rows

module _ (s : State) (m : Periods) (n : Segments) (m_keyed : ArePeriodsKeyed m) (n_keyed : AreSegmentsKeyed n)
    (told : (id : List ℕ) (r : PairingEntry) → fin.get s.pairings id ≡ Some r → IsPairingOfRows m n id r)
    (of_pairing : (it : PeriodRecord) → fin.get m (period_name it.pairing it.number) ≡ Some it → (r : PairingEntry) × (fin.get s.pairings it.pairing ≡ Some r))
    (of_period : (it : SegmentRecord) → fin.get n (segment_name it.pairing it.period it.number) ≡ Some it → (p : PeriodRecord) × (fin.get m (period_name it.pairing it.period) ≡ Some p)) where
  pub periods_are : (row : Row) → PeriodRows m row ↔ InPeriod s row
  periods_are row = (
    λ it.
        let r = of_pairing it.0 it.1 in
        let p = of_its_period m n m_keyed n_keyed it.0.pairing r.0 (told it.0.pairing r.0 r.1) it.0 it.1 in
        (record { name = it.0.pairing; value = r.0; there = r.1 }, p.0, it.2 ∙ p.2),
    λ is.
        let it = its_period m n m_keyed n_keyed is.0.name is.0.value (told is.0.name is.0.value is.0.there) is.1 in
        (it.0, it.1, is.2 ∙ it.2),
  )

  -- the pairing of a segment's period is there
  pairing_there : (it : SegmentRecord) (p : PeriodRecord) → fin.get m (period_name it.pairing it.period) ≡ Some p → (r : PairingEntry) × (fin.get s.pairings it.pairing ≡ Some r)
  pairing_there it p e =
      let name = m_keyed (period_name it.pairing it.period) p e in
      let r = of_pairing p (ap (fin.get m) (sym name) ∙ e) in
      (r.0, ap (fin.get s.pairings) (period_names_same it.pairing p.pairing it.period p.number name).0 ∙ r.1)

  segment_there : (it : SegmentRecord) → fin.get n (segment_name it.pairing it.period it.number) ≡ Some it → (p : PeriodRecord) → fin.get m (period_name it.pairing it.period) ≡ Some p →
      (r : PairingEntry) → fin.get s.pairings it.pairing ≡ Some r → InSegment s (segment_row it)
  segment_there it e p there r here =
      let is = told it.pairing r here in
      let same = (period_names_same it.pairing p.pairing it.period p.number (m_keyed (period_name it.pairing it.period) p there)).1 in
      let period = of_its_period m n m_keyed n_keyed it.pairing r is p (ap (λ k. fin.get m (period_name it.pairing k)) (sym same) ∙ there) in
      let number : period.0.place + 1 ≡ it.period = period.1 ∙ sym same in
      let segment = of_its_segment m n m_keyed n_keyed it.pairing r is period.0 it (ap (λ k. fin.get n (segment_name it.pairing k it.number)) number ∙ e) in
      (record { name = it.pairing; value = r; there = here }, period.0, segment.0, segment.1)

  pub segments_are : (row : Row) → SegmentRows n row ↔ InSegment s row
  segments_are row = (
    λ it.
        let p = of_period it.0 it.1 in
        let r = pairing_there it.0 p.0 p.1 in
        subst (InSegment s) (sym it.2) (segment_there it.0 it.1 p.0 p.1 r.0 r.1),
    λ is.
        let it = its_segment m n m_keyed n_keyed is.0.name is.0.value (told is.0.name is.0.value is.0.there) is.1 is.2 in
        (it.0, it.1, is.3 ∙ it.2),
  )
