-- An outside period, as its records give it: what is made of them, and what is refused rightly.
use Rattle.std.proofs.Common.{◌≡◌, ◌⊎◌, inl, inr, refl, sym, ap, ap₂, subst, ◌∙◌, arith, ℕ, zero, suc, ◌+◌, ◌<◌, ◌≤◌, Bool, true, false, nat_eq, ◌&&◌, List, [], ◌∷◌, ◌++◌, length, map, Option, Some, None, slice_get, length-append, Ok, Err}
use Rattle.std.specs.List.{list_all}
use Rattle.std.proofs.lemmas.Bool.{and_parts, leb-true}
use Rattle.std.proofs.lemmas.Bool.Decides.{leb_tells, nat_tests}
use Rattle.std.proofs.lemmas.Option.{slice_get_within, slice_get_cases}
use Rattle.sqlite_value.specs.Order.{Row, column}
use Rattle.sqlite_rules.specs.Lists.{Has}
use Rattle.duty.specs.Pairings.{outside_fault, is_segment_count, is_in_order}
use Rattle.duty.specs.Plans.{OutsidePlan}
use Rattle.duty.specs.Shape.{is_id, is_within}
use Rattle.duty.specs.Words.{checked, first_fault, unless}
use Rattle.duty.specs.declared.fault.DutyFault.{DutyFault}
use Rattle.duty.specs.declared.fault.DutyFault.TheVariants.{BadTimes, BadField, SegmentCount}
use Rattle.duty.specs.declared.fault.Field.TheVariants as field
use Rattle.duty.specs.declared.segment.BlockTimes.{BlockTimes}
use Rattle.roster.specs.declared.state.OutsideEntry.{OutsideEntry}
use Rattle.stored_json.specs.Instants.{is_instant, times_have_instants}
use Rattle.tables.specs.Records.{outside_segment_row}
use Rattle.tables.specs.declared.outside.OutsideRecord.{OutsideRecord}
use Rattle.tables.specs.declared.outside_segment.OutsideSegmentRecord.{OutsideSegmentRecord}
use Rattle.state_rows.specs.Rows.{OutsideSegmentOf, row_of_outside_segment}
use Rattle.state_rows.proofs.Lists.{one_value, same_list, some_same}
use Rattle.state_rows.proofs.Values.{number_is, text_is}
use Rattle.entries.proofs.Mapping.{mapped_at}
use Rattle.entries.specs.OneOutside.{AreAllOf, AreTimesInTurn, HasBadTimes, HasNoSegmentOf, HasNumber, HasTimesAt, IsOutsideToldBy, IsSegmentAmong, GiveNoOutside, times_in}

-- ---- Lists

no_first : (fault : Option DutyFault) (rest : List (Option DutyFault)) → first_fault (fault ∷ rest) ≡ None → (fault ≡ None) × (first_fault rest ≡ None)
no_first None rest e = (refl, e)
no_first (Some fault) rest e = absurd (cc)

passes : (b : Bool) (fault : DutyFault) → unless b fault ≡ None → b ≡ true
passes true fault e = refl
passes false fault e = absurd (cc)

up_to : (low high n : ℕ) → is_within low high n ≡ true → n ≤ high
up_to low high n e = leb-true n high (and_parts _ _ e).1

-- the id of an outside period has its shape
pub has_id : (o : OutsidePlan) → outside_fault o ≡ None → is_id o.id ≡ true
unfolding outside_fault
has_id o e =
    passes (is_id o.id) (BadField field.Outside)
    (no_first (unless (is_id o.id) (BadField field.Outside)) (unless (is_segment_count (length o.segments)) (SegmentCount 0) ∷ unless (is_in_order o.report o.release o.segments) (BadTimes 0) ∷ []) e).0

-- an outside period has at most twelve segments
pub few_segments : (o : OutsidePlan) → outside_fault o ≡ None → length o.segments ≤ 12
unfolding outside_fault
few_segments o e =
    let shaped = (no_first (unless (is_id o.id) (BadField field.Outside)) (unless (is_segment_count (length o.segments)) (SegmentCount 0) ∷ unless (is_in_order o.report o.release o.segments) (BadTimes 0) ∷ []) e).1 in
    up_to 1 12 (length o.segments) (passes _ _ (no_first (unless (is_segment_count (length o.segments)) (SegmentCount 0)) (unless (is_in_order o.report o.release o.segments) (BadTimes 0) ∷ []) shaped).0)

pub all_at : {A : Type 0} (test : A → Bool) (xs : List A) (i : ℕ) (x : A) → list_all test xs ≡ true → slice_get xs i ≡ Some x → test x ≡ true
all_at test [] i x all e = absurd (cc)
all_at test (y ∷ ys) zero x all e = ap test (some_same (sym e)) ∙ (and_parts (test y) (list_all test ys) all).0
all_at test (y ∷ ys) (suc i) x all e = all_at test ys i x (and_parts (test y) (list_all test ys) all).1 e

pub all_more : {A : Type 0} (test : A → Bool) (xs : List A) (x : A) → list_all test xs ≡ true → test x ≡ true → list_all test (xs ++ x ∷ []) ≡ true
all_more test [] x all one = ap (λ b. b && true) one
all_more test (y ∷ ys) x all one =
    let parts = and_parts (test y) (list_all test ys) all in
    ap₂ (λ a b. a && b) parts.0 (all_more test ys x parts.1 one)

last_or_before : {A : Type 0} (xs : List A) (x : A) (i : ℕ) (a : A) → slice_get (xs ++ x ∷ []) i ≡ Some a → (slice_get xs i ≡ Some a) ⊎ ((i ≡ length xs) × (x ≡ a))
last_or_before [] x zero a e = inr (refl, some_same e)
last_or_before [] x (suc i) a e = absurd (cc)
last_or_before (y ∷ xs) x zero a e = inl e
last_or_before (y ∷ xs) x (suc i) a e = elim (last_or_before xs x i a e) [ inl h ↦ inl h | inr h ↦ inr ((let n = h.0 in omega (arith, n)), h.1) ]

there_within : {A : Type 0} (xs : List A) (i : ℕ) → i < length xs → (a : A) × (slice_get xs i ≡ Some a)
there_within xs i below = elim (slice_get_cases xs i).1 [
  | inl p ↦ (p.0, p.2)
  | inr p ↦ absurd (omega (arith, below, p.0))
]

-- a row of some records is that of one of them
pub record_of : {R : Type 0} (row_of : R → Row) (records : List R) (row : Row) → Has (map row_of records) row → (i : ℕ) × (it : R) × (slice_get records i ≡ Some it) × (row ≡ row_of it)
record_of row_of [] row h = absurd h
record_of row_of (x ∷ xs) row (inl same) = (0, x, refl, same)
record_of row_of (x ∷ xs) row (inr later) = let it = record_of row_of xs row later in (suc it.0, it.1, it.2, it.3)

made_of : {A : Type 0} (fault : Option DutyFault) (x y : A) → checked fault x ≡ Ok y → (fault ≡ None) × (x ≡ y)
made_of None x y e = (refl, cc)
made_of (Some fault) x y e = absurd (cc)

refused_of : {A : Type 0} (fault : Option DutyFault) (x : A) (why : DutyFault) → checked fault x ≡ Err why → fault ≡ None → ⊥
refused_of None x why e none = absurd (cc)
refused_of (Some fault) x why e none = absurd (cc)

-- ---- Times in turn

pub nothing_yet : (segments : List OutsideSegmentRecord) (i : ℕ) (times : BlockTimes) → slice_get [] i ≡ Some times → HasTimesAt segments i times
nothing_yet segments i times e = absurd (cc)

pub one_more : (segments : List OutsideSegmentRecord) (all : List BlockTimes) (it : OutsideSegmentRecord) (times : BlockTimes) (place : ℕ) → length all ≡ place →
    ((i : ℕ) (t : BlockTimes) → slice_get all i ≡ Some t → HasTimesAt segments i t) → HasNumber segments (place + 1) it → times ≡ times_in it →
    (i : ℕ) (t : BlockTimes) → slice_get (all ++ times ∷ []) i ≡ Some t → HasTimesAt segments i t
one_more segments all it times place count before has is i t e = elim (last_or_before all times i t e) [
  | inl was ↦ before i t was
  | inr now ↦ (it, subst (λ n. HasNumber segments (n + 1) it) (sym count ∙ sym now.0) has, sym now.1 ∙ is)
]

-- the times so far, and those of one more record
pub turn_more : (segments : List OutsideSegmentRecord) (all xs : List BlockTimes) (it : OutsideSegmentRecord) (times : BlockTimes) (place : ℕ) → length all ≡ place →
    ((i : ℕ) (t : BlockTimes) → slice_get all i ≡ Some t → HasTimesAt segments i t) → list_all times_have_instants all ≡ true →
    HasNumber segments (place + 1) it → times ≡ times_in it → times_have_instants times ≡ true → xs ≡ all ++ times ∷ [] →
    (length xs ≡ place + 1) × ((i : ℕ) (t : BlockTimes) → slice_get xs i ≡ Some t → HasTimesAt segments i t) × (list_all times_have_instants xs ≡ true)
turn_more segments all xs it times place count each instants has is instant more = (
  ap length more ∙ length-append all (times ∷ []) ∙ (let n = count in omega (arith, n)),
  λ i t e. one_more segments all it times place count each has is i t (ap (λ l. slice_get l i) (sym more) ∙ e),
  ap (list_all times_have_instants) more ∙ all_more times_have_instants all times instants instant,
)

pub too_many : (segments : List OutsideSegmentRecord) (all : List BlockTimes) (place : ℕ) → length all ≡ place → 13 ≤ place →
    ((i : ℕ) (t : BlockTimes) → slice_get all i ≡ Some t → HasTimesAt segments i t) → HasBadTimes segments
too_many segments all place count past each =
    let last = there_within all 12 (omega (arith, count, past)) in
    let at = each 12 last.0 last.1 in
    record { number = 13; it = at.0; has = at.1; bad = inl (omega arith) }

-- ---- One record among those of the segments

pub equal_numbers : (m n : ℕ) → nat_eq m n ≡ true → m ≡ n
equal_numbers m n e = grind (arith, nat_tests)

pub numbers_equal : (m n : ℕ) → m ≡ n → nat_eq m n ≡ true
numbers_equal m n e = grind (arith, nat_tests)

pub not_both : {P : Type 0} (b : Bool) → b ≡ true → b ≡ false → P
not_both b is not = absurd (let no : true ≡ false = sym is ∙ not in cc)

pub among : (id : List ℕ) (all : List BlockTimes) (row : OutsideSegmentRecord) (place : ℕ) (times : BlockTimes) → row.outside ≡ id → row.number ≡ place + 1 → slice_get all place ≡ Some times →
    row.out_at ≡ times.block_out → row.in_at ≡ times.block_in → IsSegmentAmong id all row
among id all row place times outside number there out_at in_at = record {
  place = place;
  times = times;
  there = there;
  is = λ i. record { outside = outside i; number = number i; out_at = out_at i; in_at = in_at i };
}

none_some : {A : Type 0} {x : A} → None ≡ Some x → ⊥
none_some e = cc

-- no record is of a segment beyond them
pub none_at : (id : List ℕ) (all : List BlockTimes) (row : OutsideSegmentRecord) (place : ℕ) → row.number ≡ place + 1 → slice_get all place ≡ None → IsSegmentAmong id all row → ⊥
none_at id all row place number there is =
    let its : row.number ≡ is.place + 1 = ap (λ (r : OutsideSegmentRecord). r.number) is.is in
    let same : place ≡ is.place = omega (arith, number, its) in
    none_some (sym there ∙ ap (slice_get all) same ∙ is.there)

-- which it is, by its number
pub among_at : (id : List ℕ) (all : List BlockTimes) (row : OutsideSegmentRecord) (place : ℕ) (times : BlockTimes) → row.number ≡ place + 1 → slice_get all place ≡ Some times → IsSegmentAmong id all row →
    (row.out_at ≡ times.block_out) × (row.in_at ≡ times.block_in)
among_at id all row place times number there is =
    let its : row.number ≡ is.place + 1 = ap (λ (r : OutsideSegmentRecord). r.number) is.is in
    let same : place ≡ is.place = omega (arith, number, its) in
    let one : is.times ≡ times = one_value (ap (slice_get all) same ∙ is.there) there in
    (ap (λ (r : OutsideSegmentRecord). r.out_at) is.is ∙ ap (λ (t : BlockTimes). t.block_out) one, ap (λ (r : OutsideSegmentRecord). r.in_at) is.is ∙ ap (λ (t : BlockTimes). t.block_in) one)

-- ---- What the records give

-- the record of a segment of an outside period, at its place
abbrev record_at : List ℕ → ℕ → BlockTimes → OutsideSegmentRecord
record_at id place times = record { outside = id; number = place + 1; out_at = times.block_out; in_at = times.block_in }

record_is : (it : OutsideSegmentRecord) (id : List ℕ) (place : ℕ) (times : BlockTimes) → outside_segment_row it ≡ row_of_outside_segment id place times → it ≡ record_at id place times
record_is it id place times e =
    let at_column = λ (k : ℕ). ap (λ (r : Row). column r k) e in
    let outside : it.outside ≡ id = text_is (at_column 0) in
    let number : it.number ≡ place + 1 = number_is (at_column 1) in
    let out_at : it.out_at ≡ times.block_out = number_is (at_column 2) in
    let in_at : it.in_at ≡ times.block_in = number_is (at_column 3) in
    λ i. record { outside = outside i; number = number i; out_at = out_at i; in_at = in_at i }

module _ (it : OutsideRecord) (segments : List OutsideSegmentRecord) (o : OutsideEntry) (told : IsOutsideToldBy it segments o) where
  -- each record is that of a segment
  of_segment : (i : ℕ) (row : OutsideSegmentRecord) → slice_get segments i ≡ Some row → (g : OutsideSegmentOf o.period) × (row ≡ record_at it.id g.place g.times)
  of_segment i row here =
      let is = (told.rows (outside_segment_row row)).0 (mapped_at outside_segment_row segments i row here) in
      (is.0, record_is row it.id is.0.place is.0.times is.1)

  times_are : (row : OutsideSegmentRecord) (g : OutsideSegmentOf o.period) → row ≡ record_at it.id g.place g.times → times_in row ≡ g.times
  times_are row g is = λ i. record { block_out = (is i).out_at; block_in = (is i).in_at }

  module _ (all : List BlockTimes) (turn : AreTimesInTurn segments all) where
    kept : (i : ℕ) (t : BlockTimes) → slice_get all i ≡ Some t → slice_get o.period.segments i ≡ Some t
    kept i t e =
        let at = turn.each i t e in
        let g = of_segment at.1.place at.0 at.1.here in
        let number : g.0.place + 1 ≡ i + 1 = ap (λ (r : OutsideSegmentRecord). r.number) (sym g.1) ∙ at.1.numbered in
        let place : i ≡ g.0.place = omega (arith, number) in
        ap (slice_get o.period.segments) place ∙ g.0.flown ∙ ap Some (sym (times_are at.0 g.0 g.1) ∙ sym at.2)

    none_past : (i : ℕ) (t : BlockTimes) → length all ≤ i → slice_get o.period.segments i ≡ Some t → ⊥
    none_past i t past e =
        let within = slice_get_within o.period.segments i t e in
        let next = there_within o.period.segments (length all) (omega (arith, past, within)) in
        let g : OutsideSegmentOf o.period = record { place = length all; times = next.0; flown = next.1 } in
        let row = row_of_outside_segment it.id g.place g.times in
        let at = record_of outside_segment_row segments row ((told.rows row).1 (g, refl)) in
        let is = record_is at.1 it.id g.place g.times (sym at.3) in
        turn.none_after at.1 (record { place = at.0; here = at.2; numbered = ap (λ (r : OutsideSegmentRecord). r.number) is })

    pub all_are : all ≡ o.period.segments
    all_are = same_list all o.period.segments kept (λ i t e.
        elim (leb_tells (length all) i) [
          | inl past ↦ absurd (none_past i t past.1 e)
          | inr below ↦
              let here = there_within all i below.1 in
              here.1 ∙ ap Some (one_value (kept i here.0 here.1) e)
        ])

-- ---- What is refused

module _ (it : OutsideRecord) (segments : List OutsideSegmentRecord) where
  pub no_report : is_instant it.report_at ≡ false → GiveNoOutside it segments
  no_report none o told = let no : true ≡ false = sym told.report_instant ∙ none in cc

  pub no_release : is_instant it.release_at ≡ false → GiveNoOutside it segments
  no_release none o told = let no : true ≡ false = sym told.release_instant ∙ none in cc

  pub bad_times : HasBadTimes segments → GiveNoOutside it segments
  bad_times bad o told =
      let g = of_segment it segments o told bad.has.place bad.it bad.has.here in
      elim bad.bad [
        | inl high ↦
            let number : g.0.place + 1 ≡ bad.number = ap (λ (r : OutsideSegmentRecord). r.number) (sym g.1) ∙ bad.has.numbered in
            let within = slice_get_within o.period.segments g.0.place g.0.times g.0.flown in
            let few = few_segments o.period told.made in
            omega (arith, high, number, within, few)
        | inr none ↦
            let some = all_at times_have_instants o.period.segments g.0.place g.0.times told.instants g.0.flown in
            let no : true ≡ false = sym some ∙ ap times_have_instants (sym (times_are it segments o told bad.it g.0 g.1)) ∙ none in
            cc
      ]

  module _ (all : List BlockTimes) (turn : AreTimesInTurn segments all) where
    pub no_segment : HasNoSegmentOf it.id all segments → GiveNoOutside it segments
    no_segment bad o told =
        let g = of_segment it segments o told bad.place bad.it bad.here in
        bad.none (record { place = g.0.place; times = g.0.times; there = ap (λ l. slice_get l g.0.place) (all_are it segments o told all turn) ∙ g.0.flown; is = g.1 })

    abbrev pub drafted : OutsidePlan
    drafted = record { id = it.id; report = it.report_at; release = it.release_at; segments = all }

    pub not_made : (fault : DutyFault) → checked (outside_fault drafted) drafted ≡ Err fault → GiveNoOutside it segments
    not_made fault err o told =
        let segments_are = all_are it segments o told all turn in
        let same : drafted ≡ o.period = λ i. record { id = sym told.named i; report = sym told.report i; release = sym told.release i; segments = segments_are i } in
        refused_of (outside_fault drafted) drafted fault err (ap outside_fault same ∙ told.made)

    -- ---- What is made

    pub is_told : AreAllOf it.id all segments → (o : OutsideEntry) → o.crew ≡ it.crew → is_instant it.report_at ≡ true → is_instant it.release_at ≡ true →
        checked (outside_fault drafted) drafted ≡ Ok o.period → IsOutsideToldBy it segments o
    is_told among o crew report release ok =
        let made = made_of (outside_fault drafted) drafted o.period ok in
        let same : drafted ≡ o.period = made.1 in
        record {
          crew = crew;
          named = ap (λ (x : OutsidePlan). x.id) (sym same);
          report = ap (λ (x : OutsidePlan). x.report) (sym same);
          release = ap (λ (x : OutsidePlan). x.release) (sym same);
          report_instant = report;
          release_instant = release;
          instants = ap (λ (x : OutsidePlan). list_all times_have_instants x.segments) (sym same) ∙ turn.instants;
          made = ap outside_fault (sym same) ∙ made.0;
          rows = λ row. (
            λ h.
                let at = record_of outside_segment_row segments row h in
                let is = among at.0 at.1 at.2 in (
                  record { place = is.place; times = is.times; flown = ap (λ (x : OutsidePlan). slice_get x.segments is.place) (sym same) ∙ is.there },
                  at.3 ∙ ap outside_segment_row is.is,
                ),
            λ g.
                let there : slice_get all g.0.place ≡ Some g.0.times = ap (λ (x : OutsidePlan). slice_get x.segments g.0.place) same ∙ g.0.flown in
                let at = turn.each g.0.place g.0.times there in
                let is = among at.1.place at.0 at.1.here in
                let number : is.place + 1 ≡ g.0.place + 1 = ap (λ (r : OutsideSegmentRecord). r.number) (sym is.is) ∙ at.1.numbered in
                let place : is.place ≡ g.0.place = omega (arith, number) in
                let times : is.times ≡ g.0.times = one_value (ap (slice_get all) (sym place) ∙ is.there) there in
                let row_is : outside_segment_row at.0 ≡ row = ap outside_segment_row is.is ∙ (λ i. row_of_outside_segment it.id (place i) (times i)) ∙ sym g.1 in
                subst (Has (map outside_segment_row segments)) row_is (mapped_at outside_segment_row segments at.1.place at.0 at.1.here),
          );
        }
