-- A text is a schedule, or has a record at fault: each test of a schedule is passed, or finds the record at fault.
use Rattle.std.proofs.Common.{◌≡◌, ◌∙◌, ◌⊎◌, ◌<◌, ◌≤◌, ◌+◌, ◌==◌, inl, inr, refl, sym, ap, ap₂, subst, ℕ, zero, suc, Bool, true, false, not, nat_lt, List, [], ◌∷◌, ◌++◌, map, length, Option, Some, None, is_some, arith, append_assoc, lt-ltb, ltb-true}
use Rattle.std.specs.Prelude.{⊤}
use Rattle.std.specs.List.{list_all, position_from, AllByRecursion}
use Rattle.std.specs.Str.{bytes_eq}
use Rattle.std.proofs.lemmas.Bool.{and_from, and_parts, both_ways, cases_Bool, cases_lt}
use Rattle.std.proofs.lemmas.Bool.Decides.{Decides-eqb}
use Rattle.std.proofs.lemmas.Option.{none-some, same_Some}
use Rattle.std.proofs.lemmas.Slice.Eq.{bytes_eq-Decides}
use Rattle.csv.specs.Machine.{Read, ends_at_end, field_after, fields_after, is_end, next_record, step}
use Rattle.csv.specs.Reading.{AreRecords, Reached, default_config, strip_bom}
use Rattle.csv.specs.declared.parser.Config.{Config}
use Rattle.csv.specs.declared.parser.State.{State}
use Rattle.csv.specs.declared.parser.State.TheVariants.{StartRecord}
use Rattle.duty.specs.Plans.{Plan, as_planned}
use Rattle.duty.specs.Words.{each_next}
use Rattle.duty.specs.declared.fdp.Fdp.{Fdp}
use Rattle.duty.specs.declared.segment.Segment.{Segment}
use Rattle.codec.specs.Bounds.{most_bytes}
use Rattle.codec.specs.Laws.{IsScheduleOrAtFault}
use Rattle.codec.specs.Places.{goes_on, is_same_or_next, may_begin, may_stand, standing}
use Rattle.codec.specs.Records.{is_header, read_record}
use Rattle.codec.specs.Schedule.{AreOf, HasRecords, IsAsPlanned, IsAtFault, IsHeaderWithSegments, IsSchedule, IsScheduleText, IsFaultyPlanAt, IsUnreadRecord, differ, is_faultless_plan, period_segments, periods_segments, schedule_segments, shows}
use Rattle.codec.specs.declared.scheduled.SegmentPlace.{SegmentPlace}
use Rattle.codec.specs.declared.scheduled.ScheduledSegment.{ScheduledSegment}
use Rattle.codec.proofs.OneList.{has_segment, in_place, place_of}

-- ---- The records of a text

module _ (config : Config) where
  -- what is read of a text leaves fewer bytes; of no bytes it is a last record
  fewer : (text : List ℕ) (s : State) (fields : List (List ℕ)) (field : List ℕ) (read : Read) →
      next_record config s fields field text ≡ Some read → (length text ≡ 0 → read.1 ≡ StartRecord) × (length read.2 ≤ length text) × (0 < length text → length read.2 < length text)
  unfolding next_record
  fewer [] s fields field read e = elim (cases_Bool (ends_at_end s)) [
    | inr goes ↦ absurd (none-some read (rw goes at e))
    | inl ends ↦
        let same = same_Some _ read (rw ends at e) in
        let none : length read.2 ≡ 0 = ap (λ (r : Read). length r.2) (sym same) in
        (λ _. ap (λ (r : Read). r.1) (sym same), omega (arith, none), λ some. omega (arith, some))
  ]
  fewer (c ∷ text) s fields field read e = elim (cases_Bool (is_end (step config s c).1)) [
    | inl ends ↦
        let same = same_Some _ read (rw ends at e) in
        let rest : length read.2 ≡ length text = ap (λ (r : Read). length r.2) (sym same) in
        (λ none. absurd (omega (arith, none)), omega (arith, rest), λ some. omega (arith, rest))
    | inr goes ↦
        let later = fewer text (step config s c).0 (fields_after (step config s c).1 fields field) (field_after (step config s c).1 c field) read (rw goes at e) in
        let less = later.1 in
        (λ none. absurd (omega (arith, none)), omega (arith, less), λ some. omega (arith, less))
  ]

  reads_nothing : next_record config StartRecord [] [] [] ≡ None
  unfolding next_record
  reads_nothing = refl

  reached_first : (s : State) (text : List ℕ) (read : Read) (rows : List (List (List ℕ))) (left : State) (rest : List ℕ) →
      next_record config s [] [] text ≡ Some read → Reached config read.1 read.2 rows left rest → Reached config s text (read.0 ∷ rows) left rest
  unfolding Reached
  reached_first s text read rows left rest e more = (read, e, refl, more)

  reached_none : (s : State) (text : List ℕ) → Reached config s text [] s text
  unfolding Reached
  reached_none s text = (refl, refl)

  abbrev HasRows : State → List ℕ → Type 0
  HasRows s text = (rows : List (List (List ℕ))) × AreRecords config s text rows

  rows_before : (s : State) (text : List ℕ) (read : Read) → next_record config s [] [] text ≡ Some read → HasRows read.1 read.2 → HasRows s text
  rows_before s text read e (rows, (left, rest, reached, end)) = (read.0 ∷ rows, (left, rest, reached_first s text read rows left rest e reached, end))

  no_rows : (s : State) (text : List ℕ) → next_record config s [] [] text ≡ None → HasRows s text
  no_rows s text e = ([], (s, text, reached_none s text, e))

  rows_of_nothing : (s : State) (read : Option Read) → next_record config s [] [] [] ≡ read → HasRows s []
  rows_of_nothing s None e = no_rows s [] e
  rows_of_nothing s (Some read) e =
      let less = fewer [] s [] [] read e in
      let nothing : read.2 ≡ [] = no_bytes read.2 less.1 in
      rows_before s [] read e (no_rows read.1 read.2 ((λ i. next_record config (less.0 refl i) [] [] (nothing i)) ∙ reads_nothing))
    where
      no_bytes : (t : List ℕ) → length t ≤ 0 → t ≡ []
      no_bytes [] few = refl
      no_bytes (b ∷ t) few = absurd (omega (arith, few))

  rows_within : (most : ℕ) (s : State) (text : List ℕ) → length text < most → HasRows s text
  rows_within zero s text few = absurd (omega (arith, few))
  rows_within (suc most) s [] few = rows_of_nothing s (next_record config s [] [] []) refl
  rows_within (suc most) s (b ∷ text) few = by (rows_within most) (next_record config s [] [] (b ∷ text)) refl
    where
      by : ((at : State) (rest : List ℕ) → length rest < most → HasRows at rest) → (read : Option Read) → next_record config s [] [] (b ∷ text) ≡ read → HasRows s (b ∷ text)
      by later None e = no_rows s (b ∷ text) e
      by later (Some read) e =
          let less = (fewer (b ∷ text) s [] [] read e).2 (omega arith) in
          rows_before s (b ∷ text) read e (later read.1 read.2 (omega (arith, few, less)))

has_records : (text : List ℕ) → (records : List (List (List ℕ))) × HasRecords text records
has_records text = rows_within default_config (suc (length (strip_bom text))) StartRecord (strip_bom text) (omega arith)

-- ---- The segments of the records

-- each is read, or the first that isn't has a number
all_or_first : {X Y : Type 0} (reads : X → Option Y) (n : ℕ) (xs : List X) →
    ((ys : List Y) × (map reads xs ≡ map Some ys)) ⊎ ((k : ℕ) × (position_from (λ x. not (is_some (reads x))) n xs ≡ Some k))
all_or_first reads n [] = inl ([], refl)
all_or_first {X} {Y} reads n (x ∷ xs) = by (all_or_first reads (n + 1) xs) (reads x) refl
  where
    by : ((ys : List Y) × (map reads xs ≡ map Some ys)) ⊎ ((k : ℕ) × (position_from (λ x. not (is_some (reads x))) (n + 1) xs ≡ Some k)) →
        (read : Option Y) → reads x ≡ read → ((ys : List Y) × (map reads (x ∷ xs) ≡ map Some ys)) ⊎ ((k : ℕ) × (position_from (λ x. not (is_some (reads x))) n (x ∷ xs) ≡ Some k))
    by later None e = inr (n, rw e refl)
    by later (Some y) e = elim later [
      | inl (ys, are) ↦ inl (y ∷ ys, ap₂ (λ z zs. z ∷ zs) e are)
      | inr (k, is) ↦ inr (k, rw e is)
    ]

-- the records of a text are the header and segments, or one isn't read
segments_or_unread : (text : List ℕ) → IsScheduleText text → (records : List (List (List ℕ))) → HasRecords text records →
    ((segments : List ScheduledSegment) × IsHeaderWithSegments text segments) ⊎ ((n : ℕ) × IsUnreadRecord text n)
segments_or_unread text is [] are = inr (1, inr (inr (is, [], are, refl)))
segments_or_unread text is (names ∷ records) are = elim (cases_Bool (is_header names)) [
  | inr other ↦ inr (1, inr (inr (is, names ∷ records, are, rw other refl)))
  | inl header ↦ elim (all_or_first read_record 2 records) [
    | inl (segments, read) ↦ inl (segments, (is, records, names, are, header, read))
    | inr (n, unread) ↦ inr (n, inr (inr (is, names ∷ records, are, rw header unread)))
  ]
]

text_or_unread : (text : List ℕ) → IsScheduleText text ⊎ ((n : ℕ) × IsUnreadRecord text n)
text_or_unread text = elim (cases_lt most_bytes (length text)) [
  | inl long ↦ inr (0, inl (long, refl))
  | inr short ↦ elim (cases_Bool (bytes_eq (strip_bom (strip_bom text)) (strip_bom text))) [
    | inl one ↦ inl (short, (bytes_eq-Decides (strip_bom (strip_bom text)) (strip_bom text)).0 one)
    | inr two ↦ inr (1, inr (inl (short, (λ same. both_ways _ two ((bytes_eq-Decides (strip_bom (strip_bom text)) (strip_bom text)).1 same)), refl)))
  ]
]

-- ---- The pairings of segments that stand where they may

-- none of these pairings, or the first has another id
abbrev BeginsElsewhere : List ℕ → List Plan → Type 0
BeginsElsewhere id [] = ⊤
BeginsElsewhere id (p ∷ ps) = bytes_eq id p.id ≡ false

-- pairings that are as they are planned, and show, each beside another, and at most this many
record AreGroups (begun : ℕ) (plans : List Plan) : Type 0 where
  shown : list_all shows plans ≡ true
  planned : AllByRecursion IsAsPlanned plans
  apart : each_next differ plans ≡ true
  few : begun + length plans ≤ 10_000

-- what stands behind a place, grouped: segments of its period, later periods of its pairing, and then other pairings
record IsGrouped (begun : ℕ) (before : SegmentPlace) (segments : List ScheduledSegment) : Type 0 where
  here : List Segment
  later : List Fdp
  plans : List Plan
  is : segments ≡ map (in_place before) here ++ (periods_segments before.pairing (before.period + 1) later ++ schedule_segments plans)
  with_segments : list_all has_segment later ≡ true
  later_planned : map as_planned later ≡ later
  groups : AreGroups begun plans
  elsewhere : BeginsElsewhere before.pairing plans

abbrev Stand : ℕ → Option SegmentPlace → List ScheduledSegment → Type 0
Stand begun before segments = list_all may_stand (standing begun before segments) ≡ true

-- a period that begins with this segment
abbrev period_from : SegmentPlace → Segment → List Segment → Fdp
period_from place segment more = record { planned_report = place.report; report = place.report; release = place.release; segments = segment ∷ more }

-- a place is known by its four parts
same_place : (a b : SegmentPlace) → a.pairing ≡ b.pairing → a.period ≡ b.period → a.report ≡ b.report → a.release ≡ b.release → a ≡ b
same_place a b pairing period report release = λ i. record { pairing = pairing i; period = period i; report = report i; release = release i }

not_empty : {X : Type 0} (x : X) (xs : List X) → nat_lt 0 (length (x ∷ xs)) ≡ true
not_empty x xs = lt-ltb 0 (length (x ∷ xs)) (omega arith)

-- pairings that begin with another one
groups_apart : (p : Plan) (ps : List Plan) → BeginsElsewhere p.id ps → each_next differ ps ≡ true → each_next differ (p ∷ ps) ≡ true
groups_apart p [] away apart = refl
groups_apart p (q ∷ qs) away apart = rw away apart

-- a pairing that begins with this segment, and those that follow it
record IsBegunBy (begun : ℕ) (s : ScheduledSegment) (rest : List ScheduledSegment) : Type 0 where
  first : Plan
  others : List Plan
  is : s ∷ rest ≡ schedule_segments (first ∷ others)
  groups : AreGroups begun (first ∷ others)
  named : first.id ≡ s.place.pairing

-- of what is grouped behind its first segment
begun_here : (begun : ℕ) (s : ScheduledSegment) (rest : List ScheduledSegment) → s.place.period ≡ 1 → begun < 10_000 → IsGrouped (begun + 1) s.place rest → IsBegunBy begun s rest
begun_here begun s rest first room g =
    let f = period_from s.place s.segment g.here in
    let p : Plan = record { id = s.place.pairing; periods = f ∷ g.later } in
    let few = g.groups.few in
    let at : s.place ≡ place_of s.place.pairing 1 f = same_place s.place (place_of s.place.pairing 1 f) refl first refl refl in
    let two : s.place.period + 1 ≡ 2 = omega (arith, first) in
    let whole : s ∷ rest ≡ period_segments s.place.pairing 1 f ++ (periods_segments s.place.pairing 2 g.later ++ schedule_segments g.plans) =
    ap (λ t. s ∷ t) g.is ∙ (λ i. in_place (at i) s.segment ∷ (map (in_place (at i)) g.here ++ (periods_segments s.place.pairing (two i) g.later ++ schedule_segments g.plans))) in
    record {
      first = p;
      others = g.plans;
      is = whole ∙ sym (append_assoc (period_segments s.place.pairing 1 f) (periods_segments s.place.pairing 2 g.later) (schedule_segments g.plans));
      groups = record {
        shown = and_from (shows p) (list_all shows g.plans) (and_from _ _ (not_empty f g.later) (and_from _ _ (not_empty s.segment g.here) g.with_segments)) g.groups.shown;
        planned = (ap (λ fs. f ∷ fs) g.later_planned, g.groups.planned);
        apart = groups_apart p g.plans g.elsewhere g.groups.apart;
        few = omega (arith, few);
      };
      named = refl;
    }

-- behind a place of another pairing
begun_behind : (begun : ℕ) (before : SegmentPlace) (s : ScheduledSegment) (rest : List ScheduledSegment) → goes_on (Some before) s.place ≡ false → IsBegunBy begun s rest → IsGrouped begun before (s ∷ rest)
begun_behind begun before s rest away b = record {
  here = [];
  later = [];
  plans = b.first ∷ b.others;
  is = b.is;
  with_segments = refl;
  later_planned = refl;
  groups = b.groups;
  elsewhere = subst (λ id. bytes_eq before.pairing id ≡ false) (sym b.named) away;
}

none_grouped : (begun : ℕ) → begun ≤ 10_000 → AreGroups begun []
none_grouped begun room = record { shown = refl; planned = tt; apart = refl; few = omega (arith, room) }

grouped : (begun : ℕ) (before : SegmentPlace) (segments : List ScheduledSegment) → begun ≤ 10_000 → Stand begun (Some before) segments → IsGrouped begun before segments
grouped begun before [] room stand = record {
  here = [];
  later = [];
  plans = [];
  is = refl;
  with_segments = refl;
  later_planned = refl;
  groups = none_grouped begun room;
  elsewhere = tt;
}
grouped begun before (s ∷ rest) room stand = elim (cases_Bool (goes_on (Some before) s.place)) [
  | inr away ↦
      let parts = and_parts (may_begin begun s.place) _ (rw away at stand) in
      let begins = and_parts (s.place.period == 1) _ parts.0 in
      let few : begun < 10_000 = ltb-true begun 10_000 begins.1 in
      begun_behind begun before s rest away
      (begun_here begun s rest ((Decides-eqb s.place.period 1).0 begins.0) few (grouped (begun + 1) s.place rest (omega (arith, few)) parts.1))
  | inl same ↦
      let parts = and_parts (is_same_or_next (Some before) s.place) _ (rw same at stand) in
      on (grouped begun s.place rest room parts.1) ((bytes_eq-Decides before.pairing s.place.pairing).0 same) parts.0
]
  where
    on : IsGrouped begun s.place rest → before.pairing ≡ s.place.pairing → is_same_or_next (Some before) s.place ≡ true → IsGrouped begun before (s ∷ rest)
    on g pairing may = elim (cases_Bool (s.place.period == before.period)) [
      | inl period ↦
          let parts = and_parts (s.place.report == before.report) _ (rw period at may) in
          let at : s.place ≡ before = same_place s.place before (sym pairing) ((Decides-eqb s.place.period before.period).0 period)
          ((Decides-eqb s.place.report before.report).0 parts.0) ((Decides-eqb s.place.release before.release).0 parts.1) in
          record {
            here = s.segment ∷ g.here;
            later = g.later;
            plans = g.plans;
            is = ap (λ t. s ∷ t) g.is ∙ (λ i. in_place (at i) s.segment ∷ (map (in_place (at i)) g.here ++ (periods_segments (at i).pairing ((at i).period + 1) g.later ++ schedule_segments g.plans)));
            with_segments = g.with_segments;
            later_planned = g.later_planned;
            groups = g.groups;
            elsewhere = subst (λ id. BeginsElsewhere id g.plans) (sym pairing) g.elsewhere;
          }
      | inr other ↦
          let f = period_from s.place s.segment g.here in
          let n = before.period + 1 in
          let next : s.place.period ≡ n = (Decides-eqb s.place.period n).0 (rw other at may) in
          let at : s.place ≡ place_of before.pairing n f = same_place s.place (place_of before.pairing n f) (sym pairing) next refl refl in
          let whole : s ∷ rest ≡ period_segments before.pairing n f ++ (periods_segments before.pairing (n + 1) g.later ++ schedule_segments g.plans) =
          ap (λ t. s ∷ t) g.is ∙ (λ i. in_place (at i) s.segment ∷ (map (in_place (at i)) g.here ++ (periods_segments (at i).pairing ((at i).period + 1) g.later ++ schedule_segments g.plans))) in
          record {
            here = [];
            later = f ∷ g.later;
            plans = g.plans;
            is = whole ∙ sym (append_assoc (period_segments before.pairing n f) (periods_segments before.pairing (n + 1) g.later) (schedule_segments g.plans));
            with_segments = and_from _ _ (not_empty s.segment g.here) g.with_segments;
            later_planned = ap (λ fs. f ∷ fs) g.later_planned;
            groups = g.groups;
            elsewhere = subst (λ id. BeginsElsewhere id g.plans) (sym pairing) g.elsewhere;
          }
    ]

are_of : (segments : List ScheduledSegment) → Stand 0 None segments → (plans : List Plan) × AreOf plans segments
are_of [] stand = ([], (refl, refl, tt, refl, omega arith))
are_of (s ∷ rest) stand =
    let parts = and_parts (may_begin 0 s.place) _ stand in
    let begins = and_parts (s.place.period == 1) _ parts.0 in
    let new = begun_here 0 s rest ((Decides-eqb s.place.period 1).0 begins.0) (omega arith) (grouped 1 s.place rest (omega arith) parts.1) in
    let few = new.groups.few in
    (new.first ∷ new.others, (sym new.is, new.groups.shown, new.groups.planned, new.groups.apart, omega (arith, few)))

-- ---- The first that fails

all_or_position : {X : Type 0} (test : X → Bool) (n : ℕ) (xs : List X) → (list_all test xs ≡ true) ⊎ ((k : ℕ) × (position_from (λ x. not (test x)) n xs ≡ Some k))
all_or_position test n [] = inl refl
all_or_position test n (x ∷ xs) = elim (cases_Bool (test x)) [
  | inr fails ↦ inr (n, rw fails refl)
  | inl passes ↦ elim (all_or_position test (n + 1) xs) [
    | inl all ↦ inl (and_from (test x) _ passes all)
    | inr (k, is) ↦ inr (k, rw passes is)
  ]
]

none_or_position : {X : Type 0} (test : X → Bool) (n : ℕ) (xs : List X) → list_all test xs ≡ true → position_from (λ x. not (test x)) n xs ≡ None
none_or_position test n [] all = refl
none_or_position test n (x ∷ xs) all = let parts = and_parts (test x) _ all in rw parts.0 (none_or_position test (n + 1) xs parts.1)

-- the pairings before the first that is none, it, and those after it
all_or_split : (plans : List Plan) → (list_all is_faultless_plan plans ≡ true) ⊎ ((n : ℕ) × IsFaultyPlanAt plans n)
all_or_split [] = inl refl
all_or_split (p ∷ ps) = elim (cases_Bool (is_faultless_plan p)) [
  | inr fails ↦ inr (2, ([], ps, p, refl, refl, (λ passes. both_ways _ fails passes), refl))
  | inl passes ↦ elim (all_or_split ps) [
    | inl all ↦ inl (and_from (is_faultless_plan p) _ passes all)
    | inr (n, (before, after, q, split, made, unmade, is)) ↦
        inr (_, (p ∷ before, after, q, ap (λ qs. p ∷ qs) split, and_from (is_faultless_plan p) _ passes made, unmade, refl))
  ]
]

-- ---- A text

schedule_or_at_fault : (text : List ℕ) (segments : List ScheduledSegment) → IsHeaderWithSegments text segments → ((plans : List Plan) × IsSchedule text plans) ⊎ ((n : ℕ) × IsAtFault text n)
schedule_or_at_fault text segments holds = elim (all_or_position may_stand 2 (standing 0 None segments)) [
  | inr (n, misplaced) ↦ inr (n, inr (segments, holds, inl misplaced))
  | inl stand ↦
      let made = are_of segments stand in
      elim (all_or_split made.0) [
        | inl faultless ↦ inl (made.0, (segments, holds, made.1, faultless))
        | inr (n, unmade) ↦ inr (n, inr (segments, holds, inr (none_or_position may_stand 2 (standing 0 None segments) stand, made.0, made.1, unmade)))
      ]
]

pub is_schedule_or_at_fault : IsScheduleOrAtFault
is_schedule_or_at_fault text = elim (text_or_unread text) [
  | inr (n, unread) ↦ inr (n, inl unread)
  | inl is ↦
      let records = has_records text in
      elim (segments_or_unread text is records.0 records.1) [
        | inr (n, unread) ↦ inr (n, inl unread)
        | inl (segments, holds) ↦ schedule_or_at_fault text segments holds
      ]
]
