-- The segments of pairings stand where they may.
use Rattle.std.proofs.Common.{◌≡◌, ◌∙◌, ℕ, ◌+◌, ◌≤◌, ◌<◌, ◌==◌, true, false, nat_lt, List, [], ◌∷◌, ◌++◌, map, length, append_assoc, Option, Some, None, refl, sym, subst, arith, lt-ltb}
use Rattle.std.specs.Prelude.{⊤}
use Rattle.std.specs.List.{list_all}
use Rattle.std.specs.Str.{bytes_eq}
use Rattle.std.proofs.lemmas.Bool.{and_parts, false≢true, false_from_ne_true}
use Rattle.std.proofs.lemmas.Bool.Decides.{Decides-eqb}
use Rattle.std.proofs.lemmas.Slice.Eq.{bytes_eq-Decides}
use Rattle.duty.specs.Plans.{Plan}
use Rattle.duty.specs.Words.{each_next}
use Rattle.duty.specs.declared.fdp.Fdp.{Fdp}
use Rattle.duty.specs.declared.segment.Segment.{Segment}
use Rattle.codec.specs.Places.{is_same_or_next, first_misplaced, goes_on, may_begin, may_stand, standing}
use Rattle.codec.specs.Schedule.{AreOf, differ, period_segments, periods_segments, schedule_segments, shows}
use Rattle.codec.specs.declared.scheduled.SegmentPlace.{SegmentPlace}
use Rattle.codec.specs.declared.scheduled.ScheduledSegment.{ScheduledSegment}
use Rattle.codec.proofs.Fronts.{no_position}
use Rattle.codec.proofs.OneList.{has_segment, in_place, later_apart, off, place_of, same_id, same_number}

-- behind this many pairings and this place, each of the segments may stand where it does
abbrev Stand : ℕ → Option SegmentPlace → List ScheduledSegment → Type 0
Stand begun before segments = list_all may_stand (standing begun before segments) ≡ true

-- ---- One segment more at the front

stands_on : (begun : ℕ) (before : Option SegmentPlace) (s : ScheduledSegment) (rest : List ScheduledSegment) → goes_on before s.place ≡ true →
    is_same_or_next before s.place ≡ true → Stand begun (Some s.place) rest → Stand begun before (s ∷ rest)
stands_on begun before s rest on continued stand = rw (on, continued) stand

stands_first : (begun : ℕ) (before : Option SegmentPlace) (s : ScheduledSegment) (rest : List ScheduledSegment) → goes_on before s.place ≡ false →
    may_begin begun s.place ≡ true → Stand (begun + 1) (Some s.place) rest → Stand begun before (s ∷ rest)
stands_first begun before s rest away may stand = rw (away, may) stand

continues_here : (here : SegmentPlace) → is_same_or_next (Some here) here ≡ true
continues_here here = rw (same_number here.period, same_number here.report, same_number here.release) refl

continues_next : (before here : SegmentPlace) → here.period ≡ before.period + 1 → is_same_or_next (Some before) here ≡ true
continues_next before here number =
    let other : (here.period == before.period) ≡ false = false_from_ne_true (here.period == before.period)
    (λ e. let same = (Decides-eqb here.period before.period).0 e in omega (arith, same, number)) in
    let next : (here.period == before.period + 1) ≡ true = (Decides-eqb here.period (before.period + 1)).1 number in
    rw (other, next) refl

-- ---- The segments of a period

more_here : (begun : ℕ) (here : SegmentPlace) (xs : List Segment) (rest : List ScheduledSegment) → Stand begun (Some here) rest →
    Stand begun (Some here) (map (in_place here) xs ++ rest)
more_here begun here [] rest stand = stand
more_here begun here (x ∷ xs) rest stand =
    stands_on begun (Some here) (in_place here x) (map (in_place here) xs ++ rest) (same_id here.pairing) (continues_here here)
    (more_here begun here xs rest stand)

-- in a pairing that goes on
next_period : (begun : ℕ) (before here : SegmentPlace) (xs : List Segment) (rest : List ScheduledSegment) → nat_lt 0 (length xs) ≡ true →
    before.pairing ≡ here.pairing → here.period ≡ before.period + 1 → Stand begun (Some here) rest →
    Stand begun (Some before) (map (in_place here) xs ++ rest)
next_period begun before here [] rest some same number stand = absurd (false≢true some)
next_period begun before here (x ∷ xs) rest some same number stand =
    stands_on begun (Some before) (in_place here x) (map (in_place here) xs ++ rest) ((bytes_eq-Decides before.pairing here.pairing).1 same)
    (continues_next before here number) (more_here begun here xs rest stand)

-- in a pairing that begins
first_period : (begun : ℕ) (before : Option SegmentPlace) (here : SegmentPlace) (xs : List Segment) (rest : List ScheduledSegment) → nat_lt 0 (length xs) ≡ true →
    goes_on before here ≡ false → may_begin begun here ≡ true → Stand (begun + 1) (Some here) rest → Stand begun before (map (in_place here) xs ++ rest)
first_period begun before here [] rest some away may stand = absurd (false≢true some)
first_period begun before here (x ∷ xs) rest some away may stand =
    stands_first begun before (in_place here x) (map (in_place here) xs ++ rest) away may (more_here (begun + 1) here xs rest stand)

-- ---- The periods of a pairing

-- behind any segment of the pairing
abbrev StandBehind : ℕ → List ℕ → List ScheduledSegment → Type 0
StandBehind begun id rest = (last : SegmentPlace) → last.pairing ≡ id → Stand begun (Some last) rest

later_periods : (begun : ℕ) (id : List ℕ) (n : ℕ) (before : SegmentPlace) (fs : List Fdp) (rest : List ScheduledSegment) → before.pairing ≡ id → n ≡ before.period + 1 →
    list_all has_segment fs ≡ true → StandBehind begun id rest → Stand begun (Some before) (periods_segments id n fs ++ rest)
later_periods begun id n before [] rest same number all stand = stand before same
later_periods begun id n before (f ∷ fs) rest same number all stand =
    let here = place_of id n f in
    let parts = and_parts (has_segment f) _ all in
    subst (Stand begun (Some before)) (sym (append_assoc (period_segments id n f) (periods_segments id (n + 1) fs) rest))
    (next_period begun before here f.segments (periods_segments id (n + 1) fs ++ rest) parts.0 same number
    (later_periods begun id (n + 1) here fs rest refl refl parts.1 stand))

abbrev GoesNotOn : Option SegmentPlace → List ℕ → Type 0
GoesNotOn before id = (here : SegmentPlace) → here.pairing ≡ id → goes_on before here ≡ false

all_periods : (begun : ℕ) (before : Option SegmentPlace) (id : List ℕ) (fs : List Fdp) (rest : List ScheduledSegment) → nat_lt 0 (length fs) ≡ true →
    list_all has_segment fs ≡ true → begun < 10_000 → GoesNotOn before id → StandBehind (begun + 1) id rest → Stand begun before (periods_segments id 1 fs ++ rest)
all_periods begun before id [] rest some all few away stand = absurd (false≢true some)
all_periods begun before id (f ∷ fs) rest some all few away stand =
    let here = place_of id 1 f in
    let parts = and_parts (has_segment f) _ all in
    subst (Stand begun before) (sym (append_assoc (period_segments id 1 f) (periods_segments id 2 fs) rest))
    (first_period begun before here f.segments (periods_segments id 2 fs ++ rest) parts.0 (away here refl) (lt-ltb begun 10_000 few)
    (later_periods (begun + 1) id 2 here fs rest refl refl parts.1 stand))

-- ---- Pairings

abbrev IsAway : Option SegmentPlace → List Plan → Type 0
IsAway before [] = ⊤
IsAway before (p ∷ ps) = GoesNotOn before p.id

away_next : (p : Plan) (ps : List Plan) (last : SegmentPlace) → last.pairing ≡ p.id → each_next differ (p ∷ ps) ≡ true → IsAway (Some last) ps
away_next p [] last same apart = tt
away_next p (q ∷ qs) last same apart = λ here at.
    (λ i. bytes_eq (same i) (at i)) ∙ off (bytes_eq p.id q.id) (and_parts (differ p q) _ apart).0

away_first : (ps : List Plan) → IsAway None ps
away_first [] = tt
away_first (p ∷ ps) = λ here at. refl

all_stand : (begun : ℕ) (before : Option SegmentPlace) (ps : List Plan) → list_all shows ps ≡ true → each_next differ ps ≡ true → begun + length ps ≤ 10_000 →
    IsAway before ps → Stand begun before (schedule_segments ps)
all_stand begun before [] shown apart few away = refl
all_stand begun before (p ∷ ps) shown apart few away =
    let parts = and_parts (shows p) _ shown in
    let some = and_parts (nat_lt 0 (length p.periods)) _ parts.0 in
    all_periods begun before p.id p.periods (schedule_segments ps) some.0 some.1 (omega (arith, few)) away
    (λ last same. all_stand (begun + 1) (Some last) ps parts.1 (later_apart p ps apart) (omega (arith, few)) (away_next p ps last same apart))

pub none_misplaced : (plans : List Plan) (segments : List ScheduledSegment) → AreOf plans segments → first_misplaced segments ≡ None
none_misplaced plans segments are =
    let few = are.4 in
    subst (λ (t : List ScheduledSegment). first_misplaced t ≡ None) are.0
    (no_position may_stand 2 (standing 0 None (schedule_segments plans))
    (all_stand 0 None plans are.1 are.3 (omega (arith, few)) (away_first plans)))
