-- The segments of pairings, one more.
use Rattle.std.proofs.Common.{◌≡◌, ◌∙◌, ◌+◌, refl, sym, ap, ℕ, suc, List, [], ◌∷◌, ◌++◌, Bool, true, nat_lt, map, length, append_assoc, append-nil, length-append, lt-ltb, arith}
use Rattle.std.specs.List.{list_all}
use Rattle.std.proofs.lemmas.Bool.{and_parts}
use Rattle.std.proofs.lemmas.List.{map-append}
use Rattle.duty.specs.Plans.{as_planned, plan}
use Rattle.duty.specs.declared.fdp.Fdp.{Fdp}
use Rattle.duty.specs.declared.segment.Segment.{Segment}
use Rattle.codec.specs.Schedule.{period_segments, periods_segments, shows}
use Rattle.codec.specs.declared.scheduled.ScheduledSegment.{ScheduledSegment}

-- behind periods one more
periods_behind : (id : List ℕ) (n : ℕ) (fs : List Fdp) (f : Fdp) → periods_segments id n (fs ++ f ∷ []) ≡ periods_segments id n fs ++ period_segments id (n + length fs) f
periods_behind id n [] f = append-nil (period_segments id n f) ∙ ap (λ k. period_segments id k f) (let e : n ≡ n + 0 = omega arith in e)
periods_behind id n (g ∷ fs) f =
    let count : n + 1 + length fs ≡ n + length (g ∷ fs) = omega arith in
    ap (λ t. period_segments id n g ++ t) (periods_behind id (n + 1) fs f ∙ ap (λ k. periods_segments id (n + 1) fs ++ period_segments id k f) count)
    ∙ sym (append_assoc (period_segments id n g) (periods_segments id (n + 1) fs) (period_segments id (n + length (g ∷ fs)) f))

-- in the last period one segment more
pub one_segment_more : (id : List ℕ) (fs : List Fdp) (report release : ℕ) (segments : List Segment) (s : Segment) →
    periods_segments id 1 (fs ++ record { planned_report = report; report = report; release = release; segments = segments ++ s ∷ [] } ∷ [])
    ≡ periods_segments id 1 (fs ++ record { planned_report = report; report = report; release = release; segments = segments } ∷ [])
    ++ record { place = record { pairing = id; period = length fs + 1; report = report; release = release }; segment = s } ∷ []
one_segment_more id fs report release segments s =
    let mk = λ (x : Segment). let it : ScheduledSegment = record { place = record { pairing = id; period = 1 + length fs; report = report; release = release }; segment = x } in it in
    let old : Fdp = record { planned_report = report; report = report; release = release; segments = segments } in
    let new : Fdp = record { planned_report = report; report = report; release = release; segments = segments ++ s ∷ [] } in
    let count : 1 + length fs ≡ length fs + 1 = omega arith in
    let last : mk s ≡ record { place = record { pairing = id; period = length fs + 1; report = report; release = release }; segment = s } = rw count refl in
    periods_behind id 1 fs new
    ∙ ap (λ t. periods_segments id 1 fs ++ t) (map-append mk segments (s ∷ []))
    ∙ sym (append_assoc (periods_segments id 1 fs) (map mk segments) (mk s ∷ []))
    ∙ ap (λ t. t ++ mk s ∷ []) (sym (periods_behind id 1 fs old))
    ∙ ap (λ t. periods_segments id 1 (fs ++ old ∷ []) ++ t ∷ []) last

-- one period more
pub one_period_more : (id : List ℕ) (fs : List Fdp) (report release : ℕ) (s : Segment) →
    periods_segments id 1 (fs ++ record { planned_report = report; report = report; release = release; segments = s ∷ [] } ∷ [])
    ≡ periods_segments id 1 fs ++ record { place = record { pairing = id; period = length fs + 1; report = report; release = release }; segment = s } ∷ []
one_period_more id fs report release s =
    let new : Fdp = record { planned_report = report; report = report; release = release; segments = s ∷ [] } in
    let count : 1 + length fs ≡ length fs + 1 = omega arith in
    periods_behind id 1 fs new
    ∙ ap (λ k. periods_segments id 1 fs ++ period_segments id k new) count

-- ---- As a draft has them

as_planned_behind : (fs : List Fdp) (report release : ℕ) (segments : List Segment) →
    map as_planned (fs ++ record { planned_report = report; report = report; release = release; segments = segments } ∷ [])
    ≡ map as_planned fs ++ record { planned_report = report; report = report; release = release; segments = segments } ∷ []
as_planned_behind fs report release segments = map-append as_planned fs (record { planned_report = report; report = report; release = release; segments = segments } ∷ [])

length_planned : (fs : List Fdp) → length (map as_planned fs) ≡ length fs
length_planned [] = refl
length_planned (f ∷ fs) = ap suc (length_planned fs)

placed : (id : List ℕ) (fs : List Fdp) (report release : ℕ) (it : ScheduledSegment) → it.place.period ≡ length fs + 1 → it.place.report ≡ report → it.place.release ≡ release →
    ◌≡◌ {A = ScheduledSegment} (record { place = record { pairing = id; period = length (map as_planned fs) + 1; report = report; release = release }; segment = it.segment }) (record it { place = record it.place { pairing = id } })
placed id fs report release it number at_report at_release = rw (length_planned fs, sym number, sym at_report, sym at_release) refl

pub segment_more : (id : List ℕ) (fs : List Fdp) (report release : ℕ) (segments more : List Segment) (it : ScheduledSegment) →
    more ≡ segments ++ it.segment ∷ [] → it.place.period ≡ length fs + 1 → it.place.report ≡ report → it.place.release ≡ release →
    periods_segments id 1 (map as_planned (fs ++ record { planned_report = report; report = report; release = release; segments = more } ∷ []))
    ≡ periods_segments id 1 (map as_planned (fs ++ record { planned_report = report; report = report; release = release; segments = segments } ∷ []))
    ++ record it { place = record it.place { pairing = id } } ∷ []
segment_more id fs report release segments more it items number at_report at_release =
    rw (items, as_planned_behind fs report release (segments ++ it.segment ∷ []), as_planned_behind fs report release segments, sym (placed id fs report release it number at_report at_release))
    (one_segment_more id (map as_planned fs) report release segments it.segment)

pub period_more : (id : List ℕ) (fs : List Fdp) (it : ScheduledSegment) → it.place.period ≡ length fs + 1 →
    periods_segments id 1 (map as_planned (fs ++ record { planned_report = it.place.report; report = it.place.report; release = it.place.release; segments = it.segment ∷ [] } ∷ []))
    ≡ periods_segments id 1 (map as_planned fs) ++ record it { place = record it.place { pairing = id } } ∷ []
period_more id fs it number =
    rw (as_planned_behind fs it.place.report it.place.release (it.segment ∷ []), sym (placed id fs it.place.report it.place.release it number refl refl))
    (one_period_more id (map as_planned fs) it.place.report it.place.release it.segment)

-- ---- A pairing that shows whole in its segments

abbrev has_segment : Fdp → Bool
has_segment f = nat_lt 0 (length f.segments)

periods_shown : (fs : List Fdp) (f : Fdp) → list_all has_segment (map as_planned fs) ≡ true → has_segment f ≡ true → list_all has_segment (map as_planned (fs ++ f ∷ [])) ≡ true
periods_shown [] f shown one = rw one refl
periods_shown (g ∷ fs) f shown one = let parts = and_parts (has_segment g) _ shown in rw parts.0 (periods_shown fs f parts.1 one)

front_shown : (fs : List Fdp) (f : Fdp) → list_all has_segment (map as_planned (fs ++ f ∷ [])) ≡ true → list_all has_segment (map as_planned fs) ≡ true
front_shown [] f shown = refl
front_shown (g ∷ fs) f shown = let parts = and_parts (has_segment g) _ shown in rw parts.0 (front_shown fs f parts.1)

some_period : (fs : List Fdp) (f : Fdp) → nat_lt 0 (length (map as_planned (fs ++ f ∷ []))) ≡ true
some_period fs f =
    let e : length (map as_planned (fs ++ f ∷ [])) ≡ length fs + 1 = length_planned (fs ++ f ∷ []) ∙ length-append fs (f ∷ []) in
    lt-ltb 0 (length (map as_planned (fs ++ f ∷ []))) (omega (arith, e))

-- another last period, with a segment
pub shows_with : (id : List ℕ) (fs : List Fdp) (f g : Fdp) → shows (plan id (fs ++ f ∷ [])) ≡ true → has_segment g ≡ true → shows (plan id (fs ++ g ∷ [])) ≡ true
shows_with id fs f g shown one = rw (some_period fs g) (periods_shown fs g (front_shown fs f (and_parts (nat_lt 0 (length (map as_planned (fs ++ f ∷ [])))) _ shown).1) one)

-- one period more, with a segment
pub shows_more : (id : List ℕ) (fs : List Fdp) (g : Fdp) → shows (plan id fs) ≡ true → has_segment g ≡ true → shows (plan id (fs ++ g ∷ [])) ≡ true
shows_more id fs g shown one = rw (some_period fs g) (periods_shown fs g (and_parts (nat_lt 0 (length (map as_planned fs))) _ shown).1 one)

pub segment_behind : (s : List Segment) (t : Segment) → nat_lt 0 (length (s ++ t ∷ [])) ≡ true
segment_behind s t = lt-ltb 0 (length (s ++ t ∷ [])) (omega (arith, length-append s (t ∷ [])))
