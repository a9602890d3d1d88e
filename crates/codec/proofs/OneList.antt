-- Segments are those of one list of pairings.
use Rattle.std.proofs.Common.{◌≡◌, ◌∙◌, ℕ, ◌+◌, ◌==◌, Bool, true, false, not, nat_lt, List, [], ◌∷◌, ◌++◌, map, length, append_assoc, refl, sym, ap, subst, arith}
use Rattle.std.specs.List.{list_all, AllByRecursion}
use Rattle.std.specs.Str.{bytes_eq}
use Rattle.std.proofs.lemmas.Bool.{and_parts, and_from, false≢true, false_from_ne_true}
use Rattle.std.proofs.lemmas.Bool.Decides.{Decides-eqb}
use Rattle.std.proofs.lemmas.List.Folds.{list_all-append}
use Rattle.std.proofs.lemmas.Slice.Eq.{bytes_eq-Decides}
use Rattle.duty.specs.Plans.{Plan, as_planned}
use Rattle.duty.specs.Words.{each_next}
use Rattle.duty.specs.declared.fdp.Fdp.{Fdp}
use Rattle.duty.specs.declared.segment.Segment.{Segment}
use Rattle.codec.specs.Schedule.{IsAsPlanned, differ, period_segments, periods_segments, schedule_segments, shows}
use Rattle.codec.specs.declared.scheduled.SegmentPlace.{SegmentPlace}
use Rattle.codec.specs.declared.scheduled.ScheduledSegment.{ScheduledSegment}
use Rattle.codec.proofs.Fronts.{BeginsWithout, all_made, first_same, leads, rest_same, same_front}

-- ---- Where segments are

abbrev pub has_segment : Fdp → Bool
has_segment f = nat_lt 0 (length f.segments)

-- the place of a period's segments, and a segment there
abbrev pub place_of : List ℕ → ℕ → Fdp → SegmentPlace
place_of id n f = record { pairing = id; period = n; report = f.report; release = f.release }

abbrev pub in_place : SegmentPlace → Segment → ScheduledSegment
in_place place s = record { place = place; segment = s }

abbrev is_of_period : ℕ → ScheduledSegment → Bool
is_of_period n s = s.place.period == n

abbrev is_of_pairing : List ℕ → ScheduledSegment → Bool
is_of_pairing id s = bytes_eq id s.place.pairing

pub same_id : (id : List ℕ) → bytes_eq id id ≡ true
same_id id = (bytes_eq-Decides id id).1 refl

pub same_number : (n : ℕ) → (n == n) ≡ true
same_number n = (Decides-eqb n n).1 refl

next_number : (n : ℕ) → (n + 1 == n) ≡ false
next_number n = false_from_ne_true (n + 1 == n) (λ e. let same = (Decides-eqb (n + 1) n).0 e in omega (arith, same))

all_of_period : (id : List ℕ) (n : ℕ) (f : Fdp) → list_all (is_of_period n) (period_segments id n f) ≡ true
all_of_period id n f = all_made (is_of_period n) (in_place (place_of id n f)) f.segments (λ _. same_number n)

all_of_pairing : (id : List ℕ) (n : ℕ) (fs : List Fdp) → list_all (is_of_pairing id) (periods_segments id n fs) ≡ true
all_of_pairing id n [] = refl
all_of_pairing id n (f ∷ fs) =
    list_all-append (is_of_pairing id) (period_segments id n f) (periods_segments id (n + 1) fs)
    ∙ and_from (list_all (is_of_pairing id) (period_segments id n f)) _
    (all_made (is_of_pairing id) (in_place (place_of id n f)) f.segments (λ _. same_id id))
    (all_of_pairing id (n + 1) fs)

-- ---- A period

segments_back : (place : SegmentPlace) (xs : List Segment) → map (λ (s : ScheduledSegment). s.segment) (map (in_place place) xs) ≡ xs
segments_back place [] = refl
segments_back place (x ∷ xs) = ap (λ (ys : List Segment). x ∷ ys) (segments_back place xs)

same_place : (place other : SegmentPlace) (xs ys : List Segment) → nat_lt 0 (length xs) ≡ true → map (in_place place) xs ≡ map (in_place other) ys → place ≡ other
same_place place other [] ys some e = absurd (false≢true some)
same_place place other (x ∷ xs) [] some e = absurd (let f = e in cc)
same_place place other (x ∷ xs) (y ∷ ys) some e =
    ap (λ (s : ScheduledSegment). s.place)
    (first_same (in_place place x) (in_place other y) (map (in_place place) xs) (map (in_place other) ys) e)

-- its segments say which period is planned at its report
same_period : (id : List ℕ) (n : ℕ) (f g : Fdp) → as_planned f ≡ f → as_planned g ≡ g → has_segment f ≡ true → period_segments id n f ≡ period_segments id n g → f ≡ g
same_period id n f g f_planned g_planned some e =
    let place = same_place (place_of id n f) (place_of id n g) f.segments g.segments some e in
    let report : f.report ≡ g.report = ap (λ (p : SegmentPlace). p.report) place in
    let release : f.release ≡ g.release = ap (λ (p : SegmentPlace). p.release) place in
    let segments : f.segments ≡ g.segments = sym (segments_back (place_of id n f) f.segments)
    ∙ ap (map (λ (s : ScheduledSegment). s.segment)) e ∙ segments_back (place_of id n g) g.segments in
    let planned : f.planned_report ≡ g.planned_report = ap (λ (x : Fdp). x.planned_report) (sym f_planned)
    ∙ report ∙ ap (λ (x : Fdp). x.planned_report) g_planned in
    λ i. record { planned_report = planned i; report = report i; release = release i; segments = segments i }

-- ---- The periods of a pairing

not_empty : (id : List ℕ) (n : ℕ) (f : Fdp) (rest : List ScheduledSegment) → has_segment f ≡ true → [] ≡ period_segments id n f ++ rest → ⊥
not_empty id n f rest some e =
    let first = leads (in_place (place_of id n f)) f.segments rest some in
    let no : [] ≡ in_place (place_of id n f) first.0 ∷ first.1 = e ∙ first.2 in
    cc

-- the next period is another
apart_period : (id : List ℕ) (n : ℕ) (fs : List Fdp) → list_all has_segment fs ≡ true → BeginsWithout (is_of_period n) (periods_segments id (n + 1) fs)
apart_period id n [] all = tt
apart_period id n (f ∷ fs) all =
    let first = leads (in_place (place_of id (n + 1) f)) f.segments (periods_segments id (n + 1 + 1) fs) (and_parts (has_segment f) _ all).0 in
    subst (BeginsWithout (is_of_period n)) (sym first.2) (next_number n)

same_periods : (id : List ℕ) (n : ℕ) (fs gs : List Fdp) → map as_planned fs ≡ fs → map as_planned gs ≡ gs → list_all has_segment fs ≡ true →
    list_all has_segment gs ≡ true → periods_segments id n fs ≡ periods_segments id n gs → fs ≡ gs
same_periods id n [] [] _ _ _ _ e = refl
same_periods id n [] (g ∷ gs) _ _ _ all e = absurd (not_empty id n g (periods_segments id (n + 1) gs) (and_parts (has_segment g) _ all).0 e)
same_periods id n (f ∷ fs) [] _ _ all _ e = absurd (not_empty id n f (periods_segments id (n + 1) fs) (and_parts (has_segment f) _ all).0 (sym e))
same_periods id n (f ∷ fs) (g ∷ gs) f_planned g_planned f_all g_all e =
    let f_some = and_parts (has_segment f) _ f_all in
    let g_some = and_parts (has_segment g) _ g_all in
    let parts = same_front (is_of_period n) (period_segments id n f) (periods_segments id (n + 1) fs) (period_segments id n g) (periods_segments id (n + 1) gs)
    (all_of_period id n f) (all_of_period id n g) (apart_period id n fs f_some.1) (apart_period id n gs g_some.1) e in
    let first = same_period id n f g (first_same (as_planned f) f (map as_planned fs) fs f_planned)
    (first_same (as_planned g) g (map as_planned gs) gs g_planned) f_some.0 parts.0 in
    let rest = same_periods id (n + 1) fs gs (rest_same (as_planned f) f (map as_planned fs) fs f_planned)
    (rest_same (as_planned g) g (map as_planned gs) gs g_planned) f_some.1 g_some.1 parts.1 in
    λ i. first i ∷ rest i

-- ---- Pairings

-- the first segment of a pairing that shows, and what follows it
pairing_leads : (id : List ℕ) (fs : List Fdp) (rest : List ScheduledSegment) → nat_lt 0 (length fs) ≡ true → list_all has_segment fs ≡ true →
    (s : ScheduledSegment) × (more : List ScheduledSegment) × (periods_segments id 1 fs ++ rest ≡ s ∷ more) × (s.place.pairing ≡ id)
pairing_leads id [] rest some all = absurd (false≢true some)
pairing_leads id (f ∷ fs) rest some all =
    let first = leads (in_place (place_of id 1 f)) f.segments (periods_segments id 2 fs ++ rest) (and_parts (has_segment f) _ all).0 in
    (in_place (place_of id 1 f) first.0, first.1, append_assoc (period_segments id 1 f) (periods_segments id 2 fs) rest ∙ first.2, refl)

first_of : (p : Plan) (rest : List ScheduledSegment) → shows p ≡ true →
    (s : ScheduledSegment) × (more : List ScheduledSegment) × (periods_segments p.id 1 p.periods ++ rest ≡ s ∷ more) × (s.place.pairing ≡ p.id)
first_of p rest shown =
    let parts = and_parts (nat_lt 0 (length p.periods)) _ shown in
    pairing_leads p.id p.periods rest parts.0 parts.1

pub off : (b : Bool) → not b ≡ true → b ≡ false
off true e = absurd (false≢true e)
off false e = refl

-- the next pairing is another
apart_pairing : (p : Plan) (ps : List Plan) → list_all shows ps ≡ true → each_next differ (p ∷ ps) ≡ true → BeginsWithout (is_of_pairing p.id) (schedule_segments ps)
apart_pairing p [] shown apart = tt
apart_pairing p (q ∷ qs) shown apart =
    let first = first_of q (schedule_segments qs) (and_parts (shows q) _ shown).0 in
    let other = off (bytes_eq p.id q.id) (and_parts (differ p q) _ apart).0 in
    subst (BeginsWithout (is_of_pairing p.id)) (sym first.2) (ap (bytes_eq p.id) first.3 ∙ other)

pub later_apart : (p : Plan) (ps : List Plan) → each_next differ (p ∷ ps) ≡ true → each_next differ ps ≡ true
later_apart p [] apart = refl
later_apart p (q ∷ qs) apart = (and_parts (differ p q) _ apart).1

no_pairing : (p : Plan) (ps : List Plan) → shows p ≡ true → [] ≡ schedule_segments (p ∷ ps) → ⊥
no_pairing p ps shown e =
    let first = first_of p (schedule_segments ps) shown in
    let no : [] ≡ first.0 ∷ first.1 = e ∙ first.2 in
    cc

pub one_list : (ps qs : List Plan) → list_all shows ps ≡ true → list_all shows qs ≡ true → AllByRecursion IsAsPlanned ps → AllByRecursion IsAsPlanned qs →
    each_next differ ps ≡ true → each_next differ qs ≡ true → schedule_segments ps ≡ schedule_segments qs → ps ≡ qs
one_list [] [] _ _ _ _ _ _ e = refl
one_list [] (q ∷ qs) _ shown _ _ _ _ e = absurd (no_pairing q qs (and_parts (shows q) _ shown).0 e)
one_list (p ∷ ps) [] shown _ _ _ _ _ e = absurd (no_pairing p ps (and_parts (shows p) _ shown).0 (sym e))
one_list (p ∷ ps) (q ∷ qs) p_shown q_shown p_planned q_planned p_apart q_apart e =
    let p_parts = and_parts (shows p) _ p_shown in
    let q_parts = and_parts (shows q) _ q_shown in
    let p_first = first_of p (schedule_segments ps) p_parts.0 in
    let q_first = first_of q (schedule_segments qs) q_parts.0 in
    let head = first_same p_first.0 q_first.0 p_first.1 q_first.1 (sym p_first.2 ∙ e ∙ q_first.2) in
    let id : p.id ≡ q.id = sym p_first.3 ∙ ap (λ (s : ScheduledSegment). s.place.pairing) head ∙ q_first.3 in
    let parts = same_front (is_of_pairing p.id) (periods_segments p.id 1 p.periods) (schedule_segments ps)
    (periods_segments q.id 1 q.periods) (schedule_segments qs) (all_of_pairing p.id 1 p.periods)
    (subst (λ (x : List ℕ). list_all (is_of_pairing x) (periods_segments q.id 1 q.periods) ≡ true) (sym id) (all_of_pairing q.id 1 q.periods))
    (apart_pairing p ps p_parts.1 p_apart)
    (subst (λ (x : List ℕ). BeginsWithout (is_of_pairing x) (schedule_segments qs)) (sym id) (apart_pairing q qs q_parts.1 q_apart)) e in
    let periods = same_periods p.id 1 p.periods q.periods p_planned.0 q_planned.0
    (and_parts (nat_lt 0 (length p.periods)) _ p_parts.0).1 (and_parts (nat_lt 0 (length q.periods)) _ q_parts.0).1
    (parts.0 ∙ ap (λ (x : List ℕ). periods_segments x 1 q.periods) (sym id)) in
    let rest = one_list ps qs p_parts.1 q_parts.1 p_planned.1 q_planned.1 (later_apart p ps p_apart) (later_apart q qs q_apart) parts.1 in
    λ i. record { id = id i; periods = periods i } ∷ rest i
