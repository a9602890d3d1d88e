-- The grouping of a schedule's segments, one more.
use Rattle.std.proofs.Common.{◌≡◌, ◌≢◌, ◌∙◌, ◌+◌, ◌≤◌, ◌<◌, refl, sym, ap, subst, ℕ, List, [], ◌∷◌, ◌++◌, Bool, true, false, not, map, length, append_assoc, append-nil, length-append, ltb-true, Option, Some, None, option_map, is_some, Err, if◌then◌else◌, ◌==◌, inl, inr, arith}
use Rattle.std.specs.List.{list_all, position_from, AllByRecursion}
use Rattle.std.specs.Result.{result_ok}
use Rattle.std.proofs.lemmas.Bool.{and_parts, cases_Bool}
use Rattle.std.proofs.lemmas.List.{map-append, length-map}
use Rattle.std.proofs.lemmas.Option.{none-some}
use Rattle.duty.specs.Plans.{Plan}
use Rattle.duty.specs.Pairings.{pairing_fault}
use Rattle.duty.specs.Words.{checked, each_next}
use Rattle.duty.specs.declared.fault.DutyFault.{DutyFault}
use Rattle.codec.specs.Grouping.{open_place, told, told_if_open, AreAt, AreGrouped, Adds, Extends, AddsSegment, BeginsWithSegment, IsFirstUnmade, IsLonger, IsGroupedUpTo, IsSoFar, last_place, plans_of, told_all, told_open}
use Rattle.codec.specs.Places.{first_misplaced, goes_on, may_begin, may_stand, standing}
use Rattle.codec.specs.Schedule.{AreOf, IsAsPlanned, IsFaultyPlanAt, differ, is_faultless_plan, periods_segments, schedule_segments, shows}
use Rattle.codec.specs.declared.grouping.Draft.{Draft}
use Rattle.codec.specs.declared.grouping.Grouping.{Grouping}
use Rattle.codec.specs.declared.grouping.OpenPairing.{OpenPairing}
use Rattle.codec.specs.declared.scheduled.SegmentPlace.{SegmentPlace}
use Rattle.codec.specs.declared.scheduled.ScheduledSegment.{ScheduledSegment}

-- ---- Behind pairings one more

segments_behind : (ps : List Plan) (p : Plan) → schedule_segments (ps ++ p ∷ []) ≡ schedule_segments ps ++ periods_segments p.id 1 p.periods
segments_behind [] p = append-nil (periods_segments p.id 1 p.periods)
segments_behind (q ∷ ps) p =
    ap (λ t. periods_segments q.id 1 q.periods ++ t) (segments_behind ps p)
    ∙ sym (append_assoc (periods_segments q.id 1 q.periods) (schedule_segments ps) (periods_segments p.id 1 p.periods))

pub plans_behind : (ts : List (ℕ × Plan)) (t : ℕ × Plan) → plans_of (ts ++ t ∷ []) ≡ plans_of ts ++ t.1 ∷ []
plans_behind [] t = refl
plans_behind (u ∷ ts) t = ap (λ ps. u.1 ∷ ps) (plans_behind ts t)

told_segments : (ts : List (ℕ × Plan)) (t : ℕ × Plan) → schedule_segments (plans_of (ts ++ t ∷ [])) ≡ schedule_segments (plans_of ts) ++ periods_segments t.1.id 1 t.1.periods
told_segments ts t = ap schedule_segments (plans_behind ts t) ∙ segments_behind (plans_of ts) t.1

length_behind : {A : Type 0} (xs : List A) (x : A) → length (xs ++ x ∷ []) ≡ length xs + 1
length_behind xs x = length-append xs (x ∷ [])

shown_front : (ts : List (ℕ × Plan)) (t : ℕ × Plan) → list_all shows (plans_of (ts ++ t ∷ [])) ≡ true → (list_all shows (plans_of ts) ≡ true) × (shows t.1 ≡ true)
shown_front [] t shown = (refl, (and_parts (shows t.1) true shown).0)
shown_front (u ∷ ts) t shown =
    let parts = and_parts (shows u.1) _ shown in
    let rest = shown_front ts t parts.1 in (rw parts.0 rest.0, rest.1)

shown_behind : (ts : List (ℕ × Plan)) (t : ℕ × Plan) → list_all shows (plans_of ts) ≡ true → shows t.1 ≡ true → list_all shows (plans_of (ts ++ t ∷ [])) ≡ true
shown_behind [] t shown one = rw one refl
shown_behind (u ∷ ts) t shown one = let parts = and_parts (shows u.1) _ shown in rw parts.0 (shown_behind ts t parts.1 one)

differ_renamed : (ts : List (ℕ × Plan)) (t u : ℕ × Plan) → u.1.id ≡ t.1.id → each_next differ (plans_of (ts ++ t ∷ [])) ≡ true → each_next differ (plans_of (ts ++ u ∷ [])) ≡ true
differ_renamed [] t u e h = refl
differ_renamed (x ∷ []) t u e h = rw e h
differ_renamed (x ∷ y ∷ ts) t u e h = let parts = and_parts (differ x.1 y.1) _ h in rw parts.0 (differ_renamed (y ∷ ts) t u e parts.1)

differ_behind : (ts : List (ℕ × Plan)) (t u : ℕ × Plan) → each_next differ (plans_of (ts ++ t ∷ [])) ≡ true → differ t.1 u.1 ≡ true → each_next differ (plans_of ((ts ++ t ∷ []) ++ u ∷ [])) ≡ true
differ_behind [] t u h d = rw d refl
differ_behind (x ∷ []) t u h d = let parts = and_parts (differ x.1 t.1) _ h in rw (parts.0, d) refl
differ_behind (x ∷ y ∷ ts) t u h d = let parts = and_parts (differ x.1 y.1) _ h in rw parts.0 (differ_behind (y ∷ ts) t u parts.1 d)

at_front : (n : ℕ) (ts : List (ℕ × Plan)) (t : ℕ × Plan) → AreAt n (ts ++ t ∷ []) → AreAt n ts × (t.0 ≡ n + length (schedule_segments (plans_of ts)))
at_front n [] t at = (tt, let e : n ≡ n + 0 = omega arith in at.0 ∙ e)
at_front n (u ∷ ts) t at =
    let here = periods_segments u.1.id 1 u.1.periods in
    let rest = at_front (n + length here) ts t at.1 in
    let e : n + length here + length (schedule_segments (plans_of ts)) ≡ n + length (here ++ schedule_segments (plans_of ts)) = omega (arith, length-append here (schedule_segments (plans_of ts))) in
    ((at.0, rest.0), rest.1 ∙ e)

at_middle : (n : ℕ) (ts : List (ℕ × Plan)) (t : ℕ × Plan) (us : List (ℕ × Plan)) → AreAt n (ts ++ t ∷ us) → t.0 ≡ n + length (schedule_segments (plans_of ts))
at_middle n [] t us at = let e : n ≡ n + 0 = omega arith in at.0 ∙ e
at_middle n (u ∷ ts) t us at =
    let here = periods_segments u.1.id 1 u.1.periods in
    let e : n + length here + length (schedule_segments (plans_of ts)) ≡ n + length (here ++ schedule_segments (plans_of ts)) = omega (arith, length-append here (schedule_segments (plans_of ts))) in
    at_middle (n + length here) ts t us at.1 ∙ e

at_behind : (n : ℕ) (ts : List (ℕ × Plan)) (t : ℕ × Plan) → AreAt n ts → t.0 ≡ n + length (schedule_segments (plans_of ts)) → AreAt n (ts ++ t ∷ [])
at_behind n [] t at e = (let z : n + 0 ≡ n = omega arith in e ∙ z, tt)
at_behind n (u ∷ ts) t at e =
    let here = periods_segments u.1.id 1 u.1.periods in
    let z : n + length (here ++ schedule_segments (plans_of ts)) ≡ n + length here + length (schedule_segments (plans_of ts)) = omega (arith, length-append here (schedule_segments (plans_of ts))) in
    (at.0, at_behind (n + length here) ts t at.1 (e ∙ z))

-- ---- One segment more

longer_grouped : (it : ScheduledSegment) (before : List (ℕ × Plan)) (was is : ℕ × Plan) → AreGrouped (before ++ was ∷ []) → IsLonger it was is → AreGrouped (before ++ is ∷ [])
longer_grouped it before was is (shown, apart, few, at) (first, id, more, shows_on) =
    let parts = shown_front before was shown in
    let places = at_front 2 before was at in
    let few_was = rw (length_behind before was) at few in (
      shown_behind before is parts.0 (shows_on parts.1),
      differ_renamed before was is id apart,
      rw (length_behind before is) few_was,
      at_behind 2 before is places.0 (first ∙ places.1),
    )

longer_segments : (it : ScheduledSegment) (before : List (ℕ × Plan)) (was is : ℕ × Plan) → IsLonger it was is → schedule_segments (plans_of (before ++ is ∷ [])) ≡ schedule_segments (plans_of (before ++ was ∷ [])) ++ it ∷ []
longer_segments it before was is (first, id, more, shows_on) =
    told_segments before is
    ∙ ap (λ t. schedule_segments (plans_of before) ++ t) more
    ∙ sym (append_assoc (schedule_segments (plans_of before)) (periods_segments was.1.id 1 was.1.periods) (it ∷ []))
    ∙ ap (λ t. t ++ it ∷ []) (sym (told_segments before was))

apart_behind : (it : ScheduledSegment) (ts : List (ℕ × Plan)) (o : Option OpenPairing) (is : ℕ × Plan) → is.1.id ≡ it.place.pairing →
    (option_map open_place o ≡ None → ts ++ told_if_open o ≡ []) → goes_on (option_map open_place o) it.place ≡ false →
    each_next differ (plans_of (ts ++ told_if_open o)) ≡ true → each_next differ (plans_of ((ts ++ told_if_open o) ++ is ∷ [])) ≡ true
apart_behind it ts None is id none away apart = rw (none refl) refl
apart_behind it ts (Some o) is id none away apart =
    let d : differ (told_open o).1 is.1 ≡ true = rw (id, away) refl in
    differ_behind ts (told_open o) is apart d

-- those so far, and one that begins
begun_grouped : (it : ScheduledSegment) (g : Grouping) (is : ℕ × Plan) → BeginsWithSegment (2 + length (schedule_segments (plans_of (told_all g)))) it is →
    (last_place g ≡ None → told_all g ≡ []) → goes_on (last_place g) it.place ≡ false → length (told_all g) < 10_000 → AreGrouped (told_all g) → AreGrouped (told_all g ++ is ∷ [])
begun_grouped it g is (first, id, only, shown_is) none away few (shown, apart, _, at) =
    let few_is : length (told_all g) + 1 ≤ 10_000 = omega (arith, few) in (
      shown_behind (told_all g) is shown shown_is,
      apart_behind it (map told g.whole.items) g.open is id none away apart,
      rw (length_behind (told_all g) is) few_is,
      at_behind 2 (told_all g) is at first,
    )

-- ---- A step of the loop

abbrev misplaced : ℕ × Option SegmentPlace × SegmentPlace → Bool
misplaced it = not (may_stand it)

abbrev begun_with : ℕ → Option SegmentPlace → SegmentPlace → ℕ
begun_with begun before here = if goes_on before here then begun else begun + 1

stands_here : (begun n : ℕ) (before : Option SegmentPlace) (it : ScheduledSegment) (rest : List ScheduledSegment) → may_stand (begun, before, it.place) ≡ true →
    position_from misplaced n (standing begun before (it ∷ rest)) ≡ position_from misplaced (n + 1) (standing (begun_with begun before it.place) (Some it.place) rest)
stands_here begun n before it rest may = rw may refl

misplaced_here : (begun n : ℕ) (before : Option SegmentPlace) (it : ScheduledSegment) (rest : List ScheduledSegment) → may_stand (begun, before, it.place) ≡ false →
    position_from misplaced n (standing begun before (it ∷ rest)) ≡ Some n
misplaced_here begun n before it rest fails = rw fails refl

step_longer : (done : List ScheduledSegment) (it : ScheduledSegment) (old new : Grouping) → IsSoFar done old → last_place new ≡ Some it.place → Extends it (told_all old) (told_all new) →
    IsSoFar (done ++ it ∷ []) new × (length (told_all new) ≡ length (told_all old))
step_longer done it old new (so_far, grouped, none) place (before, was, is, old_is, new_is, longer) =
    let segments : schedule_segments (plans_of (told_all new)) ≡ done ++ it ∷ [] =
    ap (λ ts. schedule_segments (plans_of ts)) new_is ∙ longer_segments it before was is longer
    ∙ ap (λ t. t ++ it ∷ []) (ap (λ ts. schedule_segments (plans_of ts)) (sym old_is) ∙ so_far) in
    let more : AreGrouped (told_all new) = subst AreGrouped (sym new_is) (longer_grouped it before was is (subst AreGrouped old_is grouped) longer) in
    let count : length (told_all new) ≡ length (told_all old) =
    ap length new_is ∙ (length_behind before is ∙ sym (length_behind before was)) ∙ ap length (sym old_is) in
    ((segments, more, λ at. absurd (none-some it.place (sym at ∙ place))), count)

step_begun : (done : List ScheduledSegment) (it : ScheduledSegment) (old new : Grouping) → IsSoFar done old → last_place new ≡ Some it.place →
    goes_on (last_place old) it.place ≡ false → length (told_all old) < 10_000 → Adds (2 + length done) it (told_all old) (told_all new) →
    IsSoFar (done ++ it ∷ []) new × (length (told_all new) ≡ length (told_all old) + 1)
step_begun done it old new (so_far, grouped, none) place away few (is, new_is, begun) =
    let here : BeginsWithSegment (2 + length (schedule_segments (plans_of (told_all old)))) it is = subst (λ ss. BeginsWithSegment (2 + length ss) it is) (sym so_far) begun in
    let segments : schedule_segments (plans_of (told_all new)) ≡ done ++ it ∷ [] =
    ap (λ ts. schedule_segments (plans_of ts)) new_is ∙ told_segments (told_all old) is
    ∙ (ap (λ t. schedule_segments (plans_of (told_all old)) ++ t) begun.2 ∙ ap (λ t. t ++ it ∷ []) so_far) in
    let more : AreGrouped (told_all new) = subst AreGrouped (sym new_is) (begun_grouped it old is here none away few grouped) in
    let count : length (told_all new) ≡ length (told_all old) + 1 = ap length new_is ∙ length_behind (told_all old) is in
    ((segments, more, λ at. absurd (none-some it.place (sym at ∙ place))), count)

next_number : (done : List ScheduledSegment) (it : ScheduledSegment) → 2 + length (done ++ it ∷ []) ≡ 2 + length done + 1
next_number done it = rw (length_behind done it) (omega arith)

pub step : (segments done rest : List ScheduledSegment) (it : ScheduledSegment) (old new : Grouping) → IsGroupedUpTo segments done (it ∷ rest) old →
    may_stand (length (told_all old), last_place old, it.place) ≡ true → last_place new ≡ Some it.place → AddsSegment (2 + length done) it old new →
    IsGroupedUpTo segments (done ++ it ∷ []) rest new
step segments done rest it old new (joined, so_far, found) may place grows =
    let join : (done ++ it ∷ []) ++ rest ≡ segments = append_assoc done (it ∷ []) rest ∙ joined in
    let on = sym (stands_here (length (told_all old)) (2 + length done) (last_place old) it rest may) ∙ found in
    elim (cases_Bool (goes_on (last_place old) it.place)) [
      | inl same ↦
          let did = step_longer done it old new so_far place (rw same at grows) in
          let on_same = rw same at on in
          (join, did.0, rw (next_number done it, did.1, place) on_same)
      | inr away ↦
          let began = rw away at may in
          let few : length (told_all old) < 10_000 = ltb-true (length (told_all old)) 10_000 (and_parts (it.place.period == 1) _ began).1 in
          let did = step_begun done it old new so_far place away few (rw away at grows) in
          let on_away = rw away at on in
          (join, did.0, rw (next_number done it, did.1, place) on_away)
    ]

pub start : (segments : List ScheduledSegment) (g : Grouping) → told_all g ≡ [] → last_place g ≡ None → IsGroupedUpTo segments [] segments g
start segments g none place =
    let few : 0 ≤ 10_000 = omega arith in
    (refl, (ap (λ ts. schedule_segments (plans_of ts)) none, subst AreGrouped (sym none) (refl, refl, few, tt), λ _. none), rw (none, place) refl)

pub refused : (segments done rest : List ScheduledSegment) (it : ScheduledSegment) (g : Grouping) → IsGroupedUpTo segments done (it ∷ rest) g →
    may_stand (length (told_all g), last_place g, it.place) ≡ false → first_misplaced segments ≡ Some (2 + length done)
refused segments done rest it g (joined, so_far, found) fails = sym found ∙ misplaced_here (length (told_all g)) (2 + length done) (last_place g) it rest fails

pub whole : (segments done : List ScheduledSegment) (g : Grouping) → IsGroupedUpTo segments done [] g →
    (schedule_segments (plans_of (told_all g)) ≡ segments) × AreGrouped (told_all g) × (first_misplaced segments ≡ None)
whole segments done g (joined, (so_far, grouped, none), found) = (so_far ∙ (sym (append-nil done) ∙ joined), grouped, sym found)

-- ---- The pairings made

pub unmade : (tolds : List (ℕ × Plan)) (n : ℕ) → AreAt 2 tolds → IsFirstUnmade tolds n → IsFaultyPlanAt (plans_of tolds) n
unmade tolds n at (before, after, t, is, made, none, here) =
    let split : plans_of tolds ≡ plans_of before ++ t.1 ∷ plans_of after = ap plans_of is ∙ map-append (λ u. u.1) before (t ∷ after) in
    let place = at_middle 2 before t after (subst (AreAt 2) is at) in
    (plans_of before, plans_of after, t.1, split, made, none, here ∙ place)

refused_plan : (fault : DutyFault) (p : Plan) (found : Option DutyFault) → Err fault ≡ checked found p → not (is_some found) ≢ true
refused_plan fault p None e is = none-some p (ap result_ok e)
refused_plan fault p (Some other) e is = none-some {A = ℕ} 0 (ap (λ (b : Bool). if b then None else Some 0) (sym is))

pub no_pairing : (fault : DutyFault) (p : Plan) → Err fault ≡ checked (pairing_fault p) p → is_faultless_plan p ≢ true
no_pairing fault p e = refused_plan fault p (pairing_fault p) e

-- ---- A pairing that begins behind others

pub told_alone : (ds : List Draft) → length (map told ds ++ []) ≡ length ds
told_alone ds = ap length (append-nil (map told ds)) ∙ length-map ds told

pub stands_away : (begun count : ℕ) (before : Option SegmentPlace) (here : SegmentPlace) → goes_on before here ≡ false → begun ≡ count → may_stand (begun, before, here) ≡ may_begin count here
stands_away begun count before here away e = rw (away, e) refl

pub grows_away : (number : ℕ) (it : ScheduledSegment) (old new : Grouping) (tolds : List (ℕ × Plan)) → goes_on (last_place old) it.place ≡ false → tolds ≡ told_all old →
    Adds number it tolds (told_all new) → AddsSegment number it old new
grows_away number it old new tolds away e adds = rw away (subst (λ (ts : List (ℕ × Plan)). Adds number it ts (told_all new)) e adds)

pub told_closed : (ds : List Draft) (d : Draft) (t : ℕ × Plan) → told d ≡ t → map told (ds ++ d ∷ []) ≡ map told ds ++ t ∷ []
told_closed ds d t e = map-append told ds (d ∷ []) ∙ ap (λ u. map told ds ++ u ∷ []) e

pub are_of : (tolds : List (ℕ × Plan)) (segments : List ScheduledSegment) → schedule_segments (plans_of tolds) ≡ segments → AreGrouped tolds →
    AllByRecursion IsAsPlanned (plans_of tolds) → AreOf (plans_of tolds) segments
are_of tolds segments e (shown, apart, few, at) planned = (e, shown, planned, apart, rw (length-map tolds (λ (t : ℕ × Plan). t.1)) few)
