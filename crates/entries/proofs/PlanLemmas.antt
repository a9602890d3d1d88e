-- A pairing, as its rows give it: what they give is one thing, and what they don't give is refused rightly.
use Rattle.std.proofs.Common.{◌≡◌, ◌⊎◌, inl, inr, refl, sym, ap, ap₂, subst, ◌∙◌, arith, ℕ, zero, suc, ◌+◌, ◌-◌, ◌<◌, ◌≤◌, true, false, List, [], ◌∷◌, ◌++◌, length, map, Option, Some, None, slice_get, length-append, Result, Ok, Err}
use Rattle.std.specs.FinMap as fin
use Rattle.std.specs.Option.{option_map}
use Rattle.std.specs.Result.{MatchResult}
use Rattle.std.proofs.lemmas.Bool.Decides.{leb_tells}
use Rattle.std.proofs.lemmas.Option.{slice_get_within, slice_get_cases}
use Rattle.duty.specs.Pairings.{pairing_fault, actual_fault}
use Rattle.duty.specs.Plans.{Plan, ActualTimes, as_planned, plan}
use Rattle.duty.specs.Words.{checked}
use Rattle.duty.specs.declared.fault.DutyFault.{DutyFault}
use Rattle.duty.specs.declared.fdp.Fdp.{Fdp}
use Rattle.duty.specs.declared.segment.BlockTimes.{BlockTimes}
use Rattle.duty.specs.declared.segment.Segment.{Segment}
use Rattle.stored_json.specs.Instants.{is_instant}
use Rattle.roster.specs.declared.state.PairingEntry.{PairingEntry}
use Rattle.tables.specs.declared.period.PeriodRecord.{PeriodRecord}
use Rattle.tables.specs.declared.segment.SegmentRecord.{SegmentRecord}
use Rattle.state_rows.proofs.FewPeriods.{few_periods}
use Rattle.state_rows.proofs.Lists.{same_list, some_same, one_value}
use Rattle.entries.proofs.SamePairings.{fdps_same}
use Rattle.entries.specs.PlanRows.{Periods, Segments, period_name, segment_name, HasNoGap, HasNoGaps, AreUngapped, EachBeside, AreTimes, block_pair, actual_pair, planned_segment, IsSegment, HasRowOf, AreSegments, HasNoSegments, IsActualOf, HasSegments, IsReadPeriod, HasPeriodRow, ArePeriodsRead, HasNoPeriods, IsPairingOfRows}
use Rattle.entries.specs.Faults.{Blames}
use Rattle.state_rows.specs.Rows.{times_flown}
use Rattle.entries.specs.declared.fault.LoadFault.{LoadFault}
use Rattle.entries.specs.declared.fault.LoadFault.TheVariants.{NotABook, Version, Damaged, Fault}
use Rattle.entries.specs.declared.fault.TableName as name

-- ---- What is made, and what is refused

made_of : {A : Type 0} (fault : Option DutyFault) (x y : A) → checked fault x ≡ Ok y → (fault ≡ None) × (x ≡ y)
made_of None x y e = (refl, cc)
made_of (Some fault) x y e = absurd (cc)

refused_of : {A : Type 0} (fault : Option DutyFault) (x : A) (why : DutyFault) → checked fault x ≡ Err why → fault ≡ None → ⊥
refused_of None x why e none = absurd (cc)
refused_of (Some fault) x why e none = absurd (cc)

-- ---- Lists side by side

-- the place of an element after one more
pub last_or_before : {A : Type 0} (xs : List A) (x : A) (i : ℕ) (a : A) → slice_get (xs ++ x ∷ []) i ≡ Some a → (slice_get xs i ≡ Some a) ⊎ ((i ≡ length xs) × (x ≡ a))
last_or_before [] x zero a e = inr (refl, some_same e)
last_or_before [] x (suc i) a e = absurd (cc)
last_or_before (y ∷ xs) x zero a e = inl e
last_or_before (y ∷ xs) x (suc i) a e = elim (last_or_before xs x i a e) [ inl h ↦ inl h | inr h ↦ inr ((let n = h.0 in omega (arith, n)), h.1) ]

pub each_more : {A B : Type 0} (P : ℕ → A → B → Type 0) (xs : List A) (ys : List B) (x : A) (y : B) → length ys ≡ length xs → EachBeside P xs ys → P (length xs) x y →
    EachBeside P (xs ++ x ∷ []) (ys ++ y ∷ [])
each_more P xs ys x y count all last i a b ea eb =
    elim (last_or_before xs x i a ea) [
      | inl p ↦ elim (last_or_before ys y i b eb) [
        | inl q ↦ all i a b p q
        | inr q ↦ absurd (let n = slice_get_within xs i a p in let m = q.0 in omega (arith, n, m, count))
      ]
      | inr p ↦ elim (last_or_before ys y i b eb) [
        | inl q ↦ absurd (let n = slice_get_within ys i b q in let m = p.0 in omega (arith, n, m, count))
        | inr q ↦ subst (λ k. P k a b) (sym p.0) (subst (λ c. P (length xs) c b) p.1 (subst (λ c. P (length xs) x c) q.1 last))
      ]
    ]

pub there_within : {A : Type 0} (xs : List A) (i : ℕ) → i < length xs → (a : A) × (slice_get xs i ≡ Some a)
there_within xs i below = elim (slice_get_cases xs i).1 [
  | inl p ↦ (p.0, p.2)
  | inr p ↦ absurd (omega (arith, below, p.0))
]

-- ---- Numbers from 1 without a gap

module _ {V : Type 0} (get : ℕ → Option V) (whole : HasNoGap get) where
  none_from : (n : ℕ) → get (n + 1) ≡ None → (d k : ℕ) → k ≡ n + 1 + d → (it : V) → get k ≡ Some it → ⊥
  none_from n none zero k at it e = let same : k ≡ n + 1 = omega (arith, at) in let f = sym none ∙ ap get (sym same) ∙ e in cc
  none_from n none (suc d) k at it e = elim (whole k it e) [
    | inl one ↦ omega (arith, at, one)
    | inr p ↦ let next = p.2 in none_from n none d p.0 (omega (arith, at, next)) p.1 p.3
  ]

  place_of : (k : ℕ) (it : V) → get k ≡ Some it → (i : ℕ) × (k ≡ i + 1)
  place_of k it e = elim (whole k it e) [ inl one ↦ (0, omega (arith, one)) | inr p ↦ (p.0, sym p.2) ]

  pub all_below : (n : ℕ) → get (n + 1) ≡ None → (k : ℕ) (it : V) → get k ≡ Some it → (i : ℕ) × (k ≡ i + 1) × (i < n)
  all_below n none k it e =
      let at = place_of k it e in
      let is = at.1 in
      elim (leb_tells n at.0) [
        | inl beyond ↦ absurd (let over = beyond.1 in none_from n none (at.0 - n) k (omega (arith, is, over)) it e)
        | inr below ↦ (at.0, at.1, below.1)
      ]

-- what stands in turn under the numbers from 1, and nothing else does
abbrev pub Listed : {V A : Type 0} → (ℕ → Option V) → (ℕ → V → A → Type 0) → List A → Type 0
Listed {V} {A} get Is xs = ((i : ℕ) (x : A) → slice_get xs i ≡ Some x → (it : V) × (get (i + 1) ≡ Some it) × Is i it x)
    × ((k : ℕ) (it : V) → get k ≡ Some it → (i : ℕ) × (k ≡ i + 1) × (i < length xs))

module _ {V A : Type 0} (get : ℕ → Option V) where
  listed_in : (Is Are : ℕ → V → A → Type 0) (xs ys : List A) → Listed get Is xs → Listed get Are ys → ((i : ℕ) (it : V) (x y : A) → Is i it x → Are i it y → x ≡ y) →
      (i : ℕ) (x : A) → slice_get xs i ≡ Some x → slice_get ys i ≡ Some x
  listed_in Is Are xs ys p q once i x e =
      let it = p.0 i x e in
      let at = q.1 (i + 1) it.0 it.1 in
      let n = at.1 in
      let same : at.0 ≡ i = omega (arith, n) in
      let y = there_within ys i (subst (λ k. k < length ys) same at.2) in
      let other = q.0 i y.0 y.1 in
      let alike : other.0 ≡ it.0 = one_value other.1 it.1 in
      y.1 ∙ ap Some (sym (once i it.0 x y.0 it.2 (subst (λ v. Are i v y.0) alike other.2)))

  pub same_listed : (Is Are : ℕ → V → A → Type 0) (xs ys : List A) → Listed get Is xs → Listed get Are ys → ((i : ℕ) (it : V) (x y : A) → Is i it x → Are i it y → x ≡ y) → xs ≡ ys
  same_listed Is Are xs ys p q once = same_list xs ys (listed_in Is Are xs ys p q once) (listed_in Are Is ys xs q p (λ i it x y a b. sym (once i it y x b a)))

-- ---- Times

pub times_once : (a b : Option ℕ) (t u : Option (ℕ × ℕ)) → AreTimes a b t → AreTimes a b u → t ≡ u
times_once None None None None p q = refl
times_once None None None (Some y) p q = absurd q
times_once None None (Some x) u p q = absurd p
times_once None (Some b) t u p q = absurd p
times_once (Some a) None t u p q = absurd p
times_once (Some a) (Some b) None u p q = absurd p
times_once (Some a) (Some b) (Some x) None p q = absurd q
times_once (Some a) (Some b) (Some x) (Some y) p q = ap Some (p.0 ∙ sym q.0)

pub block_pairs_same : (t u : Option BlockTimes) → option_map block_pair t ≡ option_map block_pair u → t ≡ u
block_pairs_same None None e = refl
block_pairs_same None (Some y) e = absurd (cc)
block_pairs_same (Some x) None e = absurd (cc)
block_pairs_same (Some x) (Some y) e =
    let both : block_pair x ≡ block_pair y = some_same e in
    let same : x ≡ y = λ i. record { block_out = (both i).0; block_in = (both i).1 } in
    ap Some same

-- ---- The segments of a period

module _ (rows : Segments) (id : List ℕ) (number : ℕ) where
  abbrev Planned : ℕ → SegmentRecord → Segment → Type 0
  Planned i it segment = segment ≡ planned_segment it

  -- those of a draft, and those of a period
  drafted : (segments : List Segment) (times : List (Option BlockTimes)) → HasNoGaps rows → AreSegments rows id number segments times → Listed (λ k. fin.get rows (segment_name id number k)) Planned segments
  drafted segments times whole are = (
    λ i x e.
        let t = there_within times i (let n = slice_get_within segments i x e in let c = are.count in omega (arith, n, c)) in
        let it = are.each i x t.0 e t.1 in
        (it.0, it.1, it.2.planned),
    all_below (λ k. fin.get rows (segment_name id number k)) (whole id number) (length segments) are.none_after,
  )

  kept : (fdp : Fdp) (actual : Option ActualTimes) → HasSegments rows id number fdp actual → Listed (λ k. fin.get rows (segment_name id number k)) Planned fdp.segments
  kept fdp actual has = (λ i x e. let it = has.each i x e in (it.0, it.1, it.2.planned), has.all)

  planned_once : (i : ℕ) (it : SegmentRecord) (x y : Segment) → Planned i it x → Planned i it y → x ≡ y
  planned_once i it x y p q = p ∙ sym q

  pub same_segments : (segments : List Segment) (times : List (Option BlockTimes)) → HasNoGaps rows → AreSegments rows id number segments times → (fdp : Fdp) (actual : Option ActualTimes) → HasSegments rows id number fdp actual →
      segments ≡ fdp.segments
  same_segments segments times whole are fdp actual has =
      same_listed (λ k. fin.get rows (segment_name id number k)) Planned Planned segments fdp.segments (drafted segments times whole are) (kept fdp actual has) planned_once

  pub segments_kept : (fdp its : Fdp) (actual flight : Option ActualTimes) → HasSegments rows id number fdp actual → HasSegments rows id number its flight → fdp.segments ≡ its.segments
  segments_kept fdp its actual flight has also =
      same_listed (λ k. fin.get rows (segment_name id number k)) Planned Planned fdp.segments its.segments (kept fdp actual has) (kept its flight also) planned_once

  -- ---- A draft of the period

  module _ (segments : List Segment) (times : List (Option BlockTimes)) (whole : HasNoGaps rows) (are : AreSegments rows id number segments times) where
    pub segments_told : (actual : Option ActualTimes) (pair : Option (ℕ × ℕ)) (report release : ℕ) → IsActualOf number pair times actual →
        HasSegments rows id number (record { planned_report = report; report = report; release = release; segments = segments }) actual
    segments_told actual pair report release is = record {
      each = λ i segment e.
          let t = there_within times i (let n = slice_get_within segments i segment e in let c = are.count in omega (arith, n, c)) in
          let it = are.each i segment t.0 e t.1 in
          (it.0, it.1, subst (λ u. IsSegment it.0 segment u) (is.each i t.0 t.1) it.2);
      all = (drafted segments times whole are).1;
    }

    -- the actual of a period that the rows give is one of the draft
    pub actual_told : (it : PeriodRecord) (pair : Option (ℕ × ℕ)) → AreTimes it.act_report it.act_release pair → (fdp : Fdp) (actual : Option ActualTimes) → IsReadPeriod rows id number it fdp actual →
        IsActualOf number pair times actual
    actual_told it pair pair_is fdp actual is =
        let same = same_segments segments times whole are fdp actual is.has_segments in
        let c = are.count in
        record {
          times_are = times_once it.act_report it.act_release (option_map actual_pair actual) pair is.flown pair_is;
          each = λ i t e.
              let n = slice_get_within times i t e in
              let segment = there_within segments i (omega (arith, n, c)) in
              let row = are.each i segment.0 t segment.1 e in
              let other = is.has_segments.each i segment.0 (ap (λ l. slice_get l i) (sym same) ∙ segment.1) in
              let alike : other.0 ≡ row.0 = one_value other.1 row.1 in
              let flown = subst (λ v. IsSegment v segment.0 (times_flown actual i)) alike other.2 in
              block_pairs_same t (times_flown actual i) (times_once row.0.act_out row.0.act_in _ _ row.2.flown flown.flown);
          whole = λ a e.
              let w = is.whole a e in
              (w.0, are.count ∙ ap length same ∙ w.1, w.2);
        }

pub period_told : (rows : Segments) (id : List ℕ) (number : ℕ) (segments : List Segment) (times : List (Option BlockTimes)) (it : PeriodRecord) (pair : Option (ℕ × ℕ)) (actual : Option ActualTimes) (report release : ℕ) →
    HasNoGaps rows → AreSegments rows id number segments times → IsActualOf number pair times actual → AreTimes it.act_report it.act_release pair →
    report ≡ it.report_at → is_instant it.report_at ≡ true → release ≡ it.release_at → is_instant it.release_at ≡ true →
    IsReadPeriod rows id number it (record { planned_report = report; report = report; release = release; segments = segments }) actual
period_told rows id number segments times it pair actual report release whole are is pair_is a b c d = record {
  planned = refl;
  report = a;
  release = c;
  report_instant = ap is_instant a ∙ b;
  release_instant = ap is_instant c ∙ d;
  few = are.few;
  flown = subst (λ t. AreTimes it.act_report it.act_release t) (sym is.times_are) pair_is;
  whole = λ x e. let w = is.whole x e in (w.0, sym are.count ∙ w.1, w.2);
  has_segments = segments_told rows id number segments times whole are actual pair report release is;
}

-- ---- What is refused of a period

module _ (rows : Segments) (id : List ℕ) (number : ℕ) (it : PeriodRecord) where
  abbrev pub NoPeriod : Type 0
  NoPeriod = (fdp : Fdp) (actual : Option ActualTimes) → IsReadPeriod rows id number it fdp actual → ⊥

  pub bad_report : is_instant it.report_at ≡ false → NoPeriod
  bad_report bad fdp actual is = absurd (let e = sym bad ∙ sym (ap is_instant is.report) ∙ is.report_instant in cc)

  pub bad_release : is_instant it.release_at ≡ false → NoPeriod
  bad_release bad fdp actual is = absurd (let e = sym bad ∙ sym (ap is_instant is.release) ∙ is.release_instant in cc)

  pub bad_times : ((times : Option (ℕ × ℕ)) → AreTimes it.act_report it.act_release times → ⊥) → NoPeriod
  bad_times bad fdp actual is = bad (option_map actual_pair actual) is.flown

  pub bad_segments : HasNoSegments rows id number → NoPeriod
  bad_segments bad fdp actual is =
      let at = is.has_segments.all bad.0 bad.1 bad.2 in
      let n = at.1 in
      let m = at.2 in
      elim bad.3 [
        | inl high ↦ let few = is.few in omega (arith, high, few, n, m)
        | inr none ↦
            let segment = there_within fdp.segments at.0 at.2 in
            let row = is.has_segments.each at.0 segment.0 segment.1 in
            let alike : row.0 ≡ bad.1 = one_value row.1 (ap (λ k. fin.get rows (segment_name id number k)) (sym at.1) ∙ bad.2) in
            none segment.0 (times_flown actual at.0) (subst (λ v. IsSegment v segment.0 (times_flown actual at.0)) alike row.2)
      ]

  pub bad_actual : (segments : List Segment) (times : List (Option BlockTimes)) (pair : Option (ℕ × ℕ)) → HasNoGaps rows → AreSegments rows id number segments times → AreTimes it.act_report it.act_release pair →
      ((actual : Option ActualTimes) → IsActualOf number pair times actual → ⊥) → NoPeriod
  bad_actual segments times pair whole are pair_is bad fdp actual is = bad actual (actual_told rows id number segments times whole are it pair pair_is fdp actual is)

-- ---- The loops

pub blamed : (its : name.TableName) (Why Also : Type 0) → (Why → Also) → (fault : LoadFault) → Blames its Why fault → Blames its Also fault
blamed its Why Also so NotABook blame = blame
blamed its Why Also so Version blame = blame
blamed its Why Also so (Damaged other) blame = (blame.0, so blame.1)
blamed its Why Also so (Fault fault) blame = blame

-- a fault that a callee blames is blamed by its caller
pub passed_on : {A : Type 0} (Is : A → Type 0) (its : name.TableName) (Why Also : Type 0) (result : Result A LoadFault) (fault : LoadFault) → result ≡ Err fault → (Why → Also) → Blames its Why fault → MatchResult result Is (Blames its Also)
passed_on Is its Why Also result fault is so blame = subst (λ r. MatchResult r Is (Blames its Also)) (sym is) (blamed its Why Also so fault blame)

module _ (rows : Segments) (id : List ℕ) (number : ℕ) where
  pub segments_more : (planned xs : List Segment) (flown ys : List (Option BlockTimes)) (segment : Segment) (times : Option BlockTimes) (it : SegmentRecord) (place : ℕ) →
      length planned ≡ place → length flown ≡ place → EachBeside (HasRowOf rows id number) planned flown → fin.get rows (segment_name id number (place + 1)) ≡ Some it → IsSegment it segment times →
      xs ≡ planned ++ segment ∷ [] → ys ≡ flown ++ times ∷ [] → (length xs ≡ place + 1) × (length ys ≡ place + 1) × EachBeside (HasRowOf rows id number) xs ys
  segments_more planned xs flown ys segment times it place a b each there is more also = (
    ap length more ∙ length-append planned (segment ∷ []) ∙ (let n = a in omega (arith, n)),
    ap length also ∙ length-append flown (times ∷ []) ∙ (let n = b in omega (arith, n)),
    subst (λ l. EachBeside (HasRowOf rows id number) l ys) (sym more) (subst (λ l. EachBeside (HasRowOf rows id number) (planned ++ segment ∷ []) l) (sym also)
        (each_more (HasRowOf rows id number) planned flown segment times (b ∙ sym a) each (it, ap (λ k. fin.get rows (segment_name id number (k + 1))) a ∙ there, is))),
  )

  pub too_many_segments : (planned : List Segment) (flown : List (Option BlockTimes)) (place : ℕ) → 13 ≤ place → length planned ≡ place → length flown ≡ place → EachBeside (HasRowOf rows id number) planned flown → HasNoSegments rows id number
  too_many_segments planned flown place over a b each =
      let x = there_within planned 12 (omega (arith, over, a)) in
      let y = there_within flown 12 (omega (arith, over, b)) in
      let it = each 12 x.0 y.0 x.1 y.1 in
      (13, it.0, it.1, inl (omega arith))

  pub no_segment : (place : ℕ) (it : SegmentRecord) → fin.get rows (segment_name id number (place + 1)) ≡ Some it → ((segment : Segment) (times : Option BlockTimes) → IsSegment it segment times → ⊥) → HasNoSegments rows id number
  no_segment place it there none = (place + 1, it, there, inr none)

  pub segments_done : (planned : List Segment) (flown : List (Option BlockTimes)) (place : ℕ) → place < 13 → length planned ≡ place → length flown ≡ place → EachBeside (HasRowOf rows id number) planned flown →
      fin.get rows (segment_name id number (place + 1)) ≡ None → AreSegments rows id number planned flown
  segments_done planned flown place few a b each none = record {
    count = b ∙ sym a;
    few = omega (arith, few, a);
    each = each;
    none_after = ap (λ k. fin.get rows (segment_name id number (k + 1))) a ∙ none;
  }

-- ---- An actual

pub none_flown : (number : ℕ) (flown : List (Option BlockTimes)) → ((i : ℕ) (t : Option BlockTimes) → slice_get flown i ≡ Some t → t ≡ None) → IsActualOf number None flown None
none_flown number flown none = record { times_are = refl; each = none; whole = λ a e. absurd (cc) }

pub some_flown : (number : ℕ) (flown : List (Option BlockTimes)) (i : ℕ) (t : BlockTimes) → slice_get flown i ≡ Some (Some t) → (actual : Option ActualTimes) → IsActualOf number None flown actual → ⊥
some_flown number flown i t there None is = absurd (let e = is.each i (Some t) there in cc)
some_flown number flown i t there (Some a) is = absurd (let e = is.times_are in cc)

pub not_all_flown : (number : ℕ) (pair : ℕ × ℕ) (flown : List (Option BlockTimes)) → (i : ℕ) × (slice_get flown i ≡ Some None) → (actual : Option ActualTimes) → IsActualOf number (Some pair) flown actual → ⊥
not_all_flown number pair flown at None is = absurd (let e = is.times_are in cc)
not_all_flown number pair flown at (Some a) is =
    let e = is.each at.0 None at.1 in
    let w = is.whole a refl in
    let n = slice_get_within flown at.0 None at.1 in
    let c = w.1 in
    let t = there_within a.segments at.0 (omega (arith, n, c)) in
    absurd (let f = e ∙ t.1 in cc)

-- the times of a list that all are there
all_there : (all : List BlockTimes) (i : ℕ) (t : Option BlockTimes) → slice_get (map Some all) i ≡ Some t → t ≡ slice_get all i
all_there [] i t e = absurd (cc)
all_there (x ∷ all) zero t e = sym (some_same e)
all_there (x ∷ all) (suc i) t e = all_there all i t e

count_of_all : (all : List BlockTimes) → length (map Some all) ≡ length all
count_of_all [] = refl
count_of_all (x ∷ all) = let n = count_of_all all in omega (arith, n)

abbrev pub drafted_actual : ℕ → ℕ → ℕ → List BlockTimes → ActualTimes
drafted_actual number report release all = record { period = number; report = report; release = release; segments = all }

pub is_actual : (number report release : ℕ) (flown : List (Option BlockTimes)) (all : List BlockTimes) (a : ActualTimes) → flown ≡ map Some all →
    checked (actual_fault (drafted_actual number report release all)) (drafted_actual number report release all) ≡ Ok a → IsActualOf number (Some (report, release)) flown (Some a)
is_actual number report release flown all a are ok =
    let made = made_of (actual_fault (drafted_actual number report release all)) (drafted_actual number report release all) a ok in
    subst (λ x. IsActualOf number (Some (report, release)) flown (Some x)) made.1 (record {
      times_are = refl;
      each = λ i t e. all_there all i t (ap (λ l. slice_get l i) (sym are) ∙ e);
      whole = λ x e. let same : drafted_actual number report release all ≡ x = some_same e in
          (sym (ap (λ y. y.period) same), ap length are ∙ count_of_all all ∙ ap (λ y. length y.segments) same, subst (λ y. actual_fault y ≡ None) same made.0);
    })

same_times : (all others : List BlockTimes) → ((i : ℕ) (t : Option BlockTimes) → slice_get (map Some all) i ≡ Some t → t ≡ slice_get others i) → length all ≡ length others → all ≡ others
same_times [] [] e n = refl
same_times [] (y ∷ ys) e n = absurd (omega (arith, n))
same_times (x ∷ xs) [] e n = absurd (omega (arith, n))
same_times (x ∷ xs) (y ∷ ys) e n = ap₂ (λ a l. a ∷ l) (some_same (e zero (Some x) refl)) (same_times xs ys (λ i t f. e (suc i) t f) (omega (arith, n)))

pub refused_actual : (number report release : ℕ) (given : Option (ℕ × ℕ)) (flown : List (Option BlockTimes)) (all : List BlockTimes) (fault : DutyFault) → given ≡ Some (report, release) → flown ≡ map Some all →
    checked (actual_fault (drafted_actual number report release all)) (drafted_actual number report release all) ≡ Err fault → (actual : Option ActualTimes) → IsActualOf number given flown actual → ⊥
refused_actual number report release given flown all fault there are err None is = absurd (let e = is.times_are ∙ there in cc)
refused_actual number report release given flown all fault there are err (Some a) is =
    let w = is.whole a refl in
    let pair : actual_pair a ≡ (report, release) = some_same (is.times_are ∙ there) in
    let times : all ≡ a.segments = same_times all a.segments (λ i t e. is.each i t (ap (λ l. slice_get l i) are ∙ e)) (sym (count_of_all all) ∙ sym (ap length are) ∙ w.1) in
    let same : a ≡ drafted_actual number report release all = λ i. record { period = w.0 i; report = (pair i).0; release = (pair i).1; segments = sym times i } in
    refused_of (actual_fault (drafted_actual number report release all)) (drafted_actual number report release all) fault err (sym (ap actual_fault same) ∙ w.2)

-- ---- The periods of a pairing

module _ (periods : Periods) (rows : Segments) (id : List ℕ) where
  pub periods_more : (planned xs : List Fdp) (actuals ys : List (Option ActualTimes)) (fdp : Fdp) (actual : Option ActualTimes) (it : PeriodRecord) (place : ℕ) →
      length planned ≡ place → length actuals ≡ place → EachBeside (HasPeriodRow periods rows id) planned actuals → fin.get periods (period_name id (place + 1)) ≡ Some it → IsReadPeriod rows id (place + 1) it fdp actual →
      xs ≡ planned ++ fdp ∷ [] → ys ≡ actuals ++ actual ∷ [] → (length xs ≡ place + 1) × (length ys ≡ place + 1) × EachBeside (HasPeriodRow periods rows id) xs ys
  periods_more planned xs actuals ys fdp actual it place a b each there is more also = (
    ap length more ∙ length-append planned (fdp ∷ []) ∙ (let n = a in omega (arith, n)),
    ap length also ∙ length-append actuals (actual ∷ []) ∙ (let n = b in omega (arith, n)),
    subst (λ l. EachBeside (HasPeriodRow periods rows id) l ys) (sym more) (subst (λ l. EachBeside (HasPeriodRow periods rows id) (planned ++ fdp ∷ []) l) (sym also)
        (each_more (HasPeriodRow periods rows id) planned actuals fdp actual (b ∙ sym a) each (it, ap (λ k. fin.get periods (period_name id (k + 1))) a ∙ there, subst (λ k. IsReadPeriod rows id (k + 1) it fdp actual) (sym a) is))),
  )

  pub no_period : (place : ℕ) (it : PeriodRecord) → fin.get periods (period_name id (place + 1)) ≡ Some it → ((fdp : Fdp) (actual : Option ActualTimes) → IsReadPeriod rows id (place + 1) it fdp actual → ⊥) → HasNoPeriods periods rows id
  no_period place it there none = (place + 1, it, there, inr none)

  pub too_many_periods : (it : PeriodRecord) → fin.get periods (period_name id 11) ≡ Some it → HasNoPeriods periods rows id
  too_many_periods it there = (11, it, there, inl (omega arith))

  pub periods_done : (planned : List Fdp) (actuals : List (Option ActualTimes)) (place : ℕ) → length planned ≡ place → length actuals ≡ place → EachBeside (HasPeriodRow periods rows id) planned actuals →
      fin.get periods (period_name id (place + 1)) ≡ None → ArePeriodsRead periods rows id planned actuals
  periods_done planned actuals place a b each none = record {
    count = b ∙ sym a;
    each = each;
    none_after = ap (λ k. fin.get periods (period_name id (k + 1))) a ∙ none;
  }

-- ---- The pairing

pub same_plan : (fdps : List Fdp) → ((i : ℕ) (fdp : Fdp) → slice_get fdps i ≡ Some fdp → fdp.planned_report ≡ fdp.report) → map as_planned fdps ≡ fdps
same_plan [] each = refl
same_plan (f ∷ fdps) each =
    let first : f.planned_report ≡ f.report = each zero f refl in
    let same : as_planned f ≡ f = λ i. record { planned_report = sym first i; report = f.report; release = f.release; segments = f.segments } in
    ap₂ (λ x l. x ∷ l) same (same_plan fdps (λ i fdp e. each (suc i) fdp e))

module _ (periods : Periods) (rows : Segments) (id : List ℕ) where
  -- a period of a list, with its actual beside it
  abbrev pub Beside : List (Option ActualTimes) → ℕ → PeriodRecord → Fdp → Type 0
  Beside actuals i it fdp = (actual : Option ActualTimes) × (slice_get actuals i ≡ Some actual) × IsReadPeriod rows id (i + 1) it fdp actual

  pub beside : (planned : List Fdp) (actuals : List (Option ActualTimes)) → length actuals ≡ length planned → EachBeside (HasPeriodRow periods rows id) planned actuals →
      (i : ℕ) (fdp : Fdp) → slice_get planned i ≡ Some fdp → (it : PeriodRecord) × (fin.get periods (period_name id (i + 1)) ≡ Some it) × Beside actuals i it fdp
  beside planned actuals count each i fdp e =
      let a = there_within actuals i (let n = slice_get_within planned i fdp e in omega (arith, n, count)) in
      let it = each i fdp a.0 e a.1 in
      (it.0, it.1, (a.0, a.1, it.2))

  pub beside_once : (some others : List (Option ActualTimes)) (i : ℕ) (it : PeriodRecord) (x y : Fdp) → Beside some i it x → Beside others i it y → x ≡ y
  beside_once some others i it x y p q =
      fdps_same x y p.2.planned q.2.planned (p.2.report ∙ sym q.2.report) (p.2.release ∙ sym q.2.release)
      (segments_kept rows id (i + 1) x y p.0 q.0 p.2.has_segments q.2.has_segments)

  module _ (planned : List Fdp) (actuals : List (Option ActualTimes)) (whole : AreUngapped periods) (are : ArePeriodsRead periods rows id planned actuals) where
    as_listed : Listed (λ k. fin.get periods (period_name id k)) (Beside actuals) planned
    as_listed = (beside planned actuals are.count are.each, all_below (λ k. fin.get periods (period_name id k)) (whole id) (length planned) are.none_after)

    each_as_planned : map as_planned planned ≡ planned
    each_as_planned = same_plan planned (λ i fdp e. (beside planned actuals are.count are.each i fdp e).2.2.planned)

    -- a pairing that the rows give has just these periods
    same_periods : (r : PairingEntry) → IsPairingOfRows periods rows id r → planned ≡ r.plan.periods
    same_periods r told = same_listed (λ k. fin.get periods (period_name id k)) (Beside actuals) (Beside r.actuals) planned r.plan.periods as_listed
        (beside r.plan.periods r.actuals told.places told.each, told.all) (beside_once actuals r.actuals)

    pub refused_plan : (fault : DutyFault) → checked (pairing_fault (plan id planned)) (plan id planned) ≡ Err fault → (r : PairingEntry) → IsPairingOfRows periods rows id r → ⊥
    refused_plan fault err r told =
        let periods_are : map as_planned planned ≡ r.plan.periods = each_as_planned ∙ same_periods r told in
        let same : r.plan ≡ plan id planned = λ i. record { id = told.named i; periods = sym periods_are i } in
        refused_of (pairing_fault (plan id planned)) (plan id planned) fault err (sym (ap pairing_fault same) ∙ told.plan)

    pub told_plan : (p : Plan) → checked (pairing_fault (plan id planned)) (plan id planned) ≡ Ok p →
        IsPairingOfRows periods rows id (record { plan = p; actuals = actuals; captain = None; first_officer = None })
    told_plan p ok =
        let made = made_of (pairing_fault (plan id planned)) (plan id planned) p ok in
        let periods_are : planned ≡ p.periods = sym each_as_planned ∙ ap (λ x. x.periods) made.1 in
        record {
          named = sym (ap (λ x. x.id) made.1);
          plan = sym (ap pairing_fault made.1) ∙ made.0;
          places = are.count ∙ ap length periods_are;
          each = λ i fdp actual e f. are.each i fdp actual (ap (λ l. slice_get l i) periods_are ∙ e) f;
          all = λ k it e. let at = as_listed.1 k it e in (at.0, at.1, subst (λ l. at.0 < length l) periods_are at.2);
        }

  pub untold : HasNoPeriods periods rows id → (r : PairingEntry) → IsPairingOfRows periods rows id r → ⊥
  untold bad r told =
      let at = told.all bad.0 bad.1 bad.2 in
      let n = at.1 in
      let m = at.2 in
      elim bad.3 [
        | inl high ↦ let few = few_periods r.plan told.plan in omega (arith, high, few, n, m)
        | inr none ↦
            let fdp = there_within r.plan.periods at.0 at.2 in
            let row = beside r.plan.periods r.actuals told.places told.each at.0 fdp.0 fdp.1 in
            let alike : row.0 ≡ bad.1 = one_value row.1 (ap (λ k. fin.get periods (period_name id k)) (sym at.1) ∙ bad.2) in
            none fdp.0 row.2.0 (subst (λ v. IsReadPeriod rows id bad.0 v fdp.0 row.2.0) alike (subst (λ k. IsReadPeriod rows id k row.0 fdp.0 row.2.0) (sym at.1) row.2.2))
      ]
