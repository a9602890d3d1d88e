-- The records of `outside_segment` by their keys, and the outside periods that they say with those of `outside`.
use Rattle.std.proofs.Common.{◌≡◌, inl, inr, refl, sym, ap, subst, ◌∙◌, arith, ℕ, suc, ◌+◌, ◌≤◌, true, false, List, [], ◌∷◌, ◌++◌, length-append, map, take, length, cond, Option, Some, None, Result, Ok, Err, MatchResult, slice_get}
use Rattle.std.specs.FinMap as fin
use Rattle.std.specs.Ordering.{eq_by_cmp}
use Rattle.std.specs.Prelude.{is_some}
use Rattle.std.specs.Cmp.Lexicographic.{nat_list_cmp_total}
use Rattle.std.proofs.lemmas.Bool.{cases_Bool}
use Rattle.values.specs.Name.{name_cmp, named_rows}
use Rattle.values.proofs.Names.{alike, itself as name_itself}
use Rattle.sqlite_value.specs.Order.{Row, column}
use Rattle.sqlite_rules.specs.Lists.{Has}
use Rattle.roster.specs.declared.state.OutsideEntry.{OutsideEntry}
use Rattle.tables.specs.Records.{outside_segment_row}
use Rattle.tables.specs.declared.outside.OutsideRecord.{OutsideRecord}
use Rattle.tables.specs.declared.outside_segment.OutsideSegmentRecord.{OutsideSegmentRecord}
use Rattle.entries.proofs.Entries.{Passed, none_passed, next_passed, all_passed, passed_more, stands}
use Rattle.entries.proofs.Following.{has_value}
use Rattle.entries.proofs.Mapping.{nothing_mapped, next_mapped, mapped_at, mapped_place}
use Rattle.entries.proofs.PlanKeys.{period_names_same}
use Rattle.entries.proofs.PlanLemmas.{all_below, blamed, last_or_before, there_within}
use Rattle.entries.specs.OneOutside.{IsOutsideToldBy, GiveNoOutside}
use Rattle.entries.specs.OutsideRows.{AreSegmentsOf, HasNoOutsideGaps, HasTooMany, HasUnmade, IsKeyedOutsideSegment, IsMadeFrom, SaysNoOutside, OutsideSegments, Outsides, OutsidesMade, OutsideSegmentsRead, name_of_outside_segment, outside_segment_name, row_of_keyed_outside_segment}
use Rattle.entries.specs.Mapping.{HasStranger, Mapped, TellsOf}
use Rattle.entries.specs.Faults.{Blames}
use Rattle.entries.specs.declared.fault.LoadFault.{LoadFault}
use Rattle.entries.specs.declared.fault.TableName.TheVariants as table_name
use Rattle.entries.specs.declared.outside_rows.OutsideSegmentKey.{OutsideSegmentKey}
use Rattle.state_rows.proofs.Lists.{one_value, some_same}
use Rattle.state_rows.proofs.Values.{text_is, number_is}

pub names_same : (i j : OutsideSegmentKey) → name_of_outside_segment i ≡ name_of_outside_segment j → i ≡ j
names_same i j e = let it = period_names_same i.outside j.outside i.number j.number e in λ k. record { outside = it.0 k; number = it.1 k }

-- the record whose row it is under a key
module _ (outsides : Outsides) (it : OutsideSegmentRecord) (key : OutsideSegmentKey) (v : OutsideSegmentRecord) (e : outside_segment_row it ≡ row_of_keyed_outside_segment key v) (is : IsKeyedOutsideSegment outsides key v) where
  pub same_record : v ≡ it
  same_record =
      let at_column = λ (k : ℕ). ap (λ (row : Row). column row k) e in
      let same_outside : it.outside ≡ key.outside = text_is (at_column 0) in
      let number : it.number ≡ key.number = number_is (at_column 1) in
      let out : it.out_at ≡ v.out_at = number_is (at_column 2) in
      let back : it.in_at ≡ v.in_at = number_is (at_column 3) in
      λ i. record { outside = (is.outside ∙ sym same_outside) i; number = (is.number ∙ sym number) i; out_at = sym out i; in_at = sym back i }

-- ---- One record

module _ (outsides : Outsides) (it : OutsideSegmentRecord) where
  abbrev pub Tells : Option OutsideSegmentKey → Type 0
  Tells = TellsOf (λ key v found. (found ≡ key) × (v ≡ it)) row_of_keyed_outside_segment (IsKeyedOutsideSegment outsides) (outside_segment_row it)

  pub no_outside : fin.contains_key outsides it.outside ≡ false → Tells None
  no_outside none key v e is =
      absurd (let f = sym none ∙ ap (λ (r : OutsideSegmentRecord). fin.contains_key outsides r.outside) (sym (same_record outsides it key v e is)) ∙ is.of_outside in cc)

  pub tells : fin.contains_key outsides it.outside ≡ true → Tells (Some (record { outside = it.outside; number = it.number }))
  tells known = (
    record { outside = it.outside; number = it.number },
    it,
    (refl, refl),
    refl,
    record { outside = refl; number = refl; of_outside = known },
  )

-- ---- Records in turn

pub none_read : (outsides : Outsides) (records : List OutsideSegmentRecord) → OutsideSegmentsRead outsides records 0 fin.empty
none_read outsides records = record { mapped = λ once. nothing_mapped name_of_outside_segment names_same row_of_keyed_outside_segment (IsKeyedOutsideSegment outsides) }

module _ (outsides : Outsides) (records : List OutsideSegmentRecord) (at : ℕ) (it : OutsideSegmentRecord) (there : slice_get records at ≡ Some it) where
  pub stranger : Tells outsides it None → HasStranger row_of_keyed_outside_segment (IsKeyedOutsideSegment outsides) (map outside_segment_row records)
  stranger none = record { row = outside_segment_row it; here = mapped_at outside_segment_row records at it there; strange = none }

  pub one_read : (m n : OutsideSegments) (key : OutsideSegmentKey) → Tells outsides it (Some key) → OutsideSegmentsRead outsides records at m → n ≡ fin.insert m (name_of_outside_segment key) it →
      OutsideSegmentsRead outsides records (at + 1) n
  one_read m n key told read made =
      let index = told.0 in
      let v = told.1 in
      let same : n ≡ fin.insert m (name_of_outside_segment index) v = made ∙ (λ i. fin.insert m (name_of_outside_segment (told.2.0 i)) (sym told.2.1 i)) in
      record {
        mapped = λ once. subst (Mapped name_of_outside_segment row_of_keyed_outside_segment (IsKeyedOutsideSegment outsides) (take (at + 1) (map outside_segment_row records))) (sym same)
            (next_mapped name_of_outside_segment names_same row_of_keyed_outside_segment (IsKeyedOutsideSegment outsides) m index v (map outside_segment_row records) at
            (mapped_place outside_segment_row records at it there ∙ ap Some told.3) (read.mapped once) told.4 once);
      }

-- ---- The segments of one outside period

-- these are the records of its first segments, in turn
pub record AreInTurn (segments : OutsideSegments) (id : List ℕ) (count : ℕ) (its : List OutsideSegmentRecord) : Type 0 where
  pub many : length its ≡ count
  pub each : (i : ℕ) (it : OutsideSegmentRecord) → slice_get its i ≡ Some it → fin.get segments (outside_segment_name id (i + 1)) ≡ Some it

place_in : {R : Type 0} (row : R → Row) (records : List R) (x : Row) → Has (map row records) x → (i : ℕ) × (it : R) × (slice_get records i ≡ Some it) × (x ≡ row it)
place_in row [] x h = absurd h
place_in row (y ∷ ys) x (inl e) = (0, y, refl, e)
place_in row (y ∷ ys) x (inr h) = let it = place_in row ys x h in (suc it.0, it.1, it.2, it.3)

module _ (segments : OutsideSegments) (id : List ℕ) where
  pub none_in_turn : AreInTurn segments id 0 []
  none_in_turn = record { many = refl; each = λ i it e. absurd (cc) }

  pub next_in_turn : (count : ℕ) (its more : List OutsideSegmentRecord) (it : OutsideSegmentRecord) → AreInTurn segments id count its → fin.get segments (outside_segment_name id (count + 1)) ≡ Some it →
      more ≡ its ++ it ∷ [] → AreInTurn segments id (count + 1) more
  next_in_turn count its more it are there is = record {
    many = ap length is ∙ length-append its (it ∷ []) ∙ (let n = are.many in omega (arith, n));
    each = λ i r e. elim (last_or_before its it i r (ap (λ l. slice_get l i) (sym is) ∙ e)) [
      | inl before ↦ are.each i r before
      | inr last ↦ ap (λ k. fin.get segments (outside_segment_name id (k + 1))) (last.0 ∙ are.many) ∙ there ∙ ap Some last.1
    ];
  }

  pub all_in_turn : (count : ℕ) (its : List OutsideSegmentRecord) → HasNoOutsideGaps segments → AreInTurn segments id count its → fin.get segments (outside_segment_name id (count + 1)) ≡ None → AreSegmentsOf segments id its
  all_in_turn count its whole are none row = (
    λ h.
        let at = place_in outside_segment_row its row h in
        (at.0 + 1, at.1, are.each at.0 at.1 at.2, at.3),
    λ x.
        let at = all_below (λ number. fin.get segments (outside_segment_name id number)) (whole id) count none x.0 x.1 x.2 in
        let here = there_within its at.0 (let less = at.2 in let n = are.many in omega (arith, less, n)) in
        let same : here.0 ≡ x.1 = one_value (are.each at.0 here.0 here.1) (ap (λ k. fin.get segments (outside_segment_name id k)) (sym at.1) ∙ x.2) in
        subst (Has (map outside_segment_row its)) (ap outside_segment_row same ∙ sym x.3) (mapped_at outside_segment_row its at.0 here.0 here.1),
  )

  pub thirteenth : (count : ℕ) (its : List OutsideSegmentRecord) → 13 ≤ count → AreInTurn segments id count its → HasTooMany segments id
  thirteenth count its over are =
      let it = there_within its 12 (let n = are.many in omega (arith, over, n)) in
      (it.0, are.each 12 it.0 it.1)

  pub told : (it : OutsideRecord) (its : List OutsideSegmentRecord) → AreSegmentsOf segments id its → (result : Result OutsideEntry LoadFault) →
      MatchResult result (IsOutsideToldBy it its) (Blames table_name.OutsideSegment (GiveNoOutside it its)) → MatchResult result (IsMadeFrom segments id it) (Blames table_name.OutsideSegment (SaysNoOutside segments id it))
  told it its are (Ok o) is = (its, are, is)
  told it its are (Err fault) blame = blamed table_name.OutsideSegment (GiveNoOutside it its) (SaysNoOutside segments id it) (λ none. inr (its, are, none)) fault blame

-- ---- Outside periods in turn

module _ (outsides : Outsides) (segments : OutsideSegments) where
  -- the outside periods of the records before these are made
  pub record Making (made : fin.FinMap name_cmp OutsideEntry) (left : List (List ℕ × OutsideRecord)) : Type 0 where
    pub known : (id : List ℕ) (o : OutsideEntry) → fin.get made id ≡ Some o → (it : OutsideRecord) × (fin.get outsides id ≡ Some it) × IsMadeFrom segments id it o
    pub passed : Passed (λ id. id) (λ id. fin.contains_key made id ≡ true) outsides left

  abbrev nothing : fin.FinMap name_cmp OutsideEntry
  nothing = fin.empty

  pub none_made : (items : List (List ℕ × OutsideRecord)) → named_rows (λ id. id) items ≡ fin.entries outsides → Making nothing items
  none_made items whole = record {
    known = λ id o e. absurd (let f = sym (fin.get-empty name_cmp id) ∙ e in cc);
    passed = none_passed (λ id. id) (λ id. fin.contains_key nothing id ≡ true) outsides items whole;
  }

  module _ (m : fin.FinMap name_cmp OutsideEntry) (x : List ℕ × OutsideRecord) (left : List (List ℕ × OutsideRecord)) (making : Making m (x ∷ left)) where
    its_record : fin.get outsides x.0 ≡ Some x.1
    its_record = stands (λ (id : List ℕ). id) (λ id. fin.contains_key m id ≡ true) outsides x left making.passed

    pub unmade : SaysNoOutside segments x.0 x.1 → HasUnmade outsides segments
    unmade none = record { id = x.0; it = x.1; here = its_record; unmade = none }

    pub one_made : (n : fin.FinMap name_cmp OutsideEntry) (o : OutsideEntry) → IsMadeFrom segments x.0 x.1 o → n ≡ fin.insert m x.0 o → Making n left
    one_made n o is same =
        let got : (q : List ℕ) → fin.get n q ≡ cond (eq_by_cmp name_cmp q x.0) (Some o) (fin.get m q) = λ q. ap (λ y. fin.get y q) same ∙ fin.get-insert nat_list_cmp_total m x.0 o q in
        let here : (q : List ℕ) → eq_by_cmp name_cmp q x.0 ≡ true → fin.get n q ≡ Some o = λ q tied. got q ∙ ap (λ b. cond b (Some o) (fin.get m q)) tied in
        let elsewhere : (q : List ℕ) → eq_by_cmp name_cmp q x.0 ≡ false → fin.get n q ≡ fin.get m q = λ q apart. got q ∙ ap (λ b. cond b (Some o) (fin.get m q)) apart in
        let kept : (q : List ℕ) → fin.contains_key m q ≡ true → fin.contains_key n q ≡ true =
        λ q was. elim (cases_Bool (eq_by_cmp name_cmp q x.0)) [ inl tied ↦ ap is_some (here q tied) | inr apart ↦ ap is_some (elsewhere q apart) ∙ was ] in
        record {
          known = λ q v e. elim (cases_Bool (eq_by_cmp name_cmp q x.0)) [
            | inl tied ↦
                let value : o ≡ v = some_same (sym (here q tied) ∙ e) in
                let same_id : q ≡ x.0 = alike q x.0 tied in
                (x.1, ap (fin.get outsides) same_id ∙ its_record, subst (λ k. IsMadeFrom segments k x.1 v) (sym same_id) (subst (IsMadeFrom segments x.0 x.1) value is))
            | inr apart ↦ making.known q v (sym (elsewhere q apart) ∙ e)
          ];
          passed = next_passed (λ id. id) (λ id. fin.contains_key n id ≡ true) outsides x left
              (passed_more (λ id. id) (λ id. fin.contains_key m id ≡ true) (λ id. fin.contains_key n id ≡ true) outsides (x ∷ left) kept making.passed)
              (ap is_some (here x.0 (name_itself x.0 x.0 refl)));
        }

  pub all_made : (m : fin.FinMap name_cmp OutsideEntry) (left : List (List ℕ × OutsideRecord)) → left ≡ [] → Making m left → OutsidesMade outsides segments m
  all_made m left none making = record {
    known = making.known;
    all = λ id e.
        let it = has_value (fin.get outsides id) e in
        all_passed (λ id. id) (λ id. fin.contains_key m id ≡ true) outsides (λ i j same. same) left none making.passed id it.0 it.1;
  }
