-- What is picked under some ids and meets the days is what the board's part has.
use Rattle.std.proofs.Common.{◌≡◌, ℕ, Bool, true, false, ◌&&◌, ◌+◌, ◌++◌, cond, List, [], ◌∷◌, take, refl, sym, ap, subst, ◌∙◌, Option, Some, None, is_some, IsTrue}
use Rattle.std.specs.FinMap as fin
use Rattle.std.specs.Cmp.Lexicographic.{nat_list_cmp_total}
use Rattle.std.specs.List.{Contains}
use Rattle.std.specs.Option.{option_map_or}
use Rattle.std.proofs.lemmas.Option.{same_Some}
use Rattle.std.proofs.lemmas.Slice.Eq.{bytes_eq-Decides}
use Rattle.values.specs.Name.{name_cmp}
use Rattle.values.proofs.Names.{exact_names}
use Rattle.request.specs.Days.{Days}
use Rattle.duty.specs.Plans.{GroundPlan}
use Rattle.report.specs.Board.{ground_meets, has_period_in, outside_meets}
use Rattle.roster.specs.Holding.{AreJust}
use Rattle.roster.specs.Refusals.{is_member, is_pairing}
use Rattle.roster.specs.State.{State}
use Rattle.roster.specs.declared.state.OutsideEntry.{OutsideEntry}
use Rattle.roster.specs.declared.state.PairingEntry.{PairingEntry}
use Rattle.part.specs.Part.{is_one_of}
use Rattle.part.specs.Shown.{is_ground_in, is_outside_in, is_pairing_in}
use Rattle.part.specs.Sources.{IsGroundOfOne, IsOutsideOfOne, if_passes, pick_where, picked, picked_where}
use Rattle.part.proofs.Picked.{of_one, one_of, picked_at, same_test}
use Rattle.part.proofs.Retained.{get_retained}

module _ {V : Type 0} (test : V → Bool) (m : fin.FinMap name_cmp V) where
  -- what passes, under its id
  abbrev passing : fin.FinMap name_cmp V
  passing = fin.retain_keys m (λ q. option_map_or test (fin.get m q) false)

  passes_so : (o : Option V) → cond (option_map_or test o false) o None ≡ if_passes test o
  passes_so None = refl
  passes_so (Some v) = refl

  passing_at : (q : List ℕ) → fin.get passing q ≡ if_passes test (fin.get m q)
  passing_at q = get_retained m (λ q. option_map_or test (fin.get m q) false) q ∙ passes_so (fin.get m q)

  where_is : (ids : List (List ℕ)) (p : fin.FinMap name_cmp V) → picked_where test m p ids ≡ picked passing p ids
  where_is [] p = refl
  where_is (id ∷ ids) p =
      where_is ids (pick_where test m p id)
      ∙ ap (λ o. picked passing (option_map_or (λ value. fin.insert p id value) o p) ids) (sym (passing_at id))

  where_at : (ids : List (List ℕ)) (q : List ℕ)
      → fin.get (picked_where test m fin.empty ids) q ≡ cond (is_one_of ids q) (if_passes test (fin.get m q)) None
  where_at ids q =
      ap (λ p. fin.get p q) (where_is ids fin.empty)
      ∙ picked_at passing ids q
      ∙ ap (λ o. cond (is_one_of ids q) o None) (passing_at q)

  both_tests : (a b : Bool) (v : V) → cond a (cond b (Some v) None) None ≡ cond (a && b) (Some v) None
  both_tests true b v = refl
  both_tests false b v = refl

  nothing : (a : Bool) → ◌≡◌ {A = Option V} (cond a None None) None
  nothing true = refl
  nothing false = refl

  same_where : (mem : V → Bool) (one : Bool) (o : Option V) → ((v : V) → o ≡ Some v → one ≡ mem v)
      → cond one (if_passes test o) None ≡ cond (option_map_or (λ v. mem v && test v) o false) o None
  same_where mem one None same = nothing one
  same_where mem one (Some v) same = ap (λ a. cond a (cond (test v) (Some v) None) None) (same v refl) ∙ both_tests (mem v) (test v) v

  -- where the ids are those of what is wanted, it is what is wanted and passes
  pub picked_in : (mem : V → Bool) (ids : List (List ℕ)) → ((q : List ℕ) (v : V) → fin.get m q ≡ Some v → is_one_of ids q ≡ mem v)
      → picked_where test m fin.empty ids ≡ fin.retain_keys m (λ q. option_map_or (λ v. mem v && test v) (fin.get m q) false)
  picked_in mem ids same = fin.same_map nat_list_cmp_total exact_names _ _ (λ q.
      where_at ids q
      ∙ same_where mem (is_one_of ids q) (fin.get m q) (same q)
      ∙ sym (get_retained m (λ q. option_map_or (λ v. mem v && test v) (fin.get m q) false) q))

  -- ---- The loop

  picked_one_more : (ids : List (List ℕ)) (p : fin.FinMap name_cmp V) (id : List ℕ)
      → pick_where test m (picked_where test m p ids) id ≡ picked_where test m p (ids ++ id ∷ [])
  picked_one_more [] p id = refl
  picked_one_more (x ∷ xs) p id = picked_one_more xs (pick_where test m p x) id

  pub one_more_in : (first p0 p1 : fin.FinMap name_cmp V) (ids : List (List ℕ)) (i : ℕ) (id : List ℕ) (found kept : Option V)
      → p1 ≡ option_map_or (λ value. fin.insert p0 id value) kept p0 → kept ≡ if_passes test found → found ≡ fin.get m id
      → p0 ≡ picked_where test m first (take i ids) → take (i + 1) ids ≡ take i ids ++ id ∷ []
      → p1 ≡ picked_where test m first (take (i + 1) ids)
  one_more_in first p0 p1 ids i id found kept put passes there so_far more =
      put
      ∙ ap (λ o. option_map_or (λ value. fin.insert p0 id value) o p0) (passes ∙ ap (if_passes test) there)
      ∙ ap (λ p. pick_where test m p id) so_far
      ∙ picked_one_more (take i ids) first id
      ∙ ap (picked_where test m first) (sym more)

-- ---- Of a state

module _ (s : State) (days : Days) where
  pub pairings_are_in : (p0 p1 : fin.FinMap name_cmp PairingEntry) (ids given : List (List ℕ)) → p0 ≡ fin.empty
      → AreJust (λ id. IsTrue (is_pairing s id)) ids → given ≡ ids → p1 ≡ picked_where (has_period_in days) s.pairings p0 given
      → p1 ≡ fin.retain_keys s.pairings (is_pairing_in s days)
  pairings_are_in p0 p1 ids given none just same is =
      is ∙ (λ i. picked_where (has_period_in days) s.pairings (none i) (same i))
      ∙ picked_in (has_period_in days) s.pairings (λ _. true) ids (λ q r there.
      one_of ids q ((just q).1 (ap is_some there)))

  pub grounds_are_in : (p0 p1 : fin.FinMap name_cmp GroundPlan) (members wanted ids given : List (List ℕ)) → p0 ≡ fin.empty
      → AreJust (λ id. IsTrue (is_member s id)) members → wanted ≡ members → AreJust (IsGroundOfOne s wanted) ids → given ≡ ids
      → p1 ≡ picked_where (ground_meets days) s.grounds p0 given
      → p1 ≡ fin.retain_keys s.grounds (is_ground_in s days)
  grounds_are_in p0 p1 members wanted ids given none are same_members just same is =
      is ∙ (λ i. picked_where (ground_meets days) s.grounds (none i) (same i))
      ∙ picked_in (ground_meets days) s.grounds (λ g. is_member s g.crew) ids (λ q g there.
      same_test (is_one_of ids q) (is_member s g.crew)
      (λ one.
      let it = (just q).0 (of_one ids q one) in
      let it_is : it.2.0 ≡ g = same_Some it.2.0 g (sym it.2.1 ∙ there) in
      let crew_is : g.crew ≡ it.0 = sym (ap (λ (x : GroundPlan). x.crew) it_is) ∙ (bytes_eq-Decides it.2.0.crew it.0).0 it.2.2 in
      let among = (are it.0).0 (subst (λ l. Contains l it.0) same_members it.1) in
      ap (is_member s) crew_is ∙ among)
      (λ there_is.
      let among = subst (λ l. Contains l g.crew) (sym same_members) ((are g.crew).1 there_is) in
      one_of ids q ((just q).1 (g.crew, among, (g, there, (bytes_eq-Decides g.crew g.crew).1 refl)))))

  pub outsides_are_in : (p0 p1 : fin.FinMap name_cmp OutsideEntry) (members wanted ids given : List (List ℕ)) → p0 ≡ fin.empty
      → AreJust (λ id. IsTrue (is_member s id)) members → wanted ≡ members → AreJust (IsOutsideOfOne s wanted) ids → given ≡ ids
      → p1 ≡ picked_where (outside_meets days) s.outsides p0 given
      → p1 ≡ fin.retain_keys s.outsides (is_outside_in s days)
  outsides_are_in p0 p1 members wanted ids given none are same_members just same is =
      is ∙ (λ i. picked_where (outside_meets days) s.outsides (none i) (same i))
      ∙ picked_in (outside_meets days) s.outsides (λ o. is_member s o.crew) ids (λ q o there.
      same_test (is_one_of ids q) (is_member s o.crew)
      (λ one.
      let it = (just q).0 (of_one ids q one) in
      let it_is : it.2.0 ≡ o = same_Some it.2.0 o (sym it.2.1 ∙ there) in
      let crew_is : o.crew ≡ it.0 = sym (ap (λ (x : OutsideEntry). x.crew) it_is) ∙ (bytes_eq-Decides it.2.0.crew it.0).0 it.2.2 in
      let among = (are it.0).0 (subst (λ l. Contains l it.0) same_members it.1) in
      ap (is_member s) crew_is ∙ among)
      (λ there_is.
      let among = subst (λ l. Contains l o.crew) (sym same_members) ((are o.crew).1 there_is) in
      one_of ids q ((just q).1 (o.crew, among, (o, there, (bytes_eq-Decides o.crew o.crew).1 refl)))))
