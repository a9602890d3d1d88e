-- The rows of a tree, as a map under the names of their keys.
use Rattle.std.proofs.Common.{◌≡◌, ℕ, List, [], ◌∷◌, refl, sym, ap, subst, ◌∙◌, cond, Bool, true, false, ◌&&◌, Option, Some, None, is_some, length}
use Rattle.std.proofs.lemmas.List.{length-map}
use Rattle.std.specs.declared.cmp.Ordering.{Ordering}
use Rattle.std.specs.declared.cmp.Ordering.TheVariants.{Less, Equal, Greater}
use Rattle.std.specs.Ordering.{is_eq, is_lt, eq_by_cmp, match_ordering}
use Rattle.std.specs.Cmp.Lexicographic.{nat_list_cmp_total}
use Rattle.std.specs.FinMap.{FinMap, empty, get, len, entries, insert, remove, from_entries, find, put, same_map}
use Rattle.std.specs.FinMap.{entries_sorted, get-empty, get-entries, len-entries, get-insert, get-remove, get-from_entries}
use Rattle.std.specs.FinMap.Entries.{find-put, by_order, is_sorted, below_all, same_entries}
use Rattle.std.specs.List.Sorted.{IsStrictlySortedBy}
use Rattle.std.specs.List.{AllByRecursion}
use Rattle.std.specs.BTreeMap.{is_at, insert_entry}
use Rattle.std.specs.Map.{keys_of, lookup, remove_entry, set_value}
use lib.Dec.{T}
use Rattle.values.specs.Name.{name_cmp, named_rows, changed_at}
use Rattle.values.proofs.Names.{exact_names, alike, itself, changed_some, changed_none}

both_true : (a b : Bool) → T a → T b → T (a && b)
both_true true b p q = q
both_true false b p q = absurd p

first_true : (a b : Bool) → T (a && b) → T a
first_true true b p = tt
first_true false b p = p

second_true : (a b : Bool) → T (a && b) → T b
second_true true b p = p
second_true false b p = absurd p

-- a test that is repeated
again : {A : Type 0} (b : Bool) (x y z : A) → cond b x z ≡ cond b x (cond b y z)
again true x y z = refl
again false x y z = refl

-- two tests of which one at most succeeds
apart : {A : Type 0} (a b : Bool) (x y z : A) → (a ≡ true → b ≡ true → x ≡ y) → cond a x (cond b y z) ≡ cond b y (cond a x z)
apart true true x y z h = h refl refl
apart true false x y z h = refl
apart false b x y z h = refl

module _ {K : Type 0} (cmp : K → K → Ordering) (name : K → List ℕ) (same : (a b : K) → cmp a b ≡ name_cmp (name a) (name b)) where
  same_name : (k j : K) → is_at (cmp k) j ≡ true → name k ≡ name j
  same_name k j e = alike (name k) (name j) (sym (ap is_eq (same k j)) ∙ e)

  other_name : (k j : K) → is_at (cmp k) j ≡ false → name k ≡ name j → ⊥
  other_name k j e n = let t : is_at (cmp k) j ≡ true = ap is_eq (same k j) ∙ itself _ _ n in let x : true ≡ false = sym t ∙ e in cc

module _ {K V : Type 0} (cmp : K → K → Ordering) (name : K → List ℕ) (same : (a b : K) → cmp a b ≡ name_cmp (name a) (name b)) where
  -- the map of the rows
  abbrev map_of : List (K × V) → FinMap name_cmp V
  map_of es = from_entries (named_rows name es)

  -- a look-up by key is one by name
  find_row : (k : K) (es : List (K × V)) → lookup (is_at (cmp k)) es ≡ find name_cmp (name k) (named_rows name es)
  find_row k [] = refl
  find_row k (e ∷ es) =
      ap (λ r. cond (is_eq r) (Some e.1) (lookup (is_at (cmp k)) es)) (same k e.0)
      ∙ ap (cond (eq_by_cmp name_cmp (name k) (name e.0)) (Some e.1)) (find_row k es)

  pub get_row : (k : K) (es : List (K × V)) → lookup (is_at (cmp k)) es ≡ get (map_of es) (name k)
  get_row k es = find_row k es ∙ sym (get-from_entries nat_list_cmp_total (named_rows name es) (name k))

  -- a map has what it was given and, under the other names, what it had
  get_inserted : (k : K) (v : V) (es : List (K × V)) (q : List ℕ) →
      get (insert (map_of es) (name k) v) q ≡ cond (eq_by_cmp name_cmp q (name k)) (Some v) (find name_cmp q (named_rows name es))
  get_inserted k v es q = get-insert nat_list_cmp_total (map_of es) (name k) v q
      ∙ ap (cond (eq_by_cmp name_cmp q (name k)) (Some v)) (get-from_entries nat_list_cmp_total (named_rows name es) q)

  -- a row that is inserted is put under its name
  put_cases : (k : K) (v : V) (e : K × V) (es : List (K × V)) (r : Ordering) → named_rows name (insert_entry cmp es k v) ≡ put name_cmp (name k) v (named_rows name es) →
      named_rows name (match_ordering r ((k, v) ∷ e ∷ es) ((e.0, v) ∷ es) (e ∷ insert_entry cmp es k v))
      ≡ by_order r ((name k, v) ∷ named_rows name (e ∷ es)) ((name e.0, v) ∷ named_rows name es) ((name e.0, e.1) ∷ put name_cmp (name k) v (named_rows name es))
  put_cases k v e es Less h = refl
  put_cases k v e es Equal h = refl
  put_cases k v e es Greater h = ap (λ rows. (name e.0, e.1) ∷ rows) h

  put_is : (k : K) (v : V) (es : List (K × V)) → named_rows name (insert_entry cmp es k v) ≡ put name_cmp (name k) v (named_rows name es)
  put_is k v [] = refl
  put_is k v (e ∷ es) = put_cases k v e es (cmp k e.0) (put_is k v es)
      ∙ ap (λ r. by_order r ((name k, v) ∷ named_rows name (e ∷ es)) ((name e.0, v) ∷ named_rows name es) ((name e.0, e.1) ∷ put name_cmp (name k) v (named_rows name es))) (same k e.0)

  pub put_row : (k : K) (v : V) (es : List (K × V)) → map_of (insert_entry cmp es k v) ≡ insert (map_of es) (name k) v
  put_row k v es = same_map nat_list_cmp_total exact_names _ _ (λ q.
      get-from_entries nat_list_cmp_total _ q ∙ ap (find name_cmp q) (put_is k v es)
      ∙ find-put name_cmp nat_list_cmp_total q (name k) v (named_rows name es)
      ∙ sym (get_inserted k v es q))

  -- a row whose value is set
  set_is : (k : K) (v : V) (q : List ℕ) (es : List (K × V)) → is_some (lookup (is_at (cmp k)) es) ≡ true →
      find name_cmp q (named_rows name (set_value (is_at (cmp k)) es v)) ≡ cond (eq_by_cmp name_cmp q (name k)) (Some v) (find name_cmp q (named_rows name es))
  set_is k v q [] some = cc
  set_is k v q (e ∷ es) some =
      elim (is_at (cmp k) e.0) as (λ t. is_at (cmp k) e.0 ≡ t → is_some (cond t (Some e.1) (lookup (is_at (cmp k)) es)) ≡ true →
      find name_cmp q (named_rows name (cond t ((e.0, v) ∷ es) (e ∷ set_value (is_at (cmp k)) es v)))
      ≡ cond (eq_by_cmp name_cmp q (name k)) (Some v) (find name_cmp q (named_rows name (e ∷ es)))) [
        | true ↦ λ is _. again (eq_by_cmp name_cmp q (name e.0)) (Some v) (Some e.1) _
            ∙ ap (λ n. cond (eq_by_cmp name_cmp q n) (Some v) (find name_cmp q (named_rows name (e ∷ es)))) (sym (same_name cmp name same k e.0 is))
        | false ↦ λ is some. ap (cond (eq_by_cmp name_cmp q (name e.0)) (Some e.1)) (set_is k v q es some)
            ∙ apart _ _ (Some e.1) (Some v) _ (λ a b. absurd (other_name cmp name same k e.0 is (sym (alike q (name k) b) ∙ alike q (name e.0) a)))
      ] refl some

  set_row : (k : K) (v : V) (es : List (K × V)) → is_some (lookup (is_at (cmp k)) es) ≡ true →
      map_of (set_value (is_at (cmp k)) es v) ≡ insert (map_of es) (name k) v
  set_row k v es some = same_map nat_list_cmp_total exact_names _ _ (λ q.
      get-from_entries nat_list_cmp_total _ q ∙ set_is k v q es some ∙ sym (get_inserted k v es q))

  -- a value that was changed in its place
  pub changed_row : (k : K) (old new : V) (change : V → V) (es : List (K × V)) → lookup (is_at (cmp k)) es ≡ Some old → new ≡ change old →
      map_of (set_value (is_at (cmp k)) es new) ≡ changed_at (map_of es) (name k) change
  changed_row k old new change es there is =
      set_row k new es (ap is_some there) ∙ ap (insert (map_of es) (name k)) is
      ∙ sym (changed_some (map_of es) (name k) change old (sym (get_row k es) ∙ there))

  -- a key that wasn't there to change
  pub unchanged_row : (k : K) (change : V → V) (es : List (K × V)) → lookup (is_at (cmp k)) es ≡ None →
      map_of es ≡ changed_at (map_of es) (name k) change
  unchanged_row k change es absent = sym (changed_none (map_of es) (name k) change (sym (get_row k es) ∙ absent))

  -- a row that is removed leaves the others
  removed_other : (k : K) (q : List ℕ) (es : List (K × V)) → eq_by_cmp name_cmp q (name k) ≡ false →
      find name_cmp q (named_rows name (remove_entry (is_at (cmp k)) es)) ≡ find name_cmp q (named_rows name es)
  removed_other k q [] other = refl
  removed_other k q (e ∷ es) other =
      elim (is_at (cmp k) e.0) as (λ t. is_at (cmp k) e.0 ≡ t →
      find name_cmp q (named_rows name (cond t es (e ∷ remove_entry (is_at (cmp k)) es))) ≡ find name_cmp q (named_rows name (e ∷ es))) [
        | true ↦ λ is. ap (λ b. cond b (Some e.1) (find name_cmp q (named_rows name es))) (sym other ∙ ap (eq_by_cmp name_cmp q) (same_name cmp name same k e.0 is))
        | false ↦ λ is. ap (cond (eq_by_cmp name_cmp q (name e.0)) (Some e.1)) (removed_other k q es other)
      ] refl

  pub drop_row : (k : K) (es : List (K × V)) → lookup (is_at (cmp k)) (remove_entry (is_at (cmp k)) es) ≡ None →
      map_of (remove_entry (is_at (cmp k)) es) ≡ remove (map_of es) (name k)
  drop_row k es none = same_map nat_list_cmp_total exact_names _ _ (λ q.
      get-from_entries nat_list_cmp_total _ q
      ∙ elim (eq_by_cmp name_cmp q (name k)) as (λ t. eq_by_cmp name_cmp q (name k) ≡ t →
      find name_cmp q (named_rows name (remove_entry (is_at (cmp k)) es)) ≡ cond t None (find name_cmp q (named_rows name es))) [
        | true ↦ λ is. ap (λ n. find name_cmp n (named_rows name (remove_entry (is_at (cmp k)) es))) (alike q (name k) is) ∙ sym (find_row k _) ∙ none
        | false ↦ λ is. removed_other k q es is
      ] refl
      ∙ sym (get-remove nat_list_cmp_total (map_of es) (name k) q ∙ ap (cond (eq_by_cmp name_cmp q (name k)) None) (get-from_entries nat_list_cmp_total (named_rows name es) q)))

  -- keys in order have names in order
  below_names : (k : K) (es : List (K × V)) → AllByRecursion (λ y. cmp k y ≡ Less) (keys_of es) → T (below_all name_cmp (name k) (named_rows name es))
  below_names k [] h = tt
  below_names k (e ∷ es) h = both_true _ _ (subst (λ r. T (is_lt r)) (sym (sym (same k e.0) ∙ h.0)) tt) (below_names k es h.1)

  names_sorted : (es : List (K × V)) → IsStrictlySortedBy cmp (keys_of es) → T (is_sorted name_cmp (named_rows name es))
  unfolding IsStrictlySortedBy
  names_sorted [] h = tt
  names_sorted (e ∷ es) h = both_true _ _ (below_names e.0 es h.0) (names_sorted es h.1)

  -- the rows are the entries of their map
  pub entries_row : (es : List (K × V)) → IsStrictlySortedBy cmp (keys_of es) → named_rows name es ≡ entries (map_of es)
  entries_row es h = same_entries name_cmp nat_list_cmp_total exact_names _ _ (names_sorted es h) (entries_sorted _)
      (λ q. sym (get-from_entries nat_list_cmp_total (named_rows name es) q) ∙ get-entries _ q)

  pub len_row : (es : List (K × V)) → IsStrictlySortedBy cmp (keys_of es) → length es ≡ len (map_of es)
  len_row es h = sym (length-map es _) ∙ ap length (entries_row es h) ∙ sym (len-entries _)

-- entries that are inserted in turn
abbrev pub insert_all : {V : Type 0} → FinMap name_cmp V → List (List ℕ × V) → FinMap name_cmp V
insert_all m [] = m
insert_all m (e ∷ es) = insert_all (insert m e.0 e.1) es

not_equal : (r : Ordering) → T (is_lt r) → is_eq r ≡ false
not_equal Less h = refl
not_equal Equal h = absurd h
not_equal Greater h = absurd h

none_below : {V : Type 0} (k : List ℕ) (es : List (List ℕ × V)) → T (below_all name_cmp k es) → find name_cmp k es ≡ None
none_below k [] h = refl
none_below k (e ∷ es) h = ap (λ b. cond b (Some e.1) (find name_cmp k es)) (not_equal _ (first_true _ _ h)) ∙ none_below k es (second_true _ _ h)

or_some : {A : Type 0} → Option A → Option A → Option A
or_some None b = b
or_some (Some a) b = Some a

get_all : {V : Type 0} (es : List (List ℕ × V)) (m : FinMap name_cmp V) (q : List ℕ) → T (is_sorted name_cmp es) →
    get (insert_all m es) q ≡ or_some (find name_cmp q es) (get m q)
unfolding or_some
get_all [] m q h = refl
get_all (e ∷ es) m q h =
    get_all es (insert m e.0 e.1) q (second_true _ _ h)
    ∙ ap (or_some (find name_cmp q es)) (get-insert nat_list_cmp_total m e.0 e.1 q)
    ∙ elim (eq_by_cmp name_cmp q e.0) as (λ t. eq_by_cmp name_cmp q e.0 ≡ t →
    or_some (find name_cmp q es) (cond t (Some e.1) (get m q)) ≡ or_some (cond t (Some e.1) (find name_cmp q es)) (get m q)) [
      | true ↦ λ t. ap (λ o. or_some o (Some e.1)) (ap (λ n. find name_cmp n es) (alike q e.0 t) ∙ none_below e.0 es (first_true _ _ h))
      | false ↦ λ _. refl
    ] refl

-- a map is what its entries make
pub all_entries : {V : Type 0} (m : FinMap name_cmp V) → insert_all empty (entries m) ≡ m
unfolding or_some
all_entries m = same_map nat_list_cmp_total exact_names _ _ (λ q.
    get_all (entries m) empty q (entries_sorted m) ∙ ap (or_some (find name_cmp q (entries m))) (get-empty name_cmp q)
    ∙ elim (find name_cmp q (entries m)) as (λ o. or_some o None ≡ o) [ None ↦ refl | Some x ↦ refl ]
    ∙ sym (get-entries m q))
