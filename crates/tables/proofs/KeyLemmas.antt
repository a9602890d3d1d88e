-- In a book that is sound a key stands in one row at most.
use Rattle.std.proofs.Common.{zero, suc, Some, ◌≡◌, inl, inr, ℕ, ℤ, List, [], ◌∷◌, map, true, false, ◌&&◌, ◌==◌, eq-eqb, refl, sym, ap, subst, slice_get, slice_index_or, ◌∙◌, Ordering, Less, Equal, Greater}
use Rattle.std.specs.Ordering.{is_eq, is_ne}
use Rattle.std.proofs.lemmas.Bool.{cases_Bool, and_parts, and_from}
use Rattle.std.proofs.lemmas.Cmp.{tied_back, tied_itself}
use Rattle.sqlite_value.specs.declared.keys.Collation.TheVariants.{Binary}
use Rattle.sqlite_value.specs.declared.value.Value.{Value}
use Rattle.sqlite_value.specs.declared.value.Value.TheVariants.{Null, Int, Real, Text, Blob}
use Rattle.sqlite_value.specs.Order.{Row, column, value_cmp}
use Rattle.sqlite_value.specs.Keys.{plain, first_key}
use Rattle.sqlite_value.proofs.OrderLemmas.{value_cmp_total}
use Rattle.sqlite_trees.specs.Tree.{rowid, IsAscending}
use Rattle.sqlite_sql.specs.Ops.{binary, is_null}
use Rattle.sqlite_schema.specs.declared.schema.Constraint.TheVariants.{Unique}
use Rattle.sqlite_schema.specs.Rules.{agree, clashes, differ, equal}
use Rattle.sqlite_catalog.specs.Listing.{IsSound, automatic}
use Rattle.sqlite_rules.specs.Lists.{Has}
use Rattle.sqlite_rules.proofs.ListLemmas.{all_from, all_has, test_has, some_from}
use Rattle.sqlite_rules.proofs.TableLemmas.{int_is}
use Rattle.sqlite_rules.proofs.ProbeLemmas.{has_mapped}
use Rattle.sqlite.specs.Effect.{Database}
use Rattle.tables.proofs.Apart.{one_place}
use Rattle.tables.proofs.Known.{listed, stored_is}
use Rattle.tables.specs.Schema.{BookTable, table_of, IsTable, book_table, crew_table, pairing_table, period_table, segment_table, seat_table, ground_table, exceedance_table, request_table}
use Rattle.tables.specs.Rows.{AreNumbered, IsStored, stored, rows_of, cells, begins_with}
use Rattle.tables.proofs.Answering.{compared, unlike_null, from_true}
use Rattle.tables.proofs.Deleting.{equal_is}

differs : (m n : ℤ) → differ (Int m) (Int n) ≡ is_ne (value_cmp (Int m) (Int n))
unfolding binary
differs m n = from_true _

not_ne : (o : Ordering) → is_ne o ≡ false → o ≡ Equal
not_ne Less h = absurd (cc)
not_ne Equal h = refl
not_ne Greater h = absurd (cc)

plain_at : (keys : List (List ℕ)) (at : ℕ) → slice_index_or (map (λ _. plain) keys) at plain ≡ plain
plain_at [] at = refl
plain_at (key ∷ keys) zero = refl
plain_at (key ∷ keys) (suc at) = plain_at keys at

module _ (kept : BookTable) (db : Database) (at : ℕ) (key : List ℕ) (got : slice_get kept.keys at ≡ Some key) (there : IsTable kept db.schema) (sound : IsSound db.schema db.trees) (stored_apart : IsStored kept db) where
  stored_rows : stored kept db ≡ db.trees there.tree
  stored_rows = stored_is kept db.schema there db refl

  pub one_row : (a b : Row) → Has (stored kept db) a → Has (stored kept db) b → agree plain key a key b ≡ true → a ≡ b
  one_row a b was_a was_b same_key =
      let tree = there.tree in
      let table = table_of kept tree in
      let rows = db.trees tree in
      let h : Has rows a = subst (λ l. Has l a) stored_rows was_a in
      let k : Has rows b = subst (λ l. Has l b) stored_rows was_b in
      let numbers = subst AreNumbered stored_rows stored_apart in
      let same : (tree == tree) ≡ true = eq-eqb tree tree refl in
      let its_place = listed kept db.schema there in
      let guard = all_has _ db.schema.tables table sound.lists.guarded its_place at key got in
      let i = automatic table at key guard.0 in
      let ordered : i.order ≡ plain = plain_at kept.keys at in
      let passes = test_has _ db.schema.indexes i (all_has _ rows b (all_has _ db.schema.tables table (sound.obeys.rules Unique) its_place) k) guard.1 in
      let test = λ (other : Row). agree plain key other key b && differ (rowid other) (rowid b) in
      let tied : value_cmp (rowid a) (rowid b) ≡ Equal = elim (cases_Bool (differ (rowid a) (rowid b))) [
        | inl apart ↦ absurd (
            let clash : clashes plain key rows b ≡ true = some_from test rows a h (and_from _ _ same_key apart) in
            let e = rw (same, ordered, clash) at passes in cc)
        | inr equal ↦
            let ia = int_is (rowid a) (numbers.numbered a h) in
            let ib = int_is (rowid b) (numbers.numbered b k) in
            rw (ia, ib) (not_ne _ (sym (differs _ _) ∙ rw (ia, ib) at equal))
      ] in
      one_place rows numbers.apart a b h k tied

found : (a b v : Value) → is_null b ≡ false → is_eq (value_cmp a v) ≡ true → is_eq (value_cmp b v) ≡ true → equal Binary a b ≡ true
found a b v some h k = compared a b some ∙ ap is_eq (value_cmp_total.congr a v b (equal_is _ h) ∙ tied_back value_cmp_total b v (equal_is _ k))

-- both equal the value
pub alike : (a b v : Value) → is_null v ≡ false → is_eq (value_cmp a v) ≡ true → is_eq (value_cmp b v) ≡ true → equal Binary a b ≡ true
alike a Null v some h k = absurd (let e = unlike_null v some in cc)
alike a (Int n) v some h k = found a (Int n) v refl h k
alike a (Real n) v some h k = found a (Real n) v refl h k
alike a (Text n) v some h k = found a (Text n) v refl h k
alike a (Blob n) v some h k = found a (Blob n) v refl h k

-- the first columns of a table are its key
module _ (kept : BookTable) (db : Database) (key : List ℕ) (more : List (List ℕ)) (keys : kept.keys ≡ key ∷ more) (there : IsTable kept db.schema) (sound : IsSound db.schema db.trees) (stored_apart : IsStored kept db)
    (x y : Row) (h : Has (rows_of kept db) x) (k : Has (rows_of kept db) y) where
  rows_same : ((a b : Row) → x ≡ cells kept a → y ≡ cells kept b → agree plain key a key b ≡ true) → x ≡ y
  rows_same agrees =
      let m = has_mapped (cells kept) (stored kept db) x h in
      let n = has_mapped (cells kept) (stored kept db) y k in
      m.2 ∙ ap (cells kept) (one_row kept db 0 key (ap (λ l. slice_get l 0) keys) there sound stored_apart m.0 n.0 m.1 n.1 (agrees m.0 n.0 m.2 n.2)) ∙ sym n.2

  pub once_by_one : (v : Value) → key ≡ 1 ∷ [] → ((r : Row) → column (cells kept r) 0 ≡ column r 1) → is_null v ≡ false → begins_with (v ∷ []) x ≡ true → begins_with (v ∷ []) y ≡ true → x ≡ y
  unfolding first_key
  once_by_one v is first some p q = rows_same (λ a b e f.
      let pa = and_parts _ _ (rw (e, first a) at p) in
      let qb = and_parts _ _ (rw (f, first b) at q) in
      rw is (and_from _ _ (alike (column a 1) (column b 1) v some pa.0 qb.0) refl))

  pub once_by_two : (v w : Value) → key ≡ 1 ∷ 2 ∷ [] → ((r : Row) → (column (cells kept r) 0 ≡ column r 1) × (column (cells kept r) 1 ≡ column r 2)) → is_null v ≡ false → is_null w ≡ false
      → begins_with (v ∷ w ∷ []) x ≡ true → begins_with (v ∷ w ∷ []) y ≡ true → x ≡ y
  unfolding first_key
  once_by_two v w is first some other p q = rows_same (λ a b e f.
      let pa = and_parts _ _ (rw (e, (first a).0, (first a).1) at p) in
      let qb = and_parts _ _ (rw (f, (first b).0, (first b).1) at q) in
      rw is (and_from _ _ (alike (column a 1) (column b 1) v some pa.0 qb.0) (and_from _ _ (alike (column a 2) (column b 2) w other (and_parts _ _ pa.1).0 (and_parts _ _ qb.1).0) refl)))

  pub once_by_three : (u v w : Value) → key ≡ 1 ∷ 2 ∷ 3 ∷ [] → ((r : Row) → (column (cells kept r) 0 ≡ column r 1) × (column (cells kept r) 1 ≡ column r 2) × (column (cells kept r) 2 ≡ column r 3))
      → is_null u ≡ false → is_null v ≡ false → is_null w ≡ false → begins_with (u ∷ v ∷ w ∷ []) x ≡ true → begins_with (u ∷ v ∷ w ∷ []) y ≡ true → x ≡ y
  unfolding first_key
  once_by_three u v w is first nu nv nw p q = rows_same (λ a b e f.
      let pa = and_parts _ _ (rw (e, (first a).0, (first a).1, (first a).2) at p) in
      let qb = and_parts _ _ (rw (f, (first b).0, (first b).1, (first b).2) at q) in
      let pb = and_parts _ _ pa.1 in
      let qc = and_parts _ _ qb.1 in
      rw is (and_from _ _ (alike (column a 1) (column b 1) u nu pa.0 qb.0) (and_from _ _ (alike (column a 2) (column b 2) v nv pb.0 qc.0)
      (and_from _ _ (alike (column a 3) (column b 3) w nw (and_parts _ _ pb.1).0 (and_parts _ _ qc.1).0) refl))))

  pub once_by_four : (t u v w : Value) → key ≡ 1 ∷ 2 ∷ 3 ∷ 4 ∷ [] → ((r : Row) → (column (cells kept r) 0 ≡ column r 1) × (column (cells kept r) 1 ≡ column r 2) × (column (cells kept r) 2 ≡ column r 3) × (column (cells kept r) 3 ≡ column r 4))
      → is_null t ≡ false → is_null u ≡ false → is_null v ≡ false → is_null w ≡ false → begins_with (t ∷ u ∷ v ∷ w ∷ []) x ≡ true → begins_with (t ∷ u ∷ v ∷ w ∷ []) y ≡ true → x ≡ y
  unfolding first_key
  once_by_four t u v w is first nt nu nv nw p q = rows_same (λ a b e f.
      let pa = and_parts _ _ (rw (e, (first a).0, (first a).1, (first a).2, (first a).3) at p) in
      let qa = and_parts _ _ (rw (f, (first b).0, (first b).1, (first b).2, (first b).3) at q) in
      let pb = and_parts _ _ pa.1 in
      let qb = and_parts _ _ qa.1 in
      let pc = and_parts _ _ pb.1 in
      let qc = and_parts _ _ qb.1 in
      rw is (and_from _ _ (alike (column a 1) (column b 1) t nt pa.0 qa.0) (and_from _ _ (alike (column a 2) (column b 2) u nu pb.0 qb.0)
      (and_from _ _ (alike (column a 3) (column b 3) v nv pc.0 qc.0) (and_from _ _ (alike (column a 4) (column b 4) w nw (and_parts _ _ pc.1).0 (and_parts _ _ qc.1).0) refl)))))

-- ---- each table

module _ (db : Database) (sound : IsSound db.schema db.trees) where
  pub book_once : IsTable book_table db.schema → IsStored book_table db → (one : ℤ) (x y : Row) → Has (rows_of book_table db) x → Has (rows_of book_table db) y → begins_with (Int one ∷ []) x ≡ true → begins_with (Int one ∷ []) y ≡ true → x ≡ y
  book_once there stored_apart one x y h k =
      once_by_one book_table db (1 ∷ []) [] refl there sound stored_apart x y h k (Int one) refl (λ r. refl) refl

  pub crew_once : IsTable crew_table db.schema → IsStored crew_table db → (id : List ℕ) (x y : Row) → Has (rows_of crew_table db) x → Has (rows_of crew_table db) y → begins_with (Text id ∷ []) x ≡ true → begins_with (Text id ∷ []) y ≡ true → x ≡ y
  crew_once there stored_apart id x y h k =
      once_by_one crew_table db (1 ∷ []) [] refl there sound stored_apart x y h k (Text id) refl (λ r. refl) refl

  pub pairing_once : IsTable pairing_table db.schema → IsStored pairing_table db → (id : List ℕ) (x y : Row) → Has (rows_of pairing_table db) x → Has (rows_of pairing_table db) y → begins_with (Text id ∷ []) x ≡ true → begins_with (Text id ∷ []) y ≡ true → x ≡ y
  pairing_once there stored_apart id x y h k =
      once_by_one pairing_table db (1 ∷ []) [] refl there sound stored_apart x y h k (Text id) refl (λ r. refl) refl

  pub period_once : IsTable period_table db.schema → IsStored period_table db → (pairing : List ℕ) (number : ℤ) (x y : Row) → Has (rows_of period_table db) x → Has (rows_of period_table db) y → begins_with (Text pairing ∷ Int number ∷ []) x ≡ true → begins_with (Text pairing ∷ Int number ∷ []) y ≡ true → x ≡ y
  period_once there stored_apart pairing number x y h k =
      once_by_two period_table db (1 ∷ 2 ∷ []) [] refl there sound stored_apart x y h k (Text pairing) (Int number) refl (λ r. (refl, refl)) refl refl

  pub segment_once : IsTable segment_table db.schema → IsStored segment_table db → (pairing : List ℕ) (period : ℤ) (number : ℤ) (x y : Row) → Has (rows_of segment_table db) x → Has (rows_of segment_table db) y → begins_with (Text pairing ∷ Int period ∷ Int number ∷ []) x ≡ true → begins_with (Text pairing ∷ Int period ∷ Int number ∷ []) y ≡ true → x ≡ y
  segment_once there stored_apart pairing period number x y h k =
      once_by_three segment_table db (1 ∷ 2 ∷ 3 ∷ []) [] refl there sound stored_apart x y h k (Text pairing) (Int period) (Int number) refl (λ r. (refl, refl, refl)) refl refl refl

  pub seat_once : IsTable seat_table db.schema → IsStored seat_table db → (pairing : List ℕ) (number : ℤ) (x y : Row) → Has (rows_of seat_table db) x → Has (rows_of seat_table db) y → begins_with (Text pairing ∷ Int number ∷ []) x ≡ true → begins_with (Text pairing ∷ Int number ∷ []) y ≡ true → x ≡ y
  seat_once there stored_apart pairing number x y h k =
      once_by_two seat_table db (1 ∷ 2 ∷ []) ((3 ∷ 1 ∷ []) ∷ []) refl there sound stored_apart x y h k (Text pairing) (Int number) refl (λ r. (refl, refl)) refl refl

  pub ground_once : IsTable ground_table db.schema → IsStored ground_table db → (id : List ℕ) (x y : Row) → Has (rows_of ground_table db) x → Has (rows_of ground_table db) y → begins_with (Text id ∷ []) x ≡ true → begins_with (Text id ∷ []) y ≡ true → x ≡ y
  ground_once there stored_apart id x y h k =
      once_by_one ground_table db (1 ∷ []) ((2 ∷ 1 ∷ []) ∷ []) refl there sound stored_apart x y h k (Text id) refl (λ r. refl) refl

  pub exceedance_once : IsTable exceedance_table db.schema → IsStored exceedance_table db → (number : ℤ) (part : ℤ) (crew : List ℕ) (section : ℤ) (x y : Row) → Has (rows_of exceedance_table db) x → Has (rows_of exceedance_table db) y → begins_with (Int number ∷ Int part ∷ Text crew ∷ Int section ∷ []) x ≡ true → begins_with (Int number ∷ Int part ∷ Text crew ∷ Int section ∷ []) y ≡ true → x ≡ y
  exceedance_once there stored_apart number part crew section x y h k =
      once_by_four exceedance_table db (1 ∷ 2 ∷ 3 ∷ 4 ∷ []) [] refl there sound stored_apart x y h k (Int number) (Int part) (Text crew) (Int section) refl (λ r. (refl, refl, refl, refl)) refl refl refl refl

  pub request_once : IsTable request_table db.schema → IsStored request_table db → (number : ℤ) (part : ℤ) (x y : Row) → Has (rows_of request_table db) x → Has (rows_of request_table db) y → begins_with (Int number ∷ Int part ∷ []) x ≡ true → begins_with (Int number ∷ Int part ∷ []) y ≡ true → x ≡ y
  request_once there stored_apart number part x y h k =
      once_by_two request_table db (1 ∷ 2 ∷ []) [] refl there sound stored_apart x y h k (Int number) (Int part) refl (λ r. (refl, refl)) refl refl

-- ---- no two places have rows of one key

pub ascending_weaker : {X : Type 0} (R S : X → X → Type 0) (xs : List X) → ((a b : X) → Has xs a → Has xs b → R a b → S a b) → IsAscending R xs → IsAscending S xs
ascending_weaker R S [] weaker up = tt
ascending_weaker R S (x ∷ xs) weaker up = (
  all_from (S x) xs (λ y h. weaker x y (inl refl) (inr h) (all_has (R x) xs y up.0 h)),
  ascending_weaker R S xs (λ a b h k. weaker a b (inr h) (inr k)) up.1,
)

pub ascending_mapped : {X Y : Type 0} (f : X → Y) (R : Y → Y → Type 0) (xs : List X) → IsAscending (λ a b. R (f a) (f b)) xs → IsAscending R (map f xs)
ascending_mapped f R [] up = tt
ascending_mapped f R (x ∷ xs) up = (
  all_from (R (f x)) (map f xs) (λ y h. let m = has_mapped f xs y h in subst (R (f x)) (sym m.2) (all_has (λ z. R (f x) (f z)) xs m.0 up.0 m.1)),
  ascending_mapped f R xs up.1,
)

-- two rows of `request` are not of one key
abbrev pub AreOfTwoKeys : Row → Row → Type 0
AreOfTwoKeys x y = (number part : ℤ) → begins_with (Int number ∷ Int part ∷ []) x ≡ true → begins_with (Int number ∷ Int part ∷ []) y ≡ true → ⊥

pub requests_apart : (db : Database) → IsSound db.schema db.trees → IsTable request_table db.schema → IsStored request_table db → IsAscending AreOfTwoKeys (rows_of request_table db)
unfolding first_key
requests_apart db sound there stored_apart =
    ascending_mapped (cells request_table) AreOfTwoKeys (stored request_table db)
    (ascending_weaker _ (λ a b. AreOfTwoKeys (cells request_table a) (cells request_table b)) (stored request_table db) (λ a b h k apart number part p q.
    let first = and_parts _ _ p in
    let second = and_parts _ _ q in
    let agrees : agree plain (1 ∷ 2 ∷ []) a (1 ∷ 2 ∷ []) b ≡ true =
    and_from _ _ (alike (column a 1) (column b 1) (Int number) refl first.0 second.0)
    (and_from _ _ (alike (column a 2) (column b 2) (Int part) refl (and_parts _ _ first.1).0 (and_parts _ _ second.1).0) refl) in
    let same = one_row request_table db 0 (1 ∷ 2 ∷ []) refl there sound stored_apart a b h k agrees in
    apart (subst (λ r. value_cmp (rowid a) (rowid r) ≡ Equal) same (tied_itself value_cmp_total (rowid a)))) stored_apart.apart)
