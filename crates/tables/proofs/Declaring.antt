-- Tables that are declared alike.
use Rattle.std.proofs.Common.{inl, inr, ◌≡◌, ◌<◌, ◌^◌, ◌==◌, ◌||◌, ◌↔◌, ◌∙◌, ℕ, Bool, List, [], ◌∷◌, true, false, not, None, Some, IfSome, IsTrue, refl, sym, ap, subst, bytes_eq, eqb-true, eq-eqb}
use Rattle.std.proofs.lemmas.Bool.{cases_Bool, and_parts, and_from}
use Rattle.std.proofs.lemmas.Slice.Eq.{bytes_eq-Decides}
use Rattle.std.specs.List.{AllByRecursion, list_all, list_any}
use Rattle.sqlite_value.specs.declared.keys.Order.{Order}
use Rattle.sqlite_value.specs.Keys.{plain}
use Rattle.sqlite_rules.specs.Lists.{Has}
use Rattle.sqlite_rules.proofs.ListLemmas.{some_has, some_from}
use Rattle.sqlite_schema.specs.Rules.{guards}
use Rattle.sqlite_schema.specs.declared.schema.Index.{Index}
use Rattle.sqlite_schema.specs.declared.schema.Table.{Table}
use Rattle.sqlite_schema.specs.declared.schema.Schema.{Schema}
use Rattle.tables.specs.Schema.{BookTable, IsTable, IsOfBook, IsBook, IsOfKey, HasTables, NoneRefersTo, OnlyKeysGuard, table_of, table_found, first_tables, later_tables, book_table, crew_table, pairing_table, period_table, segment_table, seat_table, ground_table, exceedance_table, request_table, base_table, crew_base_table, outside_table, outside_segment_table}
use Rattle.sqlite_schema.specs.declared.schema.Reference.{Reference}
use Rattle.sqlite_schema.specs.Names.{same_name}
use Rattle.tables.specs.Declarations.{IsSimple, IsLike, HaveNoDefault, StandsAs, is_own_tree, is_not_parent, is_of_key, only_keys_guard}
use Rattle.tables.proofs.Known.{some_same}

pub alike : (a b : Table) → IsLike a b → IsSimple a → IsSimple b → a ≡ (let t : Table = record b { tree = a.tree } in t)
alike a b form bare other = λ i. record {
  name = form.name i;
  tree = a.tree;
  columns = form.columns i;
  key = (bare.key ∙ sym other.key) i;
  primary = form.primary i;
  uniques = form.uniques i;
  orders = form.orders i;
  checks = (bare.checks ∙ sym other.checks) i;
  references = (bare.references ∙ sym other.references) i;
  computed = (bare.computed ∙ sym other.computed) i;
  stamps = (bare.stamps ∙ sym other.stamps) i;
  is_counted = (bare.uncounted ∙ sym other.uncounted) i;
}

-- ---- a tree of its own

one_own : (t : Table) (tree : ℕ) (name : List ℕ) → (IsTrue (not (t.tree == tree) || bytes_eq t.name name) → t.tree ≡ tree → t.name ≡ name) × ((t.tree ≡ tree → t.name ≡ name) → (not (t.tree == tree) || bytes_eq t.name name) ≡ true)
one_own t tree name = elim (cases_Bool (t.tree == tree)) [
  | inl here ↦ rw here (λ h _. (bytes_eq-Decides t.name name).0 h, λ h. (bytes_eq-Decides t.name name).1 (h (eqb-true _ _ here)))
  | inr other ↦ rw other (λ h same. absurd (let e = eq-eqb _ _ same in cc), λ h. refl)
]

own_tree : (tables : List Table) (tree : ℕ) (name : List ℕ) → (is_own_tree tables tree name ≡ true → AllByRecursion (λ t. t.tree ≡ tree → t.name ≡ name) tables) × (AllByRecursion (λ t. t.tree ≡ tree → t.name ≡ name) tables → is_own_tree tables tree name ≡ true)
own_tree [] tree name = (λ h. tt, λ h. refl)
own_tree (t ∷ ts) tree name =
    let more = own_tree ts tree name in
    let one = one_own t tree name in
    (λ h. let parts = and_parts _ _ h in (one.0 parts.0, more.0 parts.1), λ h. and_from _ _ (one.1 h.0) (more.1 h.1))

-- ---- what a name finds

module _ (it : BookTable) (schema : Schema) (wanted : Table) (is : wanted ≡ table_of it 0) (plain : HaveNoDefault it.columns) where
  named : table_found schema wanted.name ≡ table_found schema it.name
  named = ap (λ (w : Table). table_found schema w.name) is

  no_default : HaveNoDefault wanted.columns
  no_default = subst HaveNoDefault (sym (ap (λ (w : Table). w.columns) is)) plain

  pub none_there : None ≡ table_found schema wanted.name → IsTrue false ↔ IsTable it schema
  none_there none = (λ h. absurd (cc), λ h. absurd (let e = none ∙ named ∙ h.found in cc))

  module _ (t : Table) (found : Some t ≡ table_found schema wanted.name) (result : Bool) where
    same_table : (u : Table) → table_found schema it.name ≡ Some u → t ≡ u
    same_table u h = some_same (found ∙ named ∙ h)

    pub some_there : (IsTrue result → StandsAs schema.tables t wanted) → (StandsAs schema.tables t wanted → IsSimple wanted → HaveNoDefault wanted.columns → IsTrue result) → IsTrue result ↔ IsTable it schema
    some_there same all = (
      λ h.
          let stands = same h in
          let alike : t ≡ table_of it t.tree = stands.alike ∙ ap (λ (w : Table). let u : Table = record w { tree = t.tree } in u) is in
          record {
            tree = t.tree;
            found = sym (found ∙ named) ∙ ap Some alike;
            low = stands.low;
            alone = (own_tree schema.tables t.tree it.name).0 (subst (λ n. is_own_tree schema.tables t.tree n ≡ true) (ap (λ (w : Table). w.name) is) stands.own);
          },
      λ h.
          let alike = same_table (table_of it h.tree) h.found in
          let tree = ap (λ (u : Table). u.tree) alike in
          all (record {
            alike = alike ∙ ap (λ n. table_of it n) (sym tree) ∙ ap (λ (w : Table). let u : Table = record w { tree = t.tree } in u) (sym is);
            low = subst (λ n. n < 2 ^ 31) (sym tree) h.low;
            own = subst (λ n. is_own_tree schema.tables n wanted.name ≡ true) (sym tree) (subst (λ n. is_own_tree schema.tables h.tree n ≡ true) (sym (ap (λ (w : Table). w.name) is)) ((own_tree schema.tables h.tree it.name).1 h.alone));
          }) (subst IsSimple (sym is) (record { key = refl; uncounted = refl; checks = refl; references = refl; computed = refl; stamps = refl })) no_default,
    )

-- ---- foreign keys

test_not : (b : Bool) → (not b ≡ true → b ≡ false) × (b ≡ false → not b ≡ true)
test_not true = (λ h. absurd (cc), λ h. absurd (cc))
test_not false = (λ h. refl, λ h. refl)

-- a test that holds of each element
module _ {X : Type 0} (p : X → Bool) (P : X → Type 0) (means : (x : X) → (p x ≡ true → P x) × (P x → p x ≡ true)) where
  all_mean : (xs : List X) → (list_all p xs ≡ true → AllByRecursion P xs) × (AllByRecursion P xs → list_all p xs ≡ true)
  all_mean [] = (λ h. tt, λ h. refl)
  all_mean (x ∷ xs) =
      let more = all_mean xs in
      (λ h. let parts = and_parts _ _ h in ((means x).0 parts.0, more.0 parts.1), λ h. and_from _ _ ((means x).1 h.0) (more.1 h.1))

pub none_refers : (schema : Schema) (name : List ℕ) (result : Bool) → result ≡ is_not_parent schema.tables name → IsTrue result ↔ NoneRefersTo name schema
none_refers schema name result is =
    let it = all_mean (λ (t : Table). list_all (λ ref. not (same_name name ref.parent)) t.references) (λ (t : Table). AllByRecursion (λ ref. same_name name ref.parent ≡ false) t.references)
    (λ t. all_mean (λ (ref : Reference). not (same_name name ref.parent)) (λ (ref : Reference). same_name name ref.parent ≡ false) (λ ref. test_not (same_name name ref.parent)) t.references) schema.tables in
    (λ h. it.0 (sym is ∙ h), λ h. is ∙ it.1 h)

-- ---- UNIQUE indexes

has_same : (keys : List (List ℕ)) (columns : List ℕ) → (list_any (λ key. bytes_eq key columns) keys ≡ true → Has keys columns) × (Has keys columns → list_any (λ key. bytes_eq key columns) keys ≡ true)
has_same keys columns = (
  λ h. let it = some_has (λ key. bytes_eq key columns) keys h in subst (Has keys) ((bytes_eq-Decides it.0 columns).0 it.2) it.1,
  λ h. some_from (λ key. bytes_eq key columns) keys columns h ((bytes_eq-Decides columns columns).1 refl),
)

plain_order : (o : Order) → o.digits ≡ 0 → o ≡ plain
plain_order o none = ap (λ n. let it : Order = record { digits = n } in it) none

of_key : (keys : List (List ℕ)) (index : Index) → (is_of_key keys index ≡ true → IsOfKey keys index) × (IsOfKey keys index → is_of_key keys index ≡ true)
of_key keys index = (
  λ h. let parts = and_parts (index.order.digits == 0) _ h in ((has_same keys index.columns).0 parts.1, plain_order index.order (eqb-true _ _ parts.0)),
  λ h. and_from (index.order.digits == 0) _ (eq-eqb _ _ (ap (λ (o : Order). o.digits) h.1)) ((has_same keys index.columns).1 h.0),
)

one_guard : (t : Table) (index : Index) → (not (guards index t) || is_of_key t.uniques index ≡ true → guards index t ≡ true → IsOfKey t.uniques index)
    × ((guards index t ≡ true → IsOfKey t.uniques index) → (not (guards index t) || is_of_key t.uniques index) ≡ true)
one_guard t index = elim (cases_Bool (guards index t)) [
  | inl guarded ↦ (λ h _. (of_key t.uniques index).0 (rw guarded at h), λ h. rw guarded ((of_key t.uniques index).1 (h guarded)))
  | inr free ↦ (λ h is. absurd (let e = sym free ∙ is in cc), λ h. rw free refl)
]

module _ (schema : Schema) (name : List ℕ) where
  pub none_guards : None ≡ table_found schema name → IsTrue true ↔ OnlyKeysGuard name schema
  none_guards none = subst (λ o. IsTrue true ↔ IfSome o (λ t. AllByRecursion (λ index. guards index t ≡ true → IsOfKey t.uniques index) schema.indexes)) none (λ _. tt, λ _. refl)

  pub keys_guard : (t : Table) (result : Bool) → Some t ≡ table_found schema name → result ≡ only_keys_guard t schema.indexes → IsTrue result ↔ OnlyKeysGuard name schema
  keys_guard t result found is =
      let all = all_mean (λ (i : Index). not (guards i t) || is_of_key t.uniques i) (λ (i : Index). guards i t ≡ true → IsOfKey t.uniques i) (one_guard t) schema.indexes in
      subst (λ o. IsTrue result ↔ IfSome o (λ u. AllByRecursion (λ index. guards index u ≡ true → IsOfKey u.uniques index) schema.indexes)) found (λ h. all.0 (sym is ∙ h), λ h. is ∙ all.1 h)

-- ---- the nine tables of version 1, by threes

abbrev pub Three : BookTable → BookTable → BookTable → Schema → Type 0
Three a b c schema = IsOfBook a schema × IsOfBook b schema × IsOfBook c schema

-- each three is there
pub nine_there : (schema : Schema) (first second third : Bool) → IsTrue first ↔ Three book_table crew_table pairing_table schema → IsTrue second ↔ Three period_table segment_table seat_table schema
    → IsTrue third ↔ Three ground_table exceedance_table request_table schema → first ≡ true → second ≡ true → IsTrue third ↔ HasTables first_tables schema
nine_there schema first second third begins goes_on ends f s = (
  λ t.
      let a = begins.0 f in
      let b = goes_on.0 s in
      let c = ends.0 t in
      (a.0, (a.1, (a.2, (b.0, (b.1, (b.2, (c.0, (c.1, (c.2, tt))))))))),
  λ all. let h = all.1.1.1.1.1.1 in ends.1 (h.0, h.1.0, h.1.1.0),
)

-- a part is not there
part_lacks : {Part Whole : Type 0} (part value : Bool) → IsTrue part ↔ Part → (Whole → Part) → value ≡ part → value ≡ false → IsTrue value ↔ Whole
part_lacks part value is of same off = (λ yes. absurd (let e = sym yes ∙ off in cc), λ all. absurd (let e = sym (is.1 (of all)) ∙ sym same ∙ off in cc))

pub lacks_first : (schema : Schema) (first value : Bool) → IsTrue first ↔ Three book_table crew_table pairing_table schema → value ≡ first → value ≡ false → IsTrue value ↔ HasTables first_tables schema
lacks_first schema first value begins = part_lacks first value begins (λ all. (all.0, all.1.0, all.1.1.0))

pub lacks_second : (schema : Schema) (second value : Bool) → IsTrue second ↔ Three period_table segment_table seat_table schema → value ≡ second → value ≡ false → IsTrue value ↔ HasTables first_tables schema
lacks_second schema second value goes_on = part_lacks second value goes_on (λ all. let h = all.1.1.1 in (h.0, h.1.0, h.1.1.0))

-- ---- the four that version 2 has besides, by twos

abbrev pub Two : BookTable → BookTable → Schema → Type 0
Two a b schema = IsOfBook a schema × IsOfBook b schema

pub four_there : (schema : Schema) (first second : Bool) → IsTrue first ↔ Two base_table crew_base_table schema → IsTrue second ↔ Two outside_table outside_segment_table schema
    → first ≡ true → IsTrue second ↔ HasTables later_tables schema
four_there schema first second begins ends f = (
  λ s. let a = begins.0 f in let b = ends.0 s in (a.0, (a.1, (b.0, (b.1, tt)))),
  λ all. let h = all.1.1 in ends.1 (h.0, h.1.0),
)

pub lacks_bases : (schema : Schema) (first value : Bool) → IsTrue first ↔ Two base_table crew_base_table schema → value ≡ first → value ≡ false → IsTrue value ↔ HasTables later_tables schema
lacks_bases schema first value begins = part_lacks first value begins (λ all. (all.0, all.1.0))

-- ---- all thirteen

pub whole_book : (schema : Schema) (first later : Bool) → IsTrue first ↔ HasTables first_tables schema → IsTrue later ↔ HasTables later_tables schema → first ≡ true → IsTrue later ↔ IsBook schema
whole_book schema first later early late f = (λ t. (early.0 f, late.0 t), λ all. late.1 all.1)

pub lacks_early : (schema : Schema) (first value : Bool) → IsTrue first ↔ HasTables first_tables schema → value ≡ first → value ≡ false → IsTrue value ↔ IsBook schema
lacks_early schema first value early = part_lacks first value early (λ all. all.0)
