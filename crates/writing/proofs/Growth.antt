-- Tables of a book, made one after the other.
use Rattle.std.proofs.Common.{◌≡◌, ◌∙◌, inl, inr, refl, sym, ap, subst, ◌+◌, false, List, [], ◌∷◌, ◌++◌, Ok, None}
use Rattle.std.specs.List.{AllByRecursion}
use Rattle.sqlite_rules.proofs.ListLemmas.{all_from, all_has, has_left, has_right}
use Rattle.sqlite_catalog.specs.Change.{automatics, created, next_tree}
use Rattle.sqlite_catalog.specs.Listing.{IsIndexRow}
use Rattle.sqlite_catalog.proofs.LayoutLemmas.{zipped_left, index_owner}
use Rattle.sqlite_schema.specs.declared.schema.Index.{Index}
use Rattle.sqlite_schema.specs.declared.schema.Schema.{Schema}
use Rattle.sqlite_value.specs.Order.{column}
use Rattle.sqlite.specs.Does.{lacks_sequence}
use Rattle.sqlite.specs.Effect.{Database, IsDatabase}
use Rattle.sqlite.specs.State.{State}
use Rattle.tables.specs.Calls.{Ran, CrashMayLeave}
use Rattle.tables.specs.Rows.{Makes, stored}
use Rattle.tables.specs.Schema.{BookTable, IsTable, IsUnreferenced, OnlyKeysGuard, AreOnTables, table_found, table_of, book_tables}
use Rattle.tables.proofs.Creating.{lacks_no_more}
use Rattle.writing.specs.Calls.{IsInside, Changed, Then}
use Rattle.writing.specs.Beside.{AddsTables, AddsKeys, made_in}
use Rattle.writing.specs.Making.{AreUnreferenced, HasEmpty, IsFree, KeepsPlain, MakesTables}
use Rattle.writing.proofs.Chaining.{as_change, one_call, still_inside, then_call}
use Rattle.state_rows.proofs.EachTable.{all_joined}

abbrev IsEmptyTable : Database → BookTable → Type 0
IsEmptyTable db t = IsTable t db.schema × (stored t db ≡ [])

all_stay : (made : BookTable) (old new : Database) → Makes made old new → (tables : List BookTable) → AllByRecursion (IsEmptyTable old) tables → AllByRecursion (IsEmptyTable new) tables
all_stay made old new makes [] h = tt
all_stay made old new makes (t ∷ ts) h =
    let kept = makes.keeps t h.0.0 in
    ((kept.0, kept.1 ∙ h.0.1), all_stay made old new makes ts h.1)

unreferenced_stay : (made : BookTable) (old new : Database) → Makes made old new → (tables : List BookTable) → AllByRecursion (λ t. IsUnreferenced t old.schema) tables → AllByRecursion (λ t. IsUnreferenced t new.schema) tables
unreferenced_stay made old new makes [] h = tt
unreferenced_stay made old new makes (t ∷ ts) h = (makes.unreferenced t h.0, unreferenced_stay made old new makes ts h.1)

guarded_stay : (made : BookTable) (old new : Database) → Makes made old new → (tables : List BookTable) → AllByRecursion (IsEmptyTable old) tables → AllByRecursion (λ t. OnlyKeysGuard t.name old.schema) tables
    → AllByRecursion (λ t. OnlyKeysGuard t.name new.schema) tables
guarded_stay made old new makes [] there h = tt
guarded_stay made old new makes (t ∷ ts) there h = (makes.guarded t there.0.0 h.0, guarded_stay made old new makes ts there.1 h.1)

-- one table is made
made_one : (t : BookTable) (old new : Database) → Makes t old new → MakesTables (t ∷ []) old new
made_one t old new makes = record {
  empty = λ before has. record {
    there = all_joined (IsEmptyTable new) before (t ∷ []) (all_stay t old new makes before has.there) ((makes.there, makes.empty), tt);
    guarded = all_joined (λ u. OnlyKeysGuard u.name new.schema) before (t ∷ []) (guarded_stay t old new makes before has.there has.guarded) ((makes.own_guards has.on_tables).0, tt);
    unreferenced = unreferenced_stay t old new makes book_tables has.unreferenced;
    on_tables = (makes.own_guards has.on_tables).1;
  };
  keeps = makes.keeps;
  guarded = makes.guarded;
  extends = record {
    adds = record {
      kept = λ u h. (all_has _ old.schema.tables u makes.others h).0;
      no_more = λ u h. elim (all_has _ new.schema.tables u makes.tables h) [
        | inl was ↦ inl was
        | inr made ↦ inr (elim made [ inl named ↦ inl (t, inl refl, named) | inr counts ↦ inr counts ])
      ];
      indexes = (next_tree old.schema, makes.indexes);
      views = makes.views;
      made = makes.schema;
    };
    rows = λ u h. (all_has _ old.schema.tables u makes.others h).1;
    sequence = λ whole. subst (λ s. lacks_sequence s ≡ false) (sym (makes.schema whole)) (lacks_no_more old.schema (table_of t 0) refl whole);
  };
}

kept_then : (a b c : Database) → KeepsPlain a b → KeepsPlain b c → KeepsPlain a c
kept_then a b c one two t there =
    let first = one t there in
    let second = two t first.0 in
    (second.0, second.1 ∙ first.1)

-- ---- Some tables, and then some more

made_on : (schema : Schema) (first second : List BookTable) → made_in schema (first ++ second) ≡ made_in (made_in schema first) second
made_on schema [] second = refl
made_on schema (t ∷ ts) second = made_on (created schema (table_of t 0)) ts second

keys_on : (first second : List BookTable) (old mid new : List Index) → AddsKeys first old mid → AddsKeys second mid new → AddsKeys (first ++ second) old new
keys_on [] second old mid new one two = subst (λ indexes. AddsKeys second indexes new) one two
keys_on (t ∷ ts) second old mid new one two = (one.0, keys_on ts second (old ++ automatics (table_of t one.0) 0 (one.0 + 1) t.keys) mid new one.1 two)

adds_then : (first second : List BookTable) (a b c : Schema) → AddsTables first a b → AddsTables second b c → (lacks_sequence a ≡ false → lacks_sequence b ≡ false) → AddsTables (first ++ second) a c
adds_then first second a b c one two still = record {
  kept = λ t h. two.kept t (one.kept t h);
  no_more = λ t h. elim (two.no_more t h) [
    | inl here ↦ elim (one.no_more t here) [
      | inl was ↦ inl was
      | inr made ↦ inr (elim made [ inl named ↦ inl (named.0, has_left first second named.0 named.1, named.2) | inr counts ↦ inr counts ])
    ]
    | inr made ↦ inr (elim made [ inl named ↦ inl (named.0, has_right first second named.0 named.1, named.2) | inr counts ↦ inr counts ])
  ];
  indexes = keys_on first second a.indexes b.indexes c.indexes one.indexes two.indexes;
  views = two.views ∙ one.views;
  made = λ whole. two.made (still whole) ∙ ap (λ s. made_in s second) (one.made whole) ∙ sym (made_on a first second);
}

joined : (a b c : List BookTable) → a ++ (b ++ c) ≡ (a ++ b) ++ c
joined [] b c = refl
joined (x ∷ a) b c = ap (λ t. x ∷ t) (joined a b c)

grown_on : (first second : List BookTable) (old new : Database) → Then (MakesTables first) (MakesTables second) old new → MakesTables (first ++ second) old new
grown_on first second old new it =
    let mid = it.0 in
    record {
      empty = λ before has. subst (λ ts. HasEmpty ts new) (sym (joined before first second)) (it.2.empty (before ++ first) (it.1.empty before has));
      keeps = kept_then old mid new it.1.keeps it.2.keeps;
      guarded = λ t there only. it.2.guarded t (it.1.keeps t there).0 (it.1.guarded t there only);
      extends = record {
        adds = adds_then first second old.schema mid.schema new.schema it.1.extends.adds it.2.extends.adds it.1.extends.sequence;
        rows = λ t h. it.2.extends.rows t (it.1.extends.adds.kept t h) ∙ it.1.extends.rows t h;
        sequence = λ whole. it.2.extends.sequence (it.1.extends.sequence whole);
      };
    }

-- a call that is done is done, whatever the faults that it could have
pub as_told : {A E F : Type 0} {Is : Database → Database → Type 0} {a : A} (old new : State) → Changed {E = E} Is old new (Ok a) → Changed {E = F} Is old new (Ok a)
as_told old new changed = record { done = changed.done; kept = changed.kept; left = changed.left }

-- calls in a row
pub made_by : {A E : Type 0} (t : BookTable) (old new : State) (a : A) → IsInside old → Ran (Makes t) old new (Ok a) → CrashMayLeave (Makes t) old new → Changed {E = E} (MakesTables (t ∷ [])) old new (Ok a)
made_by t old new a inside ran left = as_told old new (as_change (made_one t) old new (Ok a) (one_call (Makes t) old new inside left (Ok a) ran))

pub made_next : {A B E F : Type 0} (first second : List BookTable) (old mid new : State) (a : A) (b : B) → Changed {E = E} (MakesTables first) old mid (Ok a) → Changed {E = F} (MakesTables second) mid new (Ok b) →
    Changed {E = F} (MakesTables (first ++ second)) old new (Ok b)
made_next first second old mid new a b one two = as_change (grown_on first second) old new (Ok b) (then_call old mid new a (Ok b) one two)

-- three in a row
pub grown_thrice : {E : Type 0} (t u v : BookTable) (old one two new : State) (a b c : Unit {0}) → IsInside old →
    Ran (Makes t) old one (Ok a) → CrashMayLeave (Makes t) old one → Ran (Makes u) one two (Ok b) → CrashMayLeave (Makes u) one two → Ran (Makes v) two new (Ok c) → CrashMayLeave (Makes v) two new →
    Changed {E = E} (MakesTables (t ∷ u ∷ v ∷ [])) old new (Ok c)
grown_thrice {E = E} t u v old one two new a b c inside first first_left second second_left third third_left =
    let f = made_by {E = E} t old one a inside first first_left in
    let s = made_by {E = E} u one two b (still_inside old one a f) second second_left in
    let both = made_next (t ∷ []) (u ∷ []) old one two a b f s in
    let r = made_by {E = E} v two new c (still_inside old two b both) third third_left in
    made_next (t ∷ u ∷ []) (v ∷ []) old two new b c both r

-- ---- Where nothing has the name of a table of a book

parts_of : (P Q : BookTable → Type 0) (tables : List BookTable) → AllByRecursion (λ t. P t × Q t) tables → AllByRecursion Q tables
parts_of P Q [] h = tt
parts_of P Q (t ∷ ts) h = (h.0.1, parts_of P Q ts h.1)

unreferenced : (schema : Schema) → IsFree schema → AreUnreferenced schema
unreferenced schema free = parts_of (λ t. table_found schema t.name ≡ None) (λ t. IsUnreferenced t schema) book_tables free

-- a database lists each index with the table that it is on
pub on_tables : (db : Database) → IsDatabase db → AreOnTables db.schema
on_tables db sound = all_from _ db.schema.indexes (λ index h.
    let row = (zipped_left (IsIndexRow db.schema.tables) _ db.schema.indexes index sound.lists.listed.indexes h) in
    (row.2.table, row.2.listed, index_owner row.2.table index (column row.0 4) row.2.defined))

pub nothing_made : (db : Database) → IsDatabase db → IsFree db.schema → HasEmpty [] db
nothing_made db sound free = record { there = tt; guarded = tt; unreferenced = unreferenced db.schema free; on_tables = on_tables db sound }
