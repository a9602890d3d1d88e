-- The indexes that guard a table after a CREATE TABLE.
use Rattle.std.proofs.Common.{◌≡◌, inl, inr, ℕ, zero, suc, ◌+◌, ◌==◌, List, [], ◌∷◌, map, true, ap, subst, ◌∙◌, refl, slice_index_or, eqb-true, arith}
use Rattle.std.proofs.lemmas.Bool.{and_parts}
use Rattle.std.specs.List.{AllByRecursion}
use Rattle.sqlite_value.specs.Keys.{plain}
use Rattle.sqlite_schema.specs.declared.schema.Index.{Index}
use Rattle.sqlite_schema.specs.declared.schema.Table.{Table}
use Rattle.sqlite_schema.specs.declared.schema.Schema.{Schema}
use Rattle.sqlite_schema.specs.Rules.{guards}
use Rattle.sqlite_rules.specs.Lists.{Has}
use Rattle.sqlite_rules.proofs.ListLemmas.{all_has, all_from, has_either}
use Rattle.sqlite_catalog.specs.Change.{automatics, created, next_tree}
use Rattle.sqlite_catalog.proofs.StepLemmas.{table_below}
use Rattle.tables.specs.Schema.{BookTable, IsOfKey, AreOnTables, table_of}

-- an index that is made for a key
pub record IsForKey (table : Table) (keys : List (List ℕ)) (i : Index) : Type 0 where
  pub owner : i.table ≡ table.tree
  pub columns : Has keys i.columns
  pub at : ℕ
  pub order : i.order ≡ slice_index_or table.orders at plain

for_key : (table : Table) (at tree : ℕ) (keys : List (List ℕ)) (i : Index) → Has (automatics table at tree keys) i → IsForKey table keys i
for_key table at tree [] i h = absurd h
for_key table at tree (key ∷ keys) i (inl same) = record {
  owner = ap (λ (j : Index). j.table) same;
  columns = inl (ap (λ (j : Index). j.columns) same);
  at = at;
  order = ap (λ (j : Index). j.order) same;
}
for_key table at tree (key ∷ keys) i (inr more) = let it = for_key table (at + 1) (tree + 1) keys i more in record { owner = it.owner; columns = inr it.columns; at = it.at; order = it.order }

all_plain : (keys : List (List ℕ)) (at : ℕ) → slice_index_or (map (λ _. plain) keys) at plain ≡ plain
all_plain [] at = refl
all_plain (key ∷ keys) zero = refl
all_plain (key ∷ keys) (suc at) = all_plain keys at

guards_its : (i : Index) (t : Table) → guards i t ≡ true → i.table ≡ t.tree
guards_its i t h = eqb-true _ _ (and_parts i.is_unique (i.table == t.tree) h).1

module _ (old : Schema) (t : Table) (indexes : List Index) (is : indexes ≡ (created old t).indexes) where
  abbrev new : Table
  new = let it : Table = record t { tree = next_tree old } in it

  -- a table that was there has no index more
  pub stays_guarded : (u : Table) → Has old.tables u → AllByRecursion (λ i. guards i u ≡ true → IsOfKey u.uniques i) old.indexes → AllByRecursion (λ i. guards i u ≡ true → IsOfKey u.uniques i) indexes
  stays_guarded u here all = all_from _ indexes (λ i h guarded. elim (has_either old.indexes _ i (subst (λ l. Has l i) is h)) [
    | inl was ↦ all_has _ old.indexes i all was guarded
    | inr made ↦ absurd (omega (arith, (for_key new 0 (new.tree + 1) new.uniques i made).owner, guards_its i u guarded, table_below old u here))
  ])

  -- each index is on a table that is there still
  pub still_on : (tables : List Table) → ((u : Table) → Has old.tables u → Has tables u) → Has tables new → AreOnTables old → AllByRecursion (λ i. (u : Table) × Has tables u × (i.table ≡ u.tree)) indexes
  still_on tables stay here on = all_from _ indexes (λ i h. elim (has_either old.indexes _ i (subst (λ l. Has l i) is h)) [
    | inl was ↦ let it = all_has _ old.indexes i on was in (it.0, stay it.0 it.1, it.2)
    | inr made ↦ (new, here, (for_key new 0 (new.tree + 1) new.uniques i made).owner)
  ])

-- the new table has the indexes of its keys alone
pub new_guarded : (kept : BookTable) (old : Schema) (indexes : List Index) → indexes ≡ (created old (table_of kept 0)).indexes → AreOnTables old
    → AllByRecursion (λ i. guards i (table_of kept (next_tree old)) ≡ true → IsOfKey kept.keys i) indexes
new_guarded kept old indexes is on = all_from _ indexes (λ i h guarded. elim (has_either old.indexes _ i (subst (λ l. Has l i) is h)) [
  | inl was ↦ absurd (let it = all_has _ old.indexes i on was in omega (arith, it.2, guards_its i (table_of kept (next_tree old)) guarded, table_below old it.0 it.1))
  | inr made ↦
      let it = for_key (table_of kept (next_tree old)) 0 (next_tree old + 1) kept.keys i made in
      (it.columns, it.order ∙ all_plain kept.keys it.at)
])
