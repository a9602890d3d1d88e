-- The tables that version 2 added: when they are right, and what a refusal of one says.
use Rattle.std.proofs.Common.{◌≡◌, ◌∙◌, inl, inr, refl, sym, ap, subst, IsTrue, [], Result, Ok, Err, MatchResult, None}
use Rattle.std.specs.FinMap as fin
use Rattle.values.specs.Name.{name_cmp}
use Rattle.sqlite_schema.specs.declared.schema.Schema.{Schema}
use Rattle.sqlite.specs.Effect.{Database}
use Rattle.sqlite.specs.State.{HasCleanDisk, IsUnchanged}
use Rattle.sqlite.specs.State as conn
use Rattle.roster.specs.State.{State}
use Rattle.tables.specs.Rows.{AreNumbered, IsStored, kept_in}
use Rattle.tables.specs.Schema.{AreFree, BookTable, later_tables, table_found, IsNameFree}
use Rattle.loading.proofs.Homes.{are_bases, are_based}
use Rattle.loading.proofs.ReadTables.{told_as}
use Rattle.state_rows.proofs.Outcomes.{clean_before}
use Rattle.loading.proofs.Telling.{nothing_left, of_blame}
use Rattle.entries.specs.Right.{AreOutsidesMade, AreRight, IsOfEdition, IsRight}
use Rattle.loading.specs.Loading.{IsDamaged, Justifies, state_table}
use Rattle.loading.specs.Reading.{AgreesIn, AgreesThrough, BlamesName, BlamesOrFails, IsReadAs, ReadsAs}
use Rattle.entries.specs.declared.fault.LoadFault.{LoadFault}
use Rattle.entries.specs.declared.fault.LoadFault.TheVariants.{NotABook, Version, Damaged, Fault}
use Rattle.entries.specs.declared.fault.TableName as name
use Rattle.entries.specs.declared.fault.TableName.TheVariants as its
use Rattle.state_rows.specs.First.{IsFirst}
use Rattle.state_rows.specs.Rows.{StateTable, request, base, crew_base, outside, outside_segment, table}
use Rattle.state_rows.specs.declared.fault.StoreFault.TheVariants.{Store}
use Rattle.state_rows.specs.declared.edition.Edition.TheVariants.{First, Second}
use Rattle.entries.proofs.Editions.{one_edition, IsNext, next_base, next_crew_base, next_outside, next_outside_segment}

-- ---- In a file of version 2

module _ (above it : StateTable) (Has : State → Database → Type 0) (next : IsNext above it Has) (s : State) (db : Database) (up : AgreesThrough above s db) where
  damaged : (AreRight it db → ⊥) → IsDamaged it db
  damaged wrong = record {
    book = up.book;
    version = up.version;
    above = next.over db (s, up.right);
    damaged = wrong;
  }

  kept : (t : State) → IsReadAs it t db → AgreesThrough it t db
  kept t read = record {
    stored = next.stored db read.1 up.stored;
    book = up.book;
    version = up.version;
    right = read.0;
  }

-- what was read of a table, or why it was refused, as it says of the database
module _ {A : Type 0} (above it : StateTable) {Has : State → Database → Type 0} (next : IsNext above it Has) (its_name : name.TableName) (is_named : state_table its_name ≡ it) (s : State) (read_of : A → State)
    (old new : conn.State) (up : HasCleanDisk old → AgreesIn Second above s old.now) where
  -- with more that is so of what was read
  pub later_found : (Also : A → Type 0) (result : Result A LoadFault) → ReadsAs (λ a. IsReadAs it (read_of a) old.now × Also a) (BlamesOrFails its_name (AreRight it old.now → ⊥)) old new result →
      ReadsAs (λ a. AgreesIn Second it (read_of a) old.now × Also a) (λ f. Justifies f old.now) old new result
  later_found Also (Ok a) read = record {
    told = λ clean.
        let x = read.told clean in
        let u = up (clean_before old new read.left clean) in
        (x.0, (record { through = kept above it Has next s old.now u.through (read_of a) x.1.0; of = u.of }, x.1.1));
    caused = read.caused;
    left = read.left;
  }
  later_found Also (Err fault) read = record {
    told = λ clean.
        let u = up (clean_before old new read.left clean) in
        of_blame its_name _ old.now (λ wrong. subst (λ t. IsDamaged t old.now) (sym is_named) (damaged above it Has next s old.now u.through wrong)) fault (read.told clean);
    caused = read.caused;
    left = read.left;
  }

  pub later_told : (result : Result A LoadFault) → ReadsAs (λ a. IsReadAs it (read_of a) old.now) (BlamesOrFails its_name (AreRight it old.now → ⊥)) old new result →
      ReadsAs (λ a. AgreesIn Second it (read_of a) old.now) (λ f. Justifies f old.now) old new result
  later_told result read =
      told_as (λ a. AgreesIn Second it (read_of a) old.now × Unit {0}) (λ a. AgreesIn Second it (read_of a) old.now) (λ f. Justifies f old.now) (λ a x. x.0) old new result
      (later_found (λ _. Unit {0}) result
      (told_as (λ a. IsReadAs it (read_of a) old.now) (λ a. IsReadAs it (read_of a) old.now × Unit {0}) (BlamesOrFails its_name (AreRight it old.now → ⊥)) (λ a x. (x, tt)) old new result read))

-- ---- In a file of version 1

no_rows : AreNumbered []
no_rows = record { numbered = λ r h. absurd h; apart = tt }

-- of a table that isn't there no row is stored
not_stored : (it : BookTable) (db : Database) → table_found db.schema it.name ≡ None → IsStored it db
not_stored it db none = subst (λ found. AreNumbered (kept_in db.trees found)) (sym none) no_rows

module _ (s : State) (db : Database) (up : AgreesThrough request s db) (first : IsOfEdition First db) where
  taken : (above it : StateTable) {Has : State → Database → Type 0} → IsNext above it Has → AreRight above db → (IsNameFree (table it) db.schema → ⊥) → IsDamaged it db
  taken above it next right bad = record {
    book = up.book;
    version = up.version;
    above = next.over db right;
    damaged = λ found. elim (next.split found.0 db found.1).1 [
      | inl is ↦ one_edition db first is.0
      | inr is ↦ bad is.1
    ];
  }

  said : IsFirst s
  said = up.right.3 first

  to_base : IsNameFree (table base) db.schema → IsRight base s db
  to_base free = (up.right, inr (first, free), are_bases s said up.right.0.0.0.0.0.0.0.0.1)

  to_crew_base : IsNameFree (table base) db.schema → IsNameFree (table crew_base) db.schema → IsRight crew_base s db
  to_crew_base b c = (to_base b, inr (first, c), are_based s said)

  to_outside : IsNameFree (table base) db.schema → IsNameFree (table crew_base) db.schema → IsNameFree (table outside) db.schema → IsRight outside s db
  to_outside b c o = (to_crew_base b c, inr (first, o))

  none_made : AreOutsidesMade s
  none_made id o there = absurd (let e = sym (ap (λ m. fin.get m id) said.outsides ∙ fin.get-empty name_cmp id) ∙ there in cc)

  names_taken : (fault : LoadFault) → BlamesName db.schema fault → Justifies fault db
  names_taken (Damaged its.Base) bad = taken request base next_base (s, up.right) bad
  names_taken (Damaged its.CrewBase) bad = taken base crew_base next_crew_base (s, to_base bad.0) bad.1
  names_taken (Damaged its.Outside) bad = taken crew_base outside next_outside (s, to_crew_base bad.0 bad.1) bad.2
  names_taken (Damaged its.OutsideSegment) bad = taken outside outside_segment next_outside_segment (s, to_outside bad.0 bad.1 bad.2) bad.3
  names_taken (Damaged its.Book) bad = absurd bad
  names_taken (Damaged its.Crew) bad = absurd bad
  names_taken (Damaged its.Pairing) bad = absurd bad
  names_taken (Damaged its.Period) bad = absurd bad
  names_taken (Damaged its.Segment) bad = absurd bad
  names_taken (Damaged its.Seat) bad = absurd bad
  names_taken (Damaged its.Ground) bad = absurd bad
  names_taken (Damaged its.Exceedance) bad = absurd bad
  names_taken (Damaged its.Request) bad = absurd bad
  names_taken NotABook bad = absurd bad
  names_taken Version bad = absurd bad
  names_taken (Fault fault) bad = absurd bad

  all_free : AreFree later_tables db.schema → AgreesThrough outside_segment s db
  all_free free = record {
    stored = (not_stored (table outside_segment) db free.1.1.1.0.0, (not_stored (table outside) db free.1.1.0.0, (not_stored (table crew_base) db free.1.0.0, (not_stored (table base) db free.0.0, up.stored))));
    book = up.book;
    version = up.version;
    right = (to_outside free.0 free.1.0 free.1.1.0, inr (first, free.1.1.0), inr (first, free.1.1.1.0), none_made);
  }

-- a refusal of a name is no fault of the store
no_fault : (schema : Schema) (fault : LoadFault) → BlamesName schema fault → fault ≡ Fault Store → ⊥
no_fault schema NotABook bad is = bad
no_fault schema Version bad is = bad
no_fault schema (Damaged it) bad is = cc
no_fault schema (Fault fault) bad is = bad

unchanged : (s : conn.State) → IsTrue s.is_open → IsUnchanged s s
unchanged s opened = (record { was_open = opened; is_open = opened; now_is = refl; committed_is = refl; mode = refl }, record { changes = refl; last_rowid = refl }, refl)

-- what follows from looking at the names
module _ (s : State) (now : conn.State) (opened : HasCleanDisk now → IsTrue now.is_open) (up : HasCleanDisk now → AgreesIn First request s now.now) where
  pub names_told : {A : Type 0} (result : Result A LoadFault) → MatchResult result (λ _. AreFree later_tables now.now.schema) (BlamesName now.now.schema) →
      ReadsAs (λ _. AgreesIn First outside_segment s now.now) (λ f. Justifies f now.now) now now result
  names_told (Ok a) free = record {
    told = λ clean. let u = up clean in (unchanged now (opened clean), record { through = all_free s now.now u.through u.of free; of = u.of });
    caused = λ clean. tt;
    left = nothing_left now;
  }
  names_told (Err fault) bad = record {
    told = λ clean. let u = up clean in names_taken s now.now u.through u.of fault bad;
    caused = λ clean is. absurd (no_fault now.now.schema fault bad is);
    left = nothing_left now;
  }
