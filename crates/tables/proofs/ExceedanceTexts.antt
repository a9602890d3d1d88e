-- The texts on the table `exceedance`.
use Rattle.std.proofs.Common.{false, ◌≡◌, List, [], ◌∷◌, codes, refl, ℕ, pos, None, Some}
use Rattle.sqlite_value.specs.declared.value.Value.TheVariants.{Null}
use Rattle.sqlite_schema.specs.declared.command.Source.TheVariants.{Values}
use Rattle.sqlite_schema.specs.declared.command.Command.TheVariants.{Insert, Select}
use Rattle.sqlite_sql.specs.Term.{Term, lit, col}
use Rattle.sqlite_tied.specs.Compute.{everything}
use Rattle.sqlite_rules.specs.Cast.{cast_row}
use Rattle.sqlite.specs.State.{State, IsLive}
use Rattle.tables.specs.declared.exceedance.ExceedanceRecord.{ExceedanceRecord}
use Rattle.tables.specs.Schema.{exceedance_table, table_of, IsTable}
use Rattle.tables.specs.Declarations.{HaveNoDefault, DeclaresTable}
use Rattle.sqlite_schema.specs.declared.schema.Column.{Column}
use Rattle.std.proofs.lemmas.List.Elements.{All-from_recursion}
use Rattle.tables.specs.Records.{exceedance_row}
use Rattle.tables.specs.Rows.{Makes, IsTooBig}
use Rattle.tables.proofs.Inserting.{cast_null, cast_int}
use Rattle.tables.proofs.Statements.{Writer, Stopper}
use Rattle.tables.proofs.Holding.{InsertsFree, insert_writer}
use Rattle.tables.specs.Calls.{RefusesRow}
use Rattle.tables.proofs.RefusedRows.{insert_stopper}
use Rattle.tables.proofs.Creating.{IsMaker, create_writer, create_stopper}
use Rattle.tables.proofs.Answering.{plain_query}
use Rattle.tables.proofs.Selecting.{projected, OrderedReader, ordered_reader}
use Rattle.tables.proofs.LoadingLemmas.{Loader, loader, by_number}
use Rattle.sqlite_value.specs.declared.keys.Collation.TheVariants.{Binary}
use Rattle.sqlite_value.specs.declared.keys.Key.{Key}
use Rattle.sqlite_value.specs.Keys.{ascending}
use Rattle.sqlite_ast.specs.declared.Statement.TheVariants as written
use Rattle.tables.proofs.Compiling.{IsRead, IsNamed, is_read, insert_into, insert_meant, rows_meant, numbered_meant, select_from, words_of, outputs_of, rowid_output, shown_names, shown_one, sort_by, last_of, no_carried}

named : IsNamed exceedance_table
unfolding everything
named = (λ tree. (refl, refl, (refl, refl, (refl, refl, (refl, refl, (refl, refl, (refl, refl, tt)))))), λ tree. refl, refl, refl)

-- ----

abbrev create_exceedance_text : List ℕ
create_exceedance_text = codes "CREATE TABLE exceedance (number INTEGER NOT NULL, part INTEGER NOT NULL, crew TEXT NOT NULL, section INTEGER NOT NULL, pairing TEXT NOT NULL, period INTEGER NOT NULL, PRIMARY KEY (number, part, crew, section)) STRICT"

create_exceedance_maker : IsMaker exceedance_table create_exceedance_text
unfolding everything
create_exceedance_maker = record { new = refl; whole = refl; defines = refl; short = refl }

pub create_exceedance : (old : State) → Writer create_exceedance_text [] (Makes exceedance_table) old
create_exceedance = create_writer exceedance_table create_exceedance_text create_exceedance_maker

pub create_exceedance_stops : (old : State) → Stopper create_exceedance_text [] ⊥ (Unit {0}) old
create_exceedance_stops = create_stopper exceedance_table create_exceedance_text create_exceedance_maker

no_default : HaveNoDefault exceedance_table.columns
no_default = All-from_recursion (λ (c : Column). c.default ≡ Null) exceedance_table.columns (refl, (refl, (refl, (refl, (refl, (refl, tt))))))

pub create_exceedance_declares : DeclaresTable exceedance_table create_exceedance_text
create_exceedance_declares = record { defines = create_exceedance_maker.defines; plain = no_default }

-- ----

abbrev insert_exceedance_text : List ℕ
insert_exceedance_text = codes "INSERT INTO exceedance (number, part, crew, section, pairing, period) VALUES (?1, ?2, ?3, ?4, ?5, ?6)"

insert_exceedance_read : IsRead exceedance_table insert_exceedance_text 6 (λ at tree. Insert at (Values (lit Null ∷ col 0 0 ∷ col 0 1 ∷ col 0 2 ∷ col 0 3 ∷ col 0 4 ∷ col 0 5 ∷ []) 7))
unfolding everything
insert_exceedance_read = is_read exceedance_table _ (insert_into exceedance_table) _ (record { went = refl; is = refl; untimed = refl; ends = refl; given = refl }) (insert_meant exceedance_table _ (λ schema tree base. refl))

insert_exceedance_keeps : (it : ExceedanceRecord) (tree : ℕ) → cast_row (table_of exceedance_table tree) (Null ∷ exceedance_row it) ≡ Null ∷ exceedance_row it
insert_exceedance_keeps it tree = rw (cast_null, cast_int it.number, cast_int (pos it.part), cast_int (pos it.section), cast_int (pos it.period))

pub insert_exceedance : (it : ExceedanceRecord) (old : State) → IsTable exceedance_table old.now.schema → Writer insert_exceedance_text (exceedance_row it) (InsertsFree exceedance_table (exceedance_row it)) old
insert_exceedance it = insert_writer exceedance_table (lit Null ∷ col 0 0 ∷ col 0 1 ∷ col 0 2 ∷ col 0 3 ∷ col 0 4 ∷ col 0 5 ∷ []) 7 _ insert_exceedance_read (exceedance_row it) (exceedance_row it) (λ _. refl) refl (insert_exceedance_keeps it) (λ r. ((refl, (refl, (refl, (refl, tt)))), tt)) ((refl, (refl, (refl, (refl, tt)))), tt)

pub insert_exceedance_stops : (it : ExceedanceRecord) (old : State) → IsLive old → IsTable exceedance_table old.now.schema → Stopper insert_exceedance_text (exceedance_row it) (IsTooBig exceedance_table (exceedance_row it) old.now) (RefusesRow exceedance_table (exceedance_row it) old) old
insert_exceedance_stops it = insert_stopper exceedance_table (lit Null ∷ col 0 0 ∷ col 0 1 ∷ col 0 2 ∷ col 0 3 ∷ col 0 4 ∷ col 0 5 ∷ []) 7 _ insert_exceedance_read (exceedance_row it) (exceedance_row it) refl refl (insert_exceedance_keeps it) refl refl (λ _. refl)

-- ----

abbrev load_exceedances_text : List ℕ
load_exceedances_text = codes "SELECT rowid, number, part, crew, section, pairing, period FROM exceedance ORDER BY rowid"

load_exceedances_read : IsRead exceedance_table load_exceedances_text 0 (λ at tree. Select (record { lets = []; body = plain_query tree [] (projected 7 0) by_number }) (shown_names (rowid_output ∷ outputs_of exceedance_table)))
unfolding everything
load_exceedances_read =
    is_read exceedance_table _ (written.Select (select_from exceedance_table.name (shown_one (codes "rowid") ∷ words_of exceedance_table) None (sort_by (codes "rowid") ∷ []))) _ (record { went = refl; is = refl; untimed = refl; ends = refl; given = refl })
    (numbered_meant exceedance_table named None (sort_by (codes "rowid") ∷ []) [] by_number (λ tree. plain_query tree [] (projected 7 0) by_number) 99993 99992 (last_of exceedance_table.columns no_carried) no_carried
    (λ schema at tree known. simp (known.is) refl) (λ schema at tree known. simp (known.is, known.low) refl) (λ schema at tree known. simp (known.high, known.by_tree) refl))

pub load_exceedances : (old : State) → IsTable exceedance_table old.now.schema → Loader load_exceedances_text exceedance_table old
load_exceedances = loader exceedance_table _ _ load_exceedances_read refl refl

-- ----

abbrev exceedances_text : List ℕ
exceedances_text = codes "SELECT number, part, crew, section, pairing, period FROM exceedance ORDER BY number, part, crew, section"

abbrev exceedances_order : List (Term × Key)
exceedances_order = (col 1 1, ascending Binary) ∷ (col 1 2, ascending Binary) ∷ (col 1 3, ascending Binary) ∷ (col 1 4, ascending Binary) ∷ []

exceedances_read : IsRead exceedance_table exceedances_text 0 (λ at tree. Select (record { lets = []; body = plain_query tree [] (projected 6 1) exceedances_order }) (shown_names (outputs_of exceedance_table)))
unfolding everything
exceedances_read =
    is_read exceedance_table _ (written.Select (select_from exceedance_table.name (words_of exceedance_table) None (sort_by (codes "number") ∷ sort_by (codes "part") ∷ sort_by (codes "crew") ∷ sort_by (codes "section") ∷ []))) _ (record { went = refl; is = refl; untimed = refl; ends = refl; given = refl })
    (rows_meant exceedance_table named None (sort_by (codes "number") ∷ sort_by (codes "part") ∷ sort_by (codes "crew") ∷ sort_by (codes "section") ∷ []) [] exceedances_order (λ tree. plain_query tree [] (projected 6 1) exceedances_order) 99994 99990 (last_of exceedance_table.columns no_carried) (record { collation = Some Binary; is_written = false })
    (λ schema at tree known. simp (known.is) refl) (λ schema at tree known. simp (known.is) refl) (λ schema at tree known. simp (known.high, known.by_tree) refl))

pub exceedances : (old : State) → IsTable exceedance_table old.now.schema → OrderedReader exceedances_text exceedance_table 4 old
exceedances = ordered_reader exceedance_table 4 exceedances_order _ _ exceedances_read (λ _. refl) refl refl
