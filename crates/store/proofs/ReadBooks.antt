-- What was read whole, as the tables of a book of version 1 or 2.
use Rattle.std.proofs.Common.{◌≡◌, inl, inr, false, true}
use Rattle.sqlite.specs.Effect.{Database, IsDatabase}
use Rattle.roster.specs.State.{State}
use Rattle.tables.specs.Rows.{IsStored}
use Rattle.tables.specs.Schema.{IsNameFree, IsOfBook}
use Rattle.entries.proofs.Editions.{one_edition}
use Rattle.entries.specs.Right.{IsOfEdition, IsLaterOfState, IsRight, IsTableOfState}
use Rattle.loading.specs.Reading.{AgreesThrough}
use Rattle.state_rows.specs.Rows.{table, HasJust, InBookOf, InFirst, InTable, StateTable, is_later, book, crew, pairing, period, segment, seat, ground_duty, exceedance, request, base, crew_base, outside, outside_segment}
use Rattle.state_rows.specs.declared.edition.Edition.{Edition}
use Rattle.state_rows.specs.declared.edition.Edition.TheVariants.{First, Second}
use Rattle.state_rows.specs.Kept.{IsBookOf, IsFirstBookOf}

-- the row of `book` is of the version that the database is of
its_edition : (edition known : Edition) (s : State) (db : Database) → HasJust (table book) db (InBookOf known s) → IsOfEdition edition db → HasJust (table book) db (InBookOf edition s)
its_edition First First s db just of = just
its_edition Second Second s db just of = just
its_edition First Second s db just of = absurd (one_edition db of (s, just))
its_edition Second First s db just of = absurd (one_edition db (s, just) of)

-- of a later table, what is so of a database of that version
its_table : (name : StateTable) (s : State) (db : Database) → IsLaterOfState name s db → IsOfEdition Second db → IsTableOfState name s db
its_table name s db (inl is) second = is.1
its_table name s db (inr is) second = absurd (one_edition db is.0 second)

its_name : (name : StateTable) (s : State) (db : Database) → IsLaterOfState name s db → IsOfEdition First db → IsNameFree (table name) db.schema
its_name name s db (inl is) first = absurd (one_edition db first is.0)
its_name name s db (inr is) first = is.1

module _ (s : State) (db : Database) (database : IsDatabase db) (read : AgreesThrough outside_segment s db) where
  last : IsRight outside_segment s db
  last = read.right

  later_outside : IsRight outside s db
  later_outside = last.0

  later_crew_base : IsRight crew_base s db
  later_crew_base = later_outside.0

  later_base : IsRight base s db
  later_base = later_crew_base.0

  right : IsRight request s db
  right = later_base.0

  e : IsRight exceedance s db
  e = right.0

  g : IsRight ground_duty s db
  g = e.0

  st : IsRight seat s db
  st = g.0

  sg : IsRight segment s db
  sg = st.0

  pe : IsRight period s db
  pe = sg.0

  pa : IsRight pairing s db
  pa = pe.0

  cr : IsRight crew s db
  cr = pa.0

  bk : IsRight book s db
  bk = cr.0

  each_stored : (name : StateTable) → IsStored (table name) db
  each_stored name =
      let stored = read.stored in
      elim name as (λ n. IsStored (table n) db) [
        | book ↦ stored.1.1.1.1.1.1.1.1.1.1.1.1.0
        | crew ↦ stored.1.1.1.1.1.1.1.1.1.1.1.0
        | pairing ↦ stored.1.1.1.1.1.1.1.1.1.1.0
        | period ↦ stored.1.1.1.1.1.1.1.1.1.0
        | segment ↦ stored.1.1.1.1.1.1.1.1.0
        | seat ↦ stored.1.1.1.1.1.1.1.0
        | ground_duty ↦ stored.1.1.1.1.1.1.0
        | exceedance ↦ stored.1.1.1.1.1.0
        | request ↦ stored.1.1.1.1.0
        | base ↦ stored.1.1.1.0
        | crew_base ↦ stored.1.1.0
        | outside ↦ stored.1.0
        | outside_segment ↦ stored.0
      ]

  -- read whole in version 2, with the trees that list the schema, it is the book of the state
  pub read_book_of : IsOfEdition Second db → IsBookOf s db
  read_book_of second =
      let t_base = its_table base s db later_base.1 second in
      let t_crew_base = its_table crew_base s db later_crew_base.1 second in
      let t_outside = its_table outside s db last.1 second in
      let t_segment = its_table outside_segment s db last.2 second in
      record {
        database = database;
        tables = (
          (bk.0.0, (cr.1.0, (pa.1.0, (pe.1, (sg.2.0, (st.1.0, (g.1.0, (e.1.0, (right.1.0, tt))))))))),
          (t_base.0, (t_crew_base.0, (t_outside.0, (t_segment.0, tt)))),
        );
        stored = each_stored;
        rows = λ name. elim name as (λ n. HasJust (table n) db (InTable s n)) [
          | book ↦ its_edition Second bk.0.1.0 s db bk.0.1.1 second
          | crew ↦ cr.1.1
          | pairing ↦ pa.1.1
          | period ↦ sg.1
          | segment ↦ sg.2.1
          | seat ↦ st.1.1
          | ground_duty ↦ g.1.1
          | exceedance ↦ e.1.1
          | request ↦ right.1.1
          | base ↦ t_base.1
          | crew_base ↦ t_crew_base.1
          | outside ↦ t_outside.1
          | outside_segment ↦ t_segment.1
        ];
      }

  -- and in version 1
  pub read_first_of : IsOfEdition First db → IsFirstBookOf s db
  read_first_of first = record {
    database = database;
    tables = λ name. elim name as (λ n. is_later n ≡ false → IsOfBook (table n) db.schema) [
      | book ↦ λ _. bk.0.0
      | crew ↦ λ _. cr.1.0
      | pairing ↦ λ _. pa.1.0
      | period ↦ λ _. pe.1
      | segment ↦ λ _. sg.2.0
      | seat ↦ λ _. st.1.0
      | ground_duty ↦ λ _. g.1.0
      | exceedance ↦ λ _. e.1.0
      | request ↦ λ _. right.1.0
      | base ↦ λ bad. absurd (cc)
      | crew_base ↦ λ bad. absurd (cc)
      | outside ↦ λ bad. absurd (cc)
      | outside_segment ↦ λ bad. absurd (cc)
    ];
    free = λ name. elim name as (λ n. is_later n ≡ true → IsNameFree (table n) db.schema) [
      | book ↦ λ bad. absurd (cc)
      | crew ↦ λ bad. absurd (cc)
      | pairing ↦ λ bad. absurd (cc)
      | period ↦ λ bad. absurd (cc)
      | segment ↦ λ bad. absurd (cc)
      | seat ↦ λ bad. absurd (cc)
      | ground_duty ↦ λ bad. absurd (cc)
      | exceedance ↦ λ bad. absurd (cc)
      | request ↦ λ bad. absurd (cc)
      | base ↦ λ _. its_name base s db later_base.1 first
      | crew_base ↦ λ _. its_name crew_base s db later_crew_base.1 first
      | outside ↦ λ _. its_name outside s db last.1 first
      | outside_segment ↦ λ _. its_name outside_segment s db last.2 first
    ];
    stored = each_stored;
    rows = λ name. elim name as (λ n. is_later n ≡ false → HasJust (table n) db (InFirst s n)) [
      | book ↦ λ _. its_edition First bk.0.1.0 s db bk.0.1.1 first
      | crew ↦ λ _. cr.1.1
      | pairing ↦ λ _. pa.1.1
      | period ↦ λ _. sg.1
      | segment ↦ λ _. sg.2.1
      | seat ↦ λ _. st.1.1
      | ground_duty ↦ λ _. g.1.1
      | exceedance ↦ λ _. e.1.1
      | request ↦ λ _. right.1.1
      | base ↦ λ bad. absurd (cc)
      | crew_base ↦ λ bad. absurd (cc)
      | outside ↦ λ bad. absurd (cc)
      | outside_segment ↦ λ bad. absurd (cc)
    ];
    first = right.3 first;
  }
