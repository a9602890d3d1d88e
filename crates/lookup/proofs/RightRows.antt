-- Where the tables are right, each row is a record of its table.
use Rattle.std.proofs.Common.{◌≡◌, inl, inr, sym, ap, subst, ◌∙◌, arith, ℕ, ◌+◌, ◌<◌, ◌≤◌, ◌^◌, Bool, length, map, Option}
use Rattle.std.proofs.lemmas.Bool.{and_parts}
use Rattle.std.proofs.lemmas.Option.{slice_get_within}
use Rattle.sqlite_value.specs.Order.{Row, column}
use Rattle.sqlite_rules.specs.Lists.{Has}
use Rattle.sqlite_schema.specs.declared.schema.Table.{Table}
use Rattle.sqlite.specs.Effect.{Database}
use Rattle.duty.specs.Shape.{is_id}
use Rattle.stored_json.specs.Instants.{is_instant, times_have_instants}
use Rattle.roster.specs.State.{State}
use Rattle.tables.specs.Records.{IsBaseRow, IsBookRow, IsCrewBaseRow, IsCrewRow, IsExceedanceRow, IsGroundRow, IsOutsideRow, IsOutsideSegmentRow, IsPairingRow, IsPeriodRow, IsRequestRow, IsSeatRow, IsSegmentRow, pairing_row}
use Rattle.tables.specs.Rows.{HasNoRecord, cells, kept_in, rows_of}
use Rattle.tables.specs.Schema.{BookTable, IsNameFree, base_table, crew_base_table, outside_table, outside_segment_table}
use Rattle.state_rows.specs.Rows.{HasJust, InOutside, InOutsideSegment, StateTable, table, book, crew, pairing, period, segment, seat, ground_duty, exceedance, request, base, crew_base, outside, outside_segment}
use Rattle.state_rows.specs.declared.edition.Edition.TheVariants.{Second}
use Rattle.state_rows.proofs.Values.{text_is}
use Rattle.entries.specs.Right.{AreOutsides, AreRight, IsOfEdition, IsRight}
use Rattle.entries.proofs.Ascii.{id_utf8, zone_utf8}
use Rattle.entries.proofs.Editions.{one_edition}
use Rattle.entries.proofs.OneOutside.{all_at, few_segments, has_id}
use Rattle.entries.proofs.RightRows.{book_rows, crew_rows, exceedance_rows, ground_rows, number_fits, number_fits_if_any, request_rows, seat_rows, segment_rows}

-- ---- The tables down to each

module _ (db : Database) (right : AreRight outside_segment db) where
  abbrev pub bases_of_crew_right : AreRight crew_base db
  bases_of_crew_right = (right.0, right.1.0.0)

  abbrev pub bases_right : AreRight base db
  bases_right = (right.0, right.1.0.0.0)

  abbrev pub requests_right : AreRight request db
  requests_right = (right.0, right.1.0.0.0.0)

  abbrev pub exceedances_right : AreRight exceedance db
  exceedances_right = (right.0, right.1.0.0.0.0.0)

  abbrev pub grounds_right : AreRight ground_duty db
  grounds_right = (right.0, right.1.0.0.0.0.0.0)

  abbrev pub seats_right : AreRight seat db
  seats_right = (right.0, right.1.0.0.0.0.0.0.0)

  abbrev pub segments_right : AreRight segment db
  segments_right = (right.0, right.1.0.0.0.0.0.0.0.0)

  abbrev pub periods_right : AreRight period db
  periods_right = (right.0, right.1.0.0.0.0.0.0.0.0.0)

  abbrev pub pairings_right : AreRight pairing db
  pairings_right = (right.0, right.1.0.0.0.0.0.0.0.0.0.0)

  abbrev pub crew_right : AreRight crew db
  crew_right = (right.0, right.1.0.0.0.0.0.0.0.0.0.0.0)

  abbrev pub book_right : AreRight book db
  book_right = (right.0, right.1.0.0.0.0.0.0.0.0.0.0.0.0)

-- ---- Their rows

-- each row that passes a test is one of a record
abbrev pub AreRecords : StateTable → (Row → Type 0) → Type 0
AreRecords it IsRecord = (db : Database) (test : Row → Bool) → HasNoRecord (table it) test IsRecord db → AreRight outside_segment db → ⊥

book_records : AreRecords book IsBookRow
book_records db test x right = x.3 (book_rows db x.0 x.1 (book_right db right))

crew_records : AreRecords crew IsCrewRow
crew_records db test x right = x.3 (crew_rows db x.0 x.1 (crew_right db right))

pairing_records : AreRecords pairing IsPairingRow
pairing_records db test x right =
    let r = pairings_right db right in
    let at = (r.1.1.1 x.0).0 x.1 in
    x.3 (record { id = at.0.name }, id_utf8 at.0.name (r.1.2 at.0.name at.0.value at.0.there), at.1)

period_records : AreRecords period IsPeriodRow
period_records db test x right =
    let r = periods_right db right in
    let is = r.1.2 x.0 x.1 in
    let at = (r.1.0.1.1 (pairing_row (record { id = is.it.pairing }))).0 is.of_pairing in
    let same : is.it.pairing ≡ at.0.name = text_is (ap (λ (row : Row). column row 0) at.1) in
    x.3 (
      is.it,
      id_utf8 is.it.pairing (ap is_id same ∙ r.1.0.2 at.0.name at.0.value at.0.there),
      is.fits,
      number_fits is.it.report_at is.report,
      number_fits is.it.release_at is.release,
      number_fits_if_any is.it.act_report is.act_report,
      number_fits_if_any is.it.act_release is.act_release,
      is.is,
    )

segment_records : AreRecords segment IsSegmentRow
segment_records db test x right = x.3 (segment_rows db x.0 x.1 (segments_right db right))

seat_records : AreRecords seat IsSeatRow
seat_records db test x right = x.3 (seat_rows db x.0 x.1 (seats_right db right))

ground_records : AreRecords ground_duty IsGroundRow
ground_records db test x right = x.3 (ground_rows db x.0 x.1 (grounds_right db right))

pub exceedance_records : AreRecords exceedance IsExceedanceRow
exceedance_records db test x right = x.3 (exceedance_rows db x.0 x.1 (exceedances_right db right))

request_records : AreRecords request IsRequestRow
request_records db test x right = x.3 (request_rows db x.0 x.1 (requests_right db right))

-- where a name is free there is no row
pub no_row : (kept : BookTable) (db : Database) (row : Row) → IsNameFree kept db.schema → Has (rows_of kept db) row → ⊥
no_row kept db row free h = subst (λ (o : Option Table). Has (map (cells kept) (kept_in db.trees o)) row) free.0 h

base_records : AreRecords base IsBaseRow
base_records db test x right =
    let r = bases_right db right in
    elim r.1.1 [
      | inl is ↦
          let at = (is.1.1 x.0).0 x.1 in
          let shape = r.1.2.shaped at.0.name at.0.value at.0.there in
          x.3 (record { id = at.0.name; zone = at.0.value }, id_utf8 at.0.name shape.0, zone_utf8 at.0.value shape.1, at.1)
      | inr none ↦ no_row base_table db x.0 none.1 x.1
    ]

crew_base_records : AreRecords crew_base IsCrewBaseRow
crew_base_records db test x right =
    let r = bases_of_crew_right db right in
    elim r.1.1 [
      | inl is ↦
          let at = (is.1.1 x.0).0 x.1 in
          let member = (crew_right db right).1.2 at.0.name at.0.value at.0.there in
          let its = r.1.2 at.0.name at.0.value at.0.there in
          let shape = r.1.0.2.shaped at.0.value.base its.0 its.1 in
          x.3 (record { crew = at.0.name; base = at.0.value.base }, id_utf8 at.0.name member.id_shape, id_utf8 at.0.value.base shape.0, at.1)
      | inr none ↦ no_row crew_base_table db x.0 none.1 x.1
    ]

-- the tables of outside periods are there, with just the rows of the state
pub record AreOfSecond (s : State) (db : Database) : Type 0 where
  pub fit : AreOutsides s db
  pub outsides : HasJust outside_table db (InOutside s)
  pub segments : HasJust outside_segment_table db (InOutsideSegment s)

-- the tables of a file of version 2
second_of : (s : State) (db : Database) → IsRight outside_segment s db → IsOfEdition Second db → AreOfSecond s db
second_of s db right second = elim right.0.1 [
  | inl fits ↦ elim right.1 [
    | inl is ↦ elim right.2 [
      | inl also ↦ record { fit = fits.2; outsides = is.1.1; segments = also.1.1 }
      | inr none ↦ absurd (one_edition db none.0 second)
    ]
    | inr none ↦ absurd (one_edition db none.0 second)
  ]
  | inr none ↦ absurd (one_edition db none.0 second)
]

-- where there is an outside period, or a segment of one
pub of_second : (db : Database) (right : AreRight outside_segment db) (row : Row) → Has (rows_of outside_table db) row → AreOfSecond right.0 db
of_second db right row h = elim right.1.0.1 [
  | inl fits ↦ second_of right.0 db right.1 fits.0
  | inr none ↦ absurd (no_row outside_table db row none.1 h)
]

also_second : (db : Database) (right : AreRight outside_segment db) (row : Row) → Has (rows_of outside_segment_table db) row → AreOfSecond right.0 db
also_second db right row h = elim right.1.2 [
  | inl is ↦ second_of right.0 db right.1 is.0
  | inr none ↦ absurd (no_row outside_segment_table db row none.1 h)
]

outside_records : AreRecords outside IsOutsideRow
outside_records db test x right =
    let is = (of_second db right x.0 x.1).fit.rows x.0 x.1 in
    let member = (crew_right db right).1.2 is.it.crew is.member is.of_member in
    x.3 (is.it, id_utf8 is.it.id is.id_shape, id_utf8 is.it.crew member.id_shape, number_fits is.it.report_at is.report, number_fits is.it.release_at is.release, is.is)

place_fits : (place count : ℕ) → place < count → count ≤ 12 → place + 1 < 2 ^ 32
place_fits place count within few = omega (arith, within, few)

outside_segment_records : AreRecords outside_segment IsOutsideSegmentRow
outside_segment_records db test x right =
    let at = ((also_second db right x.0 x.1).segments x.0).0 x.1 in
    let made = right.1.3 at.0.name at.0.value at.0.there in
    let g = at.1 in
    let within = slice_get_within at.0.value.period.segments g.place g.times g.flown in
    let times = and_parts (is_instant g.times.block_out) (is_instant g.times.block_in) (all_at times_have_instants at.0.value.period.segments g.place g.times made.instants g.flown) in
    x.3 (
      record { outside = at.0.name; number = g.place + 1; out_at = g.times.block_out; in_at = g.times.block_in },
      id_utf8 at.0.name (ap is_id (sym made.named) ∙ has_id at.0.value.period made.made),
      place_fits g.place (length at.0.value.period.segments) within (few_segments at.0.value.period made.made),
      number_fits g.times.block_out times.0,
      number_fits g.times.block_in times.1,
      at.2,
    )

-- the rows that are records of each table
abbrev pub RecordOf : StateTable → Row → Type 0
RecordOf book = IsBookRow
RecordOf crew = IsCrewRow
RecordOf pairing = IsPairingRow
RecordOf period = IsPeriodRow
RecordOf segment = IsSegmentRow
RecordOf seat = IsSeatRow
RecordOf ground_duty = IsGroundRow
RecordOf exceedance = IsExceedanceRow
RecordOf request = IsRequestRow
RecordOf base = IsBaseRow
RecordOf crew_base = IsCrewBaseRow
RecordOf outside = IsOutsideRow
RecordOf outside_segment = IsOutsideSegmentRow

pub records_of : (it : StateTable) → AreRecords it (RecordOf it)
records_of book = book_records
records_of crew = crew_records
records_of pairing = pairing_records
records_of period = period_records
records_of segment = segment_records
records_of seat = seat_records
records_of ground_duty = ground_records
records_of exceedance = exceedance_records
records_of request = request_records
records_of base = base_records
records_of crew_base = crew_base_records
records_of outside = outside_records
records_of outside_segment = outside_segment_records
