-- What the records of a schedule are read as: its header, and then a segment each, with its place.
use Rattle.std.specs.Prelude.{ℕ, List, [], ◌∷◌, Bool, false, not, ◌&&◌, ◌==◌, Option, Some, None}
use Rattle.std.specs.Prelude.{is_some, find, codes, length, option_map, if◌then◌else◌}
use Rattle.std.specs.List.{position_from}
use Rattle.std.specs.Result.{result_ok}
use Rattle.std.specs.Str.{bytes_eq, is_utf8}
use Rattle.csv.specs.Records.{field_at}
use Rattle.time117.specs.Instant.{read_instant}
use Rattle.duty.specs.Shape.{is_id, is_flight, is_airport}
use Rattle.duty.specs.declared.segment.Segment.{Segment}
use Rattle.codec.specs.declared.scheduled.SegmentPlace.{SegmentPlace}
use Rattle.codec.specs.declared.scheduled.ScheduledSegment.{ScheduledSegment}

-- whether a field is there and is this name
abbrev pub is_name : List ℕ → Option (List ℕ) → Bool
is_name name None = false
is_name name (Some field) = bytes_eq field name

-- whether the field at a place, counted from 0, is this name
abbrev pub is_at : ℕ → List ℕ → List (List ℕ) → Bool
is_at place name fields = is_name name (field_at fields place)

-- whether a record is the header: the nine names in their order
abbrev pub is_header : List (List ℕ) → Bool
is_header fields =
    (length fields == 9)
    && is_at 0 (codes "pairing") fields && is_at 1 (codes "period") fields
    && is_at 2 (codes "report") fields && is_at 3 (codes "release") fields
    && is_at 4 (codes "flight") fields && is_at 5 (codes "from") fields
    && is_at 6 (codes "out") fields && is_at 7 (codes "to") fields
    && is_at 8 (codes "in") fields

-- a field as a text, if it has this shape
abbrev pub read_text : (List ℕ → Bool) → List ℕ → Option (List ℕ)
read_text has_shape field = if has_shape field then Some field else None

-- the instant that a field holds, in either of its written forms
abbrev pub read_time_field : List ℕ → Option ℕ
read_time_field field = result_ok (read_instant field)

-- the numbers that a period may have in its pairing, as they are written
abbrev pub period_numbers : List (List ℕ × ℕ)
period_numbers =
    (codes "1", 1) ∷ (codes "2", 2) ∷ (codes "3", 3) ∷ (codes "4", 4) ∷ (codes "5", 5)
    ∷ (codes "6", 6) ∷ (codes "7", 7) ∷ (codes "8", 8) ∷ (codes "9", 9) ∷ (codes "10", 10) ∷ []

-- the number of a period that a field holds, from 1 to 10, without a leading zero
abbrev pub read_period_field : List ℕ → Option ℕ
read_period_field field = option_map (λ it. it.1) (find (λ it. bytes_eq field it.0) period_numbers)

-- what follows from a field that is read, or nothing where the field isn't read
abbrev pub with_field : {A B : Type 0} → Option A → (A → Option B) → Option B
with_field None next = None
with_field (Some field) next = next field

-- what the field at a place, counted from 0, is read as; the field has to be UTF-8
abbrev pub read_field_at : {A : Type 0} → ℕ → (List ℕ → Option A) → List (List ℕ) → Option A
read_field_at place reads fields =
    with_field (field_at fields place) (λ field. if is_utf8 field then reads field else None)

-- where a segment stands: what the first four fields of a record are read as
abbrev pub read_place : List (List ℕ) → Option SegmentPlace
read_place fields =
    with_field (read_field_at 0 (read_text is_id) fields) (λ pairing.
    with_field (read_field_at 1 read_period_field fields) (λ period.
    with_field (read_field_at 2 read_time_field fields) (λ report.
    with_field (read_field_at 3 read_time_field fields) (λ release.
    Some (record { pairing = pairing; period = period; report = report; release = release })))))

-- a segment: what the last five fields of a record are read as
abbrev pub read_segment_fields : List (List ℕ) → Option Segment
read_segment_fields fields =
    with_field (read_field_at 4 (read_text is_flight) fields) (λ flight.
    with_field (read_field_at 5 (read_text is_airport) fields) (λ origin.
    with_field (read_field_at 6 read_time_field fields) (λ block_out.
    with_field (read_field_at 7 (read_text is_airport) fields) (λ destination.
    with_field (read_field_at 8 read_time_field fields) (λ block_in.
    Some (record {
      flight = flight;
      from = origin;
      block_out = block_out;
      to = destination;
      block_in = block_in;
    }))))))

-- a segment with its place: what a record of nine fields is read as, if each field is read
abbrev pub read_record : List (List ℕ) → Option ScheduledSegment
read_record fields =
    if length fields == 9 then
    with_field (read_place fields) (λ place.
    with_field (read_segment_fields fields) (λ segment.
    Some (record { place = place; segment = segment })))
    else None

-- the number of the first record after the header that isn't read; the header is record 1
abbrev pub first_unread_after : List (List (List ℕ)) → Option ℕ
first_unread_after records = position_from (λ fields. not (is_some (read_record fields))) 2 records

-- the number of the first record of a schedule that isn't read, the header (record 1) included
abbrev pub first_unread : List (List (List ℕ)) → Option ℕ
first_unread [] = Some 1
first_unread (names ∷ records) = if is_header names then first_unread_after records else Some 1
