-- What the parts of a command are read as: nothing, if a part is of the wrong kind, out of its
-- range or not one of its words, or lacks or holds a part that isn't read. Members that aren't
-- named are ignored.
use Rattle.std.specs.Prelude.{ℕ, List, [], ◌∷◌, Option, Some, None, option_and_then, option_map}
use Rattle.std.specs.Prelude.{codes, if◌then◌else◌}
use Rattle.std.specs.Result.{result_ok}
use Rattle.serde_json.specs.Data.{Data, Items, no_items, item}
use Rattle.serde_json.specs.Find.{get, as_str, as_number, as_u64, as_array}
use Rattle.time117.specs.Instant.{read_instant}
use Rattle.time117.specs.Local.{is_zone_text}
use Rattle.duty.specs.Shape.{is_within}
use Rattle.duty.specs.declared.fdp.Fdp.{Fdp}
use Rattle.duty.specs.declared.segment.BlockTimes.{BlockTimes}
use Rattle.duty.specs.declared.segment.Segment.{Segment}
use Rattle.command.specs.Texts.{seat_text}
use Rattle.command.specs.declared.member.Seat.{Seat}
use Rattle.command.specs.declared.member.Seat.TheVariants.{Captain, FirstOfficer}
use Rattle.stored_json.specs.Fields.{all_verbs, verb_text, worded}
use Rattle.stored_json.specs.declared.verb.Verb.{Verb}

-- the next step, with the part that was read, or nothing if the part wasn't read
abbrev pub with_part : {A B : Type 0} → Option A → (A → Option B) → Option B
with_part None next = None
with_part (Some part) next = next part

-- what the member with this name is read as, if there is one
abbrev pub read_named_part : {A : Type 0} → (Data → Option A) → List ℕ → Data → Option A
read_named_part reads name d = option_and_then reads (get name d)

-- what the items of a list are read as, if each is read
abbrev pub read_each : {A : Type 0} → (Data → Option A) → Items → Option (List A)
read_each reads no_items = Some []
read_each reads (item d ds) =
    with_part (reads d) (λ part. option_map (λ parts. part ∷ parts) (read_each reads ds))

-- what a JSON array is read as, item by item
abbrev pub read_list : {A : Type 0} → (Data → Option A) → Data → Option (List A)
read_list reads d = option_and_then (read_each reads) (as_array d)

-- what an instant is read as, in either of its written forms
abbrev pub read_time : Data → Option ℕ
read_time d = option_and_then (λ text. result_ok (read_instant text)) (as_str d)

-- what a zone is read as: its rule text
abbrev pub read_zone : Data → Option (List ℕ)
read_zone d = option_and_then (λ text. if is_zone_text text then Some text else None) (as_str d)

-- what the number of a period is read as, from 1 to 10
abbrev pub read_period_number : Data → Option ℕ
read_period_number d =
    with_part (option_and_then as_u64 (as_number d)) (λ number.
    if is_within 1 10 number then Some number else None)

-- what a seat is read as, by its word
abbrev pub read_seat : Data → Option Seat
read_seat d = option_and_then (worded seat_text (Captain ∷ FirstOfficer ∷ [])) (as_str d)

-- what a verb is read as, by its word
abbrev pub read_verb : Data → Option Verb
read_verb d = option_and_then (worded verb_text all_verbs) (as_str d)

-- what the times of a segment as it was flown are read as
abbrev pub read_times : Data → Option BlockTimes
read_times d =
    with_part (read_named_part read_time (codes "out") d) (λ block_out.
    with_part (read_named_part read_time (codes "in") d) (λ block_in.
    Some (record { block_out = block_out; block_in = block_in })))

-- what a segment is read as, whatever the shapes of its texts
abbrev pub read_segment : Data → Option Segment
read_segment d =
    with_part (read_named_part as_str (codes "flight") d) (λ flight.
    with_part (read_named_part as_str (codes "from") d) (λ origin.
    with_part (read_named_part read_time (codes "out") d) (λ block_out.
    with_part (read_named_part as_str (codes "to") d) (λ destination.
    with_part (read_named_part read_time (codes "in") d) (λ block_in.
    Some (record {
      flight = flight;
      from = origin;
      block_out = block_out;
      to = destination;
      block_in = block_in;
    }))))))

-- what a period is read as: a period as it is planned
abbrev pub read_period : Data → Option Fdp
read_period d =
    with_part (read_named_part read_time (codes "report") d) (λ report.
    with_part (read_named_part read_time (codes "release") d) (λ release.
    with_part (read_named_part (read_list read_segment) (codes "segments") d) (λ segments.
    Some (record {
      planned_report = report;
      report = report;
      release = release;
      segments = segments;
    }))))
