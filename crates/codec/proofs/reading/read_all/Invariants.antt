use Rattle.std.proofs.Common.{◌≡◌, ◌+◌, ◌++◌, Some, not, is_some, drop, map}
use Rattle.std.specs.List.{position_from}
use Rattle.csv.specs.Records.{fields_of}
use Rattle.codec.specs.Records.{read_record, first_unread_after}
use Rattle.codec.proofs.reading.read_all.Given as goal

abbrev pub invariant-loop-index : goal.invariant-loop-index
invariant-loop-index l =
    (map Some l.segments.items ++ map read_record (map fields_of (drop l.index l.rows)) ≡ map read_record (map fields_of l.rows))
    × (position_from (λ fields. not (is_some (read_record fields))) (l.index + 2) (map fields_of (drop l.index l.rows)) ≡ first_unread_after (map fields_of l.rows))
