use Rattle.std.proofs.Common.{◌≡◌, ◌∙◌, ◌+◌, List, ◌∷◌, ◌++◌, sym, ap, Some, map, drop}
use Rattle.std.specs.List.{position_from}
use Rattle.csv.specs.Records.{Row, fields_of}
use Rattle.codec.specs.Records.{read_record}
use Rattle.codec.proofs.Rows.{next_row, more_read, more_found, is_unread}
use Rattle.codec.proofs.reading.read_all.Goals as goal

pub loop-index-preserved : goal.loop-index-preserved
loop-index-preserved c =
    let rows = c.args.rows.now in
    let i = c.loop-index.index in
    let row = c.index-rows-index.result in
    let segments = c.loop-index.segments.items in
    let inv = c.loop-index.invariant in
    let read = c.in-Ok.ensures.read in
    let here : drop i rows ≡ row ∷ drop (i + 1) rows = rw c.index-rows-index.is (next_row rows i row c.loop-index-test.true) in (
      rw c.in_ok-push-in-Ok.ensures.items (
          more_read segments c.in-Ok.segment row (drop (i + 1) rows) read
          ∙ ap (λ (t : List Row). map Some segments ++ map read_record (map fields_of t)) (sym here) ∙ inv.0),
      more_found i c.in-Ok.segment row (drop (i + 1) rows) read
          ∙ ap (λ (t : List Row). position_from is_unread (i + 2) (map fields_of t)) (sym here) ∙ inv.1,
    )
