use Rattle.std.proofs.Common.{rules, ◌≡◌, [], ◌++◌, ap, sym, ◌∙◌, map, append-nil}
use Rattle.serde_json.specs.View.{view}
use Rattle.report_json.specs.ExceedancesJson.{exceedance_row_json}
use Rattle.report_json.proofs.exceedances.rows_of.Goals as goal

pub returns : goal.returns
returns c =
    let empty : c.loop-id.id-iterator ≡ [] = search rules in
    record {
      rows = c.into_iter-id-iterator.result;
      are = rw c.into_iter-id-iterator.ensures.into_iter_gives c.iter-id-items.ensures;
      is = sym (append-nil (map view c.loop-id.rows.items)) ∙ ap (λ t. map view c.loop-id.rows.items ++ map exceedance_row_json t) (sym empty) ∙ c.loop-id.invariant;
    }
