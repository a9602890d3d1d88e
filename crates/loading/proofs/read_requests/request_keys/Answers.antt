use Rattle.std.proofs.Common.{rules, refl, sym, subst, ◌∙◌, length, ℕ, List}
use Rattle.std.proofs.lemmas.List.{nil_from_length}
use Rattle.std.specs.Vec.Iter.{into_iter_items}
use Rattle.tables.specs.declared.request.RequestRecord.{RequestRecord}
use Rattle.loading.specs.Reading.{KeysRead}
use Rattle.loading.proofs.InTurn.{next_there, next_split, one_more_taken, all_taken_out}
use Rattle.loading.proofs.ReadRequests.{none_read, stranger, one_read}
use Rattle.loading.proofs.read_requests.request_keys.Goals as goal

pub loop-row-init : goal.loop-row-init
loop-row-init c = (search rules, none_read c.args.edition c.args.records.items c.new-keys.result c.new-keys.ensures)

pub returns-in_default : goal.returns-in_default
returns-in_default c = (
  refl,
  stranger c.args.edition c.args.records.items (length c.loop-row.yielded) c.in-Some.row
      (next_there c.loop-row.yielded _ (into_iter_items c.next.new.self) c.args.records.items c.in-Some.row c.loop-row.invariant.0 c.in-Some.ensures.steps.0) (search rules),
)

pub loop-row-preserved : goal.loop-row-preserved
loop-row-preserved c =
    let done = c.loop-row.yielded in
    let row = c.in-Some.row in
    let rest = into_iter_items c.next.new.self in
    let all = c.args.records.items in
    let here = next_there done _ rest all row c.loop-row.invariant.0 c.in-Some.ensures.steps.0 in (
      next_split done _ rest all row c.loop-row.invariant.0 c.in-Some.ensures.steps.0,
      subst (λ (n : ℕ). KeysRead c.args.edition all n c.insert.new.self) (sym (one_more_taken done row))
          (one_read c.args.edition all (length done) row here c.loop-row.keys c.insert.new.self c.in-Some-2.key (search rules) c.loop-row.invariant.1 c.in_ok-insert.ensures.ok),
    )

pub returns : goal.returns
returns c =
    subst (λ (done : List RequestRecord). KeysRead c.args.edition c.args.records.items (length done) c.loop-row.keys)
    (all_taken_out c.loop-row.yielded (into_iter_items c.loop-row.row-iterator) c.args.records.items c.loop-row.invariant.0 (nil_from_length (into_iter_items c.loop-row.row-iterator) (sym c.loop-row.row-iterator.rest.ok.0 ∙ c.in-None.ensures.steps.0))) c.loop-row.invariant.1
