use Rattle.std.proofs.Common.{◌≡◌, rules, refl, subst, sym, arith, length, map, ℕ, Result, Err, IfErr}
use Rattle.std.specs.FinMap as fin
use Rattle.values.specs.Name.{name_cmp}
use Rattle.roster.specs.declared.state.LoggedCommand.{LoggedCommand}
use Rattle.tables.specs.Records.{request_row}
use Rattle.state_rows.specs.declared.fault.StoreFault.{StoreFault}
use Rattle.state_rows.specs.declared.fault.StoreFault.TheVariants.{Store}
use Rattle.entries.specs.Mapping.{HasStranger}
use Rattle.state_rows.specs.Rows.{row_of_request}
use Rattle.std.proofs.lemmas.Option.{slice_get_read}
use Rattle.lookup.specs.Requests.{AreKept, CanBeKept}
use Rattle.lookup.proofs.RequestLemmas.{none_kept, one_kept, stranger_at}
use Rattle.lookup.proofs.under_number.requests_of_rows.Goals as goal

pub loop-row-init : goal.loop-row-init
loop-row-init c = none_kept c.args.records.now c.new-all.result c.new-all.ensures

pub loop-row-preserved : goal.loop-row-preserved
loop-row-preserved c =
    one_kept c.args.records.now c.loop-row.row-index c.row-item.result
    (slice_get_read c.args.records.now (length c.args.records.now) c.loop-row.row-index c.row-item.result refl (omega arith) c.row-item.is) c.loop-row.all c.insert.new.self c.in_ok-key.key c.in_ok-key.kept (search rules) (search rules) c.loop-row.invariant

pub returns-clause-told : goal.returns-clause-told
returns-clause-told c = subst (λ (n : ℕ). AreKept c.args.records.now n c.loop-row.all) (search rules) c.loop-row.invariant

pub returns-in_err-key-clause-unread : goal.returns-in_err-key-clause-unread
returns-in_err-key-clause-unread c =
    let records = c.args.records.now in
    let fault = c.in_err-key.field-0.0 in
    let is : c.from_residual.result ≡ Err fault = search rules in
    subst (λ (r : Result (fin.FinMap name_cmp LoggedCommand) StoreFault). IfErr r (λ told. told ≡ Store → HasStranger row_of_request CanBeKept (map request_row records))) (sym is)
    (λ store. stranger_at records c.loop-row.row-index c.row-item.result (slice_get_read records (length records) c.loop-row.row-index c.row-item.result refl (omega arith) c.row-item.is) (c.in_err-key.ensures.unread store))
