use Rattle.std.proofs.Common.{◌≡◌, ◌∙◌, ap, sym, refl, drop, length}
use Rattle.sqlite_value.specs.declared.value.Value.TheVariants.{Text}
use Rattle.sqlite_value.specs.Order.{column}
use Rattle.tables.specs.Records.{pairing_row}
use Rattle.tables.proofs.Selecting.{is_row}
use Rattle.tables.proofs.ReadingLemmas.{below, err_says, err_told}
use Rattle.tables.proofs.pairing.PairingRecordRecord.read.Goals as goal

pub returns-then-not-has_width-clause-damaged : goal.returns-then-not-has_width-clause-damaged
returns-then-not-has_width-clause-damaged c _ it = absurd (let e = sym c.if-not-has_width.true ∙ c.has_width.ensures.1 (ap length it.2) in cc)

pub returns-in_err-column : goal.returns-in_err-column
returns-in_err-column c =
    let told = c.from_residual.ensures.1 in
    let long = c.has_width.ensures.0 c.if-not-has_width.false in
    record {
      ok = err_says (λ row. drop c.args.first c.args.from.now ≡ pairing_row row) c.from_residual.result c.in_err-column.field-0.0 told;
      damaged = λ is it. c.in_err-column.ensures.damaged (err_told c.from_residual.result c.in_err-column.field-0.0 _ told is) (below 0 1 long refl) (it.0.id, ap (λ r. column r 0) it.2, it.1);
      refused = λ is. absurd (c.in_err-column.ensures.read (err_told c.from_residual.result c.in_err-column.field-0.0 _ told is));
    }

pub returns-clause-ok : goal.returns-clause-ok
returns-clause-ok c = is_row _ (drop c.args.first c.args.from.now) (c.has_width.ensures.0 c.if-not-has_width.false) (c.in_ok-column.ensures.ok ∙ ap Text (sym c.new.ensures), tt)
