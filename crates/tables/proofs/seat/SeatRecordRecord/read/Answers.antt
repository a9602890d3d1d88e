use Rattle.std.proofs.Common.{◌≡◌, ◌∙◌, ap, sym, refl, drop, length}
use Rattle.sqlite_value.specs.declared.value.Value.TheVariants.{Text}
use Rattle.sqlite_value.specs.Order.{column}
use Rattle.tables.specs.Records.{seat_row}
use Rattle.tables.proofs.Selecting.{is_row}
use Rattle.tables.proofs.ReadingLemmas.{below, err_says, err_told}
use Rattle.tables.proofs.seat.SeatRecordRecord.read.Goals as goal

pub returns-then-not-has_width-clause-damaged : goal.returns-then-not-has_width-clause-damaged
returns-then-not-has_width-clause-damaged c _ it = absurd (let e = sym c.if-not-has_width.true ∙ c.has_width.ensures.1 (ap length it.4) in cc)

pub returns-in_err-column : goal.returns-in_err-column
returns-in_err-column c =
    let told = c.from_residual.ensures.1 in
    let long = c.has_width.ensures.0 c.if-not-has_width.false in
    record {
      ok = err_says (λ row. drop c.args.first c.args.from.now ≡ seat_row row) c.from_residual.result c.in_err-column.field-0.0 told;
      damaged = λ is it. c.in_err-column.ensures.damaged (err_told c.from_residual.result c.in_err-column.field-0.0 _ told is) (below 0 3 long refl) (it.0.pairing, ap (λ r. column r 0) it.4, it.1);
      refused = λ is. absurd (c.in_err-column.ensures.read (err_told c.from_residual.result c.in_err-column.field-0.0 _ told is));
    }

pub returns-in_err-column-2 : goal.returns-in_err-column-2
returns-in_err-column-2 c =
    let told = c.from_residual-in_err-column-2.ensures.1 in
    let long = c.has_width.ensures.0 c.if-not-has_width.false in
    record {
      ok = err_says (λ row. drop c.args.first c.args.from.now ≡ seat_row row) c.from_residual-in_err-column-2.result c.in_err-column-2.field-0.0 told;
      damaged = λ is it. c.in_err-column-2.ensures.damaged (err_told c.from_residual-in_err-column-2.result c.in_err-column-2.field-0.0 _ told is) (below 1 3 long refl) (it.0.seat, ap (λ r. column r 1) it.4, it.2);
      refused = λ is. absurd (c.in_err-column-2.ensures.read (err_told c.from_residual-in_err-column-2.result c.in_err-column-2.field-0.0 _ told is));
    }

pub returns-in_err-column-3 : goal.returns-in_err-column-3
returns-in_err-column-3 c =
    let told = c.from_residual-in_err-column-3.ensures.1 in
    let long = c.has_width.ensures.0 c.if-not-has_width.false in
    record {
      ok = err_says (λ row. drop c.args.first c.args.from.now ≡ seat_row row) c.from_residual-in_err-column-3.result c.in_err-column-3.field-0.0 told;
      damaged = λ is it. c.in_err-column-3.ensures.damaged (err_told c.from_residual-in_err-column-3.result c.in_err-column-3.field-0.0 _ told is) (below 2 3 long refl) (it.0.crew, ap (λ r. column r 2) it.4, it.3);
      refused = λ is. absurd (c.in_err-column-3.ensures.read (err_told c.from_residual-in_err-column-3.result c.in_err-column-3.field-0.0 _ told is));
    }

pub returns-clause-ok : goal.returns-clause-ok
returns-clause-ok c = is_row _ (drop c.args.first c.args.from.now) (c.has_width.ensures.0 c.if-not-has_width.false) (c.in_ok-column.ensures.ok ∙ ap Text (sym c.new.ensures), (c.in_ok-column-2.ensures.ok, (c.in_ok-column-3.ensures.ok ∙ ap Text (sym c.new-2.ensures), tt)))
