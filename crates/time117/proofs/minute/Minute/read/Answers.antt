use Rattle.std.proofs.Common.{◌≡◌, true, refl, arith}
use Rattle.time117.specs.Instant.{is_written, read_instant}
use Rattle.time117.proofs.FormLemmas.{digit_at}
use Rattle.time117.proofs.ReadLemmas.{read_first_form}
use Rattle.time117.proofs.minute.Minute.read.Goals as goal

pub pair_at-requires-3-clause-second : goal.pair_at-requires-3-clause-second
pair_at-requires-3-clause-second c =
    let form : is_written c.args.text.now ≡ true = cc in
    digit_at c.args.text.now form 6 refl refl (omega arith)

pub pair_at-requires-4-clause-first : goal.pair_at-requires-4-clause-first
pair_at-requires-4-clause-first c =
    let form : is_written c.args.text.now ≡ true = cc in
    digit_at c.args.text.now form 8 refl refl (omega arith)

pub pair_at-requires-4-clause-second : goal.pair_at-requires-4-clause-second
pair_at-requires-4-clause-second c =
    let form : is_written c.args.text.now ≡ true = cc in
    digit_at c.args.text.now form 9 refl refl (omega arith)

pub pair_at-requires-5-clause-first : goal.pair_at-requires-5-clause-first
pair_at-requires-5-clause-first c =
    let form : is_written c.args.text.now ≡ true = cc in
    digit_at c.args.text.now form 11 refl refl (omega arith)

pub pair_at-requires-5-clause-second : goal.pair_at-requires-5-clause-second
pair_at-requires-5-clause-second c =
    let form : is_written c.args.text.now ≡ true = cc in
    digit_at c.args.text.now form 12 refl refl (omega arith)

pub pair_at-requires-6-clause-first : goal.pair_at-requires-6-clause-first
pair_at-requires-6-clause-first c =
    let form : is_written c.args.text.now ≡ true = cc in
    digit_at c.args.text.now form 14 refl refl (omega arith)

pub pair_at-requires-6-clause-second : goal.pair_at-requires-6-clause-second
pair_at-requires-6-clause-second c =
    let form : is_written c.args.text.now ≡ true = cc in
    digit_at c.args.text.now form 15 refl refl (omega arith)

pub returns-clause-first_form : goal.returns-clause-first_form
unfolding read_instant
returns-clause-first_form c =
    let form : is_written c.args.text.now ≡ true = cc in
    let value : c.of_parts.result ≡ read_instant c.args.text.now =
    rw (form, ← c.pair_at.ensures.value, ← c.pair_at-2.ensures.value, ← c.pair_at-3.ensures.value, ← c.pair_at-4.ensures.value, ← c.pair_at-5.ensures.value, ← c.pair_at-6.ensures.value) c.of_parts.ensures in
    read_first_form c.args.text.now c.of_parts.result value
