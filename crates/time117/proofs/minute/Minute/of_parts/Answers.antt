use Rattle.std.proofs.Common.{◌≡◌, false, arith, refl, rules, w8, w16}
use Rattle.std.proofs.lemmas.Int.{to_z_pos}
use Rattle.time117.specs.Instant.{is_time}
use Rattle.time117.proofs.DateFacts.{no_date_no_time}
use Rattle.time117.proofs.minute.Minute.of_parts.Goals as goal

pub returns-in_default : goal.returns-in_default
returns-in_default c =
    let year = to_z_pos w16 c.args.year (omega arith) in
    let month = to_z_pos w8 c.args.month (omega arith) in
    let day = to_z_pos w8 c.args.day (omega arith) in
    let none : is_time c.args.year c.args.month c.args.day c.args.hour c.args.minute ≡ false =
    no_date_no_time c.args.year c.args.month c.args.day c.args.hour c.args.minute c.requires.year
    (λ date. let ok = c.in_default.ensures.succeeds.1 (rw (year, month, day) date) in search rules) in
    rw none refl
