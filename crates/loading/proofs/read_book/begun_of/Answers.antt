use Rattle.std.proofs.Common.{rules, refl}
use Rattle.loading.proofs.ReadBook.{begun_of, no_zone, other_number}
use Rattle.loading.proofs.read_book.begun_of.Goals as goal

pub returns-then-book-ne1 : goal.returns-then-book-ne1
returns-then-book-ne1 c = (refl, other_number c.args.records.now c.in-Some.book.now c.in-Some-edition_of.edition (search rules) (search rules) (search rules))

pub returns-in-Err-ZoneText : goal.returns-in-Err-ZoneText
returns-in-Err-ZoneText c = (refl, no_zone c.args.records.now c.in-Some.book.now c.in-Some-edition_of.edition (search rules) (search rules) (search rules))

pub returns-in_ok-empty-in-Ok : goal.returns-in_ok-empty-in-Ok
returns-in_ok-empty-in-Ok c =
    begun_of c.args.records.now c.in-Some.book.now c.in-Some-edition_of.edition c.in-Ok.zone c.in_ok-empty-in-Ok.field-0 (search rules) (search rules) (search rules) (search rules) (search rules) (search rules)
