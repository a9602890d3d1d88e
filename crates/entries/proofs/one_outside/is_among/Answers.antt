use Rattle.std.proofs.Common.{rules, ◌≡◌, refl, sym, ◌∙◌, ◌+◌, true, false, nat_eq, length, None, Some, slice_get}
use Rattle.std.proofs.lemmas.Option.{slice_get_past, slice_get_read}
use Rattle.std.specs.Str.{bytes_eq}
use Rattle.std.proofs.lemmas.Slice.Eq.{bytes_eq-Decides}
use Rattle.entries.proofs.OneOutside.{among, among_at, equal_numbers, none_at, not_both, numbers_equal}
use Rattle.entries.proofs.one_outside.is_among.Goals as goal

pub returns-then-number-row : goal.returns-then-number-row
returns-then-number-row c =
    let id = c.args.id.now in
    let all = c.args.all.now in
    let row = c.args.row.now in
    let place = c.in-Some.place in
    let times = c.in-Some-get.times.now in
    let tied : bytes_eq row.outside id ≡ true = search rules in
    let outside : row.outside ≡ id = (bytes_eq-Decides row.outside id).0 tied in
    let number : row.number ≡ place + 1 = search rules in
    let there : slice_get all place ≡ Some times = slice_get_read all (length all) place times refl (search rules) (search rules) in
    let out_at : times.block_out ≡ row.out_at = search rules in
    let in_at : c.number-then-number-row.result ≡ times.block_in = search rules in (
      λ e. among id all row place times outside number there (sym out_at) (sym (equal_numbers _ _ e) ∙ in_at),
      λ is. numbers_equal _ _ (in_at ∙ sym (among_at id all row place times number there is).1),
    )

pub returns-else-number-row : goal.returns-else-number-row
returns-else-number-row c =
    let id = c.args.id.now in
    let all = c.args.all.now in
    let row = c.args.row.now in
    let place = c.in-Some.place in
    let times = c.in-Some-get.times.now in
    let number : row.number ≡ place + 1 = search rules in
    let there : slice_get all place ≡ Some times = slice_get_read all (length all) place times refl (search rules) (search rules) in
    let out_at : c.number.result ≡ times.block_out = search rules in
    let other : nat_eq c.number.result row.out_at ≡ false = search rules in (
      λ e. not_both _ e other,
      λ is. numbers_equal _ _ (out_at ∙ sym (among_at id all row place times number there is).0),
    )

pub returns-in-None : goal.returns-in-None
returns-in-None c =
    let id = c.args.id.now in
    let all = c.args.all.now in
    let row = c.args.row.now in
    let place = c.in-Some.place in
    let number : row.number ≡ place + 1 = search rules in
    let there : slice_get all place ≡ None = slice_get_past all place (search rules) in
    (λ e. not_both false e refl, λ is. absurd (none_at id all row place number there is))
