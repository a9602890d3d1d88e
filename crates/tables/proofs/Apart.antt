-- Edits of a table leave its rows under numbers of their own.
use Rattle.std.proofs.Common.{◌≡◌, ◌≢◌, inl, inr, ℤ, Bool, true, false, not, List, [], ◌∷◌, map, filter, Ordering, Less, Equal, Greater, refl, sym, ap, subst, ◌∙◌, cond, true≢false}
use Rattle.std.specs.List.{AllByRecursion, IsDistinct}
use Rattle.std.specs.Ordering.{is_eq, match_ordering}
use Rattle.std.proofs.lemmas.Bool.{and_parts, or_parts, not-true}
use Rattle.std.proofs.lemmas.Cmp.{tied_back}
use Rattle.sqlite_value.specs.Order.{Row, column, value_cmp}
use Rattle.sqlite_value.proofs.OrderLemmas.{value_cmp_total}
use Rattle.sqlite_trees.specs.Tree.{rowid, has_rowid, put_row, without_rowid}
use Rattle.sqlite_rules.specs.Lists.{Has}
use Rattle.sqlite_rules.specs.Edit.{is_taken, are_fresh, put_all, without_all}
use Rattle.sqlite_rules.proofs.ListLemmas.{all_has, all_from, has_filtered}
use Rattle.sqlite_rules.proofs.ProbeLemmas.{has_mapped, mapped_has}
use Rattle.sqlite_rules.proofs.TableLemmas.{put_has}
use Rattle.tables.specs.Rows.{StandApart}

-- ---- rows under one number

pub one_place : (rows : List Row) → StandApart rows → (a b : Row) → Has rows a → Has rows b → value_cmp (rowid a) (rowid b) ≡ Equal → a ≡ b
one_place [] apart a b h k tie = absurd h
one_place (r ∷ rows) apart a b (inl first) (inl second) tie = first ∙ sym second
one_place (r ∷ rows) apart a b (inl first) (inr later) tie = absurd (all_has _ rows b apart.0 later (subst (λ x. value_cmp (rowid x) (rowid b) ≡ Equal) first tie))
one_place (r ∷ rows) apart a b (inr later) (inl second) tie =
    absurd (all_has _ rows a apart.0 later (tied_back value_cmp_total (rowid a) (rowid r) (subst (λ x. value_cmp (rowid a) (rowid x) ≡ Equal) second tie)))
one_place (r ∷ rows) apart a b (inr one) (inr other) tie = one_place rows apart.1 a b one other tie

-- ---- rows that are left

pub filter_apart : (test : Row → Bool) (rows : List Row) → StandApart rows → StandApart (filter test rows)
filter_apart test [] apart = tt
filter_apart test (r ∷ rows) apart =
    let rest = filter_apart test rows apart.1 in
    elim (test r) as (λ b. StandApart (cond b (r ∷ filter test rows) (filter test rows))) [
      | true ↦ (all_from _ (filter test rows) (λ x h. all_has _ rows x apart.0 (has_filtered test rows x h).0), rest)
      | false ↦ rest
    ]

pub left_apart : (ids : List ℤ) (rows : List Row) → StandApart rows → StandApart (without_all rows ids)
left_apart [] rows apart = apart
left_apart (id ∷ ids) rows apart = left_apart ids (without_rowid id rows) (filter_apart (λ r. not (has_rowid id r)) rows apart)

-- ---- rows that are new

untied : (o : Ordering) → is_eq o ≡ false → o ≢ Equal
untied o other same = true≢false (ap is_eq (sym same) ∙ other)

abbrev Put : Ordering → Row → Row → List Row → List Row
Put o new r rows = match_ordering o (r ∷ put_row new rows) (new ∷ rows) (new ∷ r ∷ rows)

all_untied : (new : Row) (rows : List Row) → is_taken rows new ≡ false → AllByRecursion (λ x. value_cmp (rowid new) (rowid x) ≢ Equal) rows
all_untied new [] free = tt
all_untied new (r ∷ rows) free =
    let parts = or_parts _ _ free in
    (λ same. untied _ parts.0 (tied_back value_cmp_total (rowid new) (rowid r) same), all_untied new rows parts.1)

pub put_apart : (new : Row) (rows : List Row) → StandApart rows → is_taken rows new ≡ false → StandApart (put_row new rows)
put_apart new [] apart free = (tt, tt)
put_apart new (r ∷ rows) apart free =
    let parts = or_parts _ _ free in
    elim (value_cmp (rowid r) (rowid new)) as (λ o. o ≢ Equal → StandApart (Put o new r rows)) [
      | Less ↦ λ _. (
        all_from _ (put_row new rows) (λ x h. elim (put_has new rows x h) [
          | inl same ↦ λ tie. untied _ parts.0 (subst (λ y. value_cmp (rowid r) (rowid y) ≡ Equal) same tie)
          | inr was ↦ all_has _ rows x apart.0 was
        ]),
        put_apart new rows apart.1 parts.1,
      )
      | Equal ↦ λ other. absurd (other refl)
      | Greater ↦ λ _. (all_untied new (r ∷ rows) free, apart)
    ] (untied _ parts.0)

pub puts_apart : (news rows : List Row) → StandApart rows → are_fresh rows news ≡ true → StandApart (put_all rows news)
puts_apart [] rows apart fresh = apart
puts_apart (n ∷ news) rows apart fresh =
    let parts = and_parts _ _ fresh in
    puts_apart news (put_row n rows) (put_apart n rows apart (not-true _ parts.0)) parts.1

-- ---- rows whose numbers differ

pub distinct_places : (e : Row → Row → Bool) (number : Row → Row) → ((a b : Row) → value_cmp (rowid a) (rowid b) ≡ Equal → e (number a) (number b) ≡ true) → (rows : List Row) → IsDistinct e (map number rows) → StandApart rows
unfolding IsDistinct
distinct_places e number ties [] differ = tt
distinct_places e number ties (r ∷ rows) differ = (
  all_from _ rows (λ x h tie. true≢false (sym (ties r x tie) ∙ all_has _ (map number rows) (number x) differ.0 (mapped_has number rows x h))),
  distinct_places e number ties rows differ.1,
)
