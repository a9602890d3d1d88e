-- What is left of a member's duties.
use Rattle.std.proofs.Common.{◌≡◌, ◌∙◌, ℕ, ◌+◌, true, false, not, List, [], ◌∷◌, ◌++◌, map, cond, append_assoc, refl, ap, ap₂, subst, sym, Option, Some, None}
use Rattle.std.specs.FinMap as fin
use Rattle.std.specs.List.{filter, flat_map}
use Rattle.std.specs.Str.{bytes_eq}
use Rattle.duty.specs.DutiesInForce.{in_force}
use Rattle.duty.specs.Plans.{GroundPlan}
use Rattle.duty.specs.declared.placed_duty.Duty.TheVariants as duty
use Rattle.duty.specs.declared.fdp.Fdp.{Fdp}
use Rattle.values.specs.Name.{named_rows}
use Rattle.roster.specs.Pairings.{holds, periods_in_force}
use Rattle.roster.specs.Places.{period, Placed, ground_at, outside_at, numbered, periods_at, periods_of, grounds_of, outsides_of, history_of}
use Rattle.roster.specs.State.{State}
use Rattle.roster.specs.declared.state.OutsideEntry.{OutsideEntry}
use Rattle.roster.specs.declared.state.PairingEntry.{PairingEntry}
use Rattle.limits_report.specs.Listing.{all_but_pairing, is_of, named_duty}
use Rattle.limits_report.specs.declared.named_duties.NamedDuty.{NamedDuty}

pub but_append : (out : Option (List ℕ)) (xs ys : List Placed) → all_but_pairing out (xs ++ ys) ≡ all_but_pairing out xs ++ all_but_pairing out ys
but_append out [] ys = refl
but_append out (x ∷ xs) ys =
    elim (is_of out x.0) as (λ b. map named_duty (cond (not b) (x ∷ filter (λ p. not (is_of out p.0)) (xs ++ ys)) (filter (λ p. not (is_of out p.0)) (xs ++ ys)))
    ≡ map named_duty (cond (not b) (x ∷ filter (λ p. not (is_of out p.0)) xs) (filter (λ p. not (is_of out p.0)) xs)) ++ all_but_pairing out ys) [
      | true ↦ but_append out xs ys
      | false ↦ ap (λ ds. named_duty x ∷ ds) (but_append out xs ys)
    ]

-- the periods of a pairing that is left out
pub but_left : (out : Option (List ℕ)) (zone id : List ℕ) (n : ℕ) (fdps : List Fdp) → ((number : ℕ) → true ≡ is_of out (period id number))
    → all_but_pairing out (numbered zone id n fdps) ≡ []
but_left out zone id n [] is = refl
but_left out zone id n (fdp ∷ fdps) is = rw (sym (is n)) (but_left out zone id (n + 1) fdps is)

-- the periods of another pairing
pub but_kept : (out : Option (List ℕ)) (zone id : List ℕ) (n : ℕ) (fdps : List Fdp) → ((number : ℕ) → false ≡ is_of out (period id number))
    → all_but_pairing out (numbered zone id n fdps) ≡ map named_duty (numbered zone id n fdps)
but_kept out zone id n [] is = refl
but_kept out zone id n (fdp ∷ fdps) is =
    rw (sym (is n)) (ap (λ ds. named_duty (period id n, in_force zone (duty.Fdp fdp)) ∷ ds) (but_kept out zone id (n + 1) fdps is))

-- no ground duty is left out
pub but_grounds : (out : Option (List ℕ)) (rows : List (List ℕ × GroundPlan)) → all_but_pairing out (map ground_at rows) ≡ map named_duty (map ground_at rows)
but_grounds None [] = refl
but_grounds (Some id) [] = refl
but_grounds None (row ∷ rows) = ap (λ ds. named_duty (ground_at row) ∷ ds) (but_grounds None rows)
but_grounds (Some id) (row ∷ rows) = ap (λ ds. named_duty (ground_at row) ∷ ds) (but_grounds (Some id) rows)

-- no outside period is left out
pub but_outsides : (out : Option (List ℕ)) (rows : List (List ℕ × OutsideEntry)) → all_but_pairing out (map outside_at rows) ≡ map named_duty (map outside_at rows)
but_outsides None [] = refl
but_outsides (Some id) [] = refl
but_outsides None (row ∷ rows) = ap (λ ds. named_duty (outside_at row) ∷ ds) (but_outsides None rows)
but_outsides (Some id) (row ∷ rows) = ap (λ ds. named_duty (outside_at row) ∷ ds) (but_outsides (Some id) rows)

-- all duties of a member, but for the pairing that is left out
pub all_left : (out : Option (List ℕ)) (s : State) (who : List ℕ) (a b d e : List NamedDuty) → a ≡ [] → b ≡ a ++ all_but_pairing out (periods_of s who) →
    d ≡ b ++ map named_duty (grounds_of s who) → e ≡ d ++ map named_duty (outsides_of s who) → e ≡ all_but_pairing out (history_of s who)
all_left out s who a b d e none held grounds outsides =
    let periods : b ≡ all_but_pairing out (periods_of s who) = held ∙ ap (λ ds. ds ++ all_but_pairing out (periods_of s who)) none in
    let with_grounds : d ≡ all_but_pairing out (periods_of s who ++ grounds_of s who) =
    grounds ∙ ap₂ (λ ds es. ds ++ es) periods (sym (but_grounds out (filter (λ row. bytes_eq row.1.crew who) (fin.entries s.grounds))))
    ∙ sym (but_append out (periods_of s who) (grounds_of s who)) in
    outsides ∙ ap₂ (λ ds es. ds ++ es) with_grounds (sym (but_outsides out (filter (λ row. bytes_eq row.1.crew who) (fin.entries s.outsides))))
    ∙ sym (but_append out (periods_of s who ++ grounds_of s who) (outsides_of s who))

-- one pairing more, which is not left out
pub one_kept : (out : Option (List ℕ)) (zone id : List ℕ) (r : PairingEntry) (more : List Placed) (a b all : List NamedDuty)
    → ((number : ℕ) → false ≡ is_of out (period id number)) → b ≡ a ++ map named_duty (periods_at zone (id, r))
    → a ++ all_but_pairing out (periods_at zone (id, r) ++ more) ≡ all → b ++ all_but_pairing out more ≡ all
one_kept out zone id r more a b all is added so_far =
    ap (λ ds. ds ++ all_but_pairing out more) (added ∙ ap (λ ds. a ++ ds) (sym (but_kept out zone id 1 (periods_in_force r) is)))
    ∙ append_assoc a (all_but_pairing out (periods_at zone (id, r))) (all_but_pairing out more)
    ∙ ap (λ ds. a ++ ds) (sym (but_append out (periods_at zone (id, r)) more)) ∙ so_far

-- one pairing more, which is left out
pub one_left : (out : Option (List ℕ)) (zone id : List ℕ) (r : PairingEntry) (more : List Placed) (a all : List NamedDuty)
    → ((number : ℕ) → true ≡ is_of out (period id number))
    → a ++ all_but_pairing out (periods_at zone (id, r) ++ more) ≡ all → a ++ all_but_pairing out more ≡ all
one_left out zone id r more a all is so_far =
    ap (λ ds. a ++ (ds ++ all_but_pairing out more)) (sym (but_left out zone id 1 (periods_in_force r) is))
    ∙ ap (λ ds. a ++ ds) (sym (but_append out (periods_at zone (id, r)) more)) ∙ so_far

-- the periods of the pairings in a list of rows that a member holds
abbrev pub held_rows : (who zone : List ℕ) → List (List ℕ × PairingEntry) → List Placed
held_rows who zone rows = flat_map (periods_at zone) (filter (λ row. holds who row.1) (named_rows (λ id. id) rows))

first_held : (who zone id : List ℕ) (r : PairingEntry) (rows rest : List (List ℕ × PairingEntry)) → rows ≡ (id, r) ∷ rest → true ≡ holds who r
    → held_rows who zone rows ≡ periods_at zone (id, r) ++ held_rows who zone rest
first_held who zone id r rows rest is held =
    ap (held_rows who zone) is
    ∙ ap (λ b. flat_map (periods_at zone) (cond b ((id, r) ∷ filter (λ row. holds who row.1) (named_rows (λ id. id) rest)) (filter (λ row. holds who row.1) (named_rows (λ id. id) rest)))) (sym held)

first_free : (who zone id : List ℕ) (r : PairingEntry) (rows rest : List (List ℕ × PairingEntry)) → rows ≡ (id, r) ∷ rest → false ≡ holds who r
    → held_rows who zone rows ≡ held_rows who zone rest
first_free who zone id r rows rest is free =
    ap (held_rows who zone) is
    ∙ ap (λ b. flat_map (periods_at zone) (cond b ((id, r) ∷ filter (λ row. holds who row.1) (named_rows (λ id. id) rest)) (filter (λ row. holds who row.1) (named_rows (λ id. id) rest)))) (sym free)

pub row_kept : (out : Option (List ℕ)) (who zone own id : List ℕ) (r : PairingEntry) (rows rest : List (List ℕ × PairingEntry)) (a b all : List NamedDuty)
    → rows ≡ (id, r) ∷ rest → true ≡ holds who r → ((number : ℕ) → false ≡ is_of out (period id number)) → own ≡ zone
    → b ≡ a ++ map named_duty (periods_at own (id, r)) → a ++ all_but_pairing out (held_rows who zone rows) ≡ all
    → b ++ all_but_pairing out (held_rows who zone rest) ≡ all
row_kept out who zone own id r rows rest a b all is held other same added so_far =
    one_kept out zone id r (held_rows who zone rest) a b all other (subst (λ z. b ≡ a ++ map named_duty (periods_at z (id, r))) same added)
    (ap (λ ps. a ++ all_but_pairing out ps) (sym (first_held who zone id r rows rest is held)) ∙ so_far)

pub row_left : (out : Option (List ℕ)) (who zone id : List ℕ) (r : PairingEntry) (rows rest : List (List ℕ × PairingEntry)) (a all : List NamedDuty)
    → rows ≡ (id, r) ∷ rest → true ≡ holds who r → ((number : ℕ) → true ≡ is_of out (period id number))
    → a ++ all_but_pairing out (held_rows who zone rows) ≡ all → a ++ all_but_pairing out (held_rows who zone rest) ≡ all
row_left out who zone id r rows rest a all is held left so_far =
    one_left out zone id r (held_rows who zone rest) a all left
    (ap (λ ps. a ++ all_but_pairing out ps) (sym (first_held who zone id r rows rest is held)) ∙ so_far)

pub row_free : (out : Option (List ℕ)) (who zone id : List ℕ) (r : PairingEntry) (rows rest : List (List ℕ × PairingEntry)) (a all : List NamedDuty)
    → rows ≡ (id, r) ∷ rest → false ≡ holds who r
    → a ++ all_but_pairing out (held_rows who zone rows) ≡ all → a ++ all_but_pairing out (held_rows who zone rest) ≡ all
row_free out who zone id r rows rest a all is free so_far =
    ap (λ ps. a ++ all_but_pairing out ps) (sym (first_free who zone id r rows rest is free)) ∙ so_far
