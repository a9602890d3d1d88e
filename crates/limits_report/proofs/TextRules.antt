-- The lines that end in `exceeds` are those of the rules that the new duties break.
use Rattle.std.proofs.Common.{◌≡◌, ◌∙◌, ℕ, Bool, true, false, not, List, [], ◌∷◌, ◌++◌, map, length, drop, Contains, Option, Some, None, refl, sym, ap, ap₂, inl, inr}
use Rattle.std.specs.Prelude.{IsTrue, ◌↔◌}
use Rattle.std.specs.FinMap as fin
use Rattle.std.specs.List.{filter}
use Rattle.std.specs.Option.{option_map, option_map_or}
use Rattle.std.specs.Str.{bytes_eq}
use Rattle.std.proofs.lemmas.Bool.{cases_Bool, false≢true}
use Rattle.std.proofs.lemmas.List.{map-append, length-map}
use Rattle.std.proofs.lemmas.List.Elements.{filter_agree}
use Rattle.std.proofs.lemmas.Option.{same_Some}
use Rattle.std.proofs.lemmas.Slice.Eq.{bytes_eq-Decides}
use Rattle.std.proofs.Math.Seq.{drop-append_seam}
use Rattle.limits.specs.Judgement.{Broken, all_sections}
use Rattle.limits.specs.Laws.Decisions.{breaks, breaks_is}
use Rattle.limits.specs.Rules.{Rule}
use Rattle.nearness.specs.Nearness.{exceeds}
use Rattle.nearness.proofs.Rules as near
use Rattle.roster.specs.Pairings.{holds}
use Rattle.roster.specs.Places.{Place, period, on_ground, outside, Placed, duties, history_of, no_place, others, periods_at, the_pairing}
use Rattle.roster.specs.Refusals.{broken_by, duties_of}
use Rattle.roster.specs.State.{State, zone_of}
use Rattle.roster.specs.declared.state.PairingEntry.{PairingEntry}
use Rattle.roster.proofs.Members.{is_first, is_later}
use Rattle.roster.proofs.Standing.{standing}
use Rattle.limits_report.specs.Laws.{LineExceedsIsRule, ExceedsIsBroken, ExceedsIsRefused}
use Rattle.limits_report.specs.LimitsText.{IsLimitsText}
use Rattle.limits_report.specs.NearestLimits.{Judged, as_if_held}

-- the new duties are the last of all
last : (j : Judged) → drop (length j.others) (duties (j.others ++ j.new)) ≡ duties j.new
last j =
    let joined : duties (j.others ++ j.new) ≡ duties j.others ++ duties j.new = map-append (λ (p : Placed). p.1) j.others j.new in
    let long : length (duties j.others) ≡ length j.others = length-map j.others (λ (p : Placed). p.1) in
    ap₂ (λ n ds. drop n ds) (sym long) joined ∙ drop-append_seam (duties j.others) (duties j.new)

pub is_rule : LineExceedsIsRule
is_rule s who pairing text is section =
    let j = is.of in
    near.exceeds_is_rule (duties (j.others ++ j.new)) (duties j.new) (length j.others) is.told.are.nearness (last j) is.told.are.nearest section

-- ---- The limits that a pairing breaks

same_test : (a b : Bool) (R : Type 0) → IsTrue a ↔ R → IsTrue b ↔ R → a ≡ b
same_test true true R x y = refl
same_test true false R x y = sym (y.1 (x.0 refl))
same_test false true R x y = x.1 (y.0 refl)
same_test false false R x y = refl

-- the pairing is there
there : (s : State) (who id : List ℕ) (o : Option PairingEntry) (j : Judged) → option_map (as_if_held s who id) o ≡ Some j →
    (r : PairingEntry) × (o ≡ Some r) × (as_if_held s who id r ≡ j)
there s who id None j is = absurd (let no : None ≡ Some j = is in cc)
there s who id (Some r) j is = (r, refl, same_Some (as_if_held s who id r) j is)

new_are : (s : State) (who id text : List ℕ) (is : IsLimitsText s who (Some id) text) → duties is.of.new ≡ duties_of s who id
new_are s who id text is =
    let r = there s who id (fin.get s.pairings id) is.of is.are_judged in
    ap (λ (j : Judged). duties j.new) (sym r.2)
    ∙ sym (ap (λ o. option_map_or (λ r. duties (periods_at (zone_of s who) (id, r))) o []) r.1)

all_are : (s : State) (who id text : List ℕ) (is : IsLimitsText s who (Some id) text) →
    duties (is.of.others ++ is.of.new) ≡ others s who (the_pairing id) ++ duties_of s who id
all_are s who id text is =
    let r = there s who id (fin.get s.pairings id) is.of is.are_judged in
    map-append (λ (p : Placed). p.1) is.of.others is.of.new
    ∙ ap₂ (λ xs ys. xs ++ ys) (ap (λ (j : Judged). duties j.others) (sym r.2)) (new_are s who id text is)

pub is_broken : ExceedsIsBroken
unfolding Broken
is_broken s who id text is =
    let all = duties (is.of.others ++ is.of.new) in
    let new = duties is.of.new in
    filter_agree (λ section. exceeds section is.told.are.nearness) (λ section. breaks section all new)
    (λ section. same_test (exceeds section is.told.are.nearness) (breaks section all new) (Rule section all new)
    (is_rule s who (Some id) text is section) (breaks_is section all new)) all_sections
    ∙ ap₂ Broken (all_are s who id text is) (new_are s who id text is)

-- ---- The refusal of an assignment

-- nothing is left out of a list of which no place is left out
kept : (out : Place → Bool) (xs : List Placed) → ((p : Placed) → Contains xs p → out p.0 ≡ false) → filter (λ p. not (out p.0)) xs ≡ xs
kept out [] none = refl
kept out (x ∷ xs) none =
    let first : out x.0 ≡ false = none x (is_first x xs x refl) in
    rw first (ap (λ ps. x ∷ ps) (kept out xs (λ p c. none p (is_later x xs p c))))

-- a pairing that a member doesn't hold has no place among the member's duties
not_there : (s : State) (who id : List ℕ) → option_map_or (holds who) (fin.get s.pairings id) false ≡ false →
    (p : Placed) → Contains (history_of s who) p → the_pairing id p.0 ≡ false
not_there s who id free (period q n, d) c = elim (cases_Bool (bytes_eq id q)) [
  | inr other ↦ other
  | inl is ↦ (let same : id ≡ q = (bytes_eq-Decides id q).0 is in
      let h = standing s who (period q n, d) c in
      let at : option_map_or (holds who) (fin.get s.pairings id) false ≡ holds who h.0 =
      ap (λ x. option_map_or (holds who) (fin.get s.pairings x) false) same ∙ ap (λ o. option_map_or (holds who) o false) h.1 in
      absurd (false≢true (sym free ∙ at ∙ h.2)))
]
not_there s who id free (on_ground q, d) c = refl
not_there s who id free (outside q, d) c = refl

same_others : (s : State) (who id : List ℕ) → option_map_or (holds who) (fin.get s.pairings id) false ≡ false →
    others s who no_place ≡ others s who (the_pairing id)
same_others s who id free =
    ap duties (kept no_place (history_of s who) (λ _ _. refl) ∙ sym (kept (the_pairing id) (history_of s who) (not_there s who id free)))

pub is_refused : ExceedsIsRefused
unfolding broken_by
is_refused s who id text is free =
    ap (λ olds. map (λ section. record { crew = who; section = section }) (Broken (olds ++ duties_of s who id) (duties_of s who id))) (same_others s who id free)
    ∙ ap (map (λ section. record { crew = who; section = section })) (sym (is_broken s who id text is))
