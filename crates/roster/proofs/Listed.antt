-- The limits that are listed of new duties.
use Rattle.std.proofs.Common.{◌≡◌, ℕ, List, [], ◌∷◌, ◌++◌, map, refl, sym, ap, subst}
use Rattle.std.specs.List.{Contains}
use Rattle.limits.proofs.Ordered.{broken_is_in_order}
use Rattle.limits.specs.Judgement.{Broken}
use Rattle.limits.specs.Laws.Broken.{broken_is}
use Rattle.limits.specs.Meaning.{AreInOrder}
use Rattle.limits.specs.declared.section.Section.{Section}
use Rattle.command.specs.declared.exceedance.Exceedance.{Exceedance}
use Rattle.roster.specs.Laws.{Gain, IsBroken, ListsBroken, ListsInOrder}
use Rattle.roster.specs.Refusals.{broken_by}
use Rattle.roster.proofs.Members.{in_map, from_map}

abbrev by : List ℕ → Section → Exceedance
by who section = record { crew = who; section = section }

abbrev all_broken : Gain → List Section
all_broken gain = Broken (gain.others ++ gain.new) gain.new

pub lists_broken : ListsBroken
unfolding broken_by
lists_broken who gain e = (
  λ listed.
      let from = from_map (by who) (all_broken gain) e listed in
      let rule = (broken_is (gain.others ++ gain.new) gain.new from.0).0 from.1 in
      (ap (λ (x : Exceedance). x.crew) (sym from.2), subst (IsBroken gain) (ap (λ (x : Exceedance). x.section) from.2) rule),
  λ broken.
      let section = (broken_is (gain.others ++ gain.new) gain.new e.section).1 broken.1 in
      subst (Contains (map (by who) (all_broken gain))) (λ i. record { crew = sym broken.0 i; section = e.section })
      (in_map (by who) (all_broken gain) e.section section),
)

sections_back : (who : List ℕ) (sections : List Section) → map (λ (e : Exceedance). e.section) (map (by who) sections) ≡ sections
sections_back who [] = refl
sections_back who (s ∷ sections) = ap (λ (more : List Section). s ∷ more) (sections_back who sections)

pub lists_in_order : ListsInOrder
unfolding broken_by
lists_in_order who gain = subst AreInOrder (sym (sections_back who (all_broken gain)))
    (broken_is_in_order (gain.others ++ gain.new) gain.new)
