use Rattle.std.proofs.Common.{◌≡◌, ◌++◌, ◌∷◌, ◌∙◌, List, map, true, sym, ap, refl, subst, inr}
use Rattle.std.specs.List.{list_all}
use Rattle.std.specs.Vec.Iter.{into_iter_items}
use Rattle.std.proofs.lemmas.List.{map-append}
use Rattle.duty.specs.Plans.{Plan}
use Rattle.codec.specs.Grouping.{told}
use Rattle.codec.specs.Schedule.{is_faultless_plan}
use Rattle.codec.specs.declared.grouping.Draft.{Draft}
use Rattle.codec.proofs.Loop.{no_pairing}
use Rattle.codec.proofs.grouping.make_pairings.Goals as goal

pub returns-in-Err-clause-refused : goal.returns-in-Err-clause-refused
returns-in-Err-clause-refused c =
    let done = c.loop-draft.yielded in
    let draft = c.in-Some.draft in
    let rest = into_iter_items c.next.new.self in
    let inv = c.loop-draft.invariant in
    let split : c.args.drafts.items ≡ done ++ draft ∷ rest = sym inv.0 ∙ ap (λ (r : List Draft). done ++ r) c.in-Some.ensures.steps.0 in
    let tolds = ap (λ (ds : List Draft). map told ds) split ∙ map-append told done (draft ∷ rest) in
    let made = subst (λ (ps : List Plan). list_all is_faultless_plan ps ≡ true) inv.1 inv.2 in
    inr (draft.first, refl, (map told done, map told rest, told draft, tolds, made, no_pairing c.in-Err.field-0 (told draft).1 c.in-Err.ensures, refl))
