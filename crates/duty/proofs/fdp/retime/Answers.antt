use Rattle.std.proofs.Common.{◌≡◌, ◌∙◌, sym, ap, [], ◌++◌, map, inl, inr}
use Rattle.std.specs.List.{zip}
use Rattle.std.specs.Slice.Iter.{iter_rest}
use Rattle.std.proofs.lemmas.List.{append-nil}
use Rattle.std.proofs.lemmas.Slice.Zip.{either_empty_from_Zip}
use Rattle.duty.specs.Plans.{retimed}
use Rattle.duty.proofs.ListLemmas.{zip-empty}
use Rattle.duty.proofs.fdp.retime.Goals as goal

pub returns : goal.returns
returns c =
    let segments = iter_rest c.loop-segment.segment-iterator.a in
    let times = iter_rest c.loop-segment.segment-iterator.b in
    let none : map retimed (zip segments times) ≡ [] =
    elim (either_empty_from_Zip c.loop-segment.segment-iterator c.next.new.self _ c.in-None.is c.next.ensures.steps) [
      | inl e ↦ ap (λ xs. map retimed (zip xs times)) e
      | inr e ↦ ap (λ ys. map retimed (zip segments ys)) e ∙ ap (map retimed) (zip-empty segments)
    ] in
    sym (append-nil c.loop-segment.flown.items) ∙ ap (λ ys. c.loop-segment.flown.items ++ ys) (sym none)
    ∙ c.loop-segment.invariant
