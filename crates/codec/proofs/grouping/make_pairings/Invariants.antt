use Rattle.std.proofs.Common.{◌≡◌, ◌++◌, true, map}
use Rattle.std.specs.List.{list_all}
use Rattle.std.specs.Vec.Iter.{into_iter_items}
use Rattle.codec.specs.Grouping.{plans_of, told}
use Rattle.codec.specs.Schedule.{is_faultless_plan}
use Rattle.codec.proofs.grouping.make_pairings.Given as goal

abbrev pub invariant-loop-draft : goal.invariant-loop-draft
invariant-loop-draft l =
    (l.yielded ++ into_iter_items l.draft-iterator ≡ l.fn.drafts.items)
    × (l.pairings.items ≡ plans_of (map told l.yielded))
    × (list_all is_faultless_plan l.pairings.items ≡ true)
