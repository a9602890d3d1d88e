use Rattle.std.proofs.Common.{◌≡◌, drop}
use Rattle.serde_json.specs.Data.{no_members}
use Rattle.serde_json.specs.View.{members_view}
use Rattle.stored_json.specs.Objects.{with_members}
use Rattle.stored_json.proofs.objects.members.Given as goal

abbrev pub invariant-loop-name : goal.invariant-loop-name
invariant-loop-name l =
    with_members (drop l.name-index l.given) (members_view l.made.entries) ≡ with_members l.given no_members
