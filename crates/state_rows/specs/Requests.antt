-- The kept commands of a state, apart from all else that the state has.
use Rattle.std.specs.FinMap as fin
use Rattle.values.specs.Name.{name_cmp}
use Rattle.roster.specs.State.{State}
use Rattle.roster.specs.declared.state.LoggedCommand.{LoggedCommand}

-- kept commands with their replies, under the names of their keys
abbrev pub Requests : Type 0
Requests = fin.FinMap name_cmp LoggedCommand

-- this state, with these kept commands in place of its own
abbrev pub with_requests : Requests → State → State
with_requests kept s = record s { requests = kept }
