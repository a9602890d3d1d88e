-- The members of the crew as a text.
use Rattle.std.specs.Prelude.{◌≡◌, ℕ, List, ◌++◌, codes}
use Rattle.std.specs.Fmt.{decimal}
use Rattle.std.specs.FinMap as fin
use Rattle.std.specs.List.{flat_map}
use Rattle.command.specs.Texts.{seat_text}
use Rattle.command.specs.declared.member.Member.{Member}
use Rattle.roster.specs.State.{State}

-- the first line of the text, with the number of members
abbrev pub members_header : (count : ℕ) → List ℕ
members_header count = codes "MEMBERS " ++ decimal count ++ codes "\n"

-- the line of a member: id, seat, base and name
abbrev pub member_line : List ℕ × Member → List ℕ
member_line (id, member) =
    (id ++ codes " " ++ seat_text member.seat)
    ++ codes " " ++ member.base ++ codes " " ++ member.name ++ codes "\n"

-- The text of a state's members: their number, and the line of each member in turn, in byte order
-- of the ids.
abbrev pub IsMembersText : State → (text : List ℕ) → Type 0
IsMembersText s text =
    text ≡ members_header (fin.len s.crew) ++ flat_map member_line (fin.entries s.crew)
