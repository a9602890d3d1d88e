-- What holds of the texts of each state.
use Rattle.std.specs.Prelude.{◌≡◌, ◌<◌, ℕ, List, length, Some}
use Rattle.std.specs.FinMap as fin
use Rattle.request.specs.Days.{Days}
use Rattle.request.specs.declared.subject.Listed.{Listed}
use Rattle.command.specs.declared.member.Member.{Member}
use Rattle.roster.specs.Pairings.{periods_in_force}
use Rattle.roster.specs.Sound.{Sound}
use Rattle.roster.specs.State.{State}
use Rattle.roster.specs.declared.state.PairingEntry.{PairingEntry}
use Rattle.report.specs.BoardText.{IsBoardText}
use Rattle.report.specs.ExceedanceText.{IsExceedanceText}
use Rattle.report.specs.MembersText.{IsMembersText}
use Rattle.report.specs.PairingsText.{IsPairingsText}
use Rattle.report.specs.RosterText.{IsRosterText}

-- A member who is in a state has a roster text.
abbrev pub EachHasRoster : Type 0
EachHasRoster = (s : State) (who : List ℕ) (member : Member) → fin.get s.crew who ≡ Some member →
    (text : List ℕ) × IsRosterText s who text

-- A member has at most one roster text, since the lines have one order.
abbrev pub HasOneRoster : Type 0
HasOneRoster = (s : State) (who a b : List ℕ) → IsRosterText s who a → IsRosterText s who b → a ≡ b

-- The exceedances of a sound state have a text.
abbrev pub EachHasExceedanceText : Type 0
EachHasExceedanceText = (s : State) → Sound s → (text : List ℕ) × IsExceedanceText s text

-- The exceedances of a state have at most one text.
abbrev pub HasOneExceedanceText : Type 0
HasOneExceedanceText = (s : State) (a b : List ℕ) → IsExceedanceText s a →
    IsExceedanceText s b → a ≡ b

-- The members of each state have a text.
abbrev pub EachHasMembersText : Type 0
EachHasMembersText = (s : State) → (text : List ℕ) × IsMembersText s text

-- The members of a state have at most one text.
abbrev pub HasOneMembersText : Type 0
HasOneMembersText = (s : State) (a b : List ℕ) → IsMembersText s a → IsMembersText s b → a ≡ b

-- The pairings of each state have a text, and the pairings with a free seat have a text.
abbrev pub EachHasPairingsText : Type 0
EachHasPairingsText = (s : State) (which : Listed) → (text : List ℕ) × IsPairingsText s which text

-- The pairings of a state have at most one text, since the rows have one order. The pairings with a
-- free seat have at most one text.
abbrev pub HasOnePairingsText : Type 0
HasOnePairingsText = (s : State) (which : Listed) (a b : List ℕ) → IsPairingsText s which a →
    IsPairingsText s which b → a ≡ b

-- The board of each days has a text in each state.
abbrev pub EachHasBoardText : Type 0
EachHasBoardText = (s : State) (days : Days) → (text : List ℕ) × IsBoardText s days text

-- The board of some days has at most one text, since the lines of a member have one order, and so
-- have the rows of the open pairings.
abbrev pub HasOneBoardText : Type 0
HasOneBoardText = (s : State) (days : Days) (a b : List ℕ) → IsBoardText s days a →
    IsBoardText s days b → a ≡ b

-- Each pairing of a sound state has a period in force: the pairing's line has the times of periods.
abbrev pub EachHasPeriod : Type 0
EachHasPeriod = (s : State) (id : List ℕ) (r : PairingEntry) → Sound s →
    fin.get s.pairings id ≡ Some r → 0 < length (periods_in_force r)
