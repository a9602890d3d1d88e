-- What holds of every input.
use Rattle.std.specs.Prelude.{◌≡◌, ◌<◌, ℕ, List, length}
use Rattle.roster.specs.Sound.{Sound}
use Rattle.roster.specs.State.{State}
use Rattle.web.specs.Response.{IsResponse, WholeResponse}

-- in a state an input has one response at most
abbrev pub HasOneResponse : Type 0
HasOneResponse =
    (s : State) (input : List ℕ) (r other : WholeResponse) → IsResponse s input r
    → IsResponse s input other → r ≡ other

-- in a sound state each input that isn't empty has a response; in a state that has an exceedance
-- under what is no exceedance's name, a report of all exceedances would have no text
abbrev pub EachInputHasResponse : Type 0
EachInputHasResponse =
    (s : State) (input : List ℕ) → Sound s → 0 < length input
    → (r : WholeResponse) × IsResponse s input r
