-- What holds of every input.
use Rattle.std.specs.Prelude.{◌≡◌, ◌⊎◌, ℕ, List}
use Rattle.httparse.specs.Grammar.{RequestHead}
use Rattle.http_message.specs.Reading.{HasHead, HasNoHead}

-- An input begins with at most one head, and one rest follows the head.
abbrev pub HasOneHead : Type 0
HasOneHead = (input : List ℕ) (h other : RequestHead) (rest more : List ℕ) →
    HasHead input h rest → HasHead input other more → (h ≡ other) × (rest ≡ more)

-- An input begins with a head or with none.
abbrev pub HasHeadOrNone : Type 0
HasHeadOrNone = (input : List ℕ) →
    ((h : RequestHead) × (rest : List ℕ) × HasHead input h rest) ⊎ HasNoHead input
