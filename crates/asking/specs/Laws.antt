-- What holds of what is shown of a state in each form, and of the text of its count of requests.
use Rattle.std.specs.Prelude.{◌≡◌, ℕ, List, Result}
use Rattle.request.specs.declared.form.Form.{Form}
use Rattle.request.specs.declared.subject.Subject.{Subject}
use Rattle.roster.specs.Sound.{Sound}
use Rattle.roster.specs.State.{State}
use Rattle.part.specs.Shown.{Absence}
use Rattle.asking.specs.Count.{IsCountText}
use Rattle.asking.specs.Reports.{IsShownAs}

-- of a sound state something is shown in each form, whatever is asked: a text, or why there is none
abbrev pub EachIsShownAs : Type 0
EachIsShownAs = (form : Form) (s : State) (what : Subject (List ℕ) (List ℕ)) → Sound s →
    (shown : Result (List ℕ) Absence) × IsShownAs form s what shown

-- what is shown of a state for one subject in one form is one: one text, or one reason why there is
-- none
abbrev pub HasOneShownAs : Type 0
HasOneShownAs = (form : Form) (s : State) (what : Subject (List ℕ) (List ℕ))
    (a b : Result (List ℕ) Absence) → IsShownAs form s what a → IsShownAs form s what b → a ≡ b

-- a sound state has a text of its count: of how many requests it keeps, and of which number is free
-- for the next
abbrev pub EachHasCountText : Type 0
EachHasCountText = (s : State) → Sound s → (text : List ℕ) × IsCountText s text

-- the text of the count of a state is one at most
abbrev pub HasOneCountText : Type 0
HasOneCountText = (s : State) (a b : List ℕ) → IsCountText s a → IsCountText s b → a ≡ b
