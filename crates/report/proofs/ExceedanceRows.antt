-- The rows of the exceedances of a state.
use Rattle.std.proofs.Common.{◌≡◌, ℕ, List, [], ◌∷◌, ◌++◌, suc, length, refl, ap, sym, ◌∙◌, append-nil, subst}
use Rattle.std.specs.List.{flat_map}
use Rattle.std.specs.FinMap as fin
use Rattle.values.specs.Name.{named_rows}
use Rattle.roster.specs.State.{State, exceedance_name}
use Rattle.report.specs.ExceedanceText.{AreExceedanceRows, IsExceedanceText, ExceedanceEntry, exceedances_header, line}

pub told : (s : State) (rows left : List ExceedanceEntry) (text : List ℕ) → AreExceedanceRows s rows → left ≡ []
    → text ++ flat_map line left ≡ exceedances_header (length rows) ++ flat_map line rows
    → IsExceedanceText s text
told s rows left text are nil e =
    let bare : text ++ [] ≡ exceedances_header (length rows) ++ flat_map line rows = subst (λ t. text ++ flat_map line t ≡ exceedances_header (length rows) ++ flat_map line rows) nil e in
    record { rows = rows; are = are; is = sym (append-nil text) ∙ bare }

length-rows_of : {K V : Type 0} (name : K → List ℕ) (rows : List (K × V)) → length (named_rows name rows) ≡ length rows
length-rows_of name [] = refl
length-rows_of name (row ∷ rows) = ap suc (length-rows_of name rows)

pub counted : (s : State) (rows : List ExceedanceEntry) → AreExceedanceRows s rows → length rows ≡ fin.len s.exceedances
counted s rows are =
    sym (length-rows_of (λ id. exceedance_name id.key id.crew id.section) rows) ∙ ap length are ∙ sym (fin.len-entries s.exceedances)
