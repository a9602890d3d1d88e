-- The section of an exceedance is that of its name, and only of its member's.
use Rattle.std.proofs.Common.{◌≡◌, ◌∙◌, refl, sym, ap, ap₂, append_assoc, ℕ, Bool, true, false, cond, List, [], ◌∷◌, ◌++◌, map, subst, nat_eq, arith}
use Rattle.std.specs.List.{filter, flat_map}
use Rattle.std.specs.Str.{bytes_eq}
use Rattle.std.proofs.lemmas.Slice.Eq.{bytes_eq-Decides}
use Rattle.limits.specs.Judgement.{all_sections}
use Rattle.limits.specs.SectionText.{section_number}
use Rattle.limits.specs.declared.section.Section.{Section}
use Rattle.limits.specs.declared.section.Section.TheVariants as section
use Rattle.values.specs.Name.{text_then}
use Rattle.command.specs.Keys.{KeyParts}
use Rattle.roster.specs.State.{exceedance_name}
use Rattle.roster.specs.declared.state.DutyId.{DutyId}
use Rattle.roster.specs.declared.state.ExceedanceId.{ExceedanceId}
use Rattle.roster.proofs.Records.{names_same}
use Rattle.report_json.specs.BoardJson.{is_name_of, section_under}
use Rattle.report_json.specs.declared.exceeded.Exceeded.{Exceeded}

-- the exceedances of a member among these rows
abbrev pub exceeded_in : (who : List ℕ) → List (List ℕ × DutyId) → List Exceeded
exceeded_in who rows = flat_map (λ row. map (λ section. record { section = section; duty = row.1 }) (section_under who row.0)) rows

same_answer : (a b : Bool) → (a ≡ true → b ≡ true) → (b ≡ true → a ≡ true) → a ≡ b
same_answer true true f g = refl
same_answer false false f g = refl
same_answer true false f g = sym (f refl)
same_answer false true f g = g refl

same_filter : {X : Type 0} (p q : X → Bool) → ((x : X) → p x ≡ q x) → (xs : List X) → filter p xs ≡ filter q xs
same_filter p q same [] = refl
same_filter p q same (x ∷ xs) =
    ap₂ (λ b rest. cond b (x ∷ rest) rest) (same x) (same_filter p q same xs)

-- of the sections that with this number
abbrev with_number : ℕ → List Section
with_number number = filter (λ section. nat_eq number (section_number section)) all_sections

one_of_number : (s : Section) → with_number (section_number s) ≡ s ∷ []
one_of_number section.FlightTime = refl
one_of_number section.FlightDutyPeriod = refl
one_of_number section.FlightTime672Hours = refl
one_of_number section.FlightTime365Days = refl
one_of_number section.FlightDutyPeriods168Hours = refl
one_of_number section.FlightDutyPeriods672Hours = refl
one_of_number section.ThirtyHourRest = refl
one_of_number section.TenHourRest = refl

nat_same : (n : ℕ) → nat_eq n n ≡ true
nat_same n = grind arith

nat_exact : (n m : ℕ) → nat_eq n m ≡ true → n ≡ m
nat_exact n m e = grind arith

names_equal : (key : KeyParts) (crew who : List ℕ) (s t : Section) → is_name_of who (exceedance_name key crew s) t ≡ true →
    exceedance_name key crew s ≡ exceedance_name key who t
names_equal key crew who s t e = (bytes_eq-Decides (exceedance_name key crew s) (exceedance_name key who t)).0 e

own_test : (key : KeyParts) (who : List ℕ) (s t : Section) → is_name_of who (exceedance_name key who s) t ≡ nat_eq (section_number s) (section_number t)
own_test key who s t =
    same_answer (is_name_of who (exceedance_name key who s) t) (nat_eq (section_number s) (section_number t))
    (λ e.
    let same = (names_same key key who who s t (names_equal key who who s t e)).2 in
    subst (λ u. nat_eq (section_number s) (section_number u) ≡ true) same (nat_same (section_number s)))
    (λ e.
    let same = nat_exact (section_number s) (section_number t) e in
    (bytes_eq-Decides (exceedance_name key who s) (exceedance_name key who t)).1
    (ap (λ n. key.number ∷ key.part ∷ text_then who (n ∷ [])) same))

pub own_section : (key : KeyParts) (crew who : List ℕ) (s : Section) → bytes_eq crew who ≡ true → section_under who (exceedance_name key crew s) ≡ s ∷ []
own_section key crew who s e =
    let same : crew ≡ who = (bytes_eq-Decides crew who).0 e in
    ap (λ c. section_under who (exceedance_name key c s)) same
    ∙ same_filter (is_name_of who (exceedance_name key who s)) (λ t. nat_eq (section_number s) (section_number t)) (own_test key who s) all_sections
    ∙ one_of_number s

other_test : (key : KeyParts) (crew who : List ℕ) (s t : Section) → bytes_eq crew who ≡ false → is_name_of who (exceedance_name key crew s) t ≡ false
other_test key crew who s t other =
    same_answer (is_name_of who (exceedance_name key crew s) t) false
    (λ e. sym other ∙ (bytes_eq-Decides crew who).1 (names_same key key crew who s t (names_equal key crew who s t e)).1)
    (λ e. absurd (cc))

pub other_section : (key : KeyParts) (crew who : List ℕ) (s : Section) → bytes_eq crew who ≡ false → section_under who (exceedance_name key crew s) ≡ []
other_section key crew who s other =
    same_filter (is_name_of who (exceedance_name key crew s)) (λ _. false) (λ t. other_test key crew who s t other) all_sections

-- ---- One exceedance more

abbrev in_section : DutyId → Section → Exceeded
in_section duty section = record { section = section; duty = duty }

abbrev name_of : ExceedanceId → List ℕ
name_of id = exceedance_name id.key id.crew id.section

pub one_own : (before after : List Exceeded) (id : ExceedanceId) (duty : DutyId) (who : List ℕ) (rows : List (List ℕ × DutyId)) (all : List Exceeded) →
    bytes_eq id.crew who ≡ true → after ≡ before ++ in_section duty id.section ∷ [] →
    before ++ exceeded_in who ((name_of id, duty) ∷ rows) ≡ all →
    after ++ exceeded_in who rows ≡ all
one_own before after id duty who rows all own added so_far =
    let more = exceeded_in who rows in
    let one : map (in_section duty) (section_under who (name_of id)) ++ more ≡ in_section duty id.section ∷ more =
    ap (λ sections. map (in_section duty) sections ++ more) (own_section id.key id.crew who id.section own) in
    ap (λ es. es ++ more) added
    ∙ append_assoc before (in_section duty id.section ∷ []) more
    ∙ ap (λ es. before ++ es) (sym one)
    ∙ so_far

pub one_other : (before : List Exceeded) (id : ExceedanceId) (duty : DutyId) (who : List ℕ) (rows : List (List ℕ × DutyId)) (all : List Exceeded) →
    bytes_eq id.crew who ≡ false →
    before ++ exceeded_in who ((name_of id, duty) ∷ rows) ≡ all →
    before ++ exceeded_in who rows ≡ all
one_other before id duty who rows all other so_far =
    let more = exceeded_in who rows in
    let none : map (in_section duty) (section_under who (name_of id)) ++ more ≡ more =
    ap (λ sections. map (in_section duty) sections ++ more) (other_section id.key id.crew who id.section other) in
    ap (λ es. before ++ es) (sym none) ∙ so_far
