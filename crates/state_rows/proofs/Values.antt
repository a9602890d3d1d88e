-- Values that the tables keep apart by what they hold of them.
use Rattle.std.proofs.Common.{◌≡◌, refl, ap, ℕ, ℤ, pos, List, [], ◌∷◌, Option, Some, None}
use Rattle.std.specs.Option.{option_map}
use Rattle.sqlite_value.specs.declared.value.Value.TheVariants.{Int, Text}
use Rattle.duty.specs.declared.segment.BlockTimes.{BlockTimes}
use Rattle.limits.specs.SectionText.{section_number}
use Rattle.limits.specs.declared.section.Section.{Section}
use Rattle.command.specs.declared.member.Member.{Member}
use Rattle.command.specs.declared.member.Seat.{Seat}
use Rattle.command.specs.declared.member.Seat.TheVariants.{Captain, FirstOfficer}
use Rattle.roster.proofs.Records.{names_same}
use Rattle.roster.specs.State.{exceedance_name}
use Rattle.roster.specs.declared.state.ExceedanceId.{ExceedanceId}
use Rattle.tables.specs.Records.{number_or_null}
use Rattle.state_rows.specs.Rows.{seat_number}

pub seats_same : (a b : Seat) → seat_number a ≡ seat_number b → a ≡ b
seats_same Captain Captain e = refl
seats_same Captain FirstOfficer e = absurd (cc)
seats_same FirstOfficer Captain e = absurd (cc)
seats_same FirstOfficer FirstOfficer e = refl

pub members_same : (a b : Member) → seat_number a.seat ≡ seat_number b.seat → a.name ≡ b.name → a.base ≡ b.base → a ≡ b
members_same a b seat name base = λ i. record { seat = seats_same a.seat b.seat seat i; name = name i; base = base i }

pub sections_same : (a b : Section) → section_number a ≡ section_number b → a ≡ b
sections_same a b e =
    (names_same (record { number = 0; part = 0 }) (record { number = 0; part = 0 }) [] [] a b (ap (λ n. 0 ∷ 0 ∷ 0 ∷ n ∷ []) e)).2

pub ids_same : (a b : ExceedanceId) → exceedance_name a.key a.crew a.section ≡ exceedance_name b.key b.crew b.section → a ≡ b
ids_same a b e =
    let parts = names_same a.key b.key a.crew b.crew a.section b.section e in
    λ i. record { key = parts.0 i; crew = parts.1 i; section = parts.2 i }

-- ---- Columns

pub text_is : {a b : List ℕ} → Text a ≡ Text b → a ≡ b
text_is e = cc

pub int_is : {a b : ℤ} → Int a ≡ Int b → a ≡ b
int_is e = cc

pub number_is : {a b : ℕ} → Int (pos a) ≡ Int (pos b) → a ≡ b
number_is e = cc

-- a number that may be missing
pub numbers_same : (a b : Option ℕ) → number_or_null a ≡ number_or_null b → a ≡ b
numbers_same None None e = refl
numbers_same None (Some n) e = absurd (cc)
numbers_same (Some n) None e = absurd (cc)
numbers_same (Some n) (Some m) e = cc

pub times_same : (a b : Option BlockTimes) → option_map (λ t. t.block_out) a ≡ option_map (λ t. t.block_out) b →
    option_map (λ t. t.block_in) a ≡ option_map (λ t. t.block_in) b → a ≡ b
times_same None None e f = refl
times_same None (Some y) e f = absurd (cc)
times_same (Some x) None e f = absurd (cc)
times_same (Some x) (Some y) e f =
    let out : x.block_out ≡ y.block_out = cc in
    let back : x.block_in ≡ y.block_in = cc in
    let same : x ≡ y = λ i. record { block_out = out i; block_in = back i } in
    ap Some same
