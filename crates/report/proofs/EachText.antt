-- A member who is there has a roster; the exceedances of a sound state, the members, the pairings and the board of some days have a
-- text; and each pairing of a sound state has a period.
use Rattle.std.proofs.Common.{◌≡◌, ◌<◌, ◌++◌, refl, sym, ap₂, ℕ, List, [], ◌∷◌, length, map, Contains, Option, None, arith}
use Rattle.std.specs.FinMap as fin
use Rattle.std.specs.List.{AllZip, concat, flat_map, zip, list_all}
use Rattle.std.specs.Ordering.{is_lt}
use Rattle.std.proofs.lemmas.Cmp.{nat_list_cmp_total}
use Rattle.std.proofs.lemmas.List.Sorted.{ranks_by}
use Rattle.values.specs.Name.{name_cmp, named_rows}
use Rattle.request.specs.Days.{Days}
use Rattle.duty.specs.Pairings.{pairing_fault, count_fault, times_fault, chain_fault, are_shaped}
use Rattle.duty.specs.Plans.{ActualTimes}
use Rattle.duty.specs.Shape.{is_id}
use Rattle.duty.specs.Words.{unless}
use Rattle.duty.specs.declared.fault.DutyFault.TheVariants.{BadField}
use Rattle.duty.specs.declared.fault.Field.TheVariants as field
use Rattle.duty.specs.declared.fdp.Fdp.{Fdp}
use Rattle.command.specs.declared.member.Member.{Member}
use Rattle.roster.specs.Pairings.{flown}
use Rattle.roster.specs.Sound.{SoundExceedance}
use Rattle.roster.specs.State.{State, exceedance_name}
use Rattle.roster.specs.declared.state.DutyId.{DutyId}
use Rattle.roster.specs.declared.state.ExceedanceId.{ExceedanceId}
use Rattle.roster.proofs.Members.{from_rows, is_first, is_later}
use Rattle.roster.proofs.Sound.Added.{no_first}
use Rattle.report.specs.BoardText.{IsMemberInDays, board_header, lines_in, open_header, open_rows}
use Rattle.report.specs.ExceedanceText.{ExceedanceEntry, exceedances_header, line}
use Rattle.report.specs.Laws.{EachHasBoardText, EachHasExceedanceText, EachHasMembersText, EachHasPairingsText, EachHasPeriod, EachHasRoster}
use Rattle.report.specs.Lines.{AreLinesInOrder, key_of}
use Rattle.report.specs.MembersText.{member_line, members_header}
use Rattle.report.specs.PairingsText.{AreRowsInOrder, row_key, pairings_header, listed_rows}
use Rattle.report.specs.RosterText.{lines_of, roster_header}
use Rattle.report.specs.declared.line.Line.{Line}
use Rattle.report.specs.declared.row.PairingRow.{PairingRow}
use Rattle.report.proofs.EachOrder.{in_order, sorted}

-- ---- A roster

lines_order : (lines : List Line) → (ordered : List Line) × AreLinesInOrder lines ordered
lines_order lines =
    let before = λ (a : Line) (b : Line). is_lt (name_cmp (key_of a) (key_of b)) in
    let all = in_order before (ranks_by nat_list_cmp_total key_of) lines in
    (all.0, record { same = all.1; order = sorted before (ranks_by nat_list_cmp_total key_of) all.0 all.2 })

pub each_roster : EachHasRoster
each_roster s who member there =
    let lines = lines_order (lines_of s who) in
    (roster_header who member ++ flat_map (λ line. line.text) lines.0, record { member = member; is_there = there; told = record { lines = lines.0; in_order = lines.1; is = refl } })

-- ---- Exceedances

abbrev name_of : ExceedanceId → List ℕ
name_of id = exceedance_name id.key id.crew id.section

-- rows that each stand under the name of an exceedance are those of exceedances
exceedance_rows : (s : State) (all : List (List ℕ × DutyId)) → ((name : List ℕ) (named : DutyId) → Contains all (name, named) → SoundExceedance s name named) →
    (rows : List ExceedanceEntry) × (named_rows name_of rows ≡ all)
exceedance_rows s [] each = ([], refl)
exceedance_rows s ((name, named) ∷ all) each =
    let known = each name named (is_first (name, named) all (name, named) refl) in
    let rest = exceedance_rows s all (λ n d there. each n d (is_later (name, named) all (n, d) there)) in
    let id : ExceedanceId = record { key = known.key; crew = known.crew; section = known.section } in
    ((id, named) ∷ rest.0, ap₂ (λ n rows. (n, named) ∷ rows) (sym known.known_by) rest.1)

pub each_exceedance_text : EachHasExceedanceText
each_exceedance_text s sound =
    let rows = exceedance_rows s (fin.entries s.exceedances) (λ name named there. sound.exceedances name named (from_rows s.exceedances name named there)) in
    (exceedances_header (length rows.0) ++ flat_map line rows.0, record { rows = rows.0; are = rows.1; is = refl })

-- ---- Members and pairings

pub each_members_text : EachHasMembersText
each_members_text s = (members_header (fin.len s.crew) ++ flat_map member_line (fin.entries s.crew), refl)

rows_order : (rows : List PairingRow) → (ordered : List PairingRow) × AreRowsInOrder rows ordered
rows_order rows =
    let before = λ (a : PairingRow) (b : PairingRow). is_lt (name_cmp (row_key a) (row_key b)) in
    let all = in_order before (ranks_by nat_list_cmp_total row_key) rows in
    (all.0, record { same = all.1; order = sorted before (ranks_by nat_list_cmp_total row_key) all.0 all.2 })

pub each_pairings_text : EachHasPairingsText
each_pairings_text s which =
    let rows = rows_order (listed_rows s which) in
    (pairings_header (length rows.0) ++ flat_map (λ row. row.line) rows.0, record { rows = rows.0; in_order = rows.1; is = refl })

-- ---- The board

each_member : (s : State) (days : Days) (entry : List ℕ × Member) → (text : List ℕ) × IsMemberInDays s days entry text
each_member s days entry =
    let lines = lines_order (lines_in days s entry.0) in
    (roster_header entry.0 entry.1 ++ flat_map (λ line. line.text) lines.0, record { lines = lines.0; in_order = lines.1; is = refl })

all_members : (s : State) (days : Days) (entries : List (List ℕ × Member)) → (texts : List (List ℕ)) × AllZip (IsMemberInDays s days) entries texts
all_members s days [] = ([], tt)
all_members s days (entry ∷ entries) =
    let first = each_member s days entry in
    let rest = all_members s days entries in
    (first.0 ∷ rest.0, (first.1, rest.1))

pub each_board_text : EachHasBoardText
each_board_text s days =
    let members = all_members s days (fin.entries s.crew) in
    let rows = rows_order (open_rows days s) in (
      board_header days ++ concat members.0 ++ open_header (length rows.0) ++ flat_map (λ row. row.line) rows.0,
      record {
        members = members.0;
        are_members = members.1;
        rows = rows.0;
        in_order = rows.1;
        is = refl;
      },
    )

-- ---- Periods

-- a plan without a period has a fault
no_periods : (id : List ℕ) → pairing_fault (record { id = id; periods = [] }) ≡ None → ⊥
unfolding pairing_fault count_fault
no_periods id e =
    let shaped = (no_first (unless (is_id id) (BadField field.Pairing)) (unless (list_all are_shaped []) (BadField field.Periods) ∷ count_fault [] ∷ times_fault [] ∷ chain_fault [] ∷ []) e).1 in
    cc

some_in_force : (id : List ℕ) (periods : List Fdp) (actuals : List (Option ActualTimes)) → pairing_fault (record { id = id; periods = periods }) ≡ None
    → length actuals ≡ length periods → 0 < length (map flown (zip periods actuals))
some_in_force id [] actuals e places = absurd (no_periods id e)
some_in_force id (p ∷ ps) [] e places = absurd (omega (arith, places))
some_in_force id (p ∷ ps) (a ∷ rest) e places = omega arith

pub each_has_period : EachHasPeriod
each_has_period s id r sound at =
    let pairing = sound.pairings id r at in
    some_in_force r.plan.id r.plan.periods r.actuals pairing.plan pairing.places
