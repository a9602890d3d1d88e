-- What a right table `exceedance` names.
use Rattle.std.proofs.Common.{◌≡◌, ap, ◌∙◌, arith, ◌<◌, Some}
use Rattle.std.specs.FinMap as fin
use Rattle.std.proofs.lemmas.Option.{slice_get_within}
use Rattle.values.specs.Name.{name_cmp}
use Rattle.sqlite_value.specs.Order.{Row}
use Rattle.sqlite_rules.specs.Lists.{Has}
use Rattle.sqlite.specs.Effect.{Database}
use Rattle.roster.specs.State.{State, exceedance_name}
use Rattle.roster.specs.declared.state.DutyId.{DutyId}
use Rattle.roster.specs.declared.state.DutyId.TheVariants.{Period, Outside}
use Rattle.roster.specs.declared.state.ExceedanceId.{ExceedanceId}
use Rattle.roster.specs.declared.state.PairingEntry.{PairingEntry}
use Rattle.tables.specs.Rows.{rows_of}
use Rattle.tables.specs.Schema.{exceedance_table}
use Rattle.entries.proofs.Duties.{IsAboveZero}
use Rattle.state_rows.proofs.FewPeriods.{few_periods}
use Rattle.state_rows.proofs.Values.{ids_same}
use Rattle.entries.specs.Right.{IsExceedance, IsDutyIn, ArePlanned, IsRight}
use Rattle.entries.specs.Exceedances.{row_of_recorded}
use Rattle.state_rows.specs.Rows.{named_number, exceedance}

-- ---- One record

-- the number of a period with an actual is above 0
pub recorded_above : (pairings : fin.FinMap name_cmp PairingEntry) (named : DutyId) → IsDutyIn pairings named → IsAboveZero named
recorded_above pairings (Period p) is = let n = is.number in omega (arith, n)
recorded_above pairings (Outside id) is = tt

-- ---- States with the same rows down to the seats have the same pairings

-- the number of a period with an actual has eight bits, since a pairing has few periods
pub period_fits : (s : State) → ArePlanned s → (named : DutyId) → IsDutyIn s.pairings named → named_number named < 256
period_fits s planned (Period p) is =
    let r = planned p.pairing is.entry is.of_pairing in
    let few = few_periods is.entry.plan r.plan in
    let within = slice_get_within is.entry.actuals is.place (Some is.actual) is.flown in
    omega (arith, few, within, r.places, is.number)
period_fits s planned (Outside id) is = omega arith

-- ---- The table

-- where it is right, each row is that of an exceedance
pub recorded_in : (s : State) (db : Database) → IsRight exceedance s db → (row : Row) → Has (rows_of exceedance_table db) row →
    (id : ExceedanceId) × (named : DutyId) × (row ≡ row_of_recorded id named) × IsExceedance s.crew s.pairings id named
recorded_in s db right row here =
    let it = (right.1.1 row).0 here in
    let at = it.0 in
    let known = right.2 (exceedance_name at.key at.crew at.section) at.named at.there in
    let same : record { key = at.key; crew = at.crew; section = at.section } ≡ known.0 = ids_same _ known.0 known.1 in
    (known.0, at.named, it.1 ∙ ap (λ (id : ExceedanceId). row_of_recorded id at.named) same, known.2)
