-- The values of reports have no floats, so that their texts are those of their values.
use Rattle.std.specs.Prelude.{◌^◌, nat_lt, if◌then◌else◌}
use Rattle.std.proofs.Common.{◌≡◌, ℕ, List, [], ◌∷◌, ◌++◌, map, Bool, true, false, ◌||◌, Option, Some, None, refl, ap, ◌∙◌}
use Rattle.std.specs.FinMap as fin
use Rattle.std.specs.List.{filter, flat_map, enumerate_from}
use Rattle.std.specs.Str.{bytes_eq}
use Rattle.serde_json.specs.Data.{Data, null, number, unsigned}
use Rattle.serde_json.specs.View.{items_of}
use Rattle.serde_json.specs.Written.{has_float, items_have_float}
use Rattle.duty.specs.Plans.{ActualTimes, GroundPlan}
use Rattle.duty.specs.declared.segment.Segment.{Segment}
use Rattle.command.specs.declared.member.Member.{Member}
use Rattle.roster.specs.Pairings.{holds}
use Rattle.request.specs.declared.subject.Listed.{Listed}
use Rattle.roster.specs.State.{State}
use Rattle.roster.specs.declared.state.DutyId.TheVariants.{Period, Outside}
use Rattle.roster.specs.declared.state.OutsideEntry.{OutsideEntry}
use Rattle.report.specs.ExceedanceText.{ExceedanceEntry}
use Rattle.report_json.specs.ExceedancesJson.{exceedance_row_json, exceedances_of_json, IsExceedancesValue}
use Rattle.roster.specs.declared.state.PairingEntry.{PairingEntry}
use Rattle.report.specs.PairingsText.{is_listed}
use Rattle.report.specs.Periods.{pairing_periods}
use Rattle.report.specs.declared.periods.PeriodInForce.{PeriodInForce}
use Rattle.stored_json.specs.KeptText.{segment_json, times_json}
use Rattle.report_json.specs.MembersJson.{base_json, member_json, members_json}
use Rattle.report_json.specs.Objects.{length_or_null, text_or_null}
use Rattle.report_json.specs.LimitsJson.{from_json, limit_json, limits_of_json, minutes_json, whole_json}
use Rattle.limits_report.specs.declared.nearest.FirstMinute.{FirstMinute}
use Rattle.limits_report.specs.declared.nearest.FirstMinute.TheVariants.{At, Before2000}
use Rattle.limits_report.specs.declared.nearest.NearestLimit.{NearestLimit}
use Rattle.report_json.specs.PairingJson.{entry_json, pairing_of_json, pairing_period_json, pairing_periods_json}
use Rattle.report_json.specs.PairingsJson.{listed_pairing_json, listed_period_json, listed_periods_json, pairings_json}
use Rattle.report_json.specs.PeriodJson.{actual_ends_json, actual_json}
use Rattle.report_json.specs.RosterJson.{duties_json, ground_duty_json, ground_duties_json, member_roster_json, outside_duty_json, outside_duties_json, period_duty_json, period_duties_json}

abbrev pub ArePlain : List Data → Type 0
ArePlain ds = items_have_float (items_of ds) ≡ false

elim_parts : {P : Type 0} (a b : Bool) → (a || b) ≡ false → (a ≡ false → b ≡ false → P) → P
elim_parts true b e next = absurd (cc)
elim_parts false b e next = next refl e

pub no_part : (a b : Bool) → a ≡ false → b ≡ false → (a || b) ≡ false
no_part a b ea eb = rw (ea, eb) refl

pub each_plain : {A : Type 0} (f : A → Data) → ((x : A) → has_float (f x) ≡ false) → (xs : List A) → ArePlain (map f xs)
each_plain f each [] = refl
each_plain f each (x ∷ xs) = no_part (has_float (f x)) (items_have_float (items_of (map f xs))) (each x) (each_plain f each xs)

pub both_plain : (a b : List Data) → ArePlain a → ArePlain b → ArePlain (a ++ b)
both_plain [] b pa pb = pb
both_plain (d ∷ ds) b pa pb = elim_parts (has_float d) (items_have_float (items_of ds)) pa (λ first rest. no_part (has_float d) (items_have_float (items_of (ds ++ b))) first (both_plain ds b rest pb))

pub all_plain : {A : Type 0} (f : A → List Data) → ((x : A) → ArePlain (f x)) → (xs : List A) → ArePlain (flat_map f xs)
all_plain f each [] = refl
all_plain f each (x ∷ xs) = both_plain (f x) (flat_map f xs) (each x) (all_plain f each xs)

pub members_plain : (s : State) → has_float (members_json s) ≡ false
members_plain s = no_part _ _ (each_plain base_json (λ row. refl) (fin.entries s.bases)) (no_part _ _ (each_plain member_json (λ row. refl) (fin.entries s.crew)) refl)

pub actual_plain : (actual : Option ActualTimes) → has_float (actual_json actual) ≡ false
actual_plain None = refl
actual_plain (Some a) = no_part _ _ (each_plain times_json (λ t. refl) a.segments) refl

pub segments_plain : (segments : List Segment) → ArePlain (map segment_json segments)
segments_plain segments = each_plain segment_json (λ s. refl) segments

duty_plain : (id : List ℕ) (np : ℕ × PeriodInForce) → has_float (period_duty_json id np) ≡ false
duty_plain id (n, p) = no_part _ _ (actual_plain p.actual) (no_part _ _ (segments_plain p.plan.segments) refl)

row_plain : (np : ℕ × PeriodInForce) → has_float (pairing_period_json np) ≡ false
row_plain (n, p) = no_part _ _ (actual_plain p.actual) (no_part _ _ (segments_plain p.plan.segments) refl)

outside_plain : (row : List ℕ × OutsideEntry) → has_float (outside_duty_json row) ≡ false
outside_plain (id, o) = no_part _ _ (each_plain times_json (λ t. refl) o.period.segments) refl

duties_plain : (s : State) (who : List ℕ) → ArePlain (duties_json s who)
duties_plain s who =
    let held = filter (λ (row : List ℕ × PairingEntry). holds who row.1) (fin.entries s.pairings) in
    both_plain (flat_map period_duties_json held ++ ground_duties_json s who) (outside_duties_json s who)
    (both_plain (flat_map period_duties_json held) (ground_duties_json s who)
    (all_plain period_duties_json (λ row. each_plain (period_duty_json row.0) (duty_plain row.0) (enumerate_from 1 (pairing_periods row.1))) held)
    (each_plain ground_duty_json (λ row. refl) (filter (λ (row : List ℕ × GroundPlan). bytes_eq row.1.crew who) (fin.entries s.grounds))))
    (each_plain outside_duty_json outside_plain (filter (λ (row : List ℕ × OutsideEntry). bytes_eq row.1.crew who) (fin.entries s.outsides)))

pub roster_plain : (s : State) (who : List ℕ) (m : Member) → has_float (member_roster_json s who m) ≡ false
roster_plain s who m = no_part _ _ (duties_plain s who) refl

holder_plain : (holder : Option (List ℕ)) → has_float (text_or_null holder) ≡ false
holder_plain None = refl
holder_plain (Some crew) = refl

of_pairing_plain : (id : List ℕ) (r : PairingEntry) (periods : List Data) → ArePlain periods → has_float (pairing_of_json id r periods) ≡ false
of_pairing_plain id r periods are = no_part _ _ (holder_plain r.captain) (no_part _ _ (holder_plain r.first_officer) (no_part _ _ are refl))

pub pairing_plain : (id : List ℕ) (r : PairingEntry) → has_float (entry_json id r) ≡ false
pairing_plain id r = of_pairing_plain id r (pairing_periods_json r) (each_plain pairing_period_json row_plain (enumerate_from 1 (pairing_periods r)))

actual_ends_plain : (actual : Option ActualTimes) → has_float (actual_ends_json actual) ≡ false
actual_ends_plain None = refl
actual_ends_plain (Some a) = refl

listed_period_plain : (np : ℕ × PeriodInForce) → has_float (listed_period_json np) ≡ false
listed_period_plain (n, p) = no_part _ _ (actual_ends_plain p.actual) refl

pub listed_pairing_plain : (row : List ℕ × PairingEntry) → has_float (listed_pairing_json row) ≡ false
listed_pairing_plain (id, r) = of_pairing_plain id r (listed_periods_json r) (each_plain listed_period_json listed_period_plain (enumerate_from 1 (pairing_periods r)))

pub pairings_plain : (s : State) (which : Listed) → has_float (pairings_json s which) ≡ false
pairings_plain s which = no_part _ _ (each_plain listed_pairing_json listed_pairing_plain (filter (λ (row : List ℕ × PairingEntry). is_listed which row.1) (fin.entries s.pairings))) refl

exceedance_plain : (row : ExceedanceEntry) → has_float (exceedance_row_json row) ≡ false
exceedance_plain (id, Period p) = refl
exceedance_plain (id, Outside outside) = refl

rows_plain : (rows : List ExceedanceEntry) → has_float (exceedances_of_json rows) ≡ false
rows_plain rows = no_part _ _ (each_plain exceedance_row_json exceedance_plain rows) refl

pub exceedances_plain : (s : State) (value : Data) → IsExceedancesValue s value → has_float value ≡ false
exceedances_plain s value is = ap has_float is.is ∙ rows_plain is.rows

-- ---- Limits

length_plain : (length : Option ℕ) → has_float (length_or_null length) ≡ false
length_plain None = refl
length_plain (Some n) = refl

whole_plain : (minutes : ℕ) → has_float (whole_json minutes) ≡ false
whole_plain minutes = elim (nat_lt minutes (2 ^ 64)) as (λ b. has_float (if b then number (unsigned minutes) else null) ≡ false) [ true ↦ refl | false ↦ refl ]

minutes_plain : (minutes : Option ℕ) → has_float (minutes_json minutes) ≡ false
minutes_plain None = refl
minutes_plain (Some n) = whole_plain n

from_plain : (from : Option FirstMinute) → has_float (from_json from) ≡ false
from_plain None = refl
from_plain (Some (At minute)) = refl
from_plain (Some Before2000) = refl

limit_plain : (limit : NearestLimit) → has_float (limit_json limit) ≡ false
limit_plain limit =
    no_part _ _ (holder_plain limit.duty) (no_part _ _ (from_plain limit.from) (no_part _ _ (length_plain limit.limit) (no_part _ _ (minutes_plain limit.minutes) refl)))

pub limits_plain : (who : List ℕ) (m : Member) (pairing : Option (List ℕ)) (limits : List NearestLimit) → has_float (limits_of_json who m pairing limits) ≡ false
limits_plain who m pairing limits = no_part _ _ (each_plain limit_json limit_plain limits) (no_part _ _ (holder_plain pairing) refl)
