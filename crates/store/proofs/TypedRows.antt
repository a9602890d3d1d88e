-- The tables of a sound state whose parts are of their types are right: none of them is damaged.
use Rattle.std.proofs.Common.{◌≡◌, ◌⊎◌, ◌&&◌, ◌∙◌, ◌+◌, ◌<◌, ◌≤◌, ◌^◌, inl, inr, refl, sym, ap, subst, arith, ℕ, zero, suc, true, false, List, [], ◌∷◌, length, Option, Some, None, slice_get, option_map}
use Rattle.std.specs.FinMap as fin
use Rattle.std.specs.List.{list_all}
use Rattle.std.specs.Option.{unwrap_or}
use Rattle.std.proofs.lemmas.Bool.{and_parts}
use Rattle.std.proofs.lemmas.Option.{slice_get_within}
use Rattle.values.specs.Name.{name_cmp}
use Rattle.sqlite_value.specs.Order.{Row, column}
use Rattle.sqlite_rules.specs.Lists.{Has}
use Rattle.sqlite.specs.Effect.{Database}
use Rattle.time117.specs.Local.{is_zone_text}
use Rattle.duty.specs.Pairings.{outside_fault, pairing_fault}
use Rattle.duty.specs.Plans.{ActualTimes}
use Rattle.duty.specs.Shape.{home, is_id}
use Rattle.duty.specs.declared.fault.DutyFault.TheVariants.{BadField}
use Rattle.duty.specs.declared.fault.Field.TheVariants as field
use Rattle.duty.specs.declared.fdp.Fdp.{Fdp}
use Rattle.command.specs.Keys.{KeyParts, key_name}
use Rattle.stored_json.specs.Instants.{is_instant, period_has_instants, segment_has_instants}
use Rattle.roster.proofs.Records.{names_same}
use Rattle.roster.specs.Bases.{home_zone}
use Rattle.roster.specs.Sound.{IsNamed, Sound}
use Rattle.roster.specs.State.{State}
use Rattle.roster.specs.declared.state.DutyId.{DutyId}
use Rattle.roster.specs.declared.state.DutyId.TheVariants.{Period, Outside}
use Rattle.roster.specs.declared.state.LoggedCommand.{LoggedCommand}
use Rattle.roster.specs.declared.state.OutsideEntry.{OutsideEntry}
use Rattle.roster.specs.declared.state.PairingEntry.{PairingEntry}
use Rattle.tables.specs.Records.{pairing_row, period_row}
use Rattle.tables.specs.Rows.{rows_of}
use Rattle.tables.specs.Schema.{IsOfBook, book_table, period_table}
use Rattle.tables.specs.declared.period.PeriodRecord.{PeriodRecord}
use Rattle.state_rows.proofs.EachTable.{of_first, of_later}
use Rattle.state_rows.proofs.FewPeriods.{few_periods}
use Rattle.state_rows.proofs.Values.{number_is}
use Rattle.state_rows.specs.First.{IsFirst}
use Rattle.state_rows.specs.Kept.{IsBookOf, IsFirstBookOf}
use Rattle.state_rows.specs.Rows.{HasJust, InBookOf, InTable, PeriodOf, StateTable, book, crew, pairing, period, segment, seat, ground_duty, exceedance, request, base, crew_base, outside, outside_segment, is_later, row_of_outside, row_of_period, table}
use Rattle.state_rows.specs.declared.edition.Edition.{Edition}
use Rattle.state_rows.specs.declared.edition.Edition.TheVariants.{First, Second}
use Rattle.entries.proofs.Ascii.{id_utf8}
use Rattle.entries.proofs.Editions.{FitsOutside, HasBothOutside, its_table, next_outside, next_outside_segment, one_edition}
use Rattle.entries.proofs.KeptTexts.{keys_same}
use Rattle.entries.proofs.PlanStates.{all_at}
use Rattle.entries.specs.Right.{AreBases, AreExceedances, AreGrounds, AreHeld, AreNamed, AreOutsides, AreOutsidesMade, ArePeriods, ArePlanned, AreSeated, IsDutyIn, IsInstantIfAny, IsKey, IsLaterOfState, IsOfEdition, IsOutsideFit, IsRight, IsRightBook, IsTableOfState, name_of}
use Rattle.entries.specs.declared.fault.LoadFault.{LoadFault}
use Rattle.loading.proofs.OneRefusal.{is_not_refused}
use Rattle.loading.specs.Loading.{Justifies}
use Rattle.loading.specs.Refusals.{tells}
use Rattle.store.proofs.Faultless.{first_passes}
use Rattle.store.specs.Typed.{HasTypedParts, IsTypedOutside, IsTypedPairing}

-- ---- What the tables have of a state, in version 1 or 2

record Holds (s : State) (db : Database) : Type 0 where
  there : (name : StateTable) → is_later name ≡ false → IsOfBook (table name) db.schema
  in_book : (edition : Edition) × HasJust book_table db (InBookOf edition s)
  in_crew : HasJust (table crew) db (InTable s crew)
  in_pairing : HasJust (table pairing) db (InTable s pairing)
  in_period : HasJust (table period) db (InTable s period)
  in_segment : HasJust (table segment) db (InTable s segment)
  in_seat : HasJust (table seat) db (InTable s seat)
  in_ground : HasJust (table ground_duty) db (InTable s ground_duty)
  in_exceedance : HasJust (table exceedance) db (InTable s exceedance)
  in_request : HasJust (table request) db (InTable s request)
  later : (name : StateTable) → is_later name ≡ true → IsLaterOfState name s db
  first : IsOfEdition First db → IsFirst s

in_second : (s : State) (db : Database) → IsBookOf s db → Holds s db
in_second s db is =
    let second : IsOfEdition Second db = (s, is.rows book) in
    record {
      there = λ name early. of_first (λ it. IsOfBook it db.schema) is.tables.0 name early;
      in_book = (Second, is.rows book);
      in_crew = is.rows crew;
      in_pairing = is.rows pairing;
      in_period = is.rows period;
      in_segment = is.rows segment;
      in_seat = is.rows seat;
      in_ground = is.rows ground_duty;
      in_exceedance = is.rows exceedance;
      in_request = is.rows request;
      later = λ name late. inl (second, (of_later (λ it. IsOfBook it db.schema) is.tables.1 name late, is.rows name));
      first = λ first. absurd (one_edition db first second);
    }

in_first : (s : State) (db : Database) → IsFirstBookOf s db → Holds s db
in_first s db is =
    let first : IsOfEdition First db = (s, is.rows book refl) in
    record {
      there = is.tables;
      in_book = (First, is.rows book refl);
      in_crew = is.rows crew refl;
      in_pairing = is.rows pairing refl;
      in_period = is.rows period refl;
      in_segment = is.rows segment refl;
      in_seat = is.rows seat refl;
      in_ground = is.rows ground_duty refl;
      in_exceedance = is.rows exceedance refl;
      in_request = is.rows request refl;
      later = λ name late. inr (first, is.free name late);
      first = λ _. is.first;
    }

holds : (s : State) (db : Database) → IsFirstBookOf s db ⊎ IsBookOf s db → Holds s db
holds s db (inl is) = in_first s db is
holds s db (inr is) = in_second s db is

-- ---- The periods of a pairing

some_at : {A : Type 0} (xs : List A) (i : ℕ) → i < length xs → (x : A) × (slice_get xs i ≡ Some x)
some_at [] i within = absurd (omega (arith, within))
some_at (x ∷ xs) zero within = (x, refl)
some_at (x ∷ xs) (suc i) within = some_at xs i (omega (arith, within))

abbrev record_of_period : List ℕ → ℕ → Fdp → Option ActualTimes → PeriodRecord
record_of_period id place fdp actual = record {
  pairing = id;
  number = place + 1;
  report_at = fdp.report;
  release_at = fdp.release;
  act_report = option_map (λ a. a.report) actual;
  act_release = option_map (λ a. a.release) actual;
}

instants_planned : (r : PairingEntry) → IsTypedPairing r → (place : ℕ) (fdp : Fdp) → slice_get r.plan.periods place ≡ Some fdp →
    (is_instant fdp.report ≡ true) × (is_instant fdp.release ≡ true)
instants_planned r is place fdp at =
    let all = and_parts (is_instant fdp.report && is_instant fdp.release) (list_all segment_has_instants fdp.segments) (all_at period_has_instants r.plan.periods is.planned place fdp at) in
    and_parts (is_instant fdp.report) (is_instant fdp.release) all.0

instants_flown : (r : PairingEntry) → IsTypedPairing r → (place : ℕ) (actual : Option ActualTimes) → slice_get r.actuals place ≡ Some actual →
    IsInstantIfAny (option_map (λ a. a.report) actual) × IsInstantIfAny (option_map (λ a. a.release) actual)
instants_flown r is place None at = (tt, tt)
instants_flown r is place (Some a) at = let it = is.flown place a at in (it.0, it.1)

few_numbers : (place count : ℕ) → place < count → count ≤ 10 → place + 1 < 2 ^ 32
few_numbers place count within few = omega (arith, within, few)

-- ---- The tables

module _ (s : State) (db : Database) (sound : Sound s) (typed : HasTypedParts s) (has : Holds s db) where
  home_rule : is_zone_text (home_zone s.bases) ≡ true
  home_rule =
      let base = sound.has_home in
      subst (λ zone. is_zone_text zone ≡ true) (sym (ap (λ o. unwrap_or o []) base.1)) (typed.bases home base.0 base.1).rule

  named : AreNamed s
  unfolding pairing_fault
  named id r here =
      let is = sound.pairings id r here in
      subst (λ x. is_id x ≡ true) is.named (first_passes (is_id r.plan.id) (BadField field.Pairing) _ is.plan).0

  -- the number of a period is 1 or one more than that of another period
  no_gap : (id : List ℕ) (r : PairingEntry) → fin.get s.pairings id ≡ Some r → (place : ℕ) → place < length r.plan.periods →
      (place + 1 ≡ 1) ⊎ ((before : PeriodRecord) × Has (rows_of period_table db) (period_row before)
      × (before.pairing ≡ id) × (before.number + 1 ≡ place + 1))
  no_gap id r here zero within = inl refl
  no_gap id r here (suc place) within =
      let places = (sound.pairings id r here).places in
      let fdp = some_at r.plan.periods place (omega (arith, within)) in
      let actual = some_at r.actuals place (omega (arith, within, places)) in
      let p : PeriodOf r = record { place = place; fdp = fdp.0; actual = actual.0; planned = fdp.1; flown = actual.1 } in
      inr (
        record_of_period id place fdp.0 actual.0,
        (has.in_period (row_of_period id place fdp.0 actual.0)).1 (record { name = id; value = r; there = here }, p, refl),
        refl,
        omega arith,
      )

  periods : ArePeriods db
  periods row h =
      let in_period = (has.in_period row).0 h in
      let at = in_period.0 in
      let p = in_period.1 in
      let sound_pairing = sound.pairings at.name at.value at.there in
      let typed_pairing = typed.pairings at.name at.value at.there in
      let within = slice_get_within at.value.plan.periods p.place p.fdp p.planned in
      let planned = instants_planned at.value typed_pairing p.place p.fdp p.planned in
      let flown = instants_flown at.value typed_pairing p.place p.actual p.flown in
      record {
        it = record_of_period at.name p.place p.fdp p.actual;
        is = in_period.2;
        fits = few_numbers p.place (length at.value.plan.periods) within (few_periods at.value.plan sound_pairing.plan);
        report = planned.0;
        release = planned.1;
        act_report = flown.0;
        act_release = flown.1;
        of_pairing = (has.in_pairing (pairing_row (record { id = at.name }))).1 (at, refl);
        no_gap = no_gap at.name at.value at.there p.place within;
      }

  planned : ArePlanned s
  planned id r here =
      let is = sound.pairings id r here in
      let of = typed.pairings id r here in
      record {
        named = is.named;
        plan = is.plan;
        planned = is.planned;
        instants = of.planned;
        places = is.places;
        actuals = λ i a at. (is.actuals i a at, of.flown i a at);
      }

  seated : AreSeated s
  seated id r here =
      let is = sound.pairings id r here in
      record { captain = is.captain; first_officer = is.first_officer; crewed = is.crewed }

  grounds : AreGrounds s
  grounds id g here =
      let is = sound.grounds id g here in
      let of = typed.grounds id g here in
      record { named = is.named; made = of.made; begin = of.begin; end = of.end; utf8 = of.utf8; member = is.member; of_member = is.of_member }

  outside_shape : (id : List ℕ) (o : OutsideEntry) → fin.get s.outsides id ≡ Some o → is_id id ≡ true
  unfolding outside_fault
  outside_shape id o here =
      let is = sound.outsides id o here in
      subst (λ x. is_id x ≡ true) is.named (first_passes (is_id o.period.id) (BadField field.Outside) _ is.made).0

  duty_in : (d : DutyId) → IsNamed s d → IsDutyIn s.pairings d
  duty_in (Period p) is = record {
    entry = is.entry;
    of_pairing = is.of_pairing;
    place = is.place;
    number = is.number;
    actual = is.actual;
    flown = is.flown;
  }
  duty_in (Outside id) is = id_utf8 id (outside_shape id is.0 is.1)

  key_in_range : (key : KeyParts) (r : LoggedCommand) → fin.get s.requests (key_name key) ≡ Some r → IsKey key
  key_in_range key r here =
      let it = typed.requests (key_name key) r here in
      subst IsKey (sym (keys_same key it.0 it.1)) it.2.is_key

  exceedances : AreExceedances s
  exceedances name d here =
      let x = sound.exceedances name d here in (
        record { key = x.key; crew = x.crew; section = x.section },
        x.known_by,
        record { is_key = key_in_range x.key x.request x.held; member = x.member; of_member = x.of_member; of_duty = duty_in d x.of_duty },
      )

  held : AreHeld s
  held id d here =
      let x = sound.exceedances (name_of id) d here in
      let same = names_same id.key x.key id.crew x.crew id.section x.section x.known_by in
      (x.request, ap (λ k. fin.get s.requests (key_name k)) same.0 ∙ x.held)

  bases : AreBases s
  bases = record {
    has_home = sound.has_home;
    shaped = λ id zone here. let it = typed.bases id zone here in (it.id_shape, it.rule);
  }

  outsides : IsTableOfState outside s db → AreOutsides s db
  outsides is = record {
    rows = λ row h.
        let in_outside = (is.1 row).0 h in
        let at = in_outside.0 in
        let of = typed.outsides at.name at.value at.there in
        let sound_outside = sound.outsides at.name at.value at.there in
        record {
          it = record { id = at.name; crew = at.value.crew; report_at = at.value.period.report; release_at = at.value.period.release };
          is = in_outside.1;
          id_shape = outside_shape at.name at.value at.there;
          report = of.report;
          release = of.release;
          member = sound_outside.member;
          of_member = sound_outside.of_member;
        };
    recorded = λ name id here.
        let x = (sound.exceedances name (Outside id) here).of_duty in (
          record { id = id; crew = x.0.crew; report_at = x.0.period.report; release_at = x.0.period.release },
          (is.1 (row_of_outside id x.0)).1 (record { name = id; value = x.0; there = x.1 }, refl),
          refl,
        );
  }

  outside_fit : IsOutsideFit s db
  outside_fit = elim (has.later outside refl) as (λ _. IsOutsideFit s db) [
    | inl is ↦ inl (is.0, is.1.0, outsides is.1)
    | inr is ↦ inr is
  ]

  outsides_made : AreOutsidesMade s
  outsides_made id o here =
      let is = sound.outsides id o here in
      record { named = is.named; made = is.made; instants = (typed.outsides id o here).segments }

  right : IsRightBook s db
  right =
      let to_book : IsRight book s db = ((has.there book refl, has.in_book), home_rule) in
      let to_crew : IsRight crew s db = (to_book, (has.there crew refl, has.in_crew), typed.members) in
      let to_pairing : IsRight pairing s db = (to_crew, (has.there pairing refl, has.in_pairing), named) in
      let to_period : IsRight period s db = (to_pairing, has.there period refl, periods) in
      let to_segment : IsRight segment s db = (to_period, has.in_period, (has.there segment refl, has.in_segment), planned) in
      let to_seat : IsRight seat s db = (to_segment, (has.there seat refl, has.in_seat), seated) in
      let to_ground : IsRight ground_duty s db = (to_seat, (has.there ground_duty refl, has.in_ground), grounds) in
      let to_exceedance : IsRight exceedance s db = (to_ground, (has.there exceedance refl, has.in_exceedance), exceedances, λ first. (has.first first).records) in
      let to_request : IsRight request s db = (to_exceedance, (has.there request refl, has.in_request), (typed.requests, held), has.first) in
      let to_base : IsRight base s db = (to_request, has.later base refl, bases) in
      let to_crew_base : IsRight crew_base s db = (to_base, has.later crew_base refl, sound.crew) in
      let to_outside : IsRight outside s db = (to_crew_base, outside_fit) in
      (to_outside, has.later outside refl, has.later outside_segment refl, outsides_made)

pub typed_right : (s : State) (db : Database) → Sound s → HasTypedParts s → IsFirstBookOf s db ⊎ IsBookOf s db → IsRightBook s db
typed_right s db sound typed is = right s db sound typed (holds s db is)

pub not_refused : (s : State) (db : Database) (fault : LoadFault) → Sound s → HasTypedParts s → IsFirstBookOf s db ⊎ IsBookOf s db → tells fault ≡ true →
    Justifies fault db → ⊥
not_refused s db fault sound typed is told = is_not_refused s db fault told (typed_right s db sound typed is)

-- ---- A state whose tables are right

module _ (s : State) (db : Database) (whole : IsRightBook s db) where
  to_request : IsRight request s db
  to_request = whole.0.0.0.0

  outside_times : (id : List ℕ) (o : OutsideEntry) → fin.get s.outsides id ≡ Some o → IsOfEdition Second db → IsTypedOutside o.period
  outside_times id o here second =
      let fits : FitsOutside s db = its_table crew_base outside next_outside s db second whole.0 in
      let both : HasBothOutside s db = its_table outside outside_segment next_outside_segment s db second whole in
      let row = row_of_outside id o in
      let it = fits.1.rows row ((both.0.1 row).1 (record { name = id; value = o; there = here }, refl)) in
      let report : o.period.report ≡ it.it.report_at = number_is (ap (λ (r : Row). column r 2) it.is) in
      let release : o.period.release ≡ it.it.release_at = number_is (ap (λ (r : Row). column r 3) it.is) in
      record {
        report = subst (λ n. is_instant n ≡ true) (sym report) it.report;
        release = subst (λ n. is_instant n ≡ true) (sym release) it.release;
        segments = (whole.3 id o here).instants;
      }

  none_outside : (id : List ℕ) (o : OutsideEntry) → fin.get s.outsides id ≡ Some o → s.outsides ≡ fin.empty → ⊥
  none_outside id o here none =
      let no : None ≡ Some o = sym (ap (λ (x : fin.FinMap name_cmp OutsideEntry). fin.get x id) none ∙ fin.get-empty name_cmp id) ∙ here in
      cc

  outside_typed : (id : List ℕ) (o : OutsideEntry) → fin.get s.outsides id ≡ Some o → IsTypedOutside o.period
  outside_typed id o here = elim whole.1 as (λ _. IsTypedOutside o.period) [
    | inl is ↦ outside_times id o here is.0
    | inr is ↦ absurd (none_outside id o here (to_request.3 is.0).outsides)
  ]

  pub right_typed : HasTypedParts s
  right_typed =
      let to_grounds = to_request.0.0 in
      let to_segments = to_grounds.0.0 in
      record {
        bases = λ id zone here. let it = whole.0.0.0.2.shaped id zone here in record { id_shape = it.0; rule = it.1 };
        members = to_segments.0.0.0.2;
        pairings = λ id r here.
            let is = to_segments.3 id r here in
            record { planned = is.instants; flown = λ i a at. (is.actuals i a at).1 };
        grounds = λ id g here.
            let is = to_grounds.2 id g here in
            record { made = is.made; begin = is.begin; end = is.end; utf8 = is.utf8 };
        outsides = outside_typed;
        requests = to_request.2.0;
      }
