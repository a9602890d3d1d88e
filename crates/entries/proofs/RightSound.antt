-- A state whose rows are right is sound.
use Rattle.std.proofs.Common.{◌≡◌, inl, inr, refl, sym, ap, ◌∙◌, arith, ℕ, List, ◌<◌, None, Some, nat_lt}
use Rattle.std.specs.FinMap as fin
use Rattle.std.proofs.lemmas.Bool.{cases_Bool}
use Rattle.std.proofs.lemmas.Bool.Decides.{nat_tests}
use Rattle.values.specs.Name.{name_cmp}
use Rattle.sqlite_value.specs.Order.{Row, column}
use Rattle.sqlite.specs.Effect.{Database}
use Rattle.duty.specs.Pairings.{ground_fault}
use Rattle.duty.specs.Plans.{GroundPlan}
use Rattle.duty.specs.Shape.{is_id, is_plain_text}
use Rattle.command.specs.declared.member.Member.{Member}
use Rattle.roster.specs.Sound.{IsNamed, Sound, SoundOutside}
use Rattle.roster.specs.State.{State}
use Rattle.roster.specs.declared.state.DutyId.{DutyId}
use Rattle.roster.specs.declared.state.DutyId.TheVariants.{Period, Outside}
use Rattle.roster.specs.declared.state.OutsideEntry.{OutsideEntry}
use Rattle.tables.specs.Records.{outside_row}
use Rattle.entries.proofs.Editions.{FitsOutside, HasBothOutside, its_table, next_outside, next_outside_segment}
use Rattle.entries.specs.Right.{IsOfEdition, IsDutyIn, IsRight, IsRightBook}
use Rattle.entries.specs.SameRows.{HasInstants, IsSaidByFirst}
use Rattle.state_rows.proofs.Values.{text_is}
use Rattle.state_rows.specs.First.{IsFirst}
use Rattle.state_rows.specs.Rows.{request, crew_base, outside, outside_segment, row_of_outside}
use Rattle.state_rows.specs.declared.edition.Edition.TheVariants.{Second}

begins_first : (g : GroundPlan) → ground_fault g ≡ None → g.begin < g.end
unfolding ground_fault
begins_first g e = elim (cases_Bool (nat_lt g.begin g.end)) [
  | inl less ↦ (let l : g.begin < g.end = grind (arith, nat_tests) in l)
  | inr not_less ↦ absurd (elim (cases_Bool (is_id g.id)) [
    | inl a ↦ elim (cases_Bool (is_id g.crew)) [
      | inl b ↦ elim (cases_Bool (is_plain_text g.task)) [
        | inl c ↦ (let f = rw (a, b, c, not_less) at e in cc)
        | inr c ↦ (let f = rw (a, b, c) at e in cc)
      ]
      | inr b ↦ (let f = rw (a, b) at e in cc)
    ]
    | inr a ↦ (let f = rw a at e in cc)
  ])
]

module _ (s : State) (db : Database) (whole : IsRightBook s db) where
  right : IsRight request s db
  right = whole.0.0.0.0

  -- the rows of `outside`, as the file is of version 2, or there is no outside period
  outside_rows : IsOfEdition Second db → FitsOutside s db × HasBothOutside s db
  outside_rows second = (its_table crew_base outside next_outside s db second whole.0, its_table outside outside_segment next_outside_segment s db second whole)

  by_edition : {A : Type 0} → (IsOfEdition Second db → A) → (IsFirst s → A) → A
  by_edition {A} in_second in_first = elim whole.1 as (λ _. A) [ inl is ↦ in_second is.0 | inr is ↦ in_first (right.3 is.0) ]

  outside_sound : (id : List ℕ) (o : OutsideEntry) → fin.get s.outsides id ≡ Some o → SoundOutside s.crew id o
  outside_sound id o here =
      let is = whole.3 id o here in
      let of_member : (m : Member) × (fin.get s.crew o.crew ≡ Some m) = by_edition
      (λ second.
      let both = outside_rows second in
      let row = row_of_outside id o in
      let it = both.0.1.rows row ((both.1.0.1 row).1 (record { name = id; value = o; there = here }, refl)) in
      let crew : o.crew ≡ it.it.crew = text_is (ap (λ (r : Row). column r 1) it.is) in
      (it.member, ap (fin.get s.crew) crew ∙ it.of_member))
      (λ first. absurd (let e = sym (ap (λ (x : fin.FinMap name_cmp OutsideEntry). fin.get x id) first.outsides ∙ fin.get-empty name_cmp id) ∙ here in cc)) in
      record { named = is.named; member = of_member.0; of_member = of_member.1; made = is.made }

  named_sound : (name : List ℕ) (named : DutyId) → fin.get s.exceedances name ≡ Some named → IsDutyIn s.pairings named → IsNamed s named
  named_sound name (Period p) here is = record {
    entry = is.entry;
    of_pairing = is.of_pairing;
    place = is.place;
    number = is.number;
    actual = is.actual;
    flown = is.flown;
  }
  named_sound name (Outside id) here is = by_edition
      (λ second.
      let both = outside_rows second in
      let has = both.0.1.recorded name id here in
      let at = (both.1.0.1 (outside_row has.0)).0 has.1 in
      let same : has.0.id ≡ at.0.name = text_is (ap (λ (r : Row). column r 0) at.1) in
      (at.0.value, ap (fin.get s.outsides) (sym has.2 ∙ same) ∙ at.0.there))
      (λ first. absurd (first.records name (Outside id) here))

  pub right_sound : Sound s
  right_sound =
      let to_exceedances = right.0 in
      let to_grounds = to_exceedances.0 in
      let to_seats = to_grounds.0 in
      let to_segments = to_seats.0 in
      record {
        has_home = whole.0.0.0.2.has_home;
        crew = whole.0.0.2;
        pairings = λ id r here.
            let plan = to_segments.3 id r here in
            let seated = to_seats.2 id r here in
            record {
              named = plan.named;
              plan = plan.plan;
              planned = plan.planned;
              captain = seated.captain;
              first_officer = seated.first_officer;
              places = plan.places;
              actuals = λ i a e. (plan.actuals i a e).0;
              crewed = seated.crewed;
            };
        grounds = λ id g here.
            let is = to_grounds.2 id g here in
            record { named = is.named; member = is.member; of_member = is.of_member; begins = begins_first g is.made };
        outsides = outside_sound;
        exceedances = λ name p here.
            let x = to_exceedances.2 name p here in
            let held = right.2.1 x.0 p (ap (fin.get s.exceedances) (sym x.1) ∙ here) in
            let is = x.2 in
            record {
              key = x.0.key;
              crew = x.0.crew;
              section = x.0.section;
              known_by = x.1;
              request = held.0;
              held = held.1;
              member = is.member;
              of_member = is.of_member;
              of_duty = named_sound name p here is.of_duty;
            };
        requests = λ name r here. let x = right.2.0 name r here in record { key = x.0; known_by = x.1; made = x.2.command.0 };
      }

  pub right_instants : HasInstants s
  right_instants name r here = (right.2.0 name r here).2.command.1

pub right_first : IsSaidByFirst
right_first s db whole first = whole.0.0.0.0.3 first
