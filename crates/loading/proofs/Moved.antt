-- The tables of version 1 stay right where bases, and the bases of members, are set.
use Rattle.std.proofs.Common.{◌≡◌, refl, sym, ap, subst, ◌∙◌, ℕ, true, List, Option, Some, IsUtf8}
use Rattle.std.specs.FinMap as fin
use Rattle.sqlite_value.specs.Order.{Row}
use Rattle.sqlite.specs.Effect.{Database}
use Rattle.time117.specs.Local.{is_zone_text}
use Rattle.duty.specs.Plans.{GroundPlan}
use Rattle.duty.specs.Shape.{is_plain_text}
use Rattle.command.specs.declared.member.Member.{Member}
use Rattle.command.specs.declared.member.Seat.{Seat}
use Rattle.roster.specs.Bases.{Bases, home_zone}
use Rattle.roster.specs.Sound.{Members, IsHolder}
use Rattle.roster.specs.State.{State}
use Rattle.roster.specs.declared.state.DutyId.{DutyId}
use Rattle.roster.specs.declared.state.ExceedanceId.{ExceedanceId}
use Rattle.roster.specs.declared.state.PairingEntry.{PairingEntry}
use Rattle.entries.specs.Right.{IsBookRight, IsCrewRight, IsExceedance, IsGround, IsMember, IsOfEdition, IsRequestRight, IsSeated}
use Rattle.entries.proofs.Editions.{one_edition}
use Rattle.entries.proofs.SameStates.{HasAlike}
use Rattle.state_rows.specs.Rows.{InCrew, row_of_book, row_of_member}
use Rattle.state_rows.specs.declared.edition.Edition.TheVariants.{Second}

-- ---- Members who are the same but for their bases

member_row : (id : List ℕ) (m n : Member) → n.seat ≡ m.seat → n.name ≡ m.name → row_of_member id m ≡ row_of_member id n
member_row id m n seat name = λ i. row_of_member id (record m { seat = sym seat i; name = sym name i })

crew_rows : (s t : State) → HasAlike s.crew t.crew → (row : Row) → InCrew s row → InCrew t row
crew_rows s t to row is =
    let at = is.0 in
    let a = to at.name at.value at.there in
    (record { name = at.name; value = a.other; there = a.there }, is.1 ∙ member_row at.name at.value a.other a.seat a.name)

module _ (members others : Members) (to : HasAlike members others) where
  holder_stays : (seat : Seat) (holder : Option (List ℕ)) → IsHolder members seat holder → IsHolder others seat holder
  holder_stays seat holder is who e =
      let it = is who e in
      let a = to who it.0 it.1 in
      (a.other, a.there, a.seat ∙ it.2)

  seated_stays : (r : PairingEntry) → IsSeated members r → IsSeated others r
  seated_stays r is = record {
    captain = holder_stays _ r.captain is.captain;
    first_officer = holder_stays _ r.first_officer is.first_officer;
    crewed = is.crewed;
  }

  ground_stays : (id : List ℕ) (g : GroundPlan) → IsGround members id g → IsGround others id g
  ground_stays id g is = let a = to g.crew is.member is.of_member in record {
    named = is.named;
    made = is.made;
    begin = is.begin;
    end = is.end;
    utf8 = is.utf8;
    member = a.other;
    of_member = a.there;
  }

  exceedance_stays : (pairings : fin.FinMap _ PairingEntry) (id : ExceedanceId) (named : DutyId) → IsExceedance members pairings id named → IsExceedance others pairings id named
  exceedance_stays pairings id named is = let a = to id.crew is.member is.of_member in record {
    is_key = is.is_key;
    member = a.other;
    of_member = a.there;
    of_duty = is.of_duty;
  }

pub alike_itself : (members : Members) → HasAlike members members
alike_itself members who m there = record { other = m; there = there; seat = refl; name = refl }

-- ---- The tables

module _ (s : State) (bases : Bases) (members : Members) (zone : home_zone bases ≡ home_zone s.bases) (to : HasAlike s.crew members) (back : HasAlike members s.crew) (db : Database) where
  abbrev t : State
  t = record s { bases = bases; crew = members }

  book_stays : IsBookRight s db → IsBookRight t db
  book_stays right = (
    (
      right.0.0,
      (
        right.0.1.0,
        λ row. (
          λ h. (right.0.1.1 row).0 h ∙ ap (row_of_book right.0.1.0) (sym zone),
          λ e. (right.0.1.1 row).1 (e ∙ ap (row_of_book right.0.1.0) zone),
        ),
      ),
    ),
    subst (λ z. is_zone_text z ≡ true) (sym zone) right.1,
  )

  member_stays : (id : List ℕ) (m : Member) → IsCrewRight s db → fin.get members id ≡ Some m → IsMember id m
  member_stays id m right there =
      let a = back id m there in
      let is = right.2 id a.other a.there in
      record {
        id_shape = is.id_shape;
        name_shape = subst (λ n. is_plain_text n ≡ true) a.name is.name_shape;
        utf8 = subst IsUtf8 a.name is.utf8;
      }

  crew_stays : IsCrewRight s db → IsCrewRight t db
  crew_stays right = (
    book_stays right.0,
    (right.1.0, λ row. (λ h. crew_rows s t to row ((right.1.1 row).0 h), λ x. (right.1.1 row).1 (crew_rows t s back row x))),
    λ id m there. member_stays id m right there,
  )

  pub request_stays : IsRequestRight s db → IsOfEdition Second db → IsRequestRight t db
  request_stays right second =
      let exceedances = right.0 in
      let grounds = exceedances.0 in
      let seats = grounds.0 in
      let segments = seats.0 in
      let periods = segments.0 in
      let pairings = periods.0 in (
        (
          (
            (
              (
                (
                  (crew_stays pairings.0, pairings.1, pairings.2),
                  periods.1,
                  periods.2,
                ),
                segments.1,
                segments.2,
                segments.3,
              ),
              seats.1,
              λ id r here. seated_stays s.crew members to r (seats.2 id r here),
            ),
            grounds.1,
            λ id g here. ground_stays s.crew members to id g (grounds.2 id g here),
          ),
          exceedances.1,
          λ name named here. let x = exceedances.2 name named here in (x.0, x.1, exceedance_stays s.crew members to s.pairings x.0 named x.2),
          exceedances.3,
        ),
        right.1,
        right.2,
        λ first. absurd (one_edition db first second),
      )
