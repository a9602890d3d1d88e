-- That `==` of seats is equality.
use Rattle.std.specs.Prelude.{◌≡◌, ◌↔◌, IsTrue}
use Rattle.command.specs.contracts.member.SeatPartialEq.TheImpl.{ghosts}
use Rattle.command.specs.declared.member.Seat.{Seat}
use Rattle.command.specs.declared.member.Seat.TheVariants.{Captain, FirstOfficer}

-- `==` of seats is equality
pub seat_same : (a b : Seat) → IsTrue (ghosts.eq a b) ↔ (a ≡ b)
seat_same Captain Captain = (λ e. cc, λ e. cc)
seat_same FirstOfficer FirstOfficer = (λ e. cc, λ e. cc)
seat_same Captain FirstOfficer = (λ e. cc, λ e. cc)
seat_same FirstOfficer Captain = (λ e. cc, λ e. cc)
