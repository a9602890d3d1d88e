-- A flight duty period (117.3) by its times in force.
use Rattle.std.specs.Prelude.{ℕ, List, Option}
use Rattle.duty.specs.declared.span.Span.{Span}

-- A flight duty period by its times in force. `start` is the acclimated minute of the day of its
-- planned report, by which the period enters Tables A and B; a period without a start enters no
-- table. The segments run from block-out to block-in.
pub record FdpTimes : Type 0 where
  pub start : Option ℕ
  pub report : ℕ
  pub release : ℕ
  pub segments : List Span
