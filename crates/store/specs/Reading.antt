-- What is known of a book that was read. No public clause names a word of this file.
use Rattle.std.specs.Prelude.{◌≡◌, Result, IfOk}
use Rattle.sqlite.specs.State as conn
use Rattle.sqlite.specs.State.{HasCleanDisk}
use Rattle.roster.specs.State.{State}
use Rattle.loading.specs.Loading.{Justifies}
use Rattle.loading.specs.Reading.{AgreesIn, ReadsAs}
use Rattle.entries.specs.declared.fault.LoadFault.{LoadFault}
use Rattle.state_rows.specs.Outcomes.{CrashLeaves, HoldsNow, IsJust, ShowsFirst}
use Rattle.state_rows.specs.Requests.{Requests, with_requests}
use Rattle.state_rows.specs.Rows.{outside_segment}
use Rattle.state_rows.specs.declared.edition.Edition.{Edition}
use Rattle.state_rows.specs.declared.edition.Edition.TheVariants.{First, Second}
use Rattle.store.specs.Found.{IsFound}

-- A roster was read with the version of its book; the state of the book is this roster with these
-- kept commands. Or the book was refused.
pub record IsBookRead
    (kept : Requests) (old new : conn.State) (result : Result (State × Edition) LoadFault)
    : Type 0 where
  -- what was read, or what is true of the database
  pub saw : ReadsAs (λ r. AgreesIn r.1 outside_segment (with_requests kept r.0) old.now)
      (λ fault. Justifies fault old.now) old new result
  pub found : IfOk result (λ r. HasCleanDisk new → IsFound (with_requests kept r.0) old.now)
  -- of a book of version 1: what the tables show
  pub first : IfOk result (λ r. r.1 ≡ First → ShowsFirst new (with_requests kept r.0))
  -- of a book of version 2: what a crash leaves, and what the tables show
  pub crash : IfOk result (λ r. r.1 ≡ Second → CrashLeaves new (IsJust (with_requests kept r.0)))
  pub shown : IfOk result (λ r. r.1 ≡ Second → HoldsNow new (with_requests kept r.0))
