-- What is read into a roster is read into the state that has kept commands beside the roster.
use Rattle.std.proofs.Common.{ap, List}
use Rattle.sqlite.specs.Effect.{Database}
use Rattle.roster.specs.State.{State}
use Rattle.tables.specs.declared.base.BaseRecord.{BaseRecord}
use Rattle.tables.specs.declared.crew_base.CrewBaseRecord.{CrewBaseRecord}
use Rattle.tables.specs.declared.outside_segment.OutsideSegmentRecord.{OutsideSegmentRecord}
use Rattle.entries.specs.OutsideRows.{Outsides}
use Rattle.state_rows.specs.Requests.{Requests, with_requests}
use Rattle.loading.specs.Reading.{AreBasesRead, ArePosted}
use Rattle.loading.specs.OutsideTables.{AreOutsidesSet, HasOutsides}

module _ (kept : Requests) where
  pub bases_beside : (records : List BaseRecord) (r t : State) → AreBasesRead records r t → AreBasesRead records (with_requests kept r) (with_requests kept t)
  bases_beside records r t it = record {
    has_home = it.has_home;
    read = record { same = ap (with_requests kept) it.read.same; mapped = it.read.mapped };
  }

  pub posts_beside : (records : List CrewBaseRecord) (r t : State) → ArePosted records r t → ArePosted records (with_requests kept r) (with_requests kept t)
  posts_beside records r t it = record { same = ap (with_requests kept) it.same; read = it.read; all = it.all }

  pub outsides_beside : (r : State) (db : Database) (m : Outsides) → HasOutsides r db m → HasOutsides (with_requests kept r) db m
  outsides_beside r db m it = record { stored = it.stored; there = it.there; rows = it.rows; keyed = it.keyed }

  pub outsides_of : (r : State) (db : Database) (m : Outsides) → HasOutsides (with_requests kept r) db m → HasOutsides r db m
  outsides_of r db m it = record { stored = it.stored; there = it.there; rows = it.rows; keyed = it.keyed }

  pub set_beside : (m : Outsides) (records : List OutsideSegmentRecord) (r t : State) → AreOutsidesSet m records r t → AreOutsidesSet m records (with_requests kept r) (with_requests kept t)
  set_beside m records r t it = record { same = ap (with_requests kept) it.same; segments = it.segments; whole = it.whole; made = it.made }
