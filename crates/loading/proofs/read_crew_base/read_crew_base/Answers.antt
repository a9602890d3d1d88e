use Rattle.std.proofs.Common.{rules, ◌≡◌, refl, sym, subst, Result, Err, List}
use Rattle.sqlite.specs.Held.{state}
use Rattle.roster.specs.State.{State}
use Rattle.tables.specs.Records.{IsCrewBaseRow, crew_base_row}
use Rattle.tables.specs.declared.crew_base.CrewBaseRecord.{CrewBaseRecord}
use Rattle.entries.specs.Right.{AreRight}
use Rattle.loading.specs.Loading.{Justifies}
use Rattle.loading.specs.Reading.{AgreesIn, ArePosted, AreUnposted, IsReadAs, ReadsAs}
use Rattle.state_rows.specs.Requests.{with_requests}
use Rattle.state_rows.specs.Rows.{base, crew_base}
use Rattle.state_rows.specs.declared.edition.Edition.TheVariants.{Second}
use Rattle.entries.specs.declared.fault.LoadFault.{LoadFault}
use Rattle.entries.specs.declared.fault.TableName.TheVariants as table_name
use Rattle.loading.proofs.LaterTables.{later_told}
use Rattle.loading.proofs.KeptBeside.{posts_beside}
use Rattle.entries.proofs.Editions.{next_crew_base}
use Rattle.loading.proofs.ReadTables.{not_read, is_read}
use Rattle.loading.proofs.Telling.{given}
use Rattle.loading.proofs.ReadCrewBase.{not_unreadable, right, wrong}
use Rattle.loading.proofs.read_crew_base.read_crew_base.Goals as goal

pub returns-in_err-records : goal.returns-in_err-records
returns-in_err-records g c =
    let old = state g.S.Store c.args.conn.now in
    let new = state g.S.Store c.crew_base_records.new.conn in
    let kept = c.requires.0 in
    let up = c.requires.1 in
    let s = with_requests kept c.args.roster in
    let fault = c.in_err-records.field-0.0 in
    let is : c.from_residual.result ≡ Err fault = search rules in (
      kept,
      subst (λ (r : Result State LoadFault). ReadsAs (λ (t : State). AgreesIn Second crew_base (with_requests kept t) old.now) (λ f. Justifies f old.now) old new r) (sym is)
          (later_told base crew_base next_crew_base table_name.CrewBase refl s (with_requests kept) old new up (Err fault)
          (not_read crew_base table_name.CrewBase IsCrewBaseRow crew_base_row (AreRight crew_base old.now) (λ (t : State). IsReadAs crew_base (with_requests kept t) old.now) old new c.crew_base_records.ensures.left fault
          (λ clean. not_unreadable old.now (up clean).of) c.in_err-records.ensures.told c.in_err-records.ensures.caused)),
    )

pub returns : goal.returns
returns g c =
    let old = state g.S.Store c.args.conn.now in
    let new = state g.S.Store c.crew_base_records.new.conn in
    let kept = c.requires.0 in
    let up = c.requires.1 in
    let s = with_requests kept c.args.roster in
    let records = c.in_ok-records.records.items in (
      kept,
      later_told base crew_base next_crew_base table_name.CrewBase refl s (with_requests kept) old new up c.given_back.result
          (is_read crew_base table_name.CrewBase IsCrewBaseRow crew_base_row (AreRight crew_base old.now) (λ (t : State). IsReadAs crew_base (with_requests kept t) old.now) old new c.crew_base_records.ensures.left
          records c.deref.result.now c.deref.ensures.value (λ (l : List CrewBaseRecord) t. ArePosted l c.args.roster t) (λ l. AreUnposted l c.args.roster)
          c.in_ok-records.ensures.told (λ clean read t found. right s old.now (up clean) records read (with_requests kept t) (posts_beside kept records c.args.roster t found)) (λ clean read. wrong s old.now (up clean) records read) c.given_back.result (given _ _ c.post_all-done.result c.post_all-done.new.roster c.given_back.result c.given_back.ensures.ok c.given_back.ensures.err c.post_all-done.ensures)),
    )
