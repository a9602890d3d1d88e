-- Tables that aren't of the book keep their rows.
use Rattle.std.proofs.Common.{◌≡◌, refl, sym, ap, subst, ◌∙◌, inl, inr, arith, ℕ, ◌+◌, pos, suc, Bool, List, [], ◌∷◌, Option, None, Some, IsTrue, Result, Ok, Err, IsOk}
use Rattle.std.specs.FinMap as fin
use Rattle.sqlite_rules.specs.Lists.{Has}
use Rattle.sqlite_rules.proofs.ListLemmas.{all_has, has_found}
use Rattle.sqlite_schema.specs.declared.schema.Schema.{Schema}
use Rattle.sqlite_schema.specs.declared.schema.Table.{Table}
use Rattle.sqlite_trees.specs.Tree.{Trees}
use Rattle.sqlite_trees.specs.declared.store.Store.{Ghosts}
use Rattle.sqlite_value.specs.Order.{Row}
use Rattle.sqlite_value.specs.declared.value.Value.TheVariants.{Int, Text}
use Rattle.sqlite.specs.Effect.{Database, IsDatabase}
use Rattle.sqlite.specs.Held.{Held, state}
use Rattle.sqlite.specs.State.{State, HasCleanDisk, IsLive, Survives}
use Rattle.duty.specs.Plans.{Plan, ActualTimes, OutsidePlan}
use Rattle.duty.specs.Shape.{home}
use Rattle.command.specs.declared.instruction.Instruction.{Instruction}
use Rattle.command.specs.declared.member.Member.{Member}
use Rattle.command.specs.declared.instruction.Instruction.TheVariants.{AddBase, AddCrew, AddPairing, CancelPairing, Assign, Release, Swap, AddGround, CancelGround, Actual, RecordOutside}
use Rattle.roster.specs.Bases.{home_zone}
use Rattle.roster.specs.State as roster
use Rattle.roster.specs.declared.change.Change.{Change}
use Rattle.roster.specs.declared.change.SeatChange.{SeatChange}
use Rattle.roster.specs.declared.state.DutyId.{DutyId}
use Rattle.roster.specs.declared.state.DutyId.TheVariants as duty_id
use Rattle.tables.specs.Calls.{Begun, Committed}
use Rattle.tables.specs.Records.{with_period_times, with_segment_times, with_version}
use Rattle.tables.specs.Rows.{Changes, Inserts, Deletes, Updates, begins_with, kept_in, stored}
use Rattle.tables.specs.Schema.{BookTable, IsTable, base_table, book_table, book_tables, later_tables, table_found, table_of}
use Rattle.writing.specs.Calls.{Changed, Each, IsFit, IsReady, Then, Wrote}
use Rattle.writing.specs.Beside.{AddsTables, IsOther, KeepBeside, KeepOthers}
use Rattle.state_rows.specs.Kept.{IsFirstBookOf}
use Rattle.writing.specs.Migration.{AddsHome, AddsPost, AddsPosts, Fills, Migrates, SetsVersion}
use Rattle.writing.specs.Making.{MakesTables}
use Rattle.state_rows.specs.Outcomes.{CrashLeavesOnly, CrashAddsOnly, ShowsOnly}
use Rattle.state_rows.specs.Rows.{StateTable, table, crew, pairing, period, segment, seat, ground_duty, exceedance, request, base, book, crew_base, outside, outside_segment, row_of_base, row_of_post, row_of_member, row_of_pairing, row_of_period, row_of_segment, row_of_seat, row_of_ground, row_of_exceedance, row_of_request, row_of_outside, row_of_outside_segment, seat_number}
use Rattle.writing.specs.Writing.{AddsPeriods, AddsSegmentOf, AddsSegmentsOf, AddsSegments, FreesSeat, Seats, Reseats, FliesPeriod, FliesSegment, FliesSegments, Records, RecordsAll, RecordsFlown, RecordsOutsideOf, RemovesOutside, AddsOutsideRow, AddsOutsideSegment, AddsOutsideSegments, AddsOutside, Writes, WritesInstruction}
use Rattle.writing.proofs.Migrated.{made_fit}
use Rattle.writing.proofs.Tables.{fit_after}

-- the schema is as it was, and each table that isn't of the book has its rows
record Spares (old new : Database) : Type 0 where
  schema : new.schema ≡ old.schema
  others : (t : Table) → Has old.schema.tables t → IsOther t.name → new.trees t.tree ≡ old.trees t.tree

spares_nothing : (db : Database) → Spares db db
spares_nothing db = record { schema = refl; others = λ _ _ _. refl }

spares_then : (a b c : Database) → Spares a b → Spares b c → Spares a c
spares_then a b c one two = record {
  schema = two.schema ∙ one.schema;
  others = λ t there other. two.others t (subst (λ (s : Schema). Has s.tables t) (sym one.schema) there) other ∙ one.others t there other;
}

spares_by : (old new : Database) (a : StateTable) (Is : Row → Type 0) → Changes (table a) old new Is → Spares old new
spares_by old new a Is changes = record {
  schema = changes.schema;
  others = λ t there other. all_has _ old.schema.tables t changes.others there (other a);
}

-- ---- One change after the other

-- a change that does so, and leaves the tables of a book
abbrev Safe : (Database → Database → Type 0) → Type 0
Safe Is = (old new : Database) → IsFit old → Is old new → IsFit new × Spares old new

safe_insert : (a : StateTable) (row : Row) → Safe (Inserts (table a) row)
safe_insert a row old new fit is = (fit_after old new fit a _ is, spares_by old new a _ is)

safe_delete : (a : StateTable) (test : Row → Bool) → Safe (Deletes (table a) test)
safe_delete a test old new fit is = (fit_after old new fit a _ (is (fit.1 a)), spares_by old new a _ (is (fit.1 a)))

safe_update : (a : StateTable) (test : Row → Bool) (change : Row → Row) → Safe (Updates (table a) test change)
safe_update a test change old new fit is = (fit_after old new fit a _ (is (fit.1 a)), spares_by old new a _ (is (fit.1 a)))

safe_nothing : Safe (λ old new. new ≡ old)
safe_nothing old new fit is = (subst IsFit (sym is) fit, subst (Spares old) (sym is) (spares_nothing old))

safe_then : (First Second : Database → Database → Type 0) → Safe First → Safe Second → Safe (Then First Second)
safe_then First Second one two old new fit is =
    let first = one old is.0 fit is.1 in
    let second = two is.0 new first.0 is.2 in
    (second.0, spares_then old is.0 new first.1 second.1)

safe_each : {V : Type 0} (Is : ℕ → V → Database → Database → Type 0) → ((place : ℕ) (v : V) → Safe (Is place v)) → (place : ℕ) (vs : List V) → Safe (Each Is place vs)
safe_each Is safe place [] old new fit is = safe_nothing old new fit is
safe_each Is safe place (v ∷ vs) old new fit is = safe_then (Is place v) (Each Is (suc place) vs) (safe place v) (safe_each Is safe (suc place) vs) old new fit is

safe_seats : (change : SeatChange) (holder : Option (List ℕ)) → Safe (Seats change holder)
safe_seats change None old new fit is = safe_nothing old new fit is
safe_seats change (Some who) old new fit is = safe_insert seat (row_of_seat change.pairing change.seat who) old new fit is

-- ---- What the instructions write

safe_plan : (plan : Plan) → Safe (Then (Inserts (table pairing) (row_of_pairing plan.id)) (Then (AddsPeriods plan.id plan.periods) (AddsSegments plan.id plan.periods)))
safe_plan plan =
    safe_then (Inserts (table pairing) (row_of_pairing plan.id)) (Then (AddsPeriods plan.id plan.periods) (AddsSegments plan.id plan.periods)) (safe_insert pairing (row_of_pairing plan.id))
    (safe_then (AddsPeriods plan.id plan.periods) (AddsSegments plan.id plan.periods)
    (safe_each (λ place fdp. Inserts (table period) (row_of_period plan.id place fdp None)) (λ place fdp. safe_insert period (row_of_period plan.id place fdp None)) 0 plan.periods)
    (safe_each (λ place fdp. AddsSegmentsOf plan.id place fdp.segments)
    (λ place fdp. safe_each (AddsSegmentOf plan.id place) (λ at s. safe_insert segment (row_of_segment plan.id place at s None)) 0 fdp.segments) 0 plan.periods))

safe_reseats : (changes : List SeatChange) → Safe (Each (λ _ change. Reseats change) 0 changes)
safe_reseats changes =
    safe_each (λ _ change. Reseats change)
    (λ _ change. safe_then (FreesSeat change) (Seats change change.holder) (safe_delete seat (begins_with (Text change.pairing ∷ Int (pos (seat_number change.seat)) ∷ []))) (safe_seats change change.holder)) 0 changes

safe_records : (change : Change) (named : DutyId) → Safe (RecordsAll change.key named change.reply.exceedances)
safe_records change named =
    safe_each (λ _ e. Records change.key named e) (λ _ e. safe_insert exceedance (row_of_exceedance change.key e.crew e.section named)) 0 change.reply.exceedances

safe_flight : (change : Change) (id : List ℕ) (a : ActualTimes) → Safe (WritesInstruction change (Actual id a))
safe_flight change id a =
    safe_then (FliesPeriod id a) (Then (FliesSegments id a.period a.segments) (RecordsFlown change id a.period))
    (safe_update period (begins_with (Text id ∷ Int (pos a.period) ∷ [])) (with_period_times a.report a.release))
    (safe_then (FliesSegments id a.period a.segments) (RecordsFlown change id a.period)
    (safe_each (FliesSegment id a.period)
    (λ at t. safe_update segment (begins_with (Text id ∷ Int (pos a.period) ∷ Int (pos (at + 1)) ∷ [])) (with_segment_times t.block_out t.block_in)) 0 a.segments)
    (safe_records change (duty_id.Period (record { pairing = id; number = a.period }))))

safe_removal : (id : List ℕ) → Safe (RemovesOutside id)
safe_removal id =
    safe_then (Deletes (table outside_segment) (begins_with (Text id ∷ []))) (Deletes (table outside) (begins_with (Text id ∷ [])))
    (safe_delete outside_segment (begins_with (Text id ∷ []))) (safe_delete outside (begins_with (Text id ∷ [])))

safe_addition : (who : List ℕ) (o : OutsidePlan) → Safe (AddsOutside who o)
safe_addition who o =
    safe_then (AddsOutsideRow who o) (AddsOutsideSegments o.id o.segments) (safe_insert outside (row_of_outside o.id (record { crew = who; period = o })))
    (safe_each (AddsOutsideSegment o.id) (λ at t. safe_insert outside_segment (row_of_outside_segment o.id at t)) 0 o.segments)

safe_outside : (change : Change) (who : List ℕ) (o : OutsidePlan) → Safe (WritesInstruction change (RecordOutside who o))
safe_outside change who o =
    safe_then (RemovesOutside o.id) (Then (AddsOutside who o) (RecordsOutsideOf change o.id)) (safe_removal o.id)
    (safe_then (AddsOutside who o) (RecordsOutsideOf change o.id) (safe_addition who o) (safe_records change (duty_id.Outside o.id)))

safe_instruction : (change : Change) (instruction : Instruction) → Safe (WritesInstruction change instruction)
safe_instruction change (AddBase id zone) = safe_insert base (row_of_base id zone)
safe_instruction change (AddCrew id m) = safe_then (Inserts (table crew) (row_of_member id m)) (Inserts (table crew_base) (row_of_post id m.base)) (safe_insert crew (row_of_member id m)) (safe_insert crew_base (row_of_post id m.base))
safe_instruction change (AddPairing plan) = safe_plan plan
safe_instruction change (CancelPairing id) =
    safe_then (Deletes (table segment) (begins_with (Text id ∷ []))) (Then (Deletes (table period) (begins_with (Text id ∷ []))) (Deletes (table pairing) (begins_with (Text id ∷ []))))
    (safe_delete segment (begins_with (Text id ∷ [])))
    (safe_then (Deletes (table period) (begins_with (Text id ∷ []))) (Deletes (table pairing) (begins_with (Text id ∷ [])))
    (safe_delete period (begins_with (Text id ∷ []))) (safe_delete pairing (begins_with (Text id ∷ []))))
safe_instruction change (Assign id who) = safe_reseats change.seats
safe_instruction change (Release id who) = safe_reseats change.seats
safe_instruction change (Swap w) = safe_reseats change.seats
safe_instruction change (AddGround g) = safe_insert ground_duty (row_of_ground g.id g)
safe_instruction change (CancelGround id) = safe_delete ground_duty (begins_with (Text id ∷ []))
safe_instruction change (Actual id a) = safe_flight change id a
safe_instruction change (RecordOutside who o) = safe_outside change who o

safe_writes : (change : Change) → Safe (Writes change)
safe_writes change old new fit is =
    let first = safe_instruction change change.command old is.0 fit is.1.0 in
    let second = safe_insert request (row_of_request change.key (record { command = change.command; reply = change.reply })) is.0 new first.0 is.2 in
    (second.0, spares_then old is.0 new first.1 second.1)

pub written_keeps : {A E : Type 0} (change : Change) (old begun last : State) (r : Result A E) → Wrote (Writes change) begun last r → IsReady begun → (HasCleanDisk begun → Begun old begun) →
    IsLive last → HasCleanDisk last → IsOk r → KeepOthers old.now last.now.trees
written_keeps change old begun last (Err e) wrote ready begins live clean is = absurd (cc)
written_keeps change old begun last (Ok a) wrote ready begins live clean is =
    let it = wrote.changed.done clean in
    let before : HasCleanDisk begun = omega (arith, wrote.changed.left.clean) in
    let spares = (safe_writes change begun.now last.now (ready.fit before) it.0).1 in
    let kept : KeepOthers begun.now last.now.trees = record {
      database = subst (λ (schema : Schema). IsDatabase (record { schema = schema; trees = last.now.trees })) spares.schema (live it.1.is_open).0;
      others = spares.others;
    } in
    subst (λ (db : Database). KeepOthers db last.now.trees) (begins before).0.now_is kept

-- ---- What stays beside tables that are made

-- a table that is declared as those of the book are
plain_stays : (old new : Database) → Spares old new → (t : BookTable) → IsTable t old.schema → IsOther t.name → stored t new ≡ stored t old
plain_stays old new spares t there other =
    let found = there.found in
    let has = has_found _ old.schema.tables (table_of t there.tree) found in
    ap (λ (s : Schema). kept_in new.trees (table_found s t.name)) spares.schema ∙ ap (kept_in new.trees) found
    ∙ spares.others (table_of t there.tree) has.0 other ∙ sym (ap (kept_in old.trees) found)

-- tables are made, and then rows of the book are changed
beside : (tables : List BookTable) (old mid new : Database) → MakesTables tables old mid → Spares mid new → IsDatabase new → KeepBeside tables old new.trees
beside tables old mid new makes spares sound = record {
  schema = new.schema;
  database = sound;
  adds = subst (AddsTables tables old.schema) (sym spares.schema) makes.extends.adds;
  others = λ t h other. spares.others t (makes.extends.adds.kept t h) other ∙ makes.extends.rows t h;
  plain = λ t there other.
      let stays = makes.keeps t there in
      (subst (IsTable t) (sym spares.schema) stays.0, plain_stays mid new spares t stays.0 other ∙ stays.1);
}

pub made_keeps : {A E : Type 0} (row homes : Row) (old begun last : State) (r : Result A E) → (HasCleanDisk begun → Begun old begun) →
    Changed (Then (MakesTables book_tables) (Then (Inserts book_table row) (Inserts base_table homes))) begun last r → IsLive last → HasCleanDisk last → IsOk r → KeepBeside book_tables old.now last.now.trees
made_keeps row homes old begun last (Err fault) begins changed live clean is = absurd (cc)
made_keeps row homes old begun last (Ok a) begins changed live clean is =
    let it = changed.done clean in
    let filled = it.0.2 in
    let spares = spares_then it.0.0 filled.0 last.now (spares_by it.0.0 filled.0 book _ filled.1) (spares_by filled.0 last.now base _ filled.2) in
    subst (λ (db : Database). KeepBeside book_tables db last.now.trees) (begins (omega (arith, changed.left.clean))).0.now_is
    (beside book_tables begun.now it.0.0 last.now it.0.1 spares (live it.1.is_open).0)

safe_fills : (s : roster.State) → Safe (Fills s)
safe_fills s =
    safe_then (AddsHome (home_zone s.bases)) (Then (AddsPosts (fin.entries s.crew)) SetsVersion) (safe_insert base (row_of_base home (home_zone s.bases)))
    (safe_then (AddsPosts (fin.entries s.crew)) SetsVersion
    (safe_each (λ _ (member : List ℕ × Member). AddsPost member.0 member.1.base) (λ _ member. safe_insert crew_base (row_of_post member.0 member.1.base)) 0 (fin.entries s.crew))
    (safe_update book (begins_with (Int (pos 1) ∷ [])) (with_version (pos 2))))

pub migrated_keeps : {A E : Type 0} (s : roster.State) (old begun last : State) (r : Result A E) → (HasCleanDisk begun → IsFirstBookOf s begun.now) → (HasCleanDisk begun → Begun old begun) →
    Changed (Migrates s) begun last r → IsLive last → HasCleanDisk last → IsOk r → KeepBeside later_tables old.now last.now.trees
migrated_keeps s old begun last (Err fault) found begins changed live clean is = absurd (cc)
migrated_keeps s old begun last (Ok a) found begins changed live clean is =
    let it = changed.done clean in
    let before : HasCleanDisk begun = omega (arith, changed.left.clean) in
    let mid = it.0.0 in
    let spares = (safe_fills s mid last.now (made_fit s begun.now mid (found before) it.0.1) it.0.2).1 in
    subst (λ (db : Database). KeepBeside later_tables db last.now.trees) (begins before).0.now_is
    (beside later_tables begun.now mid last.now it.0.1 spares (live it.1.is_open).0)

-- ---- What a crash leaves

pub may_add : (old last new : State) (Done : Type 0) (P : Trees → Type 0) → Survives old new (λ trees. Done × (trees ≡ last.now.trees)) → (HasCleanDisk new → Done → P last.now.trees) → CrashAddsOnly old new P
may_add old last new Done P survives keeps = record {
  crash = λ clean trees may. elim (survives.crash clean trees may) [
    | inl was ↦ inl was
    | inr reached ↦ inr (subst P (sym reached.1) (keeps clean reached.0))
  ];
}

pub adds_nothing : (old new : State) (P : Trees → Type 0) → Survives old new (λ _. ⊥) → CrashAddsOnly old new P
adds_nothing old new P survives = record {
  crash = λ clean trees may. elim (survives.crash clean trees may) [
    | inl was ↦ inl was
    | inr none ↦ absurd none
  ];
}

pub leaves_only : {S : Type 0} (g : Ghosts S) (last : State) (new : Held S) (P : Trees → Type 0) → (HasCleanDisk (state g new) → Committed last (state g new)) → (HasCleanDisk (state g new) → P last.now.trees) →
    ((it : S) (trees : Trees) → IsTrue (g.view it).is_open → g.recovers it trees → trees ≡ (g.view it).committed) → CrashLeavesOnly (state g new) P
leaves_only g last new P ended keeps law = record {
  crash = λ clean trees may.
      let shows = (ended clean).1 in
      let same : trees ≡ (state g new).committed.trees = law new.store trees shows.is_open may in
      subst P (sym same) (subst (λ (db : Database). P db.trees) (sym shows.committed_is) (keeps clean));
}

-- ---- What is shown at the end

pub shows_only : (last new : State) (P : Trees → Type 0) → (HasCleanDisk new → Committed last new) → (HasCleanDisk new → P last.now.trees) → ShowsOnly new P
shows_only last new P ended keeps clean = subst (λ (db : Database). P db.trees) (sym (ended clean).1.now_is) (keeps clean)
