use Rattle.std.proofs.Common.{rules, ◌≡◌, sym, subst, ◌∙◌, Result, Ok, Err}
use Rattle.std.specs.FinMap as fin
use Rattle.sqlite.specs.Effect.{Database}
use Rattle.sqlite.specs.Held.{state}
use Rattle.sqlite.specs.State as conn
use Rattle.roster.specs.State.{State}
use Rattle.entries.specs.Right.{IsOfEdition}
use Rattle.loading.specs.Loading.{Justifies}
use Rattle.loading.specs.Reading.{AgreesIn, AgreesThrough, ReadsAs}
use Rattle.entries.specs.declared.fault.LoadFault.{LoadFault}
use Rattle.loading.proofs.ReadTables.{refused_as, then_saw}
use Rattle.state_rows.proofs.Outcomes.{clean_before}
use Rattle.state_rows.specs.Requests.{Requests, with_requests}
use Rattle.state_rows.specs.Rows.{book, outside_segment, request}
use Rattle.state_rows.specs.declared.edition.Edition.{Edition}
use Rattle.loading.proofs.whole.read_all.Goals as goal

pub read_first-requires-clause-of : goal.read_first-requires-clause-of
read_first-requires-clause-of g c clean =
    let first = c.in_ok-roster.ensures.read.told clean in
    subst (IsOfEdition c.in_ok-roster.edition) (sym first.0.0.now_is) first.1.of

pub read_later-requires-clause-above : goal.read_later-requires-clause-above
read_later-requires-clause-above g c =
    let mid = state g.S.Store c.read_book.new.conn in
    let now = state g.S.Store c.read_first.new.conn in
    let read = c.in_ok-roster-2.ensures.read in (
      read.0,
      λ clean.
          let second = read.1.told clean in
          let first = c.in_ok-roster.ensures.read.told (clean_before mid now read.1.left clean) in
          record {
            through = subst (AgreesThrough request (with_requests read.0 c.in_ok-roster-2.roster)) (sym second.0.0.now_is) second.1;
            of = subst (IsOfEdition c.in_ok-roster.edition) (sym (second.0.0.now_is ∙ first.0.0.now_is)) first.1.of;
          },
    )

abbrev Refuses : Database → LoadFault → Type 0
Refuses db fault = Justifies fault db

abbrev Begun : Database → State × Edition → Type 0
Begun db r = AgreesIn r.1 book r.0 db

abbrev First : Requests → Database → State → Type 0
First kept db r = AgreesThrough request (with_requests kept r) db

abbrev Later : Requests → Edition → Database → State → Type 0
Later kept edition db r = AgreesIn edition outside_segment (with_requests kept r) db

abbrev All : Requests → Database → State × Edition → Type 0
All kept db r = AgreesIn r.1 outside_segment (with_requests kept r.0) db

-- the three reads, one after another
in_turn : (first_kept kept : Requests) (old one two new : conn.State) (s t : State) (edition : Edition) (result : Result State LoadFault) → ReadsAs (Begun old.now) (Refuses old.now) old one (Ok (s, edition)) →
    ReadsAs (First first_kept one.now) (Refuses one.now) one two (Ok t) → ReadsAs (Later kept edition two.now) (Refuses two.now) two new result → ReadsAs (Later kept edition old.now) (Refuses old.now) old new result
in_turn first_kept kept old one two new s t edition result first second third =
    then_saw (First first_kept old.now) (Refuses old.now) (Later kept edition) Refuses t old two new result
    (then_saw (Begun old.now) (Refuses old.now) (First first_kept) Refuses (s, edition) old one two (Ok t) first second) third

pub returns-in_err-roster : goal.returns-in_err-roster
returns-in_err-roster g c =
    let old = state g.S.Store c.args.conn.now in
    let new = state g.S.Store c.read_book.new.conn in
    let fault = c.in_err-roster.field-0.0 in
    let is : c.from_residual.result ≡ Err fault = search rules in
    record {
      read = (
        fin.empty,
        subst (λ (r : Result (State × Edition) LoadFault). ReadsAs (All fin.empty old.now) (Refuses old.now) old new r) (sym is)
            (refused_as (Begun old.now) (All fin.empty old.now) (Refuses old.now) old new fault c.in_err-roster.ensures.read),
      );
    }

pub returns-in_err-roster-2 : goal.returns-in_err-roster-2
returns-in_err-roster-2 g c =
    let old = state g.S.Store c.args.conn.now in
    let one = state g.S.Store c.read_book.new.conn in
    let new = state g.S.Store c.read_first.new.conn in
    let edition = c.in_ok-roster.edition in
    let fault = c.in_err-roster-2.field-0.0 in
    let is : c.from_residual-in_err-roster-2.result ≡ Err fault = search rules in
    let read = c.in_err-roster-2.ensures.read in
    let both = then_saw (Begun old.now) (Refuses old.now) (First read.0) Refuses (c.in_ok-roster.roster, edition) old one new (Err fault) c.in_ok-roster.ensures.read read.1 in
    record {
      read = (
        read.0,
        subst (λ (r : Result (State × Edition) LoadFault). ReadsAs (All read.0 old.now) (Refuses old.now) old new r) (sym is)
            (refused_as (First read.0 old.now) (All read.0 old.now) (Refuses old.now) old new fault both),
      );
    }

pub returns-in_err-roster-3 : goal.returns-in_err-roster-3
returns-in_err-roster-3 g c =
    let old = state g.S.Store c.args.conn.now in
    let one = state g.S.Store c.read_book.new.conn in
    let two = state g.S.Store c.read_first.new.conn in
    let new = state g.S.Store c.read_later.new.conn in
    let t = c.in_ok-roster-2.roster in
    let edition = c.in_ok-roster.edition in
    let fault = c.in_err-roster-3.field-0.0 in
    let is : c.from_residual-in_err-roster-3.result ≡ Err fault = search rules in
    let first = c.in_ok-roster-2.ensures.read in
    let last = c.in_err-roster-3.ensures in
    let all = in_turn first.0 last.0 old one two new c.in_ok-roster.roster t edition (Err fault) c.in_ok-roster.ensures.read first.1 last.1 in
    record {
      read = (
        last.0,
        subst (λ (r : Result (State × Edition) LoadFault). ReadsAs (All last.0 old.now) (Refuses old.now) old new r) (sym is)
            (refused_as (Later last.0 edition old.now) (All last.0 old.now) (Refuses old.now) old new fault all),
      );
    }

pub returns : goal.returns
returns g c =
    let old = state g.S.Store c.args.conn.now in
    let one = state g.S.Store c.read_book.new.conn in
    let two = state g.S.Store c.read_first.new.conn in
    let new = state g.S.Store c.read_later.new.conn in
    let first = c.in_ok-roster-2.ensures.read in
    let last = c.in_ok-roster-3.ensures in
    let all = in_turn first.0 last.0 old one two new c.in_ok-roster.roster c.in_ok-roster-2.roster c.in_ok-roster.edition (Ok c.in_ok-roster-3.roster)
    c.in_ok-roster.ensures.read first.1 last.1 in
    record { read = (last.0, record { told = all.told; caused = λ clean. tt; left = all.left }) }
