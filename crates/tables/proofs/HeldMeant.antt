-- What the text that reads the periods of a member's pairings is read as, wherever the two tables stand.
use Rattle.std.proofs.Common.{Option, ◌≡◌, ◌+◌, ◌++◌, ℕ, List, [], ◌∷◌, codes, refl, pos, negsuc, true, false, Some, None, Ok, map}
use Rattle.sqlite_value.specs.declared.value.Value.TheVariants.{Int}
use Rattle.sqlite_value.specs.declared.keys.Collation.{Collation}
use Rattle.sqlite_value.specs.declared.keys.Collation.TheVariants.{Binary}
use Rattle.sqlite_value.specs.Order.{Row}
use Rattle.sqlite_ast.specs.declared.Expr.{Expr}
use Rattle.sqlite_ast.specs.declared.Expr.TheVariants as e
use Rattle.sqlite_ast.specs.declared.Binary.TheVariants as binary
use Rattle.sqlite_ast.specs.declared.Shown.{Shown}
use Rattle.sqlite_ast.specs.declared.Shown.TheVariants.{One}
use Rattle.sqlite_ast.specs.declared.Origin.TheVariants.{Table as FromTable}
use Rattle.sqlite_ast.specs.declared.Source.{Source, roll-Source, out-Source}
use Rattle.sqlite_ast.specs.declared.Select.{Select as Written, out-Select, roll-Select, out-roll-Select}
use Rattle.sqlite_ast.specs.declared.Core.{Core, out-Core, roll-Core, out-roll-Core}
use Rattle.sqlite_ast.specs.declared.Statement.TheVariants as written
use Rattle.sqlite_sql.specs.declared.ops.BinaryOp.TheVariants.{Compare}
use Rattle.sqlite_sql.specs.declared.ops.CompareOp.TheVariants.{Eq}
use Rattle.sqlite_sql.specs.Term.{Term, lit, col, op2}
use Rattle.sqlite_sql.specs.Query.{Query, inner, end}
use Rattle.sqlite_schema.specs.declared.command.Command.TheVariants.{Select}
use Rattle.sqlite_schema.specs.declared.schema.Column.{Column}
use Rattle.sqlite_schema.specs.declared.schema.Schema.{Schema}
use Rattle.sqlite_tied.specs.Compute.{everything}
use Rattle.sqlite_draft.specs.declared.query.Draft.{Draft}
use Rattle.sqlite_draft.specs.declared.join.Step.TheVariants.{Inner}
use Rattle.sqlite_draft.specs.Join.{chain}
use Rattle.sqlite_resolve.specs.declared.scope.Bound.{Bound}
use Rattle.sqlite_resolve.specs.declared.scope.Output.{Output}
use Rattle.sqlite_resolve.specs.declared.scope.Level.{Level}
use Rattle.sqlite_resolve.specs.declared.state.State.{State}
use Rattle.sqlite_resolve.specs.declared.state.Carried.{Carried}
use Rattle.sqlite_resolve.specs.Compile.{read}
use Rattle.sqlite_resolve.specs.Lowering.{max_budget, fresh}
use Rattle.sqlite_resolve.specs.Scope.{Context}
use Rattle.sqlite_resolve.specs.Expr.{lower}
use Rattle.sqlite_resolve.specs.Program as program
use Rattle.sqlite_resolve.specs.Select as select
use Rattle.sqlite_resolve.specs.Body as body
use Rattle.sqlite_resolve.specs.Order as order
use Rattle.tables.specs.Schema.{period_table, seat_table}
use Rattle.tables.proofs.Answering.{is_param}
use Rattle.tables.proofs.Compiling.{bound_to, is_given, no_carried, page, shown_names, shown_one, shown_terms, source_of}
use Rattle.tables.proofs.Known.{Known}

-- ---- the text as it is written

abbrev column_of : List ℕ → List ℕ → Expr
column_of table name = e.Column (Some table) name

abbrev of_seat : Expr
of_seat = e.Binary binary.Eq (column_of period_table.name (codes "pairing")) (column_of seat_table.name (codes "pairing"))

abbrev joined : Source
joined = roll-Source (record { is_left = false; origin = FromTable period_table.name; alias = None; on = Some of_seat; using = [] })

abbrev sources : List Source
sources = source_of seat_table.name ∷ joined ∷ []

abbrev words : List Shown
words =
    One (column_of period_table.name (codes "pairing")) None (codes "period.pairing") ∷ shown_one (codes "number") ∷ shown_one (codes "report_at") ∷ shown_one (codes "release_at")
    ∷ shown_one (codes "act_report") ∷ shown_one (codes "act_release") ∷ []

abbrev core : Core
core = roll-Core (record { distinct = false; shown = words; from = sources; filter = Some (is_given (codes "crew") 1); group = []; having = None })

abbrev pub held_select : Written
held_select = roll-Select (record { with = []; first = core; others = []; order = []; limit = None; offset = None })

-- ---- what it is read as

-- a column of the second table that is shown under its own name
abbrev output_at : ℕ → Column → Output
output_at k c = record { name = c.name; is_alias = false; is_column = true; term = col 2 (k + 1); carried = record { collation = Some c.collation; is_written = false } }

abbrev outputs_from : ℕ → List Column → List Output
outputs_from k [] = []
outputs_from k (c ∷ cs) = output_at k c ∷ outputs_from (k + 1) cs

abbrev outs : List Output
outs = outputs_from 0 period_table.columns

abbrev pub held_names : List (List ℕ)
held_names = shown_names outs

abbrev pub held_filter : List Term
held_filter = op2 (Compare Eq Binary) (col 2 1) (col 1 1) ∷ is_param 3 0 ∷ []

abbrev pub held_query : ℕ → ℕ → Query
held_query seats periods = record {
  from = inner seats (inner periods end);
  filter = held_filter;
  group = None;
  project = shown_terms outs;
  distinct = false;
  collations = [];
  order = [];
  limit = lit (Int (negsuc 0));
  offset = lit (Int (pos 0));
}

abbrev held_draft : ℕ → ℕ → Draft
held_draft seats periods = record {
  from = chain (Inner seats ∷ Inner periods ∷ []);
  filter = held_filter;
  group = None;
  project = shown_terms outs;
  distinct = false;
  collations = [];
  order = [];
  limit = lit (Int (negsuc 0));
  offset = lit (Int (pos 0));
}

-- while a statement on two tables is read
abbrev reading : ℕ → Carried → State
reading budget last = record { next = 3; steps = []; aggregates = []; budget = budget; written = None; last = last }

abbrev places : ℕ → ℕ → List Bound
places seat_at period_at = bound_to seat_table.name seat_at ∷ record { name = period_table.name; table = period_at; slot = 2; shared = [] } ∷ []

abbrev level : ℕ → ℕ → List Output → Level
level seat_at period_at shown = record { tables = places seat_at period_at; shown = shown }

core_opened : out-Core core ≡ record { distinct = false; shown = words; from = sources; filter = Some (is_given (codes "crew") 1); group = []; having = None }
core_opened = out-roll-Core _

select_opened : out-Select held_select ≡ record { with = []; first = core; others = []; order = []; limit = None; offset = None }
select_opened = out-roll-Select _

seat_opened : out-Source (source_of seat_table.name) ≡ record { is_left = false; origin = FromTable seat_table.name; alias = None; on = None; using = [] }
unfolding everything
seat_opened = refl

joined_opened : out-Source joined ≡ record { is_left = false; origin = FromTable period_table.name; alias = None; on = Some of_seat; using = [] }
unfolding everything
joined_opened = refl

-- a SELECT from two tables, by the draft that it is named as
module _ (schema : Schema) (first second : List ℕ) (one two : Source) (on : Option Expr) (words' : List Shown) (filter : Option Expr) (core' : Core)
    (opened : out-Core core' ≡ record { distinct = false; shown = words'; from = one ∷ two ∷ []; filter = filter; group = []; having = None })
    (one_opened : out-Source one ≡ record { is_left = false; origin = FromTable first; alias = None; on = None; using = [] })
    (two_opened : out-Source two ≡ record { is_left = false; origin = FromTable second; alias = None; on = on; using = [] })
    (d : Draft) (names : List (List ℕ)) (collations : List (Option Collation)) (named : select.named schema core' [] page ≡ Ok (d, names, collations))
    (s : Written) (whole : out-Select s ≡ record { with = []; first = core'; others = []; order = []; limit = None; offset = None }) where
  drafted_is : program.query schema s ≡ Ok ((d, names, collations), [])
  unfolding program.query program.query_to program.level program.with program.whole select.paging select.constant_or program.alone program.single program.sources program.source program.viewing
  drafted_is = rw (whole, opened, one_opened, two_opened, named) refl

  read_as_drafted : (body' : Query) → program.program schema [] d ≡ Ok (record { lets = []; body = body' }) → read schema s ≡ Ok (Select (record { lets = []; body = body' }) names)
  unfolding read
  read_as_drafted body' typed = rw (drafted_is, typed) refl

module _ (schema : Schema) (seat_at seats period_at periods : ℕ) (seat : Known seat_table schema seat_at seats) (period : Known period_table schema period_at periods) where
  abbrev cx : List Output → Context
  cx shown = record { schema = schema; levels = level seat_at period_at shown ∷ []; may_aggregate = true; may_alias = true }

  bounds_are : body.bounds schema sources (fresh 1 max_budget) ≡ Ok (places seat_at period_at, reading max_budget no_carried)
  unfolding everything
  bounds_are = rw (seat.named, period.named) refl

  shown_is : body.outputs_from lower (cx []) (places seat_at period_at) [] words (reading max_budget no_carried) ≡ Ok (outs, reading 99994 (record { collation = Some Binary; is_written = false }))
  unfolding everything
  shown_is = simp (seat.is, period.is) refl

  matching_is : body.matching lower (select.outermost schema) (level seat_at period_at outs) core (reading 99994 (record { collation = Some Binary; is_written = false }))
      ≡ Ok (record { steps = Inner seats ∷ Inner periods ∷ []; filter = held_filter }, reading 99988 no_carried)
  unfolding everything
  matching_is = simp (seat.is, period.is) refl

  body_is : body.body lower (select.outermost schema) core (fresh 1 max_budget)
      ≡ Ok (record { level = level seat_at period_at outs; steps = Inner seats ∷ Inner periods ∷ []; filter = held_filter }, reading 99988 no_carried)
  unfolding body.body body.result body.outputs
  body_is = rw (core_opened, bounds_are, shown_is, matching_is) refl

  parts_is : select.parts schema core [] (fresh 1 max_budget)
      ≡ Ok (record { body = record { level = level seat_at period_at outs; steps = Inner seats ∷ Inner periods ∷ []; filter = held_filter }; is_grouped = false; keys = []; collations = []; having = []; order = [] }, reading 99988 no_carried)
  unfolding select.parts select.having order.keys order.sorts body.tests
  parts_is = rw (core_opened, body_is) refl

  named_is : select.named schema core [] page ≡ Ok (held_draft seats periods, held_names, map (λ (o : Output). o.carried.collation) outs)
  unfolding select.named select.assembled select.ungrouped
  named_is = rw (core_opened, parts_is) refl

  typed_is : program.program schema [] (held_draft seats periods) ≡ Ok (record { lets = []; body = held_query seats periods })
  unfolding everything
  typed_is = simp (seat.high, seat.by_tree, period.high, period.by_tree) refl

  pub read_is : read schema held_select ≡ Ok (Select (record { lets = []; body = held_query seats periods }) held_names)
  read_is =
      read_as_drafted schema seat_table.name period_table.name (source_of seat_table.name) joined (Some of_seat) words (Some (is_given (codes "crew") 1)) core core_opened seat_opened joined_opened
      (held_draft seats periods) held_names (map (λ (o : Output). o.carried.collation) outs) named_is held_select select_opened (held_query seats periods) typed_is
