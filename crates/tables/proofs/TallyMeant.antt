-- What the text that counts the requests is read as, wherever the table stands.
use Rattle.std.proofs.Common.{◌≡◌, ℕ, List, [], ◌∷◌, codes, refl, pos, negsuc, true, false, Some, None, Ok, map}
use Rattle.sqlite_value.specs.declared.value.Value.TheVariants.{Int, Null}
use Rattle.sqlite_value.specs.declared.keys.Collation.TheVariants.{Binary}
use Rattle.sqlite_ast.specs.declared.Expr.TheVariants as e
use Rattle.sqlite_ast.specs.declared.Shown.{Shown}
use Rattle.sqlite_ast.specs.declared.Shown.TheVariants.{One}
use Rattle.sqlite_ast.specs.declared.Select.{Select as Written, out-roll-Select}
use Rattle.sqlite_ast.specs.declared.Core.{Core, out-Core, out-roll-Core}
use Rattle.sqlite_ast.specs.declared.Statement.TheVariants as written
use Rattle.sqlite_sql.specs.declared.aggregate.AggregateOp.TheVariants.{CountRows, Max}
use Rattle.sqlite_sql.specs.Term.{lit, col}
use Rattle.sqlite_schema.specs.declared.command.Command.TheVariants.{Select}
use Rattle.sqlite_schema.specs.declared.schema.Schema.{Schema}
use Rattle.sqlite_tied.specs.Compute.{everything}
use Rattle.sqlite_draft.specs.declared.query.Aggregate.{Aggregate}
use Rattle.sqlite_draft.specs.declared.query.Draft.{Draft}
use Rattle.sqlite_draft.specs.declared.join.Step.TheVariants.{Inner}
use Rattle.sqlite_draft.specs.Join.{chain}
use Rattle.sqlite_resolve.specs.declared.scope.Output.{Output}
use Rattle.sqlite_resolve.specs.declared.state.State.{State}
use Rattle.sqlite_resolve.specs.Compile as compile
use Rattle.sqlite_resolve.specs.Compile.{read}
use Rattle.sqlite_resolve.specs.Lowering.{max_budget, fresh, pending}
use Rattle.sqlite_resolve.specs.Expr.{lower}
use Rattle.sqlite_resolve.specs.Program as program
use Rattle.sqlite_resolve.specs.Select as select
use Rattle.sqlite_resolve.specs.Body as body
use Rattle.sqlite_resolve.specs.Order as order
use Rattle.sqlite_resolve.specs.Terms as terms
use Rattle.sqlite_resolve.specs.Bare as bare
use Rattle.tables.specs.Schema.{request_table}
use Rattle.tables.proofs.Known.{Known}
use Rattle.tables.proofs.Compiling.{IsMeant, bound_to, bounds_are, core_of, inside, level_of, no_carried, page, reading, read_as_drafted, select_from, core_opened, select_opened}
use Rattle.tables.proofs.Tallying.{tally_query}

-- count(*), and max(number)
abbrev pub tally_words : List Shown
tally_words = One (e.CallStar (codes "count")) None (codes "count(*)") ∷ One (e.Call (codes "max") false (e.Column None (codes "number") ∷ [])) None (codes "max(number)") ∷ []

abbrev pub tally_names : List (List ℕ)
tally_names = codes "count(*)" ∷ codes "max(number)" ∷ []

abbrev pub tally_select : Written
tally_select = select_from request_table.name tally_words None []

abbrev core : Core
core = core_of request_table.name tally_words None

abbrev drafted : List Aggregate
drafted = record { op = CountRows; distinct = false; collation = Binary; argument = lit Null } ∷ record { op = Max; distinct = false; collation = Binary; argument = col 1 1 } ∷ []

-- while the text is read, once its two columns are
abbrev tallying : State
tallying = record (reading 99997 no_carried) { aggregates = drafted }

abbrev outs : List Output
outs =
    record { name = codes "count(*)"; is_alias = false; is_column = false; term = col pending 0; carried = no_carried }
    ∷ record { name = codes "max(number)"; is_alias = false; is_column = false; term = col pending 1; carried = no_carried } ∷ []

abbrev tally_draft : ℕ → Draft
tally_draft tree = record {
  from = chain (Inner tree ∷ []);
  filter = [];
  group = Some (record { keys = []; collations = []; aggregates = drafted; having = [] });
  project = col 1 0 ∷ col 1 1 ∷ [];
  distinct = false;
  collations = [];
  order = [];
  limit = lit (Int (negsuc 0));
  offset = lit (Int (pos 0));
}

module _ (schema : Schema) (at tree : ℕ) (known : Known request_table schema at tree) where
  shown_is : body.outputs_from lower (inside schema request_table.name at [] true true) (bound_to request_table.name at ∷ []) [] tally_words (reading max_budget no_carried) ≡ Ok (outs, tallying)
  unfolding everything
  shown_is = simp (known.is) refl

  matching_is : body.matching lower (select.outermost schema) (level_of request_table.name at outs) core tallying ≡ Ok (record { steps = Inner tree ∷ []; filter = [] }, tallying)
  unfolding everything
  matching_is = simp (known.is) refl

  body_is : body.body lower (select.outermost schema) core (fresh 1 max_budget) ≡ Ok (record { level = level_of request_table.name at outs; steps = Inner tree ∷ []; filter = [] }, tallying)
  unfolding body.body body.result body.outputs
  body_is = rw (core_opened request_table.name tally_words None, bounds_are request_table schema at tree known, shown_is, matching_is) refl

  parts_is : select.parts schema core [] (fresh 1 max_budget)
      ≡ Ok (record { body = record { level = level_of request_table.name at outs; steps = Inner tree ∷ []; filter = [] }; is_grouped = true; keys = []; collations = []; having = []; order = [] }, tallying)
  unfolding select.parts select.having order.keys order.sorts body.tests
  parts_is = rw (core_opened request_table.name tally_words None, body_is) refl

  named_is : select.named schema core [] page ≡ Ok (tally_draft tree, tally_names, None ∷ None ∷ [])
  unfolding select.named select.assembled select.ungrouped select.finished select.completed select.covering select.grouped select.regrouped bare.all_covered bare.order_covered bare.sampled
  named_is = rw (core_opened request_table.name tally_words None, parts_is) refl

  typed_is : program.program schema [] (tally_draft tree) ≡ Ok (record { lets = []; body = tally_query tree })
  unfolding everything
  typed_is = simp (known.high, known.by_tree) refl

  read_is : read schema tally_select ≡ Ok (Select (record { lets = []; body = tally_query tree }) tally_names)
  read_is =
      read_as_drafted schema request_table.name tally_words None [] core (core_opened request_table.name tally_words None) (tally_draft tree) tally_names (None ∷ None ∷ []) named_is
      tally_select (select_opened request_table.name tally_words None []) (tally_query tree) typed_is

pub tally_meant : IsMeant request_table (written.Select tally_select) (λ at tree. Select (record { lets = []; body = tally_query tree }) tally_names)
unfolding compile.command compile.returning compile.timed
tally_meant = record {
  is = λ schema at tree base known. read_is schema at tree known;
  silent = λ schema base. refl;
  untimed = λ schema at tree known. refl;
}
