-- Why a statement stops, and which fault that is.
use Rattle.std.proofs.Common.{append-nil, arith, ◌≡◌, ◌≢◌, ◌⊎◌, inl, inr, ℕ, List, length, false, None, Some, Option, Ok, Err, Result, IsSome, refl, sym, ap, subst, ◌∙◌, IsTrue}
use Rattle.sqlite_value.specs.Order.{Row}
use Rattle.sqlite_trees.specs.declared.error.StoreError.{StoreError}
use Rattle.sqlite_trees.specs.declared.error.StoreError.TheVariants as cause
use Rattle.sqlite_schema.specs.declared.schema.Schema.{Schema}
use Rattle.sqlite_schema.specs.declared.command.Command.{Command}
use Rattle.sqlite_schema.specs.declared.command.Command.TheVariants.{Begin, Commit, Rollback, Release, RollbackTo}
use Rattle.sqlite_schema.specs.declared.command.Returning.{Returning}
use Rattle.sqlite_resolve.specs.declared.compiled.Compiled.{Compiled}
use Rattle.sqlite_resolve.specs.declared.error.CompileError.{CompileError}
use Rattle.sqlite.specs.declared.error.Error.{Error}
use Rattle.sqlite.specs.declared.error.Error.TheVariants.{SqliteFailure}
use Rattle.sqlite.specs.declared.error.ErrorCode.TheVariants.{OutOfMemory}
use Rattle.sqlite.specs.Calls.{IsWrite}
use Rattle.sqlite.specs.Clock.{timed}
use Rattle.sqlite.specs.Does.{Does}
use Rattle.sqlite.specs.Listing.{understood}
use Rattle.sqlite.specs.State.{State, Fails, HasCause, IsUnchanged, Executes, ExecutesIn, IsNotRun, IsNoStatement, IsMisplaced, IsStatement, RunsAlone, shows_rows, text_of, mode_of}
use Rattle.sqlite.proofs.Callers.{IsPlain, command_of, statement_of}
use Rattle.tables.specs.Calls.{IsUnchangedOrUndone, Failed, Stops}
use Rattle.tables.specs.Faults.{table_fault_of}
use Rattle.tables.specs.declared.table_fault.TableFault.{TableFault}
use Rattle.tables.specs.declared.table_fault.TableFault.TheVariants.{Store, NotARecord}

pub some_fault : (e : Error) → table_fault_of e ≡ NotARecord → ⊥
some_fault (SqliteFailure OutOfMemory) h = cc
some_fault _ h = cc

-- what stops a call leaves the connection unchanged or rolled back, and is no word on a record
pub left : (too_big why : Type 0) (old new : State) (fault : TableFault) → Stops too_big why old new fault → IsUnchangedOrUndone old new
left too_big why old new fault (inl fails) = inr fails.1.3
left too_big why old new fault (inr refused) = inl refused.1

pub of_store : (too_big why : Type 0) (old new : State) (fault : TableFault) → Stops too_big why old new fault → fault ≢ NotARecord
of_store too_big why old new fault (inl fails) is = some_fault fails.0 (sym fails.2 ∙ is)
of_store too_big why old new fault (inr refused) is = absurd (let e = sym refused.2 ∙ is in cc)

caused : (old new : State) (A B : Type 0) → (A → B) → (why : StoreError) → HasCause old new A why → HasCause old new B why
caused old new A B f cause.OutOfMemory h = h
caused old new A B f cause.Io h = h
caused old new A B f cause.Corrupt h = h
caused old new A B f cause.Full h = h
caused old new A B f cause.Broken h = h
caused old new A B f cause.Unstorable h = f h

pub failed_for : (old new : State) (A B : Type 0) → (A → B) → (e : Error) → Fails old new A e → Failed B old new (table_fault_of e)
failed_for old new A B f e h = (e, (h.0, h.1, caused old new A B f h.0 h.2, h.3, h.4), refl)

-- a refusal is never reported as out of memory
pub told : (e f : Error) → e ≡ f → table_fault_of f ≡ Store → table_fault_of e ≡ Store
told e f is store = ap table_fault_of is ∙ store

misplaced_told : (s : State) (command : Command) (e : Error) → IsMisplaced s command e → table_fault_of e ≡ Store
misplaced_told s command e (inl h) = ap table_fault_of h.0
misplaced_told s command e (inr h) = ap table_fault_of h.0

-- a command that neither begins nor ends a transaction, nor uses a savepoint, is in place anywhere
pub in_place : (s : State) (command : Command) (e : Error) → (command ≡ Begin → ⊥) → (command ≡ Commit → ⊥) → (command ≡ Rollback → ⊥) → ((name : List ℕ) → command ≡ Release name → ⊥)
    → ((name : List ℕ) → command ≡ RollbackTo name → ⊥) → IsMisplaced s command e → ⊥
in_place s command e b c r l k (inl (_, inl is)) = b is.0
in_place s command e b c r l k (inl (_, inr (inl is, _))) = c is
in_place s command e b c r l k (inl (_, inr (inr is, _))) = r is
in_place s command e b c r l k (inr (_, name, inl is, _)) = l name is
in_place s command e b c r l k (inr (_, name, inr is, _)) = k name is

-- ---- a text that is one statement

-- it is one statement to its end, with this many parameters
abbrev pub IsWhole : List ℕ → ℕ → Result Compiled CompileError → Type 0
IsWhole text count (Ok c) = (length text ≡ c.tail) × (count ≡ length c.names)
IsWhole text count (Err e) = ⊥

pub is_statement : (s : State) (text : List ℕ) (params : Row) (e : Error) → IsPlain (understood s.now.schema text) → IsWhole text (length params) (understood s.now.schema text) → IsNoStatement s text params e → ⊥
is_statement s text params e plain whole (inl (fault, is, _)) = subst (IsWhole text (length params)) is whole
is_statement s text params e plain whole (inr (c, is, inl (short, _))) = let w = (subst (IsWhole text (length params)) is whole).0 in short (omega (arith, w))
is_statement s text params e plain whole (inr (c, is, inr (inl (differ, _)))) = differ (subst (IsWhole text (length params)) is whole).1
is_statement s text params e plain whole (inr (c, is, inr (inr (some, _)))) = some (subst IsPlain is plain).1

-- a text that is none is not reported as out of memory either
pub statement_told : (s : State) (text : List ℕ) (params : Row) (e : Error) → IsNoStatement s text params e → table_fault_of e ≡ Store
statement_told s text params e (inl (fault, _, is)) = ap table_fault_of is
statement_told s text params e (inr (c, _, inl (_, is))) = ap table_fault_of is
statement_told s text params e (inr (c, _, inr (inl (_, is)))) = ap table_fault_of is
statement_told s text params e (inr (c, _, inr (inr (_, is)))) = ap table_fault_of is

-- ---- a statement that is run

-- how it ends that does not go through
abbrev Ends : State → State → List ℕ → Row → Option Returning → Command → Error → Type 0
Ends old new t params returning command e =
    ((IsMisplaced old command e ⊎ ((IsWrite command ⊎ IsSome returning) × Does old.step_limit (mode_of old) params old.now t returning command (Err (Some e)))) × IsUnchanged old new)
    ⊎ Fails old new (Does old.step_limit (mode_of old) params old.now t returning command (Err None)) e

module _ (text : List ℕ) (params : Row) (command : Command) (schema : Schema) (is : command_of (understood schema text) ≡ command) (plain : IsPlain (understood schema text))
    (quiet : (c : Compiled) → c.command ≡ command → c.returning ≡ None → shows_rows false c ≡ false) (old : State) (has : old.now.schema ≡ schema) (TooBig Why : Type 0)
    (big : (t : List ℕ) → t ≡ statement_of text (understood schema text) → Does old.step_limit (mode_of old) params old.now t None command (Err None) → TooBig)
    (why : (t : List ℕ) (e : Error) → t ≡ statement_of text (understood schema text) → IsWrite command → IsTrue old.is_open → Does old.step_limit (mode_of old) params old.now t None command (Err (Some e)) → Why × (table_fault_of e ≡ Store))
    (misplaced : (e : Error) → IsMisplaced old command e → Why) where
  ended : (new : State) (e : Error) (t : List ℕ) → t ≡ statement_of text (understood schema text) → Ends old new t params None command e → Stops TooBig Why old new (table_fault_of e)
  ended new e t same (inl (inl out_of_place, unchanged)) = inr (misplaced e out_of_place, unchanged, misplaced_told old command e out_of_place)
  ended new e t same (inl (inr (inl writes, does), unchanged)) = let it = why t e same writes unchanged.0.was_open does in inr (it.0, unchanged, it.1)
  ended new e t same (inl (inr (inr shows, does), unchanged)) = absurd (let no = shows in cc)
  ended new e t same (inr fails) = inl (failed_for old new _ TooBig (big t same) e fails)

  pub stopped_in : (new : State) (e : Error) → (c : Compiled) × (it : IsStatement old text params c) × RunsAlone false old new text c (timed params c.formats it.now) (Err e) → Stops TooBig Why old new (table_fault_of e)
  stopped_in new e ran =
      let known = sym ran.1.is ∙ ap (λ s. understood s text) has in
      let bare = subst IsPlain (sym known) plain in
      let as_command : ran.0.command ≡ command = ap command_of known ∙ is in
      let runs = quiet ran.0 as_command bare.0 in
      let run : Ends old new (text_of text ran.0) (timed params ran.0.formats ran.1.now) ran.0.returning ran.0.command e = rw runs at ran.2 in
      ended new e (text_of text ran.0) (ap (statement_of text) known) (subst (λ k. Ends old new (text_of text ran.0) params None k e) as_command (rw (bare.0, bare.1, append-nil params) at run))

  module _ (whole : IsWhole text (length params) (understood schema text)) where
    pub stopped : (new : State) (e : Error) → Executes text params old new (Err e) → Stops TooBig Why old new (table_fault_of e)
    unfolding ExecutesIn IsNotRun
    stopped new e (inl (inl none)) = absurd (is_statement old text params e (subst (λ s. IsPlain (understood s text)) (sym has) plain) (subst (λ s. IsWhole text (length params) (understood s text)) (sym has) whole) none.0)
    stopped new e (inl (inr fails)) = inl (failed_for old new ⊥ TooBig (λ none. absurd none) e fails)
    stopped new e (inr ran) = stopped_in new e ran
