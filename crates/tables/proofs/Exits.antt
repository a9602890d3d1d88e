-- What is known where a function that reads rows is left.
use Rattle.std.proofs.Common.{◌≡◌, ◌++◌, ◌∷◌, [], ℕ, ℤ, List, Bool, true, false, map, Option, Result, Ok, Err, IfErr, arith, sym, ◌∙◌}
use Rattle.std.specs.Result.{IsErrAnd}
use Rattle.sqlite.specs.declared.error.Error.{Error}
use Rattle.sqlite.proofs.Callers.{given_begin}
use Rattle.sqlite.specs.Given.{HasGiven}
use Rattle.sqlite.specs.Held.{Held, state}
use Rattle.sqlite.specs.Listing.{understood}
use Rattle.sqlite.specs.State.{State, Begins, HasCleanDisk, IsUnchanged, Shown, Survives}
use Rattle.sqlite_trees.specs.declared.store.Store as store
use Rattle.sqlite_value.specs.Order.{Row}
use Rattle.tables.proofs.LoadingLemmas.{numbered_row}
use Rattle.tables.proofs.ReadingLemmas.{begins_back, shown_from}
use Rattle.tables.proofs.Rising.{AreGiven, given_all, given_fallen}
use Rattle.tables.specs.Texts.{IsBare, ShowsNumbered, ShowsUnordered}
use Rattle.sqlite_trees.specs.Tree.{Trees}
use Rattle.tables.proofs.Stopping.{some_fault}
use Rattle.tables.specs.Faults.{table_fault_of}
use Rattle.tables.specs.declared.table_fault.TableFault.{TableFault}
use Rattle.tables.specs.declared.table_fault.TableFault.TheVariants.{Store, Memory, NotARecord}

-- a disk that is clean was clean before
pub was_clean : (old new : State) (P : Trees → Type 0) → Survives old new P → HasCleanDisk new → HasCleanDisk old
was_clean old new P survives clean = omega (arith, survives.clean)

pub left_then : {A E : Type 0} {P Q : E → Type 0} (r : Result A E) → IsErrAnd r P → ((e : E) → P e → Q e) → IfErr r Q
left_then (Ok x) left f = tt
left_then (Err e) left f = f e left

-- what the store reports, and want of memory, are no damaged row
pub store_left : {A : Type 0} (r : Result A TableFault) (e : Error) → IsErrAnd r (λ fault. fault ≡ table_fault_of e) → r ≡ Err NotARecord → ⊥
store_left (Ok x) e left is = absurd left
store_left (Err fault) e left is = let same : fault ≡ NotARecord = cc in some_fault e (sym left ∙ same)

pub memory_left : {A : Type 0} (r : Result A TableFault) → IsErrAnd r (λ fault. fault ≡ Memory) → r ≡ Err NotARecord → ⊥
memory_left (Ok x) left is = absurd left
memory_left (Err fault) left is = cc

pub not_store : (fault : TableFault) → fault ≡ Memory → fault ≡ Store → ⊥
not_store fault is store = cc

-- the numbers of all rows rise or not
pub all_rise : {S : Type 0} (g : store.Ghosts S) (sql : List ℕ) (first : State) (before now : Held S) (rows : List Row) (last : Option ℤ) (do_rise : Bool) → IsBare (understood first.now.schema sql) → AreGiven g sql before rows last do_rise → IsUnchanged first (state g before) → do_rise ≡ true
    → ((given : List Row) → HasGiven g sql [] before given → Shown sql [] (state g before) (state g now) given) → ShowsNumbered sql first (state g now) rows
all_rise g sql first before now rows last do_rise plain was same is shows =
    given_all g sql before rows last do_rise was is first (state g now) (shown_from first (state g before) (state g now) sql [] _ plain same (shows (map numbered_row was.all) was.given))

pub some_fall : {S : Type 0} (g : store.Ghosts S) (sql : List ℕ) (first : State) (before now : Held S) (rows : List Row) (last : Option ℤ) (do_rise : Bool) → IsBare (understood first.now.schema sql) → AreGiven g sql before rows last do_rise → IsUnchanged first (state g before) → do_rise ≡ false
    → ((given : List Row) → HasGiven g sql [] before given → Shown sql [] (state g before) (state g now) given) → ShowsUnordered sql first (state g now)
some_fall g sql first before now rows last do_rise plain was same is shows =
    given_fallen g sql before rows last do_rise was is first (state g now) (shown_from first (state g before) (state g now) sql [] _ plain same (shows (map numbered_row was.all) was.given))

-- the answer begins with the rows so far and this one
pub begins_with_row : {S : Type 0} (g : store.Ghosts S) (sql : List ℕ) (first : State) (before now : Held S) (rows : List Row) (last : Option ℤ) (do_rise : Bool) (row : Row) → AreGiven g sql before rows last do_rise → IsUnchanged first (state g now)
    → ((given : List Row) → HasGiven g sql [] before given → HasGiven g sql [] now (given ++ row ∷ [])) → (given : List Row) × Begins sql [] first (given ++ row ∷ [])
begins_with_row g sql first before now rows last do_rise row was same more =
    let given = map numbered_row was.all in
    (given, begins_back first (state g now) sql [] (given ++ row ∷ []) same (given_begin g sql [] now (given ++ row ∷ []) (more given was.given)))
