-- A connection that a call leaves as it was.
use Rattle.std.proofs.Common.{◌≡◌, sym, subst, Result, Ok, Err, IfOk, OnOk}
use Rattle.sqlite_trees.specs.declared.store.Store.{Ghosts}
use Rattle.sqlite.specs.Held.{Held, state}
use Rattle.lookup.specs.Reads.{ChangesNothing, IsOpen}
use Rattle.book.specs.Headline.{Untouched}

module _ {S : Type 0} (g : Ghosts S) (old mid new : Held S) (read : ChangesNothing (state g old) (state g mid)) where
  -- it is as a read left it
  pub read_only : new ≡ mid → ChangesNothing (state g old) (state g new)
  read_only same = subst (λ (h : Held S). ChangesNothing (state g old) (state g h)) (sym same) read

  pub untouched : IsOpen (state g mid) → new ≡ mid → Untouched (state g old) (state g new)
  untouched opened same = record { changes = read_only same; is_open = subst (λ (h : Held S). IsOpen (state g h)) (sym same) opened }

-- where each of some answers leaves it so
pub if_ok : {A E : Type 0} {P Q : A → Type 0} (result : Result A E) → IfOk result P → ((a : A) → P a → Q a) → IfOk result Q
if_ok (Ok a) p f = f a p
if_ok (Err e) p f = tt

pub on_ok : {A E : Type 0} {P Q : Type 0} (result : Result A E) → OnOk result P → (P → Q) → OnOk result Q
on_ok (Ok a) p f = f p
on_ok (Err e) p f = tt
