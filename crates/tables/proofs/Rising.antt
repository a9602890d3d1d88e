-- Rows behind numbers that rise, one after another.
use Rattle.std.proofs.Common.{◌≡◌, ◌++◌, ◌∷◌, ◌∙◌, ◌&&◌, [], List, map, ℕ, ℤ, Bool, true, false, Option, None, Some, refl, sym, ap, subst}
use Rattle.std.specs.Ordering.{is_lt, int_cmp}
use Rattle.std.proofs.lemmas.List.{map-append}
use Rattle.sqlite_value.specs.declared.value.Value.TheVariants.{Int}
use Rattle.sqlite_value.specs.Order.{Row}
use Rattle.sqlite_trees.specs.declared.store.Store as store
use Rattle.sqlite.specs.Given.{HasGiven}
use Rattle.sqlite.specs.Held.{Held}
use Rattle.sqlite.specs.State.{State, Shown}
use Rattle.tables.proofs.LoadingLemmas.{numbered_row}
use Rattle.tables.specs.Texts.{ShowsNumbered, ShowsUnordered, above, rises, rises_from}

-- the last of these numbers, if there is one
abbrev pub last_of : List ℤ → Option ℤ
last_of [] = None
last_of (n ∷ []) = Some n
last_of (n ∷ m ∷ ns) = last_of (m ∷ ns)

pub last_grown : (ns : List ℤ) (n : ℤ) → last_of (ns ++ n ∷ []) ≡ Some n
last_grown [] n = refl
last_grown (m ∷ []) n = refl
last_grown (m ∷ k ∷ ns) n = last_grown (k ∷ ns) n

and_true : (b : Bool) → (b && true) ≡ b
and_true true = refl
and_true false = refl

and_again : (a b c : Bool) → (a && (b && c)) ≡ ((a && b) && c)
and_again true b c = refl
and_again false b c = refl

rises_on : (m : ℤ) (ns : List ℤ) (n : ℤ) → rises_from m (ns ++ n ∷ []) ≡ rises_from m ns && above (last_of (m ∷ ns)) n
rises_on m [] n = and_true (above (Some m) n)
rises_on m (k ∷ ns) n = ap (λ b. is_lt (int_cmp m k) && b) (rises_on k ns n) ∙ and_again (is_lt (int_cmp m k)) (rises_from k ns) _

pub rises_grown : (ns : List ℤ) (n : ℤ) → rises (ns ++ n ∷ []) ≡ rises ns && above (last_of ns) n
rises_grown [] n = refl
rises_grown (m ∷ ns) n = rises_on m ns n

-- an answer gave these rows, each behind its number; the last number is this one, and whether the numbers rise
pub record AreGiven {S : Type 0} (g : store.Ghosts S) (sql : List ℕ) (now : Held S) (rows : List Row) (last : Option ℤ) (do_rise : Bool) : Type 0 where
  pub all : List (ℤ × Row)
  pub given : HasGiven g sql [] now (map numbered_row all)
  pub of_rows : map (λ it. it.1) all ≡ rows
  pub of_last : last ≡ last_of (map (λ it. it.0) all)
  pub of_rise : do_rise ≡ rises (map (λ it. it.0) all)

pub given_none : {S : Type 0} (g : store.Ghosts S) (sql : List ℕ) (now : Held S) → HasGiven g sql [] now [] → AreGiven g sql now [] None true
given_none g sql now given = record { all = []; given = given; of_rows = refl; of_last = refl; of_rise = refl }

-- one more row
pub given_more : {S : Type 0} (g : store.Ghosts S) (sql : List ℕ) (before now : Held S) (rows : List Row) (last : Option ℤ) (do_rise : Bool) (was : AreGiven g sql before rows last do_rise) (n : ℤ) (row shown : Row)
    → shown ≡ Int n ∷ row → HasGiven g sql [] now (map numbered_row was.all ++ shown ∷ []) → AreGiven g sql now (rows ++ row ∷ []) (Some n) (do_rise && above last n)
given_more g sql before now rows last do_rise was n row shown is given = record {
  all = was.all ++ (n, row) ∷ [];
  given = subst (HasGiven g sql [] now) (ap (λ r. map numbered_row was.all ++ r ∷ []) is ∙ sym (map-append numbered_row was.all ((n, row) ∷ []))) given;
  of_rows = map-append (λ (it : ℤ × Row). it.1) was.all ((n, row) ∷ []) ∙ ap (λ l. l ++ row ∷ []) was.of_rows;
  of_last = sym (ap last_of (map-append (λ (it : ℤ × Row). it.0) was.all ((n, row) ∷ [])) ∙ last_grown (map (λ it. it.0) was.all) n);
  of_rise = ap (λ b. b && above last n) was.of_rise ∙ ap (λ l. rises (map (λ it. it.0) was.all) && above l n) was.of_last
      ∙ sym (ap rises (map-append (λ (it : ℤ × Row). it.0) was.all ((n, row) ∷ [])) ∙ rises_grown (map (λ it. it.0) was.all) n);
}

-- all rows, whose numbers rise or not
pub given_all : {S : Type 0} (g : store.Ghosts S) (sql : List ℕ) (before : Held S) (rows : List Row) (last : Option ℤ) (do_rise : Bool) (was : AreGiven g sql before rows last do_rise) → do_rise ≡ true
    → (old new : State) → Shown sql [] old new (map numbered_row was.all) → ShowsNumbered sql old new rows
given_all g sql before rows last do_rise was rose old new shown = (was.all, shown, sym was.of_rise ∙ rose, was.of_rows)

pub given_fallen : {S : Type 0} (g : store.Ghosts S) (sql : List ℕ) (before : Held S) (rows : List Row) (last : Option ℤ) (do_rise : Bool) (was : AreGiven g sql before rows last do_rise) → do_rise ≡ false
    → (old new : State) → Shown sql [] old new (map numbered_row was.all) → ShowsUnordered sql old new
given_fallen g sql before rows last do_rise was fell old new shown = (was.all, shown, sym was.of_rise ∙ fell)
