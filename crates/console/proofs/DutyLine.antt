-- A plain line of `duty`: its last argument takes each word that is left.
use Rattle.std.proofs.Common.{◌≡◌, ◌∙◌, ◌++◌, false, refl, sym, subst, ap, List, [], ◌∷◌, Some, None, codes}
use Rattle.std.proofs.Common.{append_assoc}
use Rattle.std.specs.Prelude.{fold}
use Rattle.clap.proofs.FaultLemmas.{past}
use Rattle.clap.specs.Walk.{Row, Text, Walk, finished, positional, settled, with_default}
use Rattle.clap.specs.Simple.{Shape}
use Rattle.clap.specs.Kinds.{or_else}
use Rattle.clap.specs.Faults.{check_fault, settle_fault}
use Rattle.console.proofs.PlainLine.{found, leaf}
use Rattle.console.proofs.PlainWords.{defaults, end_of, faults, plain_fault_of, row, taken, taken_fault}
use Rattle.console.specs.CommandLine.{one, several}

abbrev duty : Shape
duty = leaf (codes "duty")

module _ (zone report : Text) where
  abbrev timed : List Text → List Row
  timed [] = []
  timed (t ∷ ts) = row (codes "time") (t ∷ ts) ∷ []

  abbrev rows : List Text → List Row
  rows times = row (codes "zone") (zone ∷ []) ∷ row (codes "report") (report ∷ []) ∷ timed times

  -- the time t is read, after those before it
  abbrev at_time : List Text → Text → Walk
  at_time before t = record {
    held = record { rows = rows before; pending = Some (codes "time", t ∷ []); skip = 0 };
    waiting = positional;
    position = 3;
    is_trailing = false;
    stopped = None;
  }

  to_next : (before : List Text) (t u : Text)
      → ◌≡◌ {A = Walk} (taken duty (at_time before t) u) (at_time (before ++ t ∷ []) u)
  to_next [] t u = refl
  to_next (b ∷ bs) t u = refl

  next_passes : (before : List Text) (t u : Text) → taken_fault duty (at_time before t) u ≡ []
  next_passes [] t u = refl
  next_passes (b ∷ bs) t u = refl

  times_pass : (before : List Text) (t : Text) (rest : List Text) → faults duty (at_time before t) rest ≡ []
  times_pass before t [] = refl
  times_pass before t (u ∷ us) =
      past _ _ (next_passes before t u)
      ∙ (ap (λ (w : Walk). faults duty w us) (to_next before t u) ∙ times_pass (before ++ t ∷ []) u us)

  -- a walk that may end here, with these times
  record EndsWith (w : Walk) (times : List Text) : Type 0 where
    settles : settle_fault duty.rules false w.held ≡ []
    settled_rows : (settled duty.rules w.held).rows ≡ rows times

  times_end : (before : List Text) (t : Text) (rest : List Text)
      → EndsWith (fold (taken duty) (at_time before t) rest) (before ++ t ∷ rest)
  times_end [] t [] = record { settles = refl; settled_rows = refl }
  times_end (b ∷ bs) t [] = record { settles = refl; settled_rows = refl }
  times_end before t (u ∷ us) =
      let later : EndsWith (fold (taken duty) (at_time (before ++ t ∷ []) u) us) (before ++ t ∷ (u ∷ us)) =
      subst (EndsWith (fold (taken duty) (at_time (before ++ t ∷ []) u) us)) (append_assoc before (t ∷ []) (u ∷ us))
      (times_end (before ++ t ∷ []) u us) in
      subst (λ (w : Walk). EndsWith (fold (taken duty) w us) (before ++ t ∷ (u ∷ us))) (sym (to_next before t u)) later

  module _ (time : Text) (times : List Text) where
    abbrev ends : EndsWith (fold (taken duty) (at_time [] time) times) (time ∷ times)
    ends = times_end [] time times

    pub duty_passes : plain_fault_of duty (zone ∷ report ∷ time ∷ times) ≡ []
    duty_passes =
        past _ _ (times_pass [] time times)
        ∙ (past _ _ ends.settles
        ∙ ap (λ (found_rows : List Row). or_else (defaults found_rows duty.rules)
        (check_fault duty (fold with_default found_rows duty.rules) false)) ends.settled_rows)

    pub duty_found : found (codes "duty") (finished duty.rules (end_of duty (zone ∷ report ∷ time ∷ times)))
        ≡ Some (one zone) ∷ Some (one report) ∷ Some (several (time ∷ times)) ∷ []
    duty_found =
        ap (λ (found_rows : List Row). found (codes "duty") (fold with_default found_rows duty.rules)) ends.settled_rows
