-- A plain line of `do` with its flags.
use Rattle.std.proofs.Common.{Bool, true, false, refl, [], ◌∷◌, Some, codes}
use Rattle.clap.specs.Faults.{walk_fault}
use Rattle.clap.specs.Walk.{Text, walked}
use Rattle.console.proofs.FlagLine.{Reads}
use Rattle.console.specs.CommandLine.{given, one}
use Rattle.console.specs.Plain.{do_flags}

pub do_reads : (file : Text) (dry_run lines : Bool)
    → Reads (codes "do") (file ∷ []) (do_flags dry_run lines)
    (Some (one file) ∷ Some (given dry_run) ∷ Some (given lines) ∷ [])
unfolding walk_fault walked
do_reads file false false = record { words_fault = refl; flags_fault = refl; end_fault = refl; values_found = refl }
do_reads file false true = record { words_fault = refl; flags_fault = refl; end_fault = refl; values_found = refl }
do_reads file true false = record { words_fault = refl; flags_fault = refl; end_fault = refl; values_found = refl }
do_reads file true true = record { words_fault = refl; flags_fault = refl; end_fault = refl; values_found = refl }
