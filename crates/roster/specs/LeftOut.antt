-- What a choice of duties leaves out.
use Rattle.std.specs.Prelude.{Bool}
use Rattle.roster.specs.Places.{Place, no_place, the_pairing, the_period, the_outside}
use Rattle.roster.specs.declared.duties.LeftOut.{LeftOut}
use Rattle.roster.specs.declared.duties.LeftOut.TheVariants.{Nothing, Pairing, Period, Outside}

-- a choice of duties leaves out the duty at this place
abbrev pub leaves_out : LeftOut → Place → Bool
leaves_out Nothing = no_place
leaves_out (Pairing id) = the_pairing id.now
leaves_out (Period id number) = the_period id.now number
leaves_out (Outside id) = the_outside id.now
