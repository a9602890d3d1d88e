use Rattle.std.specs.List.{flat_map}
use Rattle.duty.specs.Minutes.{spans_of}
use Rattle.duty.specs.declared.kind.Kind.TheVariants.{Flight}
use Rattle.limits.specs.Laws.YearRule.{year_rule}
use Rattle.limits.proofs.year_limit.FlightTime365DaysLimit.is_broken_by.Goals as goal

pub returns : goal.returns
returns c = rw c.some_year_is_over.ensures (year_rule (flat_map (spans_of Flight) c.args.history.now)
    (flat_map (spans_of Flight) c.args.new.now) 60_000)
