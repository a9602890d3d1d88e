-- A pairing of a draft is planned at its reports.
use Rattle.std.proofs.Common.{◌≡◌, List, [], ◌∷◌, map, sym, ap, subst, refl}
use Rattle.std.specs.List.{AllByRecursion}
use Rattle.duty.specs.Plans.{Plan, as_planned}
use Rattle.duty.specs.declared.fdp.Fdp.{Fdp}
use Rattle.codec.specs.Grouping.{plans_of, told}
use Rattle.codec.specs.Schedule.{IsAsPlanned}
use Rattle.codec.specs.declared.grouping.Draft.{Draft}

planned_twice : (fs : List Fdp) → map as_planned (map as_planned fs) ≡ map as_planned fs
planned_twice [] = refl
planned_twice (f ∷ fs) = ap (λ (t : List Fdp). as_planned f ∷ t) (planned_twice fs)

pub all_planned : (ds : List Draft) → AllByRecursion IsAsPlanned (plans_of (map told ds))
all_planned [] = tt
all_planned (d ∷ ds) = (planned_twice d.periods.items, all_planned ds)

pub made_planned : (ds : List Draft) (ps : List Plan) → ps ≡ plans_of (map told ds) → AllByRecursion IsAsPlanned ps
made_planned ds ps e = subst (λ (t : List Plan). AllByRecursion IsAsPlanned t) (sym e) (all_planned ds)
