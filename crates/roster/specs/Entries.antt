-- A state with one entry set.
use Rattle.std.specs.FinMap as fin
use Rattle.command.specs.Keys.{key_name}
use Rattle.roster.specs.State.{State, exceedance_name}
use Rattle.roster.specs.declared.put.Entry.{Entry}
use Rattle.roster.specs.declared.put.Entry.TheVariants.{Base, Member, Pairing, Ground, Outside}
use Rattle.roster.specs.declared.put.Entry.TheVariants.{Exceedance, LoggedCommand}

-- the state with this entry under its name, in the place of any that was there
abbrev pub put : State → Entry → State
put s (Base id zone) = record s { bases = fin.insert s.bases id zone }
put s (Member id member) = record s { crew = fin.insert s.crew id member }
put s (Pairing r) = record s { pairings = fin.insert s.pairings r.plan.id r }
put s (Ground g) = record s { grounds = fin.insert s.grounds g.id g }
put s (Outside o) = record s { outsides = fin.insert s.outsides o.period.id o }
put s (Exceedance id named) =
    record s {
      exceedances = fin.insert s.exceedances (exceedance_name id.key id.crew id.section) named;
    }
put s (LoggedCommand key request) =
    record s { requests = fin.insert s.requests (key_name key) request }
