use Rattle.std.proofs.Common.{ap, ◌∙◌}
use Rattle.std.proofs.lemmas.Result.{err_from_is_err_and}
use Rattle.std.specs.Option.{option_copied}
use Rattle.roster.specs.State.{State}
use Rattle.part.specs.Sources.{pick_named}
use Rattle.part.proofs.Causes.{caused_then}
use Rattle.part.proofs.ShownParts.{named_are}
use Rattle.part.proofs.showing.gather_limits.Goals as goal

pub returns-in_err-add_named_pairing-clause-caused : goal.returns-in_err-add_named_pairing-clause-caused
returns-in_err-add_named_pairing-clause-caused g c =
    let p = err_from_is_err_and c.from_residual-in_err-add_named_pairing.result c.from_residual-in_err-add_named_pairing.ensures.1 in
    rw (p.1, p.2) (caused_then g.S.Source.fails g.S.Fault.From.from_gives g.S.Source.stays g.S.Source.fails_then _ _ _ _ c.gather_member.ensures.left c.add_named_pairing.ensures.left c.in_err-add_named_pairing.ensures.caused)

pub returns-clause-told : goal.returns-clause-told
returns-clause-told g c = (
  λ clean. c.gather_member.ensures.told.0 (c.add_named_pairing.ensures.told.0 clean),
  λ clean s shows.
      let member = c.in_ok-roster.ensures.told.1 (c.add_named_pairing.ensures.told.0 clean) s shows in
      let named = c.in_ok-add_named_pairing.ensures.told.1 clean s member.0 in
      let which = option_copied c.args.named in
      let pairings = named.1 ∙ ap (λ (r : State). pick_named s.pairings which r.pairings) member.1 ∙ named_are s c.args.who.now which in (
        named.0,
        λ i. record {
          bases = (member.1 i).bases;
          crew = (member.1 i).crew;
          pairings = pairings i;
          grounds = (member.1 i).grounds;
          outsides = (member.1 i).outsides;
          exceedances = (member.1 i).exceedances;
          requests = (member.1 i).requests;
        },
      ),
)

pub returns-clause-left : goal.returns-clause-left
returns-clause-left g c = g.S.Source.and_then _ _ _ c.gather_member.ensures.left c.add_named_pairing.ensures.left

pub returns-clause-serves : goal.returns-clause-serves
returns-clause-serves g c = g.S.Source.serves_then _ _ _ c.in_ok-roster.ensures.serves c.in_ok-add_named_pairing.ensures.serves

pub returns-clause-there : goal.returns-clause-there
returns-clause-there g c = g.S.Source.still_there _ _ c.in_ok-add_named_pairing.ensures.serves c.in_ok-roster.ensures.there
