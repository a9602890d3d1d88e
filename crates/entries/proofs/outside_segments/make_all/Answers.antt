use Rattle.std.proofs.Common.{rules, ◌≡◌, sym, subst, ◌∷◌, Err}
use Rattle.entries.specs.OutsideRows.{HasUnmade, SaysNoOutside, OutsidesMade}
use Rattle.entries.specs.declared.fault.TableName.TheVariants as table_name
use Rattle.entries.proofs.KeyedOutsideSegments.{Making, none_made, one_made, unmade, all_made}
use Rattle.entries.proofs.PlanLemmas.{passed_on}
use Rattle.entries.proofs.outside_segments.make_all.Goals as goal

pub loop-id-init : goal.loop-id-init
loop-id-init c =
    subst (λ m. Making c.args.outsides.now c.args.segments.now m c.into_iter-id-iterator.result) (sym c.new-made.ensures)
    (none_made c.args.outsides.now c.args.segments.now c.into_iter-id-iterator.result (search rules))

pub returns-in_err-entry : goal.returns-in_err-entry
returns-in_err-entry c =
    let outsides = c.args.outsides.now in
    let segments = c.args.segments.now in
    let id = c.in-Some.id.now in
    let it = c.in-Some.it.now in
    let fault = c.in_err-entry.field-0.0 in
    let is : c.from_residual.result ≡ Err fault = search rules in
    let left : c.loop-id.id-iterator ≡ (id, it) ∷ c.next.new.self = search rules in
    let none = unmade outsides segments c.loop-id.made (id, it) c.next.new.self (subst (Making outsides segments c.loop-id.made) left c.loop-id.invariant) in
    passed_on (OutsidesMade outsides segments) table_name.OutsideSegment (SaysNoOutside segments id it) (HasUnmade outsides segments) c.from_residual.result fault is none c.in_err-entry.ensures

pub loop-id-preserved : goal.loop-id-preserved
loop-id-preserved c =
    let outsides = c.args.outsides.now in
    let segments = c.args.segments.now in
    let id = c.in-Some.id.now in
    let it = c.in-Some.it.now in
    let left : c.loop-id.id-iterator ≡ (id, it) ∷ c.next.new.self = search rules in
    one_made outsides segments c.loop-id.made (id, it) c.next.new.self (subst (Making outsides segments c.loop-id.made) left c.loop-id.invariant)
    c.insert.new.self c.in_ok-entry.entry c.in_ok-entry.ensures (search rules)

pub returns : goal.returns
returns c = all_made c.args.outsides.now c.args.segments.now c.loop-id.made c.loop-id.id-iterator (search rules) c.loop-id.invariant
