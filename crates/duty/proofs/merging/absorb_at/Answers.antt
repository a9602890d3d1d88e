use Rattle.std.proofs.Common.{◌≡◌, ◌<◌, ◌≤◌, length, get_or, sym, arith}
use Rattle.duty.proofs.Absorbing.{absorbing-begun, absorbing-more, absorbed, front-sums}
use Rattle.duty.proofs.merging.absorb_at.Goals as goal

pub loop-intervals-init : goal.loop-intervals-init
loop-intervals-init c =
    let r = c.requires in
    record {
      absorbing = absorbing-begun c.args.intervals.now.items c.args.place c.args.span r.apart r.some (omega arith) r.before
          (λ k d l m. r.after k d l (omega arith));
      fewer = omega arith;
      capacity = omega arith;
    }

pub loop-intervals-preserved : goal.loop-intervals-preserved
loop-intervals-preserved c =
    let items = c.loop-intervals.intervals.items in
    let next = c.remove.result in
    let now = c.loop-intervals.invariant.absorbing in
    let same = c.as_slice.ensures.value in
    let some : c.args.place < length items = rw same at (c.begins_by.ensures.some c.loop-intervals-test.true) in
    let begins = rw same at (c.begins_by.ensures.begins c.loop-intervals-test.true) in
    let is : get_or items c.args.place next ≡ next = sym c.remove.ensures.value in
    let fits : next.span.from ≤ c.loop-intervals.merged.to = rw is at (begins next) in
    record {
      absorbing = rw (c.remove.ensures.items, c.join-merged.ensures) (absorbing-more c.args.intervals.now.items c.args.place c.args.span items
          c.loop-intervals.merged next now some is fits);
      fewer = omega arith;
      capacity = omega arith;
    }

pub returns-clause-apart : goal.returns-clause-apart
returns-clause-apart c =
    let same = c.as_slice.ensures.value in
    let none = rw same at (c.begins_by.ensures.none c.loop-intervals-test.false) in
    absorbed c.args.intervals.now.items c.args.place c.args.span c.loop-intervals.intervals.items c.loop-intervals.merged
    c.loop-intervals.invariant.absorbing (λ d l. none d l)

pub returns-clause-same_sums : goal.returns-clause-same_sums
returns-clause-same_sums c =
    let now = c.loop-intervals.invariant.absorbing in
    let within = now.within in
    front-sums c.args.intervals.now.items c.loop-intervals.intervals.items c.args.place now.front within (omega arith)
