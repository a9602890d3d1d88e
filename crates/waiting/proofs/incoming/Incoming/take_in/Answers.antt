use Rattle.std.proofs.Common.{◌≡◌, ◌∙◌, ◌++◌, sym, subst, ap, take, List, ℕ, append_assoc}
use Rattle.waiting.specs.Whole.{IsUnfinished}
use Rattle.waiting.proofs.TakenIn.{consumed_still, consumed_then, on_success, taken_unfinished}
use Rattle.waiting.proofs.incoming.Incoming.take_in.Goals.{in-Ok+else-is_err, in-Err+in-Interrupted}
use Rattle.waiting.proofs.incoming.Incoming.take_in.Goals as goal

pub returns-in-WouldBlock : goal.returns-in-WouldBlock
returns-in-WouldBlock g c =
    let was = c.loop.invariant in
    taken_unfinished (g.R.Read.remaining c.args.reader.now) (g.R.Read.remaining c.read.new.self) c.args.self.now c.loop.self was.0 c.unfinished.result
    (consumed_still (g.R.Read.remaining c.args.reader.now) (g.R.Read.remaining c.loop.reader) (g.R.Read.remaining c.read.new.self) was.0 was.1 c.in-Err.ensures.bytes) was.2
    (subst (λ b. IsUnfinished b c.unfinished.result) (c.deref-in-WouldBlock.ensures.value ∙ c.self.view_is) c.unfinished.ensures)

pub loop-preserved : goal.loop-preserved
loop-preserved g c =
    let was = c.loop.invariant in
    elim c.match-read.branch [
      | in-Ok+else-is_err w ↦
          let piece : List ℕ = take w.in-Ok.count c.read.new.buf in
          let added = on_success _ w.add.result w.add.ensures (sym w.is_err.ensures.value ∙ w.if-is_err.false) in (
            was.0 ++ piece,
            consumed_then (g.R.Read.remaining c.args.reader.now) (g.R.Read.remaining c.loop.reader) (g.R.Read.remaining c.read.new.self) was.0 piece was.1 w.in-Ok.ensures.bytes.0,
            w.self-is ∙ (added ∙ (ap (λ l. l ++ piece) was.2 ∙ append_assoc c.args.self.now was.0 piece)),
          )
      | in-Err+in-Interrupted w ↦ (
        was.0,
        consumed_still (g.R.Read.remaining c.args.reader.now) (g.R.Read.remaining c.loop.reader) (g.R.Read.remaining c.read.new.self) was.0 was.1 w.in-Err.ensures.bytes,
        w.self-is ∙ was.2,
      )
    ]
