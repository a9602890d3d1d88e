use Rattle.web.proofs.Exchanged.{broken_off, calls, honest, once, served, served_shut, unchanged_if_shut}
use Rattle.web.proofs.exchanges.exchange.Goals as goal

pub returns-clause-served : goal.returns-clause-served
returns-clause-served g c = λ s at clean. served g.S.Store s c.args.book.now c.exchange.new.kept at clean _ _ _ _ c.exchange.result c.exchange.ensures.served

pub returns-clause-broken_off : goal.returns-clause-broken_off
returns-clause-broken_off g c = λ s at. broken_off g.S.Store s c.args.book.now c.exchange.new.kept at _ _ _ c.exchange.result c.exchange.ensures.failed

pub returns-clause-once : goal.returns-clause-once
returns-clause-once g c = λ s at. once g.S.Store s c.args.book.now c.exchange.new.kept at c.exchange.ensures.once

pub returns-clause-honest : goal.returns-clause-honest
returns-clause-honest g c = λ s at fair. honest g.S.Store s c.args.book.now c.exchange.new.kept at c.exchange.ensures.once fair

pub returns-clause-calls : goal.returns-clause-calls
returns-clause-calls g c = calls g.S.Store c.args.book.now c.exchange.new.kept c.exchange.ensures.once

pub returns-clause-shut : goal.returns-clause-shut
returns-clause-shut g c = λ failed. (
  unchanged_if_shut g.S.Store c.args.book.now c.exchange.new.kept c.exchange.ensures.once failed,
  served_shut g.S.Store c.args.book.now c.exchange.new.kept failed _ _ _ _ c.exchange.result c.exchange.ensures.served,
)
