use Rattle.std.proofs.Common.{arith}
use Rattle.time117.proofs.WrittenLemmas.{read_written}
use Rattle.time117.proofs.minute.Minute.to_ascii.Goals as goal

pub returns-clause-read_back : goal.returns-clause-read_back
returns-clause-read_back c = read_written c.args.self (omega (arith, c.self.invariant, c.self.view_is))
