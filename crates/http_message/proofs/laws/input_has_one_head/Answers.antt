use Rattle.httparse.proofs.GrammarLemmas.{request_unique}
use Rattle.http_message.proofs.laws.input_has_one_head.Goals as goal

pub returns : goal.returns
returns c = λ input h other rest more a b. request_unique input h other rest more a.reads b.reads
