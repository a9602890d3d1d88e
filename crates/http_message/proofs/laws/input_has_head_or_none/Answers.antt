use Rattle.http_message.proofs.EachHead.{has_head_or_none}
use Rattle.http_message.proofs.laws.input_has_head_or_none.Goals as goal

pub returns : goal.returns
returns c = has_head_or_none
