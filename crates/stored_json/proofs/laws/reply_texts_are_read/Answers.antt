use Rattle.stored_json.proofs.ReplyBack.{reply_back}
use Rattle.stored_json.proofs.laws.reply_texts_are_read.Goals as goal

pub returns : goal.returns
returns c = reply_back
