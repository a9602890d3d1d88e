use Rattle.codec.proofs.OneReading.{is_of_one_list}
use Rattle.codec.proofs.laws.schedule_is_of_one_list.Goals as goal

pub returns : goal.returns
returns c = is_of_one_list
