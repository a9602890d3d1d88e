use Rattle.codec.proofs.EachText.{is_schedule_or_at_fault}
use Rattle.codec.proofs.laws.text_is_schedule_or_at_fault.Goals as goal

pub returns : goal.returns
returns c = is_schedule_or_at_fault
