use Rattle.tables.specs.Schema.{segment_table}
use Rattle.tables.proofs.SegmentTexts.{create_segment_declares}
use Rattle.tables.proofs.segment.is_segment_there.Goals as goal

pub returns-clause-there : goal.returns-clause-there
returns-clause-there g c = c.is_there.ensures.there segment_table create_segment_declares

pub returns-clause-fault : goal.returns-clause-fault
returns-clause-fault g c = c.is_there.ensures.fault segment_table create_segment_declares
