use Rattle.report.proofs.FewSegments.{few_outside}
use Rattle.report_json.proofs.duties.outside_value.Goals as goal

pub flight_minutes-requires : goal.flight_minutes-requires
flight_minutes-requires c =
    rw (c.segments.ensures, c.in_ok-times.ensures) (few_outside c.args.outside.now.period c.id-sound.ensures.sound)
