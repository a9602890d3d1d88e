use Rattle.nearness.proofs.Rules.{exceeds_is_rule}
use Rattle.nearness.proofs.all_limits.nearest_of_new.Goals as goal

pub returns-clause-rules : goal.returns-clause-rules
returns-clause-rules c = exceeds_is_rule c.args.all.now c.args.new.now c.args.others _ c.requires (record {
  flight_time = record { some = c.nearest_period.ensures.some; none = c.nearest_period.ensures.none };
  flight_duty_period = record { some = c.nearest_period-2.ensures.some; none = c.nearest_period-2.ensures.none };
  flight_time_672_hours = record { some = c.fullest_window.ensures.some; none = c.fullest_window.ensures.none };
  flight_time_365_days = record { some = c.fullest_year.ensures.some; none = c.fullest_year.ensures.none };
  flight_duty_periods_168_hours = record { some = c.fullest_window-2.ensures.some; none = c.fullest_window-2.ensures.none };
  flight_duty_periods_672_hours = record { some = c.fullest_window-3.ensures.some; none = c.fullest_window-3.ensures.none };
  thirty_hour_rest = record { some = c.nearest_period-3.ensures.some; none = c.nearest_period-3.ensures.none };
  ten_hour_rest = record { some = c.nearest_period-4.ensures.some; none = c.nearest_period-4.ensures.none };
})
