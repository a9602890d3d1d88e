-- The keys of periods, of segments, and of the segments of outside periods are in the order of
-- their names.
use Rattle.std.specs.Prelude.{◌≡◌, ℕ, [], ◌∷◌}
use Rattle.std.proofs.Common.{ap, ◌∙◌}
use Rattle.std.specs.Ordering.{nat_cmp, ordering_then}
use Rattle.values.specs.Name.{name_cmp}
use Rattle.values.proofs.Names.{number_order, text_order}
use Rattle.entries.specs.OutsideRows.{outside_segment_name}
use Rattle.entries.specs.PlanRows.{period_name, segment_name}
use Rattle.entries.specs.contracts.outside_rows.OutsideSegmentKeyOrd.TheImpl.{ghosts as outside_segments}
use Rattle.entries.specs.contracts.plan_rows.PeriodKeyOrd.TheImpl.{ghosts as periods}
use Rattle.entries.specs.contracts.plan_rows.SegmentKeyOrd.TheImpl.{ghosts as segments}
use Rattle.entries.specs.declared.outside_rows.OutsideSegmentKey.{OutsideSegmentKey}
use Rattle.entries.specs.declared.plan_rows.PeriodKey.{PeriodKey}
use Rattle.entries.specs.declared.plan_rows.SegmentKey.{SegmentKey}

-- two pairs of numbers, compared in turn, compare as the names that the pairs make
two_numbers : (a b c d : ℕ) →
    ordering_then (nat_cmp a c) (nat_cmp b d) ≡ name_cmp (a ∷ b ∷ []) (c ∷ d ∷ [])
two_numbers a b c d = ap (ordering_then (nat_cmp a c)) (number_order b d)

-- two keys of periods compare as the names that the keys make
pub periods_order : (a b : PeriodKey) →
    periods.cmp a b
    ≡ name_cmp (period_name a.pairing a.number) (period_name b.pairing b.number)
periods_order a b =
    ap (ordering_then (name_cmp a.pairing b.pairing)) (number_order a.number b.number)
    ∙ text_order a.pairing b.pairing (a.number ∷ []) (b.number ∷ [])

-- two keys of segments compare as the names that the keys make
pub segments_order : (a b : SegmentKey) →
    segments.cmp a b
    ≡ name_cmp
    (segment_name a.pairing a.period a.number)
    (segment_name b.pairing b.period b.number)
segments_order a b =
    ap (ordering_then (name_cmp a.pairing b.pairing))
    (two_numbers a.period a.number b.period b.number)
    ∙ text_order a.pairing b.pairing (a.period ∷ a.number ∷ []) (b.period ∷ b.number ∷ [])

-- two keys of segments of outside periods compare as the names that the keys make
pub outside_segments_order : (a b : OutsideSegmentKey) →
    outside_segments.cmp a b
    ≡ name_cmp (outside_segment_name a.outside a.number) (outside_segment_name b.outside b.number)
outside_segments_order a b =
    ap (ordering_then (name_cmp a.outside b.outside)) (number_order a.number b.number)
    ∙ text_order a.outside b.outside (a.number ∷ []) (b.number ∷ [])
