-- A text has one list of records, and so one list of segments.
use Rattle.std.proofs.Common.{◌≡◌, ◌∙◌, ℕ, List, [], ◌∷◌, map, None, refl, sym, ap, subst}
use Rattle.std.proofs.lemmas.Option.{none-some, same_Some}
use Rattle.csv.specs.Machine.{Read, next_record}
use Rattle.csv.specs.Reading.{AreRecords, Reached, default_config, strip_bom}
use Rattle.csv.specs.declared.parser.Config.{Config}
use Rattle.csv.specs.declared.parser.State.{State}
use Rattle.csv.specs.declared.parser.State.TheVariants.{StartRecord}
use Rattle.codec.specs.Records.{read_record}
use Rattle.codec.specs.Schedule.{HasRecords, IsHeaderWithSegments}
use Rattle.codec.specs.declared.scheduled.ScheduledSegment.{ScheduledSegment}
use Rattle.codec.proofs.Fronts.{rest_same, same_values}

are_one : (config : Config) (s : State) (text : List ℕ) (records other : List (List (List ℕ))) →
    AreRecords config s text records → AreRecords config s text other → records ≡ other
unfolding Reached
are_one config s text [] [] a b = refl
are_one config s text [] (r ∷ rs) a b =
    let none : next_record config s [] [] text ≡ None = (λ i. next_record config (a.2.0 i) [] [] (a.2.1 i)) ∙ a.3 in
    absurd (none-some b.2.0 (sym none ∙ b.2.1))
are_one config s text (r ∷ rs) [] a b =
    let none : next_record config s [] [] text ≡ None = (λ i. next_record config (b.2.0 i) [] [] (b.2.1 i)) ∙ b.3 in
    absurd (none-some a.2.0 (sym none ∙ a.2.1))
are_one config s text (r ∷ rs) (t ∷ ts) a b =
    let same : b.2.0 ≡ a.2.0 = same_Some b.2.0 a.2.0 (sym b.2.1 ∙ a.2.1) in
    let first : r ≡ t = a.2.2 ∙ ap (λ (read : Read). read.0) (sym same) ∙ sym b.2.2 in
    let later = subst (λ (read : Read). AreRecords config read.1 read.2 ts) same (b.0, b.1, b.2.3, b.3) in
    let rest = are_one config a.2.0.1 a.2.0.2 rs ts (a.0, a.1, a.2.3, a.3) later in
    λ i. first i ∷ rest i

pub one_records : (text : List ℕ) (records other : List (List (List ℕ))) → HasRecords text records → HasRecords text other → records ≡ other
one_records text records other a b = are_one default_config StartRecord (strip_bom text) records other a b

pub one_segments : (text : List ℕ) (segments other : List ScheduledSegment) → IsHeaderWithSegments text segments → IsHeaderWithSegments text other → segments ≡ other
one_segments text segments other a b =
    let rows = rest_same a.2 b.2 a.1 b.1 (one_records text (a.2 ∷ a.1) (b.2 ∷ b.1) a.3 b.3) in
    same_values segments other (sym a.5 ∙ ap (map read_record) rows ∙ b.5)
