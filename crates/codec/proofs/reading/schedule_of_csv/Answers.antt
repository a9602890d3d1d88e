use Rattle.std.proofs.Common.{◌≡◌, ◌∷◌, ◌∙◌, List, ℕ, map, ap, subst, inl, inr}
use Rattle.std.proofs.lemmas.Result.{IfErr-weaker}
use Rattle.csv.specs.Reading.{AreRecords, default_config, strip_bom}
use Rattle.csv.specs.Records.{fields_of}
use Rattle.csv.specs.declared.parser.State.TheVariants.{StartRecord}
use Rattle.codec.specs.Grouping.{plans_of, told}
use Rattle.codec.specs.Schedule.{HasRecords, IsHeaderWithSegments}
use Rattle.codec.proofs.Loop.{are_of, unmade}
use Rattle.codec.proofs.Planned.{all_planned}
use Rattle.codec.proofs.reading.schedule_of_csv.Goals as goal

pub returns-clause-refused : goal.returns-clause-refused
returns-clause-refused c =
    let text = c.args.text.now in
    let segments = c.in_ok-segments.segments.items in
    let tolds = map told c.in_ok-group_segments.field-0.items in
    let is_text = c.in_ok-strip_mark.ensures.text in
    let rows = c.in_ok-segments.ensures.read in
    let read = subst (λ (t : List ℕ). AreRecords default_config StartRecord t (map fields_of c.in_ok-records.records.items)) (ap strip_bom is_text.0 ∙ is_text.1.1) c.in_ok-records.ensures in
    let all : map fields_of c.in_ok-records.records.items ≡ rows.0 ∷ rows.1 = search (c.deref.ensures.value, rows.2) in
    let records : HasRecords text (rows.0 ∷ rows.1) = subst (λ (rs : List (List (List ℕ))). HasRecords text rs) all read in
    let holds : IsHeaderWithSegments text segments = (is_text.1, rows.1, rows.0, records, rows.3, rows.4) in
    let grouped = c.in_ok-group_segments.ensures.grouped in
    let are = are_of tolds segments grouped.0 grouped.1 (all_planned c.in_ok-group_segments.field-0.items) in
    let placed = c.in_ok-group_segments.ensures.placed in
    IfErr-weaker c.make_pairings.result _ _ (λ fault refused. elim refused [
      | inl memory ↦ inl memory
      | inr (n, is, first) ↦ inr (n, is, inr (segments, holds, inr (placed, plans_of tolds, are, unmade tolds n grouped.1.3 first)))
    ]) c.make_pairings.ensures.refused
