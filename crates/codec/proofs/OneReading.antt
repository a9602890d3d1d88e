-- A text has one reading as a schedule, or is at fault.
use Rattle.std.proofs.Common.{◌≡◌, ◌∙◌, ℕ, ◌+◌, Bool, List, ◌∷◌, ◌++◌, length, true, Some, None, is_some, if◌then◌else◌, sym, ap, subst, inl, inr, arith}
use Rattle.std.specs.List.{list_all}
use Rattle.std.proofs.lemmas.Bool.{and_parts, false_from_ne_true}
use Rattle.std.proofs.lemmas.List.Folds.{list_all-append}
use Rattle.std.proofs.lemmas.Option.{none-some, same_Some}
use Rattle.duty.specs.Plans.{Plan}
use Rattle.codec.specs.Laws.{HasNoFault, HasOneFault, IsOfOneList}
use Rattle.codec.specs.Places.{first_misplaced}
use Rattle.codec.specs.Records.{first_unread, first_unread_after, read_record}
use Rattle.codec.specs.Schedule.{AreOf, IsHeaderWithSegments, IsFaultyPlanAt, IsUnreadRecord, is_faultless_plan, schedule_segments}
use Rattle.codec.specs.declared.scheduled.ScheduledSegment.{ScheduledSegment}
use Rattle.codec.proofs.Fronts.{all_read, no_position, same_front}
use Rattle.codec.proofs.OneList.{one_list}
use Rattle.codec.proofs.OneText.{one_records, one_segments}
use Rattle.codec.proofs.Stands.{none_misplaced}

-- segments are those of one list of pairings
one_plans : (segments others : List ScheduledSegment) (plans other : List Plan) → segments ≡ others → AreOf plans segments → AreOf other others →
    plans ≡ other
one_plans segments others plans other same a b = one_list plans other a.1 b.1 a.2 b.2 a.3 b.3 (a.0 ∙ same ∙ sym b.0)

pub is_of_one_list : IsOfOneList
is_of_one_list text plans other a b = one_plans a.0 b.0 plans other (one_segments text a.0 b.0 a.1 b.1) a.2 b.2

not_unread : (text : List ℕ) (segments : List ScheduledSegment) (n : ℕ) → IsHeaderWithSegments text segments → IsUnreadRecord text n → ⊥
not_unread text segments n holds (inl long) = let short = holds.0.0 in let over = long.0 in omega (arith, short, over)
not_unread text segments n holds (inr (inl marked)) = marked.1 holds.0.1
not_unread text segments n holds (inr (inr unread)) =
    let same = one_records text (holds.2 ∷ holds.1) unread.1 holds.3 unread.2 in
    let read = no_position (λ fields. is_some (read_record fields)) 2 holds.1 (all_read read_record holds.1 segments holds.5) in
    let none : first_unread (holds.2 ∷ holds.1) ≡ None =
    subst (λ (known : Bool). (if known then first_unread_after holds.1 else Some 1) ≡ None) (sym holds.4) read in
    none-some n (sym none ∙ ap first_unread same ∙ unread.3)

not_unmade : (plans : List Plan) (n : ℕ) → list_all is_faultless_plan plans ≡ true → IsFaultyPlanAt plans n → ⊥
not_unmade plans n made unmade =
    let all : list_all is_faultless_plan (unmade.0 ++ unmade.2 ∷ unmade.1) ≡ true = ap (list_all is_faultless_plan) (sym unmade.3) ∙ made in
    let parts = and_parts (list_all is_faultless_plan unmade.0) _ (sym (list_all-append is_faultless_plan unmade.0 (unmade.2 ∷ unmade.1)) ∙ all) in
    unmade.5 (and_parts (is_faultless_plan unmade.2) _ parts.1).0

pub has_no_fault : HasNoFault
has_no_fault text plans n read (inl unread) = not_unread text read.0 n read.1 unread
has_no_fault text plans n read (inr fault) =
    let same = one_segments text read.0 fault.0 read.1 fault.1 in
    elim fault.2 [
      | inl misplaced ↦ none-some n (sym (ap first_misplaced (sym same) ∙ none_misplaced plans read.0 read.2) ∙ misplaced)
      | inr unmade ↦
          let plans_same = one_plans read.0 fault.0 plans unmade.1 same read.2 unmade.2 in
          not_unmade unmade.1 n (ap (list_all is_faultless_plan) (sym plans_same) ∙ read.3) unmade.3
    ]

-- ---- The record at fault

one_unread : (text : List ℕ) (n m : ℕ) → IsUnreadRecord text n → IsUnreadRecord text m → n ≡ m
one_unread text n m (inl a) (inl b) = a.1 ∙ sym b.1
one_unread text n m (inl a) (inr (inl b)) = let over = a.0 in let short = b.0 in absurd (omega (arith, over, short))
one_unread text n m (inl a) (inr (inr b)) = let over = a.0 in let short = b.0.0 in absurd (omega (arith, over, short))
one_unread text n m (inr (inl a)) (inl b) = let over = b.0 in let short = a.0 in absurd (omega (arith, over, short))
one_unread text n m (inr (inr a)) (inl b) = let over = b.0 in let short = a.0.0 in absurd (omega (arith, over, short))
one_unread text n m (inr (inl a)) (inr (inl b)) = a.2 ∙ sym b.2
one_unread text n m (inr (inl a)) (inr (inr b)) = absurd (a.1 b.0.1)
one_unread text n m (inr (inr a)) (inr (inl b)) = absurd (b.1 a.0.1)
one_unread text n m (inr (inr a)) (inr (inr b)) =
    same_Some n m (sym a.3 ∙ ap first_unread (one_records text a.1 b.1 a.2 b.2) ∙ b.3)

-- the pairings before the first that is none are the same
one_unmade : (plans : List Plan) (n m : ℕ) → IsFaultyPlanAt plans n → IsFaultyPlanAt plans m → n ≡ m
one_unmade plans n m a b =
    let none_here = false_from_ne_true (is_faultless_plan a.2) a.5 in
    let none_there = false_from_ne_true (is_faultless_plan b.2) b.5 in
    let before = (same_front is_faultless_plan a.0 (a.2 ∷ a.1) b.0 (b.2 ∷ b.1) a.4 b.4 none_here none_there (sym a.3 ∙ b.3)).0 in
    a.6 ∙ ap (λ (ps : List Plan). 2 + length (schedule_segments ps)) before ∙ sym b.6

pub has_one_fault : HasOneFault
has_one_fault text n m (inl a) (inl b) = one_unread text n m a b
has_one_fault text n m (inl a) (inr b) = absurd (not_unread text b.0 n b.1 a)
has_one_fault text n m (inr a) (inl b) = absurd (not_unread text a.0 m a.1 b)
has_one_fault text n m (inr a) (inr b) =
    let same = ap first_misplaced (one_segments text a.0 b.0 a.1 b.1) in
    elim a.2 [
      | inl here ↦ elim b.2 [
        | inl there ↦ same_Some n m (sym here ∙ same ∙ there)
        | inr there ↦ absurd (none-some n (sym there.0 ∙ sym same ∙ here))
      ]
      | inr here ↦ elim b.2 [
        | inl there ↦ absurd (none-some m (sym here.0 ∙ same ∙ there))
        | inr there ↦
            let plans_same = one_plans a.0 b.0 here.1 there.1 (one_segments text a.0 b.0 a.1 b.1) here.2 there.2 in
            one_unmade there.1 n m (subst (λ (ps : List Plan). IsFaultyPlanAt ps n) plans_same here.3) there.3
      ]
    ]
