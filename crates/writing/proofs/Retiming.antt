-- The segments of a period, one after the other given their actual times.
use Rattle.std.proofs.Common.{◌≡◌, ◌⊎◌, inl, inr, refl, sym, ap, subst, ◌∙◌, arith, ℕ, zero, suc, pos, ◌+◌, ◌≤◌, List, [], ◌∷◌, Option, Some, None, Bool, true, false, cond, slice_get, option_map}
use Rattle.std.proofs.lemmas.Bool.{cases_Bool}
use Rattle.sqlite_value.specs.declared.value.Value.TheVariants.{Int, Text}
use Rattle.sqlite_value.specs.Order.{Row}
use Rattle.sqlite_rules.specs.Lists.{Has}
use Rattle.sqlite.specs.Effect.{Database}
use Rattle.duty.specs.declared.segment.BlockTimes.{BlockTimes}
use Rattle.duty.specs.declared.segment.Segment.{Segment}
use Rattle.tables.specs.Records.{with_segment_times}
use Rattle.tables.specs.Rows.{Changes, begins_with, rows_of}
use Rattle.tables.specs.declared.segment.SegmentRecord.{SegmentRecord}
use Rattle.tables.proofs.SegmentTexts.{with_segment_times_is}
use Rattle.writing.specs.Calls.{Each, IsFit}
use Rattle.state_rows.specs.Rows.{table, segment, row_of_segment}
use Rattle.writing.specs.Writing.{FliesSegment}
use Rattle.writing.proofs.Growing.{unchanged, changed_twice}
use Rattle.writing.proofs.Tables.{updates_keep}
use Rattle.state_rows.proofs.Tests.{passes, fails}
use Rattle.state_rows.proofs.Values.{text_is, number_is}

module _ (id : List ℕ) (number : ℕ) where
  abbrev pub test : ℕ → Row → Bool
  test at = begins_with (Text id ∷ Int (pos number) ∷ Int (pos (at + 1)) ∷ [])

  -- ---- Any rows

  abbrev Step : ℕ → BlockTimes → Row → Row → Type 0
  Step at t was mid = ((test at was ≡ true) × (mid ≡ with_segment_times t.block_out t.block_in was)) ⊎ ((test at was ≡ false) × (mid ≡ was))

  -- what becomes of a row
  abbrev pub Flown : ℕ → List BlockTimes → Row → Row → Type 0
  Flown from [] was x = x ≡ was
  Flown from (t ∷ ts) was x = (mid : Row) × Step from t was mid × Flown (suc from) ts mid x

  pub all_flown : (from : ℕ) (ts : List BlockTimes) (old new : Database) → IsFit old → Each (FliesSegment id number) from ts old new →
      Changes (table segment) old new (λ x. (was : Row) × Has (rows_of (table segment) old) was × Flown from ts was x)
  all_flown from [] old new fit is = unchanged (table segment) old new _ is (λ x. (
    λ h. (x, h, refl),
    λ h. subst (Has (rows_of (table segment) old)) (sym h.2) h.1,
  ))
  all_flown from (t ∷ ts) old new fit is =
      let first = is.1 (fit.1 segment) in
      let rest = all_flown (suc from) ts is.0 new (updates_keep segment (test from) (with_segment_times t.block_out t.block_in) old is.0 fit is.1) is.2 in
      changed_twice (table segment) old is.0 new _ _ _ first rest (λ x. (
        λ h. elim (first.has h.0 h.1) [
          | inl it ↦ (it.0, it.1, (h.0, inl (it.2, it.3), h.2))
          | inr it ↦ (h.0, it.0, (h.0, inr (it.1, refl), h.2))
        ],
        λ h. elim h.2.1 [
          | inl it ↦ (h.2.0, first.all h.2.0 (inl (h.0, h.1, it.0, it.1)), h.2.2)
          | inr it ↦ (h.2.0, first.all h.2.0 (inr (subst (Has (rows_of (table segment) old)) (sym it.1) h.1, ap (test from) it.1 ∙ it.0)), h.2.2)
        ],
      ))

  -- ---- The row of a segment

  module _ (name : List ℕ) (place at : ℕ) (g : Segment) where
    abbrev pub row : Option BlockTimes → Row
    row tf = row_of_segment name place at g tf

    abbrev hit : ℕ → Bool
    hit n = test n (row None)

    -- its times after the changes
    abbrev pub after : ℕ → List BlockTimes → Option BlockTimes → Option BlockTimes
    after from [] tf = tf
    after from (t ∷ ts) tf = after (suc from) ts (cond (hit from) (Some t) tf)

    retimed : (t : BlockTimes) (tf : Option BlockTimes) → with_segment_times t.block_out t.block_in (row tf) ≡ row (Some t)
    retimed t tf =
        let it : SegmentRecord = record {
          pairing = name;
          period = place + 1;
          number = at + 1;
          flight = g.flight;
          origin = g.from;
          destination = g.to;
          out_at = g.block_out;
          in_at = g.block_in;
          act_out = option_map (λ t. t.block_out) tf;
          act_in = option_map (λ t. t.block_in) tf;
        } in
        with_segment_times_is it t.block_out t.block_in

    pub flown_to : (from : ℕ) (ts : List BlockTimes) (tf : Option BlockTimes) (x : Row) → Flown from ts (row tf) x → x ≡ row (after from ts tf)
    flown_to from [] tf x h = h
    flown_to from (t ∷ ts) tf x h = elim h.1 [
      | inl it ↦ flown_to (suc from) ts (cond (hit from) (Some t) tf) x
          (subst (λ m. Flown (suc from) ts m x) (it.1 ∙ retimed t tf ∙ ap (λ b. row (cond b (Some t) tf)) (sym it.0)) h.2)
      | inr it ↦ flown_to (suc from) ts (cond (hit from) (Some t) tf) x
          (subst (λ m. Flown (suc from) ts m x) (it.1 ∙ ap (λ b. row (cond b (Some t) tf)) (sym it.0)) h.2)
    ]

    pub flown_from : (from : ℕ) (ts : List BlockTimes) (tf : Option BlockTimes) → Flown from ts (row tf) (row (after from ts tf))
    flown_from from [] tf = refl
    flown_from from (t ∷ ts) tf = (
      row (cond (hit from) (Some t) tf),
      elim (cases_Bool (hit from)) [
        | inl yes' ↦ inl (yes', ap (λ b. row (cond b (Some t) tf)) yes' ∙ sym (retimed t tf))
        | inr no' ↦ inr (no', ap (λ b. row (cond b (Some t) tf)) no')
      ],
      flown_from (suc from) ts (cond (hit from) (Some t) tf),
    )

    pub after_past : (from : ℕ) (ts : List BlockTimes) (tf : Option BlockTimes) → ((n : ℕ) → from ≤ n → hit n ≡ false) → after from ts tf ≡ tf
    after_past from [] tf none = refl
    after_past from (t ∷ ts) tf none =
        after_past (suc from) ts (cond (hit from) (Some t) tf) (λ n h. none n (omega (arith, h))) ∙ ap (λ b. cond b (Some t) tf) (none from (omega arith))

    pub after_here : (from : ℕ) (ts : List BlockTimes) (tf : Option BlockTimes) (k : ℕ) (t : BlockTimes) → slice_get ts k ≡ Some t → hit (from + k) ≡ true →
        ((n : ℕ) → (n ≡ from + k → ⊥) → hit n ≡ false) → after from ts tf ≡ Some t
    after_here from [] tf k t at_k one other = absurd (cc)
    after_here from (u ∷ ts) tf zero t at_k one other =
        let here : from + 0 ≡ from = omega arith in
        after_past (suc from) ts (cond (hit from) (Some u) tf) (λ n h. other n (λ e. omega (arith, h, e)))
        ∙ ap (λ b. cond b (Some u) tf) (ap hit (sym here) ∙ one) ∙ at_k
    after_here from (u ∷ ts) tf (suc k) t at_k one other =
        let later : from + suc k ≡ suc from + k = omega arith in
        after_here (suc from) ts (cond (hit from) (Some u) tf) k t at_k (ap hit (sym later) ∙ one) (λ n apart. other n (λ e. apart (e ∙ later)))

    -- the segment is one of another period
    pub hit_none : (name ≡ id → place + 1 ≡ number → ⊥) → (n : ℕ) → hit n ≡ false
    hit_none other n = fails (Text id ∷ Int (pos number) ∷ Int (pos (n + 1)) ∷ []) (row None) (tt, tt, (tt, tt, (tt, tt, tt)))
        (λ c. other (text_is c.0) (number_is c.1.0))

    pub hit_one : name ≡ id → place + 1 ≡ number → hit at ≡ true
    hit_one same period_is = passes (Text id ∷ Int (pos number) ∷ Int (pos (at + 1)) ∷ []) (row None) (ap Text same, (ap (λ n. Int (pos n)) period_is, (refl, tt)))

    pub hit_other : (n : ℕ) → (n ≡ at → ⊥) → hit n ≡ false
    hit_other n other = fails (Text id ∷ Int (pos number) ∷ Int (pos (n + 1)) ∷ []) (row None) (tt, tt, (tt, tt, (tt, tt, tt)))
        (λ c. other (let e : at + 1 ≡ n + 1 = number_is c.1.1.0 in omega (arith, e)))
