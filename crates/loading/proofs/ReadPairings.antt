-- The pairings that the tables `pairing`, `period` and `segment` give, and when these tables are right.
use Rattle.std.proofs.Common.{◌≡◌, ◌↔◌, inl, inr, refl, sym, ap, subst, ◌∙◌, ℕ, true, false, List, [], ◌∷◌, map, cond, Some, None, Result, Ok, Err, IfOk, MatchResult}
use Rattle.std.specs.FinMap as fin
use Rattle.std.specs.Prelude.{is_some, ⊤}
use Rattle.std.specs.Ordering.{eq_by_cmp}
use Rattle.std.specs.Cmp.Lexicographic.{nat_list_cmp_total}
use Rattle.std.proofs.lemmas.Bool.{cases_Bool}
use Rattle.values.specs.Name.{name_cmp, named_rows}
use Rattle.values.proofs.Names.{alike, itself}
use Rattle.sqlite_value.specs.Order.{Row, column}
use Rattle.sqlite.specs.Effect.{Database}
use Rattle.sqlite.specs.State.{HasCleanDisk}
use Rattle.sqlite.specs.State as conn
use Rattle.duty.specs.declared.segment.Segment.{Segment}
use Rattle.roster.specs.Entries.{put}
use Rattle.roster.specs.State.{State}
use Rattle.roster.specs.declared.put.Entry.TheVariants as entry
use Rattle.roster.specs.declared.state.PairingEntry.{PairingEntry}
use Rattle.tables.specs.Records.{period_row}
use Rattle.tables.specs.declared.period.PeriodRecord.{PeriodRecord}
use Rattle.tables.specs.declared.segment.SegmentRecord.{SegmentRecord}
use Rattle.entries.proofs.Entries.{Passed, none_passed, next_passed, is_there, all_passed, passed_more}
use Rattle.entries.proofs.Following.{has_value}
use Rattle.state_rows.proofs.Lists.{some_same}
use Rattle.entries.proofs.PlanStates.{state_told, told_planned, periods_are, segments_are}
use Rattle.loading.proofs.ReadPeriods.{of_row}
use Rattle.loading.proofs.ReadTables.{then_saw}
use Rattle.state_rows.proofs.Outcomes.{clean_before}
use Rattle.loading.proofs.Telling.{of_blame, or_fails, uncaused}
use Rattle.state_rows.proofs.Values.{text_is}
use Rattle.entries.specs.Keyed.{Ids, IsSegmentTable}
use Rattle.loading.specs.PlanTables.{AreIds, HasIds, HasPeriods, HasSegmentsOf, HasUntold, IsPairingOf, IsPeriodTable, PairingsRead}
use Rattle.entries.specs.Right.{AreRight, IsCrewRight, IsPairingRight}
use Rattle.loading.specs.Loading.{IsDamaged, Justifies, state_table}
use Rattle.entries.specs.PlanRows.{IsPairingOfRows, PeriodRows, Periods, SegmentRows, Segments, period_name, segment_name}
use Rattle.loading.specs.Reading.{HaveNoHolders, BlamesOrFails, HasNoHolder, AgreesThrough, ReadsAs}
use Rattle.entries.specs.Faults.{Blames}
use Rattle.state_rows.specs.Rows.{InPeriod, InSegment, crew, pairing, period, segment, row_of_pairing}
use Rattle.entries.specs.declared.fault.LoadFault.{LoadFault}
use Rattle.entries.specs.declared.fault.TableName as name
use Rattle.entries.specs.declared.fault.TableName.TheVariants as table_name
use Rattle.entries.proofs.RightRows.{segments_fit}

-- ---- Pairings in turn

module _ (ids : Ids) (m : Periods) (n : Segments) where
  -- the pairings of the ids before these are set
  pub record Adding (old new : State) (left : List (List ℕ × ⊤)) : Type 0 where
    pub same : new ≡ record old { pairings = new.pairings }
    pub known : (id : List ℕ) (r : PairingEntry) → fin.get new.pairings id ≡ Some r → IsPairingOf ids m n id r
    pub passed : Passed (λ id. id) (λ id. fin.contains_key new.pairings id ≡ true) ids left

  pub none_added : (s : State) (items : List (List ℕ × ⊤)) → s.pairings ≡ fin.empty → named_rows (λ id. id) items ≡ fin.entries ids → Adding s s items
  none_added s items none whole = record {
    same = refl;
    known = λ id r e. absurd (let f = sym (fin.get-empty name_cmp id) ∙ ap (λ p. fin.get p id) (sym none) ∙ e in cc);
    passed = none_passed (λ id. id) (λ id. fin.contains_key s.pairings id ≡ true) ids items whole;
  }

  module _ (s t : State) (x : List ℕ × ⊤) (left : List (List ℕ × ⊤)) (adding : Adding s t (x ∷ left)) where
    its_id : fin.contains_key ids x.0 ≡ true
    its_id = ap is_some (is_there (λ id. id) (λ id. fin.contains_key t.pairings id ≡ true) ids x left adding.passed).1

    pub untold : ((r : PairingEntry) → IsPairingOfRows m n x.0 r → ⊥) → HasUntold ids m n
    untold none = record { id = x.0; here = its_id; untold = none }

    module _ (u : State) (r : PairingEntry) (told : IsPairingOfRows m n x.0 r) (free : HasNoHolder r) (made : u ≡ put t (entry.Pairing r)) where
      pairings_are : u.pairings ≡ fin.insert t.pairings x.0 r
      pairings_are = ap (λ (w : State). w.pairings) made ∙ ap (λ k. fin.insert t.pairings k r) told.named

      get_new : (q : List ℕ) → fin.get u.pairings q ≡ cond (eq_by_cmp name_cmp q x.0) (Some r) (fin.get t.pairings q)
      get_new q = ap (λ p. fin.get p q) pairings_are ∙ fin.get-insert nat_list_cmp_total t.pairings x.0 r q

      here : (q : List ℕ) → eq_by_cmp name_cmp q x.0 ≡ true → fin.get u.pairings q ≡ Some r
      here q tied = get_new q ∙ ap (λ b. cond b (Some r) (fin.get t.pairings q)) tied

      elsewhere : (q : List ℕ) → eq_by_cmp name_cmp q x.0 ≡ false → fin.get u.pairings q ≡ fin.get t.pairings q
      elsewhere q apart = get_new q ∙ ap (λ b. cond b (Some r) (fin.get t.pairings q)) apart

      known_now : (q : List ℕ) (v : PairingEntry) → fin.get u.pairings q ≡ Some v → IsPairingOf ids m n q v
      known_now q v e = elim (cases_Bool (eq_by_cmp name_cmp q x.0)) [
        | inl tied ↦
            let value : r ≡ v = some_same (sym (here q tied) ∙ e) in
            let it : IsPairingOf ids m n x.0 r = record { of_id = its_id; told = told; free = free } in
            subst (λ k. IsPairingOf ids m n k v) (sym (alike q x.0 tied)) (subst (IsPairingOf ids m n x.0) value it)
        | inr apart ↦ adding.known q v (sym (elsewhere q apart) ∙ e)
      ]

      kept : (q : List ℕ) → fin.contains_key t.pairings q ≡ true → fin.contains_key u.pairings q ≡ true
      kept q was = elim (cases_Bool (eq_by_cmp name_cmp q x.0)) [ inl tied ↦ ap is_some (here q tied) | inr apart ↦ ap is_some (elsewhere q apart) ∙ was ]

      pub one_added : Adding s u left
      one_added = record {
        same = made ∙ (λ i. record (adding.same i) { pairings = fin.insert t.pairings r.plan.id r })
            ∙ (λ i. record s { pairings = (ap (λ k. fin.insert t.pairings k r) told.named ∙ sym pairings_are) i });
        known = known_now;
        passed = next_passed (λ id. id) (λ id. fin.contains_key u.pairings id ≡ true) ids x left
            (passed_more (λ id. id) (λ id. fin.contains_key t.pairings id ≡ true) (λ id. fin.contains_key u.pairings id ≡ true) ids (x ∷ left) kept adding.passed)
            (ap is_some (here x.0 (itself x.0 x.0 refl)));
      }

  pub all_added : (s t : State) (left : List (List ℕ × ⊤)) → left ≡ [] → Adding s t left → PairingsRead ids m n s t
  all_added s t left none adding = record {
    same = adding.same;
    known = adding.known;
    all = λ id e.
        let it = has_value (fin.get ids id) e in
        all_passed (λ id. id) (λ id. fin.contains_key t.pairings id ≡ true) ids (λ i j same. same) left none adding.passed id it.0 it.1;
  }

-- ---- The table `pairing`

module _ (s : State) (db : Database) (above : IsCrewRight s db) (ids : Ids) (has : HasIds db ids) where
  -- it is right with whatever pairings have these ids
  pub kept_pairings : (pairings : fin.FinMap name_cmp PairingEntry) → ((id : List ℕ) → fin.contains_key pairings id ≡ true → fin.contains_key ids id ≡ true) →
      ((id : List ℕ) → fin.contains_key ids id ≡ true → fin.contains_key pairings id ≡ true) → IsPairingRight (record s { pairings = pairings }) db
  kept_pairings pairings of_id of_pairing = (
    above,
    (
      has.there,
      λ row. (
        λ h.
            let it = (has.rows row).0 h in
            let there = has_value (fin.get pairings it.0) (of_pairing it.0 it.1) in
            (record { name = it.0; value = there.0; there = there.1 }, it.2),
        λ it. (has.rows row).1 (it.0.name, of_id it.0.name (ap is_some it.0.there), it.1),
      ),
    ),
    λ id r e. has.shaped id (of_id id (ap is_some e)),
  )

-- so with bare ones
abbrev bare : List ℕ → PairingEntry
bare id = record { plan = record { id = id; periods = [] }; actuals = []; captain = None; first_officer = None }

abbrev bare_pairings : Ids → fin.FinMap name_cmp PairingEntry
bare_pairings ids = fin.from_entries (map (λ e. (e.0, bare e.0)) (fin.entries ids))

same_keys : (es : List (List ℕ × ⊤)) (q : List ℕ) → is_some (fin.find name_cmp q (map (λ e. (e.0, bare e.0)) es)) ≡ is_some (fin.find name_cmp q es)
same_keys [] q = refl
same_keys (e ∷ es) q = elim (cases_Bool (eq_by_cmp name_cmp q e.0)) [ inl tied ↦ rw tied refl | inr apart ↦ rw apart (same_keys es q) ]

bare_known : (ids : Ids) (id : List ℕ) → fin.contains_key (bare_pairings ids) id ≡ fin.contains_key ids id
bare_known ids id =
    ap is_some (fin.get-from_entries nat_list_cmp_total (map (λ e. (e.0, bare e.0)) (fin.entries ids)) id)
    ∙ same_keys (fin.entries ids) id ∙ ap is_some (sym (fin.get-entries ids id))

pub some_right : (s : State) (db : Database) → IsCrewRight s db → (ids : Ids) → HasIds db ids → IsPairingRight (record s { pairings = bare_pairings ids }) db
some_right s db above ids has =
    kept_pairings s db above ids has (bare_pairings ids) (λ id e. sym (bare_known ids id) ∙ e) (λ id e. bare_known ids id ∙ e)

-- ---- Which table is the first that is damaged, and when none is

module _ (s : State) (db : Database) (above : AgreesThrough crew s db) where
  pub ids_wrong : (AreIds db → ⊥) → IsDamaged pairing db
  ids_wrong wrong = record {
    book = above.book;
    version = above.version;
    above = (s, above.right);
    damaged = λ right. wrong (
      right.1.1.0,
      λ row h.
          let it = (right.1.1.1 row).0 h in
          (it.0.name, it.1, right.1.2 it.0.name it.0.value it.0.there),
    );
  }

  module _ (ids : Ids) (has : HasIds db ids) where
    pub periods_wrong : (IsPeriodTable db → ⊥) → IsDamaged period db
    periods_wrong wrong = record {
      book = above.book;
      version = above.version;
      above = (record s { pairings = bare_pairings ids }, some_right s db above.right ids has);
      damaged = λ right. wrong (right.1.1, right.1.2);
    }

    module _ (m : Periods) (periods : HasPeriods db m) where
      damaged : (AreRight segment db → ⊥) → IsDamaged segment db
      damaged wrong = record {
        book = above.book;
        version = above.version;
        above = (record s { pairings = bare_pairings ids }, (some_right s db above.right ids has, periods.right.0, periods.right.1));
        damaged = wrong;
      }

      pub segments_wrong : (IsSegmentTable db → ⊥) → IsDamaged segment db
      segments_wrong wrong = damaged (λ right. wrong (segments_fit right.0 db right.1))

      module _ (n : Segments) (segments : HasSegmentsOf db m n) where
        pub untold_wrong : HasUntold ids m n → IsDamaged segment db
        untold_wrong it = damaged (λ right.
            let t = right.0 in
            let at = (right.1.0.0.1.1 (row_of_pairing it.id)).0 ((has.rows (row_of_pairing it.id)).1 (it.id, it.here, refl)) in
            let same : it.id ≡ at.0.name = text_is (ap (λ (r : Row). column r 0) at.1) in
            let periods_same : (row : Row) → PeriodRows m row ↔ InPeriod t row = λ row. (λ h. (right.1.1 row).0 ((periods.rows row).1 h), λ h. (periods.rows row).0 ((right.1.1 row).1 h)) in
            let segments_same : (row : Row) → SegmentRows n row ↔ InSegment t row = λ row. (λ h. (right.1.2.1 row).0 ((segments.rows row).1 h), λ h. (segments.rows row).0 ((right.1.2.1 row).1 h)) in
            let told = state_told t m n periods.keyed segments.keyed periods_same segments_same at.0.name at.0.value at.0.there (right.1.3 at.0.name at.0.value at.0.there) in
            it.untold at.0.value (subst (λ k. IsPairingOfRows m n k at.0.value) (sym same) told))

        module _ (t : State) (read : PairingsRead ids m n s t) where
          told : (id : List ℕ) (r : PairingEntry) → fin.get t.pairings id ≡ Some r → IsPairingOfRows m n id r
          told id r e = (read.known id r e).told

          of_pairing : (it : PeriodRecord) → fin.get m (period_name it.pairing it.number) ≡ Some it → (r : PairingEntry) × (fin.get t.pairings it.pairing ≡ Some r)
          of_pairing it e =
              let is = periods.right.1 (period_row it) ((periods.rows (period_row it)).1 (it, e, refl)) in
              let same : it.pairing ≡ is.it.pairing = text_is (ap (λ (r : Row). column r 0) is.is) in
              has_value (fin.get t.pairings it.pairing)
              (read.all it.pairing (ap (fin.contains_key ids) same ∙ of_row db ids has is.it.pairing is.of_pairing))

          of_period_here : (it : SegmentRecord) → fin.get n (segment_name it.pairing it.period it.number) ≡ Some it → (p : PeriodRecord) × (fin.get m (period_name it.pairing it.period) ≡ Some p)
          of_period_here it e = has_value (fin.get m (period_name it.pairing it.period)) (segments.of_periods (segment_name it.pairing it.period it.number) it e)

          pub all_right : AgreesThrough segment t db
          all_right =
              let period_rows = periods_are t m n periods.keyed segments.keyed told of_pairing of_period_here in
              let segment_rows = segments_are t m n periods.keyed segments.keyed told of_pairing of_period_here in
              record {
                stored = (segments.stored, (periods.stored, (has.stored, above.stored)));
                book = above.book;
                version = above.version;
                right = (
                  (
                    subst (λ u. IsPairingRight u db) (sym read.same) (kept_pairings s db above.right ids has t.pairings
                        (λ id e. let it = has_value (fin.get t.pairings id) e in (read.known id it.0 it.1).of_id) read.all),
                    periods.right.0,
                    periods.right.1,
                  ),
                  λ row. (λ h. (period_rows row).0 ((periods.rows row).0 h), λ h. (periods.rows row).1 ((period_rows row).1 h)),
                  (segments.there, λ row. (λ h. (segment_rows row).0 ((segments.rows row).0 h), λ h. (segments.rows row).1 ((segment_rows row).1 h))),
                  λ id r e. told_planned m n periods.keyed segments.keyed id r (told id r e),
                );
              }

-- ---- The call

refuses : {A B : Type 0} (Is : A → Type 0) (Tells : B → Type 0) (its : name.TableName) (Why : Type 0) (old new : conn.State) (fault : LoadFault) → ReadsAs Is (BlamesOrFails its Why) old new (Err fault) →
    (HasCleanDisk new → Why → IsDamaged (state_table its) old.now) → ReadsAs Tells (λ f. Justifies f old.now) old new (Err fault)
refuses Is Tells its Why old new fault saw damaged = record {
  told = λ clean. of_blame its Why old.now (damaged clean) fault (saw.told clean);
  caused = saw.caused;
  left = saw.left;
}

abbrev pub SawIds : conn.State → conn.State → Result Ids LoadFault → Type 0
SawIds old new = ReadsAs (HasIds old.now) (BlamesOrFails table_name.Pairing (AreIds old.now → ⊥)) old new

abbrev pub SawPeriods : conn.State → conn.State → Result Periods LoadFault → Type 0
SawPeriods old new = ReadsAs (HasPeriods old.now) (BlamesOrFails table_name.Period (IsPeriodTable old.now → ⊥)) old new

abbrev pub SawSegments : Periods → conn.State → conn.State → Result Segments LoadFault → Type 0
SawSegments m old new = ReadsAs (HasSegmentsOf old.now m) (BlamesOrFails table_name.Segment (IsSegmentTable old.now → ⊥)) old new

module _ (s : State) (old : conn.State) (above : HasCleanDisk old → AgreesThrough crew s old.now) where
  abbrev pub Now : State → Type 0
  Now r = AgreesThrough segment r old.now × (r ≡ record s { pairings = r.pairings }) × HaveNoHolders r

  abbrev pub Reads : conn.State → Result State LoadFault → Type 0
  Reads new result = ReadsAs Now (λ f. Justifies f old.now) old new result

  pub no_ids : (new : conn.State) (fault : LoadFault) → SawIds old new (Err fault) → Reads new (Err fault)
  no_ids new fault saw = refuses (HasIds old.now) Now table_name.Pairing (AreIds old.now → ⊥) old new fault saw (λ clean. ids_wrong s old.now (above (clean_before old new saw.left clean)))

  module _ (ids : Ids) (one : conn.State) (first : SawIds old one (Ok ids)) where
    up : HasCleanDisk one → AgreesThrough crew s old.now
    up clean = above (clean_before old one first.left clean)

    pub no_periods : (new : conn.State) (fault : LoadFault) → SawPeriods one new (Err fault) → Reads new (Err fault)
    no_periods new fault second =
        let saw = then_saw (HasIds old.now) (BlamesOrFails table_name.Pairing (AreIds old.now → ⊥)) HasPeriods (λ db. BlamesOrFails table_name.Period (IsPeriodTable db → ⊥)) ids old one new (Err fault) first second in
        refuses (HasPeriods old.now) Now table_name.Period (IsPeriodTable old.now → ⊥) old new fault saw (λ clean.
        let before = clean_before one new second.left clean in
        periods_wrong s old.now (up before) ids (first.told before).1)

    module _ (m : Periods) (two : conn.State) (second : SawPeriods one two (Ok m)) where
      both : SawPeriods old two (Ok m)
      both = then_saw (HasIds old.now) (BlamesOrFails table_name.Pairing (AreIds old.now → ⊥)) HasPeriods (λ db. BlamesOrFails table_name.Period (IsPeriodTable db → ⊥)) ids old one two (Ok m) first second

      pub no_segments : (new : conn.State) (fault : LoadFault) → SawSegments m two new (Err fault) → Reads new (Err fault)
      no_segments new fault third =
          let saw = then_saw (HasPeriods old.now) (BlamesOrFails table_name.Period (IsPeriodTable old.now → ⊥)) (λ db. HasSegmentsOf db m) (λ db. BlamesOrFails table_name.Segment (IsSegmentTable db → ⊥)) m old two new (Err fault) both third in
          refuses (HasSegmentsOf old.now m) Now table_name.Segment (IsSegmentTable old.now → ⊥) old new fault saw (λ clean.
          let later = clean_before two new third.left clean in
          let before = clean_before one two second.left later in
          segments_wrong s old.now (up before) ids (first.told before).1 m (both.told later).1)

      module _ (n : Segments) (new : conn.State) (third : SawSegments m two new (Ok n)) where
        all : SawSegments m old new (Ok n)
        all = then_saw (HasPeriods old.now) (BlamesOrFails table_name.Period (IsPeriodTable old.now → ⊥)) (λ db. HasSegmentsOf db m) (λ db. BlamesOrFails table_name.Segment (IsSegmentTable db → ⊥)) m old two new (Ok n) both third

        pub are_read : (result : Result State LoadFault) → MatchResult result (PairingsRead ids m n s) (Blames table_name.Segment (HasUntold ids m n)) → Reads new result
        are_read (Ok r) read = record {
          told = λ clean.
              let later = clean_before two new third.left clean in
              let before = clean_before one two second.left later in
              let it = all.told clean in (
                it.0,
                (all_right s old.now (up before) ids (first.told before).1 m (both.told later).1 n it.1 r read, read.same, λ id x e. (read.known id x e).free),
              );
          caused = λ clean. tt;
          left = all.left;
        }
        are_read (Err fault) blame = record {
          told = λ clean.
              let later = clean_before two new third.left clean in
              let before = clean_before one two second.left later in
              of_blame table_name.Segment (HasUntold ids m n) old.now (untold_wrong s old.now (up before) ids (first.told before).1 m (both.told later).1 n (all.told clean).1) fault (or_fails table_name.Segment (HasUntold ids m n) fault blame);
          caused = λ clean. uncaused old new table_name.Segment (HasUntold ids m n) fault blame;
          left = all.left;
        }

-- no seat is held in what was read
pub none_held : (ids : Ids) (m : Periods) (n : Segments) (s : State) (Why : LoadFault → Type 0) (result : Result State LoadFault) → MatchResult result (PairingsRead ids m n s) Why → IfOk result HaveNoHolders
none_held ids m n s Why (Ok t) read = λ id r here. (read.known id r here).free
none_held ids m n s Why (Err fault) read = tt
