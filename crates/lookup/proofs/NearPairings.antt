-- What the reads of near pairings say, one after the other.
use Rattle.std.proofs.Common.{◌≡◌, refl, sym, ap, subst, ◌∙◌, inl, inr, ℕ, ◌+◌, ◌<◌, ◌≤◌, List, [], ◌∷◌, ◌++◌, length, get_or, map, take, Result, Ok, Err, None, Some}
use Rattle.std.specs.FinMap as fin
use Rattle.std.specs.List.{dedup}
use Rattle.std.specs.Prelude.{IsPermutation}
use Rattle.std.specs.Str.{bytes_eq}
use Rattle.values.specs.Name.{name_cmp}
use Rattle.std.proofs.lemmas.List.{map-append, take_all, take_more}
use Rattle.std.proofs.lemmas.List.Elements.{Contains-push_cases}
use Rattle.sqlite_value.specs.declared.value.Value.TheVariants.{Text}
use Rattle.sqlite_rules.specs.Lists.{Has}
use Rattle.sqlite.specs.Effect.{Database}
use Rattle.sqlite.specs.State.{State, HasCleanDisk, IsUnchanged}
use Rattle.duty.specs.declared.span.Span.{Span}
use Rattle.roster.proofs.Members.{none_in}
use Rattle.roster.specs.Holding.{AreJust}
use Rattle.roster.specs.Near.{AreHeldNear, AreThere, IsHeldNear, ids_of, with_free_seats}
use Rattle.roster.specs.State as roster
use Rattle.roster.specs.declared.state.PairingEntry.{PairingEntry}
use Rattle.tables.specs.Held.{FindsHeld}
use Rattle.tables.specs.Records.{period_row, segment_row}
use Rattle.tables.specs.Rows.{Finds, begins_with}
use Rattle.tables.specs.declared.period.PeriodRecord.{PeriodRecord}
use Rattle.tables.specs.declared.segment.SegmentRecord.{SegmentRecord}
use Rattle.state_rows.specs.Kept.{IsBookOf}
use Rattle.state_rows.specs.Outcomes.{IsOutside}
use Rattle.state_rows.specs.Rows.{table, period, segment}
use Rattle.state_rows.specs.declared.fault.StoreFault.{StoreFault}
use Rattle.state_rows.specs.declared.fault.StoreFault.TheVariants.{Memory, Store}
use Rattle.entries.specs.OnePairing.{GiveNoPairing, IsToldBy}
use Rattle.lookup.specs.Near.{AreKnownSo, AreWithoutHolders, HasNoInstants, HasPeriodRows, HavePeriodRows, IsWithoutHolders, ReadsKnown, ids_near, records_of}
use Rattle.lookup.specs.Reads.{IsCausedIfStore, ReadsByKey, Shows, Stays}
use Rattle.lookup.proofs.Causes.{cause_then, shows_on, wrong_there}
use Rattle.lookup.proofs.Changes.{of_stays}
use Rattle.lookup.proofs.NearLemmas.{has_instants, have_periods, held_in_order, once_near}
use Rattle.lookup.proofs.PlanLemmas.{first_row, has_record, plan_is}
use Rattle.lookup.proofs.PlanReads.{stays_on}
use Rattle.lookup.proofs.ReadLemmas.{AreOf, are_of, at_rest}
use Rattle.lookup.proofs.Unread.{not_unread}

-- ---- One pairing

pub not_free : {A : Type 0} (AreKnown : roster.State → Type 0) (Is : roster.State → A → Type 0) (old new : State) (fault : StoreFault) →
    Stays old new → IsCausedIfStore old new fault → ReadsKnown AreKnown Is old new (Err fault)
not_free AreKnown Is old new fault stays caused = record { stays = stays; opened = tt; told = λ clean s shows known. tt; caused = λ s shows known. caused }

module _ (id : List ℕ) (periods : List PeriodRecord) where
  -- the records at hand are the rows of the table with this id
  of_table : (s : roster.State) (db : Database) → IsBookOf s db → HasPeriodRows s id periods → AreOf period (begins_with (Text id ∷ [])) db (map period_row periods)
  of_table s db book known = record {
    there = λ row h. let it = (known.rows row).0 h in ((book.rows period row).1 it.0, it.1);
    here = λ row h pass. (known.rows row).1 ((book.rows period row).0 h, pass);
  }

  module _ (segments : List SegmentRecord) (old new : State) (left : Stays old new)
      (read : HasCleanDisk new → IsUnchanged old new × Finds (table segment) (begins_with (Text id ∷ [])) old.now (map segment_row segments)) where
    abbrev pub IsReadFree : Result PairingEntry StoreFault → Type 0
    IsReadFree = ReadsKnown (λ s. HasPeriodRows s id periods) (λ s. IsWithoutHolders s id) old new

    is_book : HasCleanDisk new → (s : roster.State) → Shows old s → IsBookOf s old.now
    is_book clean s shows = shows.book (left.nothing_new.disk clean) (read clean).0.0.was_open

    segments_of_table : HasCleanDisk new → AreOf segment (begins_with (Text id ∷ [])) old.now (map segment_row segments)
    segments_of_table clean = are_of segment (begins_with (Text id ∷ [])) old.now (map segment_row segments) (read clean).1

    pub free_told : (free : PairingEntry) → IsToldBy id periods segments free → free.captain ≡ None → free.first_officer ≡ None → IsReadFree (Ok free)
    free_told free told captain first_officer = record {
      stays = left;
      opened = λ _ clean. (read clean).0.0.is_open;
      told = λ clean s shows known.
          let r = known.pairing in
          let book = is_book clean s shows in
          let same = plan_is s shows.sound old.now book id periods segments (of_table s old.now book known) (segments_of_table clean) r free known.there told in
          record {
            named = ap (λ p. p.id) (sym same.plan) ∙ (shows.sound.pairings id r known.there).named;
            pairing = r;
            there = known.there;
            same = λ i. record { plan = sym same.plan i; actuals = sym same.actuals i; captain = captain i; first_officer = first_officer i };
          };
      caused = tt;
    }

    pub free_untold : (fault : StoreFault) → (fault ≡ Store → GiveNoPairing id periods segments) → IsReadFree (Err fault)
    free_untold fault untold = record {
      stays = left;
      opened = tt;
      told = λ clean s shows known. tt;
      caused = λ s shows known clean is. wrong_there old new (λ right.
          let book = is_book clean s shows in
          let first = first_row s shows.sound old.now book id known.pairing known.there in
          let it = has_record period_row periods first.0 ((known.rows first.0).1 (first.1, first.2)) in
          let here = subst (Has (map period_row periods)) (sym it.3) ((known.rows first.0).1 (first.1, first.2)) in
          not_unread s shows.sound old.now book right id periods segments (of_table s old.now book known) (segments_of_table clean) it.1 here (untold is));
    }

-- ---- One pairing that may be known

module _ (given : fin.FinMap name_cmp PairingEntry) (id : List ℕ) (periods : List PeriodRecord) (a : State) where
  abbrev pub IsReadOrKnown : State → Result PairingEntry StoreFault → Type 0
  IsReadOrKnown = ReadsKnown (λ s. HasPeriodRows s id periods) (λ s free. AreKnownSo s given → IsWithoutHolders s id free) a

  -- what is known is copied
  pub copied : IsOutside a → (some free : PairingEntry) → fin.get given id ≡ Some some → free ≡ with_free_seats some → IsReadOrKnown a (Ok free)
  copied outside some free there is = record {
    stays = at_rest a outside;
    opened = λ opened clean. opened;
    told = λ clean s shows of_periods so.
        let it = so id some there in
        let same : free ≡ with_free_seats it.0 = is ∙ it.2 in
        record { named = ap (λ (r : PairingEntry). r.plan.id) same ∙ (shows.sound.pairings id it.0 it.1).named; pairing = it.0; there = it.1; same = same };
    caused = tt;
  }

  pub not_copied : IsOutside a → (fault : StoreFault) → fault ≡ Memory → IsReadOrKnown a (Err fault)
  not_copied outside fault memory = record {
    stays = at_rest a outside;
    opened = tt;
    told = λ clean s shows of_periods. tt;
    caused = λ s shows of_periods clean is. absurd (let no : Memory ≡ Store = sym memory ∙ is in cc);
  }

  -- and what is read is so, whatever is known
  pub read_anyway : (b : State) (result : Result PairingEntry StoreFault) → ReadsKnown (λ s. HasPeriodRows s id periods) (λ s. IsWithoutHolders s id) a b result → IsReadOrKnown b result
  read_anyway b (Ok free) read = record { stays = read.stays; opened = read.opened; told = λ clean s shows of_periods so. read.told clean s shows of_periods; caused = tt }
  read_anyway b (Err fault) read = record { stays = read.stays; opened = tt; told = λ clean s shows of_periods. tt; caused = read.caused }

-- ---- One pairing after the other

module _ {A : Type 0} (found_in : A → List PairingEntry) (given : fin.FinMap name_cmp PairingEntry) (ids : List (List ℕ)) (records : List PeriodRecord) where
  -- the pairings of so many of the ids are read
  abbrev pub AreRead : ℕ → State → State → Result A StoreFault → Type 0
  AreRead n = ReadsKnown (λ s. HavePeriodRows s ids records) (λ s found. AreKnownSo s given → AreWithoutHolders s (take n ids) (found_in found))

  pub none_read : (a : State) (found : A) → IsOutside a → found_in found ≡ [] → AreRead 0 a a (Ok found)
  none_read a found outside none = record {
    stays = at_rest a outside;
    opened = λ opened clean. opened;
    told = λ clean s shows known so. subst (AreWithoutHolders s []) (sym none) (refl, λ free c. absurd (none_in free c));
    caused = tt;
  }

  abbrev IsReadOf : List ℕ → State → State → Result PairingEntry StoreFault → Type 0
  IsReadOf id = ReadsKnown (λ s. HasPeriodRows s id (records_of id records)) (λ s free. AreKnownSo s given → IsWithoutHolders s id free)

  module _ (n : ℕ) (id : List ℕ) (within : n < length ids) (at : id ≡ get_or ids n id) (a b c : State) (found : A) (before : AreRead n a b (Ok found)) where
    its_periods : (s : roster.State) → HavePeriodRows s ids records → HasPeriodRows s id (records_of id records)
    its_periods s known = known id (n, within, sym at)

    its_shown : (s : roster.State) → Shows a s → Shows b s
    its_shown s shows = shows_on a b s (of_stays a b before.stays) shows

    pub one_more : (free : PairingEntry) (more : A) → IsReadOf id b c (Ok free) → found_in more ≡ found_in found ++ free ∷ [] → AreRead (n + 1) a c (Ok more)
    one_more free more read pushed = record {
      stays = stays_on a b c before.stays read.stays;
      opened = λ opened clean. read.opened (before.opened opened (read.stays.nothing_new.disk clean)) clean;
      told = λ clean s shows known so.
          let was = before.told (read.stays.nothing_new.disk clean) s shows known so in
          let is = read.told clean s (its_shown s shows) (its_periods s known) so in
          let ids_are : ids_of (found_in found ++ free ∷ []) ≡ take (n + 1) ids =
          map-append (λ (r : PairingEntry). r.plan.id) (found_in found) (free ∷ []) ∙ (λ i. was.0 i ++ (is.named ∙ at) i ∷ []) ∙ sym (take_more ids n id within) in
          let there : AreThere s (found_in found ++ free ∷ []) = λ r h. elim (Contains-push_cases (found_in found) free r h) [
            | inl earlier ↦ was.1 r earlier
            | inr same ↦ (is.pairing, ap (λ (q : PairingEntry). fin.get s.pairings q.plan.id) (sym same) ∙ ap (fin.get s.pairings) is.named ∙ is.there, sym same ∙ is.same)
          ] in
          subst (AreWithoutHolders s (take (n + 1) ids)) (sym pushed) (ids_are, there);
      caused = tt;
    }

    pub one_fails : (Is : roster.State → A → Type 0) (fault : StoreFault) → IsReadOf id b c (Err fault) → ReadsKnown (λ s. HavePeriodRows s ids records) Is a c (Err fault)
    one_fails Is fault read = record {
      stays = stays_on a b c before.stays read.stays;
      opened = tt;
      told = λ clean s shows known. tt;
      caused = λ s shows known clean is.
          cause_then a b c (of_stays a b before.stays) (of_stays b c read.stays) clean (read.caused s (its_shown s shows) (its_periods s known) clean is);
    }

    pub no_room : (Is : roster.State → A → Type 0) (free : PairingEntry) (fault : StoreFault) → IsReadOf id b c (Ok free) → fault ≡ Memory → ReadsKnown (λ s. HavePeriodRows s ids records) Is a c (Err fault)
    no_room Is free fault read memory = record {
      stays = stays_on a b c before.stays read.stays;
      opened = tt;
      told = λ clean s shows known. tt;
      caused = λ s shows known clean is. absurd (let no : Memory ≡ Store = sym memory ∙ is in cc);
    }

  pub all_read : (n : ℕ) (a b : State) (found : A) → length ids ≤ n → AreRead n a b (Ok found) → ReadsKnown (λ s. HavePeriodRows s ids records) (λ s found. AreKnownSo s given → AreWithoutHolders s ids (found_in found)) a b (Ok found)
  all_read n a b found all read =
      subst (λ (l : List (List ℕ)). ReadsKnown (λ s. HavePeriodRows s ids records) (λ s found. AreKnownSo s given → AreWithoutHolders s l (found_in found)) a b (Ok found)) (take_all n ids all) read

-- ---- Those that a member holds and that are near

module _ {A : Type 0} (found_in : A → List PairingEntry) (given : fin.FinMap name_cmp PairingEntry) (who : List ℕ) (spans : List Span) (held records : List PeriodRecord) (a b : State) (left : Stays a b)
    (read : HasCleanDisk b → IsUnchanged a b × FindsHeld who a.now (map period_row held)) (moved : IsPermutation held records) where
  abbrev IsNearRead : State → Result A StoreFault → Type 0
  IsNearRead = ReadsByKey (λ s found. AreKnownSo s given → AreHeldNear s spans who (found_in found)) a

  finds : HasCleanDisk b → FindsHeld who a.now (map period_row records)
  finds clean = held_in_order who a.now held records (read clean).1 moved

  near_book : HasCleanDisk b → (s : roster.State) → Shows a s → IsBookOf s a.now
  near_book clean s shows = shows.book (left.nothing_new.disk clean) (read clean).0.0.was_open

  pub none_near : (fault : StoreFault) → (fault ≡ Store → HasNoInstants records) → IsNearRead b (Err fault)
  none_near fault untold = record {
    stays = left;
    opened = tt;
    told = λ clean s shows. tt;
    caused = λ s shows clean is. wrong_there a b (λ right. has_instants a.now right who records (finds clean) (untold is));
  }

  module _ (ids near : List (List ℕ)) (once : ids ≡ dedup bytes_eq near) (told : near ≡ ids_near spans records) (c : State) where
    known : HasCleanDisk b → (s : roster.State) → Shows a s → HavePeriodRows s ids records
    known clean s shows = subst (λ l. HavePeriodRows s l records) (sym (once ∙ ap (dedup bytes_eq) told)) (have_periods s a.now (near_book clean s shows) who records (finds clean) spans)

    pub near_read : (result : Result A StoreFault) → ReadsKnown (λ s. HavePeriodRows s ids records) (λ s found. AreKnownSo s given → AreWithoutHolders s ids (found_in found)) b c result → IsNearRead c result
    near_read (Ok found) free = record {
      stays = stays_on a b c left free.stays;
      opened = λ clean. free.opened (read (free.stays.nothing_new.disk clean)).0.0.is_open clean;
      told = λ clean s shows.
          let clean_b = free.stays.nothing_new.disk clean in
          let shows_b = shows_on a b s (of_stays a b left) shows in
          let them = free.told clean s shows_b (known clean_b s shows) in (
            shows_on b c s (of_stays b c free.stays) shows_b,
            λ so.
                let it = them so in
                (subst (AreJust (IsHeldNear s spans who)) (sym (it.0 ∙ once ∙ ap (dedup bytes_eq) told)) (once_near s a.now (near_book clean_b s shows) who records (finds clean_b) spans), it.1),
          );
      caused = tt;
    }
    near_read (Err fault) free = record {
      stays = stays_on a b c left free.stays;
      opened = tt;
      told = λ clean s shows. tt;
      caused = λ s shows clean is.
          let clean_b = free.stays.nothing_new.disk clean in
          let shows_b = shows_on a b s (of_stays a b left) shows in
          cause_then a b c (of_stays a b left) (of_stays b c free.stays) clean (free.caused s shows_b (known clean_b s shows) clean is);
    }
