-- What is read of a request and of ground duties is the state's.
use Rattle.std.proofs.Common.{◌≡◌, inl, inr, refl, sym, ap, subst, ◌∙◌, ℕ, pos, Bool, true, List, [], ◌∷◌, map, Contains, Result, Ok, Err, Option, Some, None, IfOk}
use Rattle.std.specs.FinMap as fin
use Rattle.std.specs.Ordering.{is_eq}
use Rattle.std.proofs.lemmas.Cmp.{tied_itself}
use Rattle.std.proofs.lemmas.Slice.Eq.{bytes_eq-Decides}
use Rattle.sqlite_value.specs.Order.{Row, column, value_cmp}
use Rattle.sqlite_value.specs.declared.value.Value.TheVariants.{Int, Text}
use Rattle.sqlite_value.proofs.OrderLemmas.{value_cmp_total}
use Rattle.sqlite_rules.specs.Lists.{Has}
use Rattle.sqlite.specs.Effect.{Database}
use Rattle.sqlite.specs.State.{State, HasCleanDisk, IsUnchanged}
use Rattle.duty.specs.Plans.{GroundPlan}
use Rattle.command.specs.Keys.{KeyParts, key_name}
use Rattle.command.specs.declared.exceedance.Reply.{Reply}
use Rattle.stored_json.specs.KeptText.{kept_text}
use Rattle.stored_json.specs.ReplyText.{reply_text, read_reply}
use Rattle.stored_json.proofs.InstructionsBack.{kept_differ}
use Rattle.stored_json.proofs.ReplyBack.{reply_back}
use Rattle.entries.specs.SameRows.{HasInstants}
use Rattle.roster.proofs.Members.{first_or_later, is_first, is_later, none_in}
use Rattle.roster.specs.Sound.{Sound}
use Rattle.roster.specs.State as roster
use Rattle.roster.specs.declared.state.LoggedCommand.{LoggedCommand}
use Rattle.tables.specs.Records.{ground_row, request_row}
use Rattle.tables.specs.Rows.{Finds, begins_with, equals_at}
use Rattle.tables.specs.declared.ground.GroundRecord.{GroundRecord}
use Rattle.tables.specs.declared.request.RequestRecord.{RequestRecord}
use Rattle.state_rows.specs.Rows.{table, ground_duty, request, row_of_ground, row_of_request, At, RequestAt}
use Rattle.state_rows.proofs.Tests.{found, passes}
use Rattle.state_rows.proofs.Values.{number_is, text_is}
use Rattle.state_rows.specs.Kept.{IsBookOf}
use Rattle.state_rows.specs.Outcomes.{CrashAddsNothing}
use Rattle.roster.specs.Holding.{AreJust, IsGroundOf}
use Rattle.lookup.specs.Reads.{Shows}
use Rattle.lookup.specs.Entries.{HasFirstRequest, HasFirstGround, ground_told, ground_ids_in}
use Rattle.lookup.proofs.HeldLemmas.{text_same}
use Rattle.lookup.proofs.ReadLemmas.{in_found, of_found}

pub shown_still : (old new : State) (s : roster.State) → IsUnchanged old new → CrashAddsNothing old new → Shows old s → Shows new s
shown_still old new s same left shows = record {
  sound = shows.sound;
  instants = shows.instants;
  book = λ now opened. subst (λ (db : Database). IsBookOf s db) (sym same.0.now_is) (shows.book (left.disk now) same.0.was_open);
}

-- what the records give, as the state's, once they are those of the tables that show it
pub is_told : {A E : Type 0} (P : A → Type 0) (Is : roster.State → A → Type 0) (old new : State) (s : roster.State) (result : Result A E) → HasCleanDisk new →
    IsUnchanged old new → CrashAddsNothing old new → Shows old s → (IsBookOf s old.now → (a : A) → P a → Is s a) → IfOk result P → IfOk result (λ a. Shows new s × Is s a)
is_told P Is old new s (Err fault) clean same left shows means told = tt
is_told P Is old new s (Ok a) clean same left shows means told =
    (shown_still old new s same left shows, means (shows.book (left.disk clean) same.0.was_open) a told)

pub replies_same : (a b : Reply) → reply_text a ≡ reply_text b → a ≡ b
replies_same a b e = let same : ◌≡◌ {A = Result Reply _} (Ok a) (Ok b) = sym (reply_back a) ∙ ap read_reply e ∙ reply_back b in cc

-- ---- A request

module _ (s : roster.State) (sound : Sound s) (instants : HasInstants s) (db : Database) (is_book : IsBookOf s db) (key : KeyParts) where
  abbrev by_key : Row → Bool
  by_key = begins_with (Int (pos key.number) ∷ Int (pos key.part) ∷ [])

  none_there : (o : Option LoggedCommand) → fin.get s.requests (key_name key) ≡ o → Finds (table request) by_key db [] → o ≡ None
  none_there None here finds = refl
  none_there (Some r) here finds =
      let row = row_of_request key r in
      let at : RequestAt s.requests = record { key = key; kept = r; there = here } in
      absurd (in_found request by_key db [] finds row ((is_book.rows request row).1 (at, refl)) (passes (Int (pos key.number) ∷ Int (pos key.part) ∷ []) row (refl, (refl, tt))))

  pub request_is : (records : List RequestRecord) → Finds (table request) by_key db (map request_row records) → (answer : Option LoggedCommand) → HasFirstRequest records answer →
      answer ≡ fin.get s.requests (key_name key)
  request_is [] finds answer first = first ∙ sym (none_there (fin.get s.requests (key_name key)) refl finds)
  request_is (row ∷ rows) finds answer first =
      let r = first.0 in
      let texts = first.2 in
      let there = of_found request by_key db (map request_row (row ∷ rows)) finds (request_row row) (inl refl) in
      let at = (is_book.rows request (request_row row)).0 there.0 in
      let at_column = λ (k : ℕ). ap (λ (x : Row). column x k) at.1 in
      let test = found (Int (pos key.number) ∷ Int (pos key.part) ∷ []) (request_row row) (tt, tt, (tt, tt, tt)) there.1 in
      let number : key.number ≡ at.0.key.number = number_is (sym test.0 ∙ at_column 0) in
      let part : key.part ≡ at.0.key.part = number_is (sym test.1.0 ∙ at_column 1) in
      let same_key : key_name key ≡ key_name at.0.key = λ i. number i ∷ part i ∷ [] in
      let command_text : kept_text r.command ≡ kept_text at.0.kept.command = texts.command_text ∙ text_is (at_column 2) in
      let reply_is : reply_text r.reply ≡ reply_text at.0.kept.reply = texts.reply_text ∙ text_is (at_column 3) in
      let known = sound.requests (key_name at.0.key) at.0.kept at.0.there in
      let command = kept_differ r.command at.0.kept.command texts.command (known.made, instants _ at.0.kept at.0.there) command_text in
      let same : r ≡ at.0.kept = λ i. record { command = command i; reply = replies_same r.reply at.0.kept.reply reply_is i } in
      first.1 ∙ ap Some same ∙ sym (ap (fin.get s.requests) same_key ∙ at.0.there)

-- ---- Ground duties

module _ (s : roster.State) (sound : Sound s) (db : Database) (is_book : IsBookOf s db) where
  module _ (id : List ℕ) where
    abbrev by_id : Row → Bool
    by_id = begins_with (Text id ∷ [])

    none_planned : (o : Option GroundPlan) → fin.get s.grounds id ≡ o → Finds (table ground_duty) by_id db [] → o ≡ None
    none_planned None here finds = refl
    none_planned (Some g) here finds =
        let row = row_of_ground id g in
        let at : At s.grounds = record { name = id; value = g; there = here } in
        absurd (in_found ground_duty by_id db [] finds row ((is_book.rows ground_duty row).1 (at, refl)) (passes (Text id ∷ []) row (refl, tt)))

    pub ground_is : (records : List GroundRecord) → Finds (table ground_duty) by_id db (map ground_row records) → (answer : Option GroundPlan) → HasFirstGround records answer →
        answer ≡ fin.get s.grounds id
    ground_is [] finds answer first = first ∙ sym (none_planned (fin.get s.grounds id) refl finds)
    ground_is (row ∷ rows) finds answer first =
        let there = of_found ground_duty by_id db (map ground_row (row ∷ rows)) finds (ground_row row) (inl refl) in
        let at = (is_book.rows ground_duty (ground_row row)).0 there.0 in
        let at_column = λ (k : ℕ). ap (λ (x : Row). column x k) at.1 in
        let same_id : id ≡ at.0.name = sym (text_is (found (Text id ∷ []) (ground_row row) (tt, tt, tt) there.1).0) ∙ text_is (at_column 0) in
        let named = (sound.grounds at.0.name at.0.value at.0.there).named in
        let crew : row.crew ≡ at.0.value.crew = text_is (at_column 1) in
        let task : row.task ≡ at.0.value.task = text_is (at_column 2) in
        let begin : row.begin_at ≡ at.0.value.begin = number_is (at_column 3) in
        let end : row.end_at ≡ at.0.value.end = number_is (at_column 4) in
        let known : row.id ≡ at.0.value.id = text_is (at_column 0) ∙ sym named in
        let same : ground_told row ≡ at.0.value = λ i. record { id = known i; crew = crew i; begin = begin i; end = end i; task = task i } in
        first.0 ∙ ap Some same ∙ sym (ap (fin.get s.grounds) same_id ∙ at.0.there)

  has_row : (records : List GroundRecord) (id : List ℕ) → Contains (ground_ids_in records) id → (it : GroundRecord) × Has (map ground_row records) (ground_row it) × (it.id ≡ id)
  has_row [] id c = absurd (none_in id c)
  has_row (row ∷ rows) id c = elim (first_or_later row.id (ground_ids_in rows) id c) [
    | inl same ↦ (row, inl refl, same)
    | inr later ↦ let it = has_row rows id later in (it.0, inr it.1, it.2)
  ]

  row_id : (records : List GroundRecord) (row : Row) (id : List ℕ) → Has (map ground_row records) row → column row 0 ≡ Text id → Contains (ground_ids_in records) id
  row_id [] row id h first = absurd h
  row_id (x ∷ xs) row id (inl same) first = is_first x.id (ground_ids_in xs) id (text_is (ap (λ (r : Row). column r 0) (sym same) ∙ first))
  row_id (x ∷ xs) row id (inr later) first = is_later x.id (ground_ids_in xs) id (row_id xs row id later first)

  pub grounds_are : (who : List ℕ) (records : List GroundRecord) → Finds (table ground_duty) (equals_at 1 (Text who)) db (map ground_row records) →
      (ids : List (List ℕ)) → ids ≡ ground_ids_in records → AreJust (IsGroundOf s who) ids
  grounds_are who records finds ids are = subst (AreJust (IsGroundOf s who)) (sym are) (λ id. (
    λ c.
        let it = has_row records id c in
        let there = of_found ground_duty (equals_at 1 (Text who)) db (map ground_row records) finds (ground_row it.0) it.1 in
        let at = (is_book.rows ground_duty (ground_row it.0)).0 there.0 in
        let at_column = λ (k : ℕ). ap (λ (x : Row). column x k) at.1 in
        let same_id : id ≡ at.0.name = sym it.2 ∙ text_is (at_column 0) in
        let crew : at.0.value.crew ≡ who = sym (text_is (at_column 1)) ∙ text_same it.0.crew who there.1 in
        (at.0.value, ap (fin.get s.grounds) same_id ∙ at.0.there, (bytes_eq-Decides at.0.value.crew who).1 crew),
    λ is.
        let row = row_of_ground id is.0 in
        let at : At s.grounds = record { name = id; value = is.0; there = is.1 } in
        let crew : is.0.crew ≡ who = (bytes_eq-Decides is.0.crew who).0 is.2 in
        let test : equals_at 1 (Text who) row ≡ true = ap (λ v. is_eq (value_cmp (Text v) (Text who))) crew ∙ ap is_eq (tied_itself value_cmp_total (Text who)) in
        row_id records row id (in_found ground_duty (equals_at 1 (Text who)) db (map ground_row records) finds row ((is_book.rows ground_duty row).1 (at, refl)) test) refl,
  ))
