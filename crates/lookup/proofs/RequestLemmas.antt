-- The requests that are read under a number are the state's.
use Rattle.std.proofs.Common.{◌≡◌, refl, sym, ap, ap₂, subst, ◌∙◌, arith, ℕ, pos, ◌+◌, ◌==◌, Bool, true, false, List, [], ◌∷◌, map, take, length, Option, Some, None, cond, slice_get, slice_index, eqb-true, eq-eqb}
use Rattle.std.specs.FinMap as fin
use Rattle.std.specs.Cmp.Lexicographic.{nat_list_cmp_total}
use Rattle.values.specs.Name.{name_cmp}
use Rattle.values.proofs.Names.{exact_names}
use Rattle.sqlite_value.specs.Order.{Row, column}
use Rattle.sqlite_value.specs.declared.value.Value.TheVariants.{Int}
use Rattle.sqlite.specs.Effect.{Database}
use Rattle.command.specs.Keys.{KeyParts, key_name}
use Rattle.stored_json.specs.KeptText.{kept_text}
use Rattle.stored_json.specs.ReplyText.{reply_text}
use Rattle.stored_json.proofs.InstructionsBack.{kept_differ}
use Rattle.roster.specs.Sound.{Sound}
use Rattle.roster.specs.State as roster
use Rattle.roster.specs.declared.state.LoggedCommand.{LoggedCommand}
use Rattle.tables.proofs.KeyLemmas.{request_once}
use Rattle.tables.specs.Records.{request_row}
use Rattle.tables.specs.Rows.{Finds, begins_with}
use Rattle.tables.specs.declared.request.RequestRecord.{RequestRecord}
use Rattle.state_rows.specs.Rows.{table, request, outside_segment, RequestAt, row_of_request}
use Rattle.state_rows.proofs.Lists.{same_map}
use Rattle.state_rows.proofs.Tests.{found, passes}
use Rattle.state_rows.proofs.Values.{int_is, number_is, text_is}
use Rattle.state_rows.specs.Kept.{IsBookOf}
use Rattle.state_rows.proofs.EachTable.{is_there}
use Rattle.entries.proofs.Mapping.{all_taken, nothing_mapped, next_mapped, mapped_at, mapped_place}
use Rattle.entries.specs.Right.{AreRight, IsKey}
use Rattle.entries.specs.Mapping.{AreOnce, HasStranger, Mapped}
use Rattle.entries.specs.SameRows.{HasInstants}
use Rattle.lookup.specs.Entries.{HasTexts}
use Rattle.lookup.specs.Reads.{HaveNone}
use Rattle.lookup.specs.Requests.{AreKept, CanBeKept, IsUnkept, TellsKept, has_number}
use Rattle.lookup.proofs.EntryLemmas.{replies_same}
use Rattle.lookup.proofs.RightRows.{requests_right}
use Rattle.lookup.proofs.ReadLemmas.{in_found, of_found}

-- ---- Names

pub keys_same : (a b : KeyParts) → key_name a ≡ key_name b → a ≡ b
keys_same a b e =
    let number : a.number ≡ b.number = ap (λ l. slice_index l 0) e in
    let part : a.part ≡ b.part = ap (λ l. slice_index l 1) e in
    λ i. record { number = number i; part = part i }

-- ---- One record

pub kept_is : (row : RequestRecord) (key : KeyParts) (kept : LoggedCommand) → IsKey key → row.number ≡ pos key.number → row.part ≡ key.part → HasTexts row kept → TellsKept row key kept
kept_is row key kept is_key number part texts =
    (λ i. request_row (record { number = number i; part = part i; command = sym texts.command_text i; reply = sym texts.reply_text i }), (is_key, texts.command))

module _ (row : RequestRecord) (key : KeyParts) (kept : LoggedCommand) (told : TellsKept row key kept) where
  column_of : (k : ℕ) → column (request_row row) k ≡ column (row_of_request key kept) k
  column_of k = ap (λ (r : Row). column r k) told.0

  key_there : IsKey key × (row.number ≡ pos key.number) × (row.part ≡ key.part)
  key_there = (told.1.0, int_is (column_of 0), number_is (column_of 1))

  texts_there : HasTexts row kept
  texts_there = record { command = told.1.1; command_text = sym (text_is (column_of 2)); reply_text = sym (text_is (column_of 3)) }

pub no_key : (row : RequestRecord) → ((key : KeyParts) → IsKey key → row.number ≡ pos key.number → row.part ≡ key.part → ⊥) → IsUnkept row
no_key row none key kept told = let it = key_there row key kept told in none key it.0 it.1 it.2

pub no_texts : (row : RequestRecord) → HaveNone (HasTexts row) → IsUnkept row
no_texts row none key kept told = none kept (texts_there row key kept told)

-- ---- Records in turn

pub stranger_at : (records : List RequestRecord) (at : ℕ) (row : RequestRecord) → slice_get records at ≡ Some row → IsUnkept row → HasStranger row_of_request CanBeKept (map request_row records)
stranger_at records at row there unkept = record { row = request_row row; here = mapped_at request_row records at row there; strange = λ key kept same can. unkept key kept (same, can) }

pub none_kept : (records : List RequestRecord) (m : fin.FinMap name_cmp LoggedCommand) → m ≡ fin.empty → AreKept records 0 m
none_kept records m none = record { mapped = λ once. subst (Mapped key_name row_of_request CanBeKept []) (sym none) (nothing_mapped key_name keys_same row_of_request CanBeKept) }

pub one_kept : (records : List RequestRecord) (at : ℕ) (row : RequestRecord) → slice_get records at ≡ Some row → (m n : fin.FinMap name_cmp LoggedCommand) (key : KeyParts) (kept : LoggedCommand) →
    TellsKept row key kept → n ≡ fin.insert m (key_name key) kept → AreKept records at m → AreKept records (at + 1) n
one_kept records at row there m n key kept told made read = record {
  mapped = λ once. subst (Mapped key_name row_of_request CanBeKept (take (at + 1) (map request_row records))) (sym made)
      (next_mapped key_name keys_same row_of_request CanBeKept m key kept (map request_row records) at (mapped_place request_row records at row there ∙ ap Some told.0) (read.mapped once) told.1 once);
}

-- ---- The table

under_itself : (number : ℕ) (key : KeyParts) → key.number ≡ number → has_number number (key_name key) ≡ true
under_itself number key same = eq-eqb key.number number same

module _ {X : Type 0} (m : fin.FinMap name_cmp X) (test : List ℕ → Bool) where
  get_retained : (q : List ℕ) → fin.get (fin.retain_keys m test) q ≡ cond (test q) (fin.get m q) None
  get_retained q = fin.get-retain_keys m test q (λ x tied. ap test (sym (exact_names q x tied)))

  retained : (q : List ℕ) → test q ≡ true → fin.get (fin.retain_keys m test) q ≡ fin.get m q
  retained q pass = get_retained q ∙ ap (λ b. cond b (fin.get m q) None) pass

  from_retained : (q : List ℕ) (x : X) → fin.get (fin.retain_keys m test) q ≡ Some x → (test q ≡ true) × (fin.get m q ≡ Some x)
  from_retained q x there =
      elim (test q) as (λ b. test q ≡ b → cond b (fin.get m q) None ≡ Some x → (test q ≡ true) × (fin.get m q ≡ Some x)) [
        | true ↦ λ pass e. (pass, e)
        | false ↦ λ _ e. cc
      ] refl (sym (get_retained q) ∙ there)

module _ (s : roster.State) (sound : Sound s) (instants : HasInstants s) (db : Database) (is_book : IsBookOf s db) (number : ℕ) (records : List RequestRecord)
    (finds : Finds (table request) (begins_with (Int (pos number) ∷ [])) db (map request_row records)) where
  abbrev by_number : Row → Bool
  by_number = begins_with (Int (pos number) ∷ [])

  itself : (key : KeyParts) (kept : LoggedCommand) → begins_with (Int (pos key.number) ∷ Int (pos key.part) ∷ []) (row_of_request key kept) ≡ true
  itself key kept = passes (Int (pos key.number) ∷ Int (pos key.part) ∷ []) (row_of_request key kept) (refl, (refl, tt))

  once : AreOnce row_of_request (map request_row records)
  once key v w first second =
      request_once db is_book.database (is_there db.schema is_book.tables request) (is_book.stored request) (pos key.number) (pos key.part) (row_of_request key v) (row_of_request key w)
      (of_found request by_number db (map request_row records) finds (row_of_request key v) first).0
      (of_found request by_number db (map request_row records) finds (row_of_request key w) second).0 (itself key v) (itself key w)

  -- rows that are the same are of one key, which holds one command
  same_at : (key other : KeyParts) (v w : LoggedCommand) → CanBeKept key v → fin.get s.requests (key_name other) ≡ Some w → row_of_request key v ≡ row_of_request other w → (key_name key ≡ key_name other) × (v ≡ w)
  same_at key other v w can there is =
      let at_column = λ (k : ℕ). ap (λ (row : Row). column row k) is in
      let number_same : key.number ≡ other.number = number_is (at_column 0) in
      let part_same : key.part ≡ other.part = number_is (at_column 1) in
      let command_text : kept_text v.command ≡ kept_text w.command = text_is (at_column 2) in
      let reply_is : reply_text v.reply ≡ reply_text w.reply = text_is (at_column 3) in
      let known = sound.requests (key_name other) w there in
      let command = kept_differ v.command w.command can.1 (known.made, instants _ w there) command_text in (
        λ i. number_same i ∷ part_same i ∷ [],
        λ i. record { command = command i; reply = replies_same v.reply w.reply reply_is i },
      )

  pub requests_are : (m : fin.FinMap name_cmp LoggedCommand) → AreKept records (length records) m → m ≡ fin.retain_keys s.requests (has_number number)
  requests_are m read =
      let mapped = subst (λ l. Mapped key_name row_of_request CanBeKept l m) (all_taken request_row records) (read.mapped once) in
      same_map m (fin.retain_keys s.requests (has_number number))
      (λ q v e.
      let known = mapped.known q v e in
      let row = row_of_request known.0 v in
      let here = mapped.all (record { index = known.0; value = v; there = ap (fin.get m) (sym known.1) ∙ e }) in
      let h = of_found request by_number db (map request_row records) finds row here in
      let at = (is_book.rows request row).0 h.0 in
      let same = same_at known.0 at.0.key v at.0.kept known.2 at.0.there at.1 in
      let test = found (Int (pos number) ∷ []) row (tt, tt, tt) h.1 in
      let under : known.0.number ≡ number = number_is test.0 in
      retained s.requests (has_number number) q (ap (has_number number) known.1 ∙ under_itself number known.0 under) ∙ ap (fin.get s.requests) (known.1 ∙ same.0) ∙ at.0.there ∙ ap Some (sym same.1))
      (λ q w e.
      let of_state = from_retained s.requests (has_number number) q w e in
      let x = sound.requests q w of_state.1 in
      let row = row_of_request x.key w in
      let at : RequestAt s.requests = record { key = x.key; kept = w; there = ap (fin.get s.requests) (sym x.known_by) ∙ of_state.1 } in
      let under : x.key.number ≡ number = eqb-true x.key.number number (ap (has_number number) (sym x.known_by) ∙ of_state.0) in
      let here = mapped.has row (in_found request by_number db (map request_row records) finds row ((is_book.rows request row).1 (at, refl)) (passes (Int (pos number) ∷ []) row (ap (λ n. Int (pos n)) under, tt))) in
      let kept = mapped.known (key_name here.0.index) here.0.value here.0.there in
      let again = keys_same here.0.index kept.0 kept.1 in
      let can = subst (λ k. CanBeKept k here.0.value) (sym again) kept.2 in
      let same = same_at here.0.index x.key here.0.value w can at.there (sym here.1) in
      ap (fin.get m) (x.known_by ∙ sym same.0) ∙ here.0.there ∙ ap Some same.1)

pub no_stranger : (db : Database) → AreRight outside_segment db → (test : Row → Bool) (records : List RequestRecord) → Finds (table request) test db (map request_row records) →
    HasStranger row_of_request CanBeKept (map request_row records) → ⊥
no_stranger db right test records finds x =
    let r = requests_right db right in
    let there = of_found request test db (map request_row records) finds x.row x.here in
    let at = (r.1.1.1 x.row).0 there.0 in
    let known = r.1.2.0 (key_name at.0.key) at.0.kept at.0.there in
    let is_key = subst IsKey (sym (keys_same at.0.key known.0 known.1)) known.2.is_key in
    x.strange at.0.key at.0.kept at.1 (is_key, known.2.command)
