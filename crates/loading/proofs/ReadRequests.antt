-- The table `request`: what its records say, and when it is right.
use Rattle.std.proofs.Common.{◌≡◌, inl, inr, refl, sym, ap, subst, ◌∙◌, ℕ, pos, true, List, [], ◌∷◌, ◌++◌, append_assoc, ◌↔◌, Bool, map, slice_get, ◌+◌, length, Option, Some, None, Result, Ok, Err, MatchResult, cond, IsTrue, IsUtf8}
use Rattle.std.specs.FinMap as fin
use Rattle.std.specs.List.{list_all}
use Rattle.std.specs.Prelude.{is_some}
use Rattle.std.specs.Ordering.{eq_by_cmp}
use Rattle.std.specs.Cmp.Lexicographic.{nat_list_cmp_total}
use Rattle.std.specs.Str.{bytes_eq}
use Rattle.std.proofs.lemmas.Slice.Eq.{bytes_eq-Decides}
use Rattle.std.proofs.lemmas.Bool.{and_parts, and_from, cases_Bool}
use Rattle.values.proofs.Names as names
use Rattle.values.proofs.Names.{alike}
use Rattle.roster.specs.declared.state.DutyId.{DutyId}
use Rattle.roster.specs.declared.state.ExceedanceId.{ExceedanceId}
use Rattle.values.specs.Name.{name_cmp, named_rows}
use Rattle.sqlite_value.specs.declared.value.Value.TheVariants.{Int}
use Rattle.sqlite_value.specs.Order.{Row, column}
use Rattle.sqlite_rules.specs.Lists.{Has}
use Rattle.sqlite.specs.Effect.{Database}
use Rattle.sqlite.specs.State.{HasCleanDisk, IsUnchanged}
use Rattle.sqlite.specs.State as conn
use Rattle.limits.specs.declared.section.Section.{Section}
use Rattle.duty.specs.Shape.{home}
use Rattle.command.specs.Keys.{KeyParts, key_name}
use Rattle.command.specs.declared.exceedance.Reply.{Reply}
use Rattle.command.specs.declared.instruction.Instruction.{Instruction}
use Rattle.stored_json.proofs.InstructionsBack.{kept_back}
use Rattle.stored_json.specs.CommandJson.{read_kept}
use Rattle.stored_json.specs.KeptText.{kept_text}
use Rattle.stored_json.specs.Laws.{IsCommand}
use Rattle.stored_json.specs.ReplyText.{reply_text}
use Rattle.roster.specs.State.{State}
use Rattle.roster.specs.declared.state.LoggedCommand.{LoggedCommand}
use Rattle.tables.proofs.KeyLemmas.{request_once}
use Rattle.tables.specs.Calls.{CrashLeavesNoMore}
use Rattle.tables.specs.Records.{IsRequestRow, request_row}
use Rattle.tables.specs.Rows.{begins_with}
use Rattle.tables.specs.declared.request.RequestRecord.{RequestRecord}
use Rattle.entries.proofs.Editions.{one_edition}
use Rattle.entries.proofs.Mapping.{all_taken, nothing_mapped, next_mapped, mapped_at, mapped_place}
use Rattle.state_rows.proofs.Tests.{passes}
use Rattle.state_rows.proofs.Values.{ids_same, int_is, text_is, number_is}
use Rattle.loading.proofs.Telling.{unread, of_blame, or_fails, uncaused}
use Rattle.state_rows.proofs.Outcomes.{clean_before}
use Rattle.loading.specs.Loading.{IsCaused, IsDamaged, Justifies}
use Rattle.entries.specs.Right.{IsKey, IsRequest, name_of, IsRight, AreRight, AreHeld, IsOfEdition}
use Rattle.loading.specs.Reading.{AreKeysOf, AreWanting, CanKeep, HasNoLater, HaveKeys, HoldsAll, IsRequestIn, Keys, KeysRead, RequestsRead, ReadsAs, BlamesOrFails, HasRows, IsUnreadable, AgreesThrough}
use Rattle.entries.specs.Faults.{Blames}
use Rattle.entries.specs.Mapping.{Mapped, AreOnce, TellsOf, HasStranger}
use Rattle.entries.specs.declared.fault.LoadFault.{LoadFault}
use Rattle.entries.specs.declared.fault.LoadFault.TheVariants.{NotABook, Damaged, Version, Fault}
use Rattle.entries.specs.declared.fault.TableName.TheVariants as table_name
use Rattle.state_rows.specs.First.{IsOfFirst}
use Rattle.state_rows.specs.Requests.{Requests, with_requests}
use Rattle.state_rows.specs.declared.edition.Edition.{Edition}
use Rattle.state_rows.specs.declared.edition.Edition.TheVariants.{First, Second}
use Rattle.state_rows.specs.Rows.{RequestAt, ExceedanceAt, row_of_request, row_of_exceedance, request, exceedance}
use Rattle.entries.proofs.KeptTexts.{ok_same, keys_same}
use Rattle.entries.proofs.RightRows.{request_rows}

-- ---- Texts

-- nor, in a version, is that of a command that a book of it can't keep
pub none_kept : (edition : Edition) (text : List ℕ) → ((instruction : Instruction) → IsCommand instruction → kept_text instruction ≡ text → ⊥) →
    (instruction : Instruction) → IsCommand instruction → CanKeep edition instruction → kept_text instruction ≡ text → ⊥
none_kept edition text none instruction is can same = none instruction is same

pub not_kept_in : (edition : Edition) (text : List ℕ) (command : Instruction) → IsCommand command → kept_text command ≡ text → (CanKeep edition command → ⊥) →
    (instruction : Instruction) → IsCommand instruction → CanKeep edition instruction → kept_text instruction ≡ text → ⊥
not_kept_in edition text command made kept bad instruction is can same =
    let one : instruction ≡ command = ok_same (sym (kept_back instruction is.0 is.1) ∙ ap read_kept (same ∙ sym kept) ∙ kept_back command made.0 made.1) in
    bad (subst (CanKeep edition) one can)

-- the id of a base is that of HOME where it is tested to be
pub is_at_home : (base : List ℕ) → IsTrue (bytes_eq base home) ↔ (base ≡ home)
is_at_home base = (λ yes. (bytes_eq-Decides base home).0 yes, λ same. (bytes_eq-Decides base home).1 same)

-- ---- One record

module _ (edition : Edition) (it : RequestRecord) where
  abbrev Tells : Option KeyParts → Type 0
  Tells = TellsOf (λ key kept found. found ≡ key) row_of_request (IsRequestIn edition) (request_row it)

  pub no_key : ((key : KeyParts) → IsKey key → it.number ≡ pos key.number → it.part ≡ key.part → ⊥) → Tells None
  no_key none key r e is = none key is.is.is_key (int_is (ap (λ (row : Row). column row 0) e)) (number_is (ap (λ (row : Row). column row 1) e))

  pub no_command : ((instruction : Instruction) → IsCommand instruction → CanKeep edition instruction → kept_text instruction ≡ it.command → ⊥) → Tells None
  no_command none key r e is = none r.command is.is.command is.can (sym (text_is (ap (λ (row : Row). column row 2) e)))

  pub no_reply : ((reply : Reply) → reply_text reply ≡ it.reply → ⊥) → Tells None
  no_reply none key r e is = none r.reply (sym (text_is (ap (λ (row : Row). column row 3) e)))

  pub tells : (key : KeyParts) (command : Instruction) (reply : Reply) → IsKey key × (it.number ≡ pos key.number) × (it.part ≡ key.part) →
      IsCommand command × CanKeep edition command × (kept_text command ≡ it.command) × IsUtf8 it.command → (reply_text reply ≡ it.reply) × IsUtf8 it.reply →
      Tells (Some key)
  tells key command reply is_key is_command is_reply = (
    key,
    record { command = command; reply = reply },
    refl,
    (λ i. request_row (record { number = is_key.1 i; part = is_key.2 i; command = sym is_command.2 i; reply = sym is_reply.0 i })),
    record {
      is = record {
        is_key = is_key.0;
        command = is_command.0;
        utf8 = (subst IsUtf8 (sym is_command.2) is_command.3, subst IsUtf8 (sym is_reply.0) is_reply.1);
      };
      can = is_command.1;
    },
  )

-- ---- Records in turn

pub none_read : (edition : Edition) (records : List RequestRecord) (keys : Keys) → keys ≡ fin.empty → KeysRead edition records 0 keys
none_read edition records keys none = (
  fin.empty,
  record { mapped = λ once. nothing_mapped key_name keys_same row_of_request (IsRequestIn edition) },
  λ name. ap (λ (m : Keys). fin.contains_key m name) none ∙ ap is_some (fin.get-empty name_cmp name) ∙ sym (ap is_some (fin.get-empty name_cmp name)),
)

-- one key more, and its command with its reply
one_key : (kept : Requests) (keys : Keys) (name : List ℕ) (r : LoggedCommand) → AreKeysOf kept keys → AreKeysOf (fin.insert kept name r) (fin.insert keys name tt)
one_key kept keys name r same other =
    let held = fin.get-insert nat_list_cmp_total kept name r other in
    let listed = fin.get-insert nat_list_cmp_total keys name tt other in
    elim (cases_Bool (eq_by_cmp name_cmp other name)) [
      | inl tied ↦
          ap is_some (listed ∙ ap (λ b. cond b (Some tt) (fin.get keys other)) tied)
          ∙ sym (ap is_some (held ∙ ap (λ b. cond b (Some r) (fin.get kept other)) tied))
      | inr apart ↦
          ap is_some (listed ∙ ap (λ b. cond b (Some tt) (fin.get keys other)) apart) ∙ same other
          ∙ sym (ap is_some (held ∙ ap (λ b. cond b (Some r) (fin.get kept other)) apart))
    ]

module _ (edition : Edition) (records : List RequestRecord) (at : ℕ) (it : RequestRecord) (there : slice_get records at ≡ Some it) where
  pub stranger : Tells edition it None → HasStranger row_of_request (IsRequestIn edition) (map request_row records)
  stranger none = record { row = request_row it; here = mapped_at request_row records at it there; strange = none }

  pub one_read : (keys more : Keys) (found : KeyParts) → Tells edition it (Some found) → KeysRead edition records at keys → more ≡ fin.insert keys (key_name found) tt →
      KeysRead edition records (at + 1) more
  one_read keys more found told read made =
      let key = told.0 in
      let r = told.1 in
      let kept = read.0 in (
        fin.insert kept (key_name key) r,
        record {
          mapped = λ once.
              next_mapped key_name keys_same row_of_request (IsRequestIn edition) kept key r (map request_row records) at
              (mapped_place request_row records at it there ∙ ap Some told.3) (read.1.mapped once) told.4 once;
        },
        subst (AreKeysOf (fin.insert kept (key_name key) r)) (sym (made ∙ ap (λ (k : KeyParts). fin.insert keys (key_name k) tt) told.2))
            (one_key kept keys (key_name key) r read.2),
      )

-- ---- The table

-- where it is right, it is there, and each row is the record of a command and its reply
pub not_unreadable : (db : Database) → IsUnreadable request IsRequestRow db → AreRight request db → ⊥
not_unreadable db (inl none) right = none right.1.1.0
not_unreadable db (inr x) right = x.3 (request_rows db x.0 x.1 right)

itself : (key : KeyParts) (r : LoggedCommand) → begins_with (Int (pos key.number) ∷ Int (pos key.part) ∷ []) (row_of_request key r) ≡ true
itself key r = passes (Int (pos key.number) ∷ Int (pos key.part) ∷ []) (row_of_request key r) (refl, (refl, tt))

-- of a state with the tables down to `request`, a book of their version can keep the commands
can_keep : (u : State) (db : Database) (edition : Edition) → IsRight request u db → IsOfEdition edition db → (name : List ℕ) (r : LoggedCommand) → fin.get u.requests name ≡ Some r → CanKeep edition r.command
can_keep u db First right of name r there = (right.3 of).commands name r there
can_keep u db Second right of name r there = tt

-- and in version 1 they are commands of version 1
of_first : (db : Database) (edition : Edition) → IsOfEdition edition db → IsOfEdition First db → (command : Instruction) → CanKeep edition command → IsOfFirst command
of_first db First of first command can = can
of_first db Second of first command can = absurd (one_edition db first of)

module _ (edition : Edition) (s : State) (db : Database) (above : AgreesThrough exceedance s db) (of : IsOfEdition edition db) where
  damaged : (AreRight request db → ⊥) → IsDamaged request db
  damaged wrong = record { book = above.book; version = above.version; above = (s, above.right); damaged = wrong }

  pub unreadable : IsUnreadable request IsRequestRow db → IsDamaged request db
  unreadable why = damaged (not_unreadable db why)

  pub strange : (rows : List Row) → HasRows request db rows → HasStranger row_of_request (IsRequestIn edition) rows → IsDamaged request db
  strange rows read stranger = damaged (λ right.
      let it = (right.1.1.1 stranger.row).0 ((read.all stranger.row).1 stranger.here) in
      let at = it.0 in
      let known = right.1.2.0 (key_name at.key) at.kept at.there in
      stranger.strange at.key at.kept it.1 (record {
        is = subst (λ k. IsRequest k at.kept) (sym (keys_same at.key known.0 known.1)) known.2;
        can = can_keep right.0 db edition right.1 of (key_name at.key) at.kept at.there;
      }))

  requests_once : (rows : List Row) → HasRows request db rows → AreOnce row_of_request rows
  requests_once rows read key m n first second =
      request_once db read.database read.there.0 read.stored (pos key.number) (pos key.part) (row_of_request key m) (row_of_request key n)
      ((read.all (row_of_request key m)).1 first) ((read.all (row_of_request key n)).1 second) (itself key m) (itself key n)

  -- all but that each key of an exceedance is held
  pub kept_requests : (rows : List Row) (kept : Requests) → HasRows request db rows → HasNoLater s →
      (AreOnce row_of_request rows → Mapped key_name row_of_request (IsRequestIn edition) rows kept) → AreHeld (with_requests kept s) → AgreesThrough request (with_requests kept s) db
  kept_requests rows kept read none mapped held =
      let map = mapped (requests_once rows read) in
      record {
        stored = (read.stored, above.stored);
        book = above.book;
        version = above.version;
        right = (
          above.right,
          (
            read.there,
            λ row. (
              λ h. let it = map.has row ((read.all row).0 h) in (record { key = it.0.index; kept = it.0.value; there = it.0.there }, it.1),
              λ it. (read.all row).1 (subst (Has rows) (sym it.1) (map.all (record { index = it.0.key; value = it.0.kept; there = it.0.there }))),
            ),
          ),
          (λ name r e. let known = map.known name r e in (known.0, known.1, known.2.is), held),
          λ first. record {
            bases = none.0;
            members = none.1;
            outsides = none.2;
            records = above.right.3 first;
            commands = λ name r e. of_first db edition of first r.command (map.known name r e).2.can;
          },
        );
      }

-- ---- That each exceedance has its request

tied_itself : (q : List ℕ) → eq_by_cmp name_cmp q q ≡ true
tied_itself q = names.itself q q refl

abbrev Listed : Type 0
Listed = List (ExceedanceId × DutyId)

module _ (test : ExceedanceId → Bool) where
  -- what is found under a name passes where all do
  found_passes : (items : Listed) (q : List ℕ) (p : DutyId) → fin.find name_cmp q (named_rows name_of items) ≡ Some p → list_all (λ e. test e.0) items ≡ true →
      (id : ExceedanceId) × (name_of id ≡ q) × (test id ≡ true)
  found_passes [] q p e all = absurd (cc)
  found_passes (x ∷ xs) q p e all =
      let parts = and_parts (test x.0) (list_all (λ y. test y.0) xs) all in
      elim (cases_Bool (eq_by_cmp name_cmp q (name_of x.0))) [
        | inl tied ↦ (x.0, sym (alike q (name_of x.0) tied), parts.0)
        | inr apart ↦ found_passes xs q p (rw apart at e) parts.1
      ]

  -- and what stands in a list is found under its name
  found_itself : (before items : Listed) (x : ExceedanceId × DutyId) → (p : DutyId) × (fin.find name_cmp (name_of x.0) (named_rows name_of (before ++ x ∷ items)) ≡ Some p)
  found_itself [] items x = (x.1, rw (tied_itself (name_of x.0)) refl)
  found_itself (y ∷ before) items x = elim (cases_Bool (eq_by_cmp name_cmp (name_of x.0) (name_of y.0))) [
    | inl tied ↦ (y.1, rw tied refl)
    | inr apart ↦ let later = found_itself before items x in (later.0, rw apart later.1)
  ]

  all_pass : (before items : Listed) → ((id : ExceedanceId) (p : DutyId) → fin.find name_cmp (name_of id) (named_rows name_of (before ++ items)) ≡ Some p → test id ≡ true) →
      list_all (λ e. test e.0) items ≡ true
  all_pass before [] each = refl
  all_pass before (x ∷ items) each =
      let here = found_itself before items x in
      and_from _ _ (each x.0 here.0 here.1)
      (all_pass (before ++ x ∷ []) items (λ id p e. each id p (subst (λ l. fin.find name_cmp (name_of id) (named_rows name_of l) ≡ Some p) (append_assoc before (x ∷ []) items) e)))

  pub passes_all : (items : Listed) (m : fin.FinMap name_cmp DutyId) → named_rows name_of items ≡ fin.entries m →
      (list_all (λ e. test e.0) items ≡ true) ↔ ((id : ExceedanceId) (p : DutyId) → fin.get m (name_of id) ≡ Some p → test id ≡ true)
  passes_all items m listed = (
    λ all id p there.
        let found : fin.find name_cmp (name_of id) (named_rows name_of items) ≡ Some p = ap (fin.find name_cmp (name_of id)) listed ∙ sym (fin.get-entries m (name_of id)) ∙ there in
        let it = found_passes items (name_of id) p found all in
        subst (λ x. test x ≡ true) (ids_same it.0 id it.1) it.2,
    λ each. all_pass [] items (λ id p found. each id p (fin.get-entries m (name_of id) ∙ ap (fin.find name_cmp (name_of id)) (sym listed) ∙ found)),
  )

is_there : {V : Type 0} (o : Option V) → is_some o ≡ true → (v : V) × (o ≡ Some v)
is_there None e = absurd (cc)
is_there (Some v) e = (v, refl)

-- the key of each exceedance is there where it is of all that are listed
pub keys_if : (s : State) (keys : Keys) (items : Listed) → named_rows name_of items ≡ fin.entries s.exceedances → (all : Bool) →
    all ≡ list_all (λ (x : ExceedanceId × DutyId). fin.contains_key keys (key_name x.0.key)) items → (all ≡ true) ↔ HaveKeys s keys
keys_if s keys items listed all is =
    let both = passes_all (λ id. fin.contains_key keys (key_name id.key)) items s.exceedances listed in
    (λ yes. both.0 (sym is ∙ yes), λ each. is ∙ both.1 each)

-- so each exceedance has its request among the kept commands whose keys they are
pub held_by_keys : (s : State) (kept : Requests) (keys : Keys) → AreKeysOf kept keys → HaveKeys s keys → AreHeld (with_requests kept s)
held_by_keys s kept keys same each id p there = is_there (fin.get kept (key_name id.key)) (sym (same (key_name id.key)) ∙ each id p there)

pub keys_of_held : (s : State) (kept : Requests) (keys : Keys) → AreKeysOf kept keys → AreHeld (with_requests kept s) → HaveKeys s keys
keys_of_held s kept keys same held id p there = same (key_name id.key) ∙ ap is_some (held id p there).1

-- equal rows have equal keys
exceedance_key : (a b : KeyParts) (x y : List ℕ) (m n : Section) (p q : DutyId) → row_of_exceedance a x m p ≡ row_of_exceedance b y n q → a ≡ b
exceedance_key a b x y m n p q e =
    let number : a.number ≡ b.number = number_is (ap (λ (row : Row). column row 0) e) in
    let part : a.part ≡ b.part = number_is (ap (λ (row : Row). column row 1) e) in
    λ i. record { number = number i; part = part i }

request_key : (a b : KeyParts) (r q : LoggedCommand) → row_of_request a r ≡ row_of_request b q → a ≡ b
request_key a b r q e =
    let number : a.number ≡ b.number = number_is (ap (λ (row : Row). column row 0) e) in
    let part : a.part ≡ b.part = number_is (ap (λ (row : Row). column row 1) e) in
    λ i. record { number = number i; part = part i }

module _ (s u : State) (kept : Requests) (db : Database) (rows : List Row) (read : HasRows request db rows) (above : IsRight exceedance s db)
    (edition : Edition) (map : Mapped key_name row_of_request (IsRequestIn edition) rows kept) (right : IsRight request u db) where
  -- an exceedance of this state has the key of one of the other
  in_other : (id : ExceedanceId) (p : DutyId) → fin.get s.exceedances (name_of id) ≡ Some p →
      (other : ExceedanceId) × (q : DutyId) × (fin.get u.exceedances (name_of other) ≡ Some q) × (id.key ≡ other.key)
  in_other id p there =
      let at : ExceedanceAt s.exceedances = record { key = id.key; crew = id.crew; section = id.section; named = p; there = there } in
      let row = row_of_exceedance id.key id.crew id.section p in
      let it = (right.0.1.1 row).0 ((above.1.1 row).1 (at, refl)) in
      let other : ExceedanceId = record { key = it.0.key; crew = it.0.crew; section = it.0.section } in
      (other, it.0.named, it.0.there, exceedance_key id.key it.0.key id.crew it.0.crew id.section it.0.section p it.0.named it.1)

  -- a key that is held in the other is held in this one
  from_other : (key : KeyParts) (r : LoggedCommand) → fin.get u.requests (key_name key) ≡ Some r → (q : LoggedCommand) × (fin.get kept (key_name key) ≡ Some q)
  from_other key r there =
      let row = row_of_request key r in
      let at : RequestAt u.requests = record { key = key; kept = r; there = there } in
      let told = map.has row ((read.all row).0 ((right.1.1 row).1 (at, refl))) in
      let same_key : key ≡ told.0.index = request_key key told.0.index r told.0.value told.1 in
      (told.0.value, ap (λ (k : KeyParts). fin.get kept (key_name k)) same_key ∙ told.0.there)

  -- so each exceedance has its request in this one, since it has in the other
  held_here : AreHeld (with_requests kept s)
  held_here id p there =
      let other = in_other id p there in
      let held = right.2.1 other.0 other.1 other.2 in
      let here = from_other other.0.key held.0 held.1 in
      (here.0, ap (λ (k : KeyParts). fin.get kept (key_name k)) other.3 ∙ here.1)

-- ---- The call

pub read_stranger : (edition : Edition) (records : List RequestRecord) (s : State) (fault : LoadFault) → Blames table_name.Request (HasStranger row_of_request (IsRequestIn edition) (map request_row records)) fault →
    Blames table_name.Request (AreWanting edition records s) fault
read_stranger edition records s NotABook blame = blame
read_stranger edition records s Version blame = blame
read_stranger edition records s (Damaged other) blame = (blame.0, inl blame.1)
read_stranger edition records s (Fault fault) blame = blame

pub all_held : (edition : Edition) (records : List RequestRecord) (s : State) (keys : Keys) → KeysRead edition records (length records) keys → HaveKeys s keys → HoldsAll edition records s
all_held edition records s keys read each = (read.0, read.1, held_by_keys s read.0 keys read.2 each)

pub not_all_held : (edition : Edition) (records : List RequestRecord) (s : State) (keys : Keys) → KeysRead edition records (length records) keys → (HaveKeys s keys → ⊥) → AreWanting edition records s
not_all_held edition records s keys read none = inr (read.0, read.1, λ held. none (keys_of_held s read.0 keys read.2 held))

module _ (edition : Edition) (s : State) (old new : conn.State) (above : HasCleanDisk old → AgreesThrough exceedance s old.now) (of : HasCleanDisk old → IsOfEdition edition old.now) where
  abbrev pub Now : Requests → Unit {0} → Type 0
  Now kept it = AgreesThrough request (with_requests kept s) old.now

  abbrev Refuses : LoadFault → Type 0
  Refuses f = Justifies f old.now

  pub not_read : (kept : Requests) (fault : LoadFault) → (HasCleanDisk new → BlamesOrFails table_name.Request (IsUnreadable request IsRequestRow old.now) fault) → (HasCleanDisk new → IsCaused old new fault) →
      CrashLeavesNoMore old new → ReadsAs (Now kept) Refuses old new (Err fault)
  not_read kept fault told caused left = unread table_name.Request _ (Now kept) old new fault (λ clean. unreadable edition s old.now (above clean) (of clean)) told caused left

  all_mapped : (records : List RequestRecord) (kept : Requests) → RequestsRead edition records (length records) kept → AreOnce row_of_request (map request_row records) →
      Mapped key_name row_of_request (IsRequestIn edition) (map request_row records) kept
  all_mapped records kept read once = subst (λ l. Mapped key_name row_of_request (IsRequestIn edition) l kept) (all_taken request_row records) (read.mapped once)

  -- some row is wrong, or some exceedance has no request in any state with these rows
  wanting : (records : List RequestRecord) → AgreesThrough exceedance s old.now → IsOfEdition edition old.now → HasRows request old.now (map request_row records) → AreWanting edition records s → IsDamaged request old.now
  wanting records up is read (inl stranger) = strange edition s old.now up is (map request_row records) read stranger
  wanting records up is read (inr it) = damaged edition s old.now up is (λ right.
      it.2 (held_here s right.0 it.0 old.now (map request_row records) read up.right
      edition (all_mapped records it.0 it.1 (requests_once edition s old.now up is (map request_row records) read)) right.1))

  pub is_checked : (records : List RequestRecord) (result : Result (Unit {0}) LoadFault) → HasNoLater s →
      (HasCleanDisk new → IsUnchanged old new × HasRows request old.now (map request_row records)) → CrashLeavesNoMore old new →
      MatchResult result (λ _. HoldsAll edition records s) (Blames table_name.Request (AreWanting edition records s)) →
      (kept : Requests) × ReadsAs (Now kept) Refuses old new result
  is_checked records (Ok it) none saw left done = (
    done.0,
    record {
      told = λ clean.
          let seen = saw clean in
          let before = clean_before old new left clean in
          (seen.0, kept_requests edition s old.now (above before) (of before) (map request_row records) done.0 seen.1 none (all_mapped records done.0 done.1) done.2);
      caused = λ clean. tt;
      left = left;
    },
  )
  is_checked records (Err fault) none saw left blame = (
    fin.empty,
    record {
      told = λ clean.
          let before = clean_before old new left clean in
          of_blame table_name.Request _ old.now (wanting records (above before) (of before) (saw clean).1) fault (or_fails table_name.Request _ fault blame);
      caused = λ clean. uncaused old new table_name.Request (AreWanting edition records s) fault blame;
      left = left;
    },
  )
