-- The kept text of a command, and the text of a reply, are UTF-8.
use Rattle.std.proofs.Common.{◌≡◌, ◌∙◌, ◌<◌, ◌&&◌, ℕ, zero, suc, Bool, true, false, List, [], ◌∷◌, ◌++◌, map, codes, IsUtf8, Contains, None, refl, sym, ap, cond, arith}
use Rattle.std.specs.List.{list_all}
use Rattle.std.specs.Str.{bytes_eq}
use Rattle.std.proofs.lemmas.Bool.{and_parts}
use Rattle.std.proofs.lemmas.Bool.Decides.{nat_tests}
use Rattle.std.proofs.lemmas.Fmt.{IsAscii-decimal}
use Rattle.std.proofs.lemmas.Str.{IsUtf8-append, IsUtf8-from_ascii, IsUtf8-nil}
use Rattle.json.proofs.Printed.Utf8.{IsUtf8-are_ascii, IsUtf8-quoted, IsUtf8-boolean, are_ascii}
use Rattle.serde_json.specs.Data.{Data, null, boolean, number, string, array, object, Items, no_items, item, Members, no_members, member}
use Rattle.serde_json.specs.View.{items_of}
use Rattle.serde_json.specs.Written.{comma_if, compact_text, items_text, members_text, number_text}
use Rattle.time117.proofs.AsciiInstants.{IsUtf8-written}
use Rattle.duty.specs.Pairings.{are_shaped, has_shapes, ground_fault, outside_fault, pairing_fault}
use Rattle.duty.specs.Shape.{home, is_airport, is_flight, is_id, is_plain_text}
use Rattle.duty.specs.Words.{first_fault, unless}
use Rattle.duty.specs.declared.fault.DutyFault.{DutyFault}
use Rattle.duty.specs.declared.fault.DutyFault.TheVariants.{BadField}
use Rattle.duty.specs.declared.fault.Field.TheVariants as field
use Rattle.duty.specs.declared.fdp.Fdp.{Fdp}
use Rattle.duty.specs.declared.segment.BlockTimes.{BlockTimes}
use Rattle.duty.specs.declared.segment.Segment.{Segment}
use Rattle.limits.specs.SectionText.{section_text}
use Rattle.limits.specs.declared.section.Section.{Section}
use Rattle.limits.specs.declared.section.Section.TheVariants.{FlightTime, FlightDutyPeriod, FlightTime672Hours, FlightTime365Days, FlightDutyPeriods168Hours, FlightDutyPeriods672Hours, ThirtyHourRest, TenHourRest}
use Rattle.command.specs.Instructions.{instruction_fault, swap_fault}
use Rattle.command.specs.Texts.{seat_text}
use Rattle.command.specs.declared.exceedance.Exceedance.{Exceedance}
use Rattle.command.specs.declared.exceedance.Reply.{Reply}
use Rattle.command.specs.declared.instruction.Instruction.{Instruction}
use Rattle.command.specs.declared.instruction.Instruction.TheVariants.{AddBase, AddCrew, AddPairing, CancelPairing, Assign, Release, Swap, AddGround, CancelGround, Actual, RecordOutside}
use Rattle.command.specs.declared.member.Seat.{Seat}
use Rattle.command.specs.declared.member.Seat.TheVariants.{Captain, FirstOfficer}
use Rattle.stored_json.specs.Instants.{is_instant, period_has_instants, segment_has_instants, times_have_instants}
use Rattle.stored_json.specs.KeptText.{base_member, instruction_json, kept_text, period_json, segment_json, times_json}
use Rattle.stored_json.specs.Laws.{IsCommand}
use Rattle.stored_json.specs.ReplyText.{exceedance_json, reply_json, reply_text}
use Rattle.stored_json.specs.Values.{instant_json, members_in_turn}
use Rattle.roster.proofs.Lists.{first_of_all, later}
use Rattle.state_rows.proofs.FewPeriods.{all_shaped}
use Rattle.entries.proofs.Ascii.{airport_utf8, flight_utf8, id_utf8, zone_utf8}
use Rattle.store.proofs.Faultless.{first_passes, passes}
use Rattle.store.specs.Typed.{HasUtf8}

-- ---- A value whose texts are UTF-8

abbrev mutual
  pub IsOfUtf8 : Data → Type 0
  IsOfUtf8 null = Unit {0}
  IsOfUtf8 (boolean b) = Unit {0}
  IsOfUtf8 (number n) = IsUtf8 (number_text n)
  IsOfUtf8 (string s) = IsUtf8 s
  IsOfUtf8 (array ds) = AreOfUtf8 ds
  IsOfUtf8 (object ms) = MembersAreOfUtf8 ms

  pub AreOfUtf8 : Items → Type 0
  AreOfUtf8 no_items = Unit {0}
  AreOfUtf8 (item d ds) = IsOfUtf8 d × AreOfUtf8 ds

  pub MembersAreOfUtf8 : Members → Type 0
  MembersAreOfUtf8 no_members = Unit {0}
  MembersAreOfUtf8 (member k d ms) = IsUtf8 k × IsOfUtf8 d × MembersAreOfUtf8 ms

byte_then : (b : ℕ) (text : List ℕ) → are_ascii (b ∷ []) ≡ true → IsUtf8 text → IsUtf8 (b ∷ text)
byte_then b text low is = IsUtf8-append (b ∷ []) text (IsUtf8-are_ascii (b ∷ []) low) is

comma_utf8 : (more : Bool) → IsUtf8 (comma_if more)
comma_utf8 true = IsUtf8-are_ascii (44 ∷ []) refl
comma_utf8 false = IsUtf8-nil

mutual
  pub compact_utf8 : (d : Data) → IsOfUtf8 d → IsUtf8 (compact_text d)
  compact_utf8 null is = IsUtf8-are_ascii _ refl
  compact_utf8 (boolean b) is = IsUtf8-boolean b
  compact_utf8 (number n) is = is
  compact_utf8 (string s) is = IsUtf8-quoted s is
  compact_utf8 (array ds) is = byte_then 91 (items_text false ds) refl (items_utf8 false ds is)
  compact_utf8 (object ms) is = byte_then 123 (members_text false ms) refl (members_utf8 false ms is)

  items_utf8 : (more : Bool) (ds : Items) → AreOfUtf8 ds → IsUtf8 (items_text more ds)
  items_utf8 more no_items is = IsUtf8-are_ascii (93 ∷ []) refl
  items_utf8 more (item d ds) is =
      IsUtf8-append (comma_if more) (compact_text d ++ items_text true ds) (comma_utf8 more)
      (IsUtf8-append (compact_text d) (items_text true ds) (compact_utf8 d is.0) (items_utf8 true ds is.1))

  members_utf8 : (more : Bool) (ms : Members) → MembersAreOfUtf8 ms → IsUtf8 (members_text more ms)
  members_utf8 more no_members is = IsUtf8-are_ascii (125 ∷ []) refl
  members_utf8 more (member k d ms) is =
      IsUtf8-append (comma_if more) _ (comma_utf8 more)
      (IsUtf8-append _ _ (IsUtf8-quoted k is.0)
      (byte_then 58 (compact_text d ++ members_text true ms) refl
      (IsUtf8-append (compact_text d) (members_text true ms) (compact_utf8 d is.1) (members_utf8 true ms is.2))))

each_utf8 : {A : Type 0} (f : A → Data) (xs : List A) → ((x : A) → Contains xs x → IsOfUtf8 (f x)) → AreOfUtf8 (items_of (map f xs))
each_utf8 f [] each = tt
each_utf8 f (x ∷ xs) each = (each x (first_of_all x xs), each_utf8 f xs (λ y c. each y (later x xs y c)))

-- ---- Instants and words

instant_utf8 : (minute : ℕ) → is_instant minute ≡ true → IsOfUtf8 (instant_json minute)
instant_utf8 minute e = IsUtf8-written minute (let low : minute < 52_596_000 = grind (arith, nat_tests) in low)

all_of : {A : Type 0} (test : A → Bool) (xs : List A) → list_all test xs ≡ true → (x : A) → Contains xs x → test x ≡ true
all_of test [] e x c = absurd (let n = c.1 in omega arith)
all_of test (y ∷ xs) e x (zero, within, is) = ap test (sym is) ∙ (and_parts (test y) (list_all test xs) e).0
all_of test (y ∷ xs) e x (suc k, within, is) = all_of test xs (and_parts (test y) (list_all test xs) e).1 x (k, omega arith, is)

word : (text : List ℕ) → are_ascii text ≡ true → IsUtf8 text
word text low = IsUtf8-are_ascii text low

-- ---- Commands

segment_utf8 : (s : Segment) → has_shapes s ≡ true → segment_has_instants s ≡ true → IsOfUtf8 (segment_json s)
segment_utf8 s shaped instants =
    let last = and_parts (is_flight s.flight && is_airport s.from) (is_airport s.to) shaped in
    let front = and_parts (is_flight s.flight) (is_airport s.from) last.0 in
    let times = and_parts (is_instant s.block_out) (is_instant s.block_in) instants in (
      word (codes "flight") refl,
      flight_utf8 s.flight front.0,
      (
        word (codes "from") refl,
        airport_utf8 s.from front.1,
        (
          word (codes "in") refl,
          instant_utf8 s.block_in times.1,
          (
            word (codes "out") refl,
            instant_utf8 s.block_out times.0,
            (
              word (codes "to") refl,
              airport_utf8 s.to last.1,
              tt,
            ),
          ),
        ),
      ),
    )

times_utf8 : (t : BlockTimes) → times_have_instants t ≡ true → IsOfUtf8 (times_json t)
times_utf8 t instants =
    let times = and_parts (is_instant t.block_out) (is_instant t.block_in) instants in
    (word (codes "in") refl, instant_utf8 t.block_in times.1, (word (codes "out") refl, instant_utf8 t.block_out times.0, tt))

all_times_utf8 : (segments : List BlockTimes) → list_all times_have_instants segments ≡ true → AreOfUtf8 (items_of (map times_json segments))
all_times_utf8 segments e = each_utf8 times_json segments (λ t c. times_utf8 t (all_of times_have_instants segments e t c))

period_utf8 : (f : Fdp) → are_shaped f ≡ true → period_has_instants f ≡ true → IsOfUtf8 (period_json f)
period_utf8 f shaped instants =
    let all = and_parts (is_instant f.report && is_instant f.release) (list_all segment_has_instants f.segments) instants in
    let ends = and_parts (is_instant f.report) (is_instant f.release) all.0 in (
      word (codes "release") refl,
      instant_utf8 f.release ends.1,
      (
        word (codes "report") refl,
        instant_utf8 f.report ends.0,
        (
          word (codes "segments") refl,
          each_utf8 segment_json f.segments (λ s c. segment_utf8 s (all_of has_shapes f.segments shaped s c) (all_of segment_has_instants f.segments all.1 s c)),
          tt,
        ),
      ),
    )

seat_utf8 : (seat : Seat) → IsUtf8 (seat_text seat)
seat_utf8 Captain = word (codes "captain") refl
seat_utf8 FirstOfficer = word (codes "first officer") refl

-- the member `base`, if it isn't left out, before others
base_utf8 : (base : List ℕ) (rest : List (List ℕ × Data)) → is_id base ≡ true → MembersAreOfUtf8 (members_in_turn rest) → MembersAreOfUtf8 (members_in_turn (base_member base ++ rest))
base_utf8 base rest shape is = elim (bytes_eq base home) as (λ b. MembersAreOfUtf8 (members_in_turn (cond b [] ((codes "base", string base) ∷ []) ++ rest))) [
  | true ↦ is
  | false ↦ (word (codes "base") refl, id_utf8 base shape, is)
]

two_ids : (a b : List ℕ) (f g : DutyFault) → first_fault (unless (is_id a) f ∷ unless (is_id b) g ∷ []) ≡ None → IsUtf8 a × IsUtf8 b
two_ids a b f g e =
    let first = first_passes (is_id a) f (unless (is_id b) g ∷ []) e in
    (id_utf8 a first.0, id_utf8 b (first_passes (is_id b) g [] first.1).0)

instruction_utf8 : (instruction : Instruction) → IsCommand instruction → HasUtf8 instruction → IsOfUtf8 (instruction_json instruction)
unfolding instruction_fault swap_fault ground_fault outside_fault pairing_fault
instruction_utf8 (AddBase id zone) is texts = (
  word (codes "base") refl,
  id_utf8 id (passes (is_id id) (BadField field.Base) is.0.0),
  (
    word (codes "do") refl,
    word (codes "add-base") refl,
    (
      word (codes "zone") refl,
      zone_utf8 zone is.0.1,
      tt,
    ),
  ),
)
instruction_utf8 (AddCrew id m) is texts =
    let first = first_passes (is_id id) (BadField field.Crew) (unless (is_plain_text m.name) (BadField field.Name) ∷ unless (is_id m.base) (BadField field.Base) ∷ []) is.0.0 in
    let second = first_passes (is_plain_text m.name) (BadField field.Name) (unless (is_id m.base) (BadField field.Base) ∷ []) first.1 in
    let third = first_passes (is_id m.base) (BadField field.Base) [] second.1 in
    base_utf8 m.base _ third.0 (
      word (codes "crew") refl,
      id_utf8 id first.0,
      (
        word (codes "do") refl,
        word (codes "add-crew") refl,
        (
          word (codes "name") refl,
          texts,
          (
            word (codes "seat") refl,
            seat_utf8 m.seat,
            tt,
          ),
        ),
      ),
    )
instruction_utf8 (AddPairing p) is texts = (
  word (codes "do") refl,
  word (codes "add-pairing") refl,
  (
    word (codes "pairing") refl,
    id_utf8 p.id (first_passes (is_id p.id) (BadField field.Pairing) _ is.0.0).0,
    (
      word (codes "periods") refl,
      each_utf8 period_json p.periods (λ f c. period_utf8 f (all_of are_shaped p.periods (all_shaped p is.0.0) f c) (all_of period_has_instants p.periods is.1 f c)),
      tt,
    ),
  ),
)
instruction_utf8 (CancelPairing id) is texts = (
  word (codes "do") refl,
  word (codes "cancel-pairing") refl,
  (
    word (codes "pairing") refl,
    id_utf8 id (passes (is_id id) (BadField field.Pairing) is.0.0),
    tt,
  ),
)
instruction_utf8 (Assign id who) is texts =
    let ids = two_ids id who (BadField field.Pairing) (BadField field.Crew) is.0.0 in (
      word (codes "crew") refl,
      ids.1,
      (
        word (codes "do") refl,
        word (codes "assign") refl,
        (
          word (codes "pairing") refl,
          ids.0,
          tt,
        ),
      ),
    )
instruction_utf8 (Release id who) is texts =
    let ids = two_ids id who (BadField field.Pairing) (BadField field.Crew) is.0.0 in (
      word (codes "crew") refl,
      ids.1,
      (
        word (codes "do") refl,
        word (codes "release") refl,
        (
          word (codes "pairing") refl,
          ids.0,
          tt,
        ),
      ),
    )
instruction_utf8 (Swap w) is texts =
    let first = first_passes (is_id w.pairing) (BadField field.Pairing) _ is.0.0 in
    let second = first_passes (is_id w.crew) (BadField field.Crew) _ first.1 in
    let third = first_passes (is_id w.other_pairing) (BadField field.OtherPairing) _ second.1 in
    let fourth = first_passes (is_id w.other_crew) (BadField field.OtherCrew) _ third.1 in (
      word (codes "crew") refl,
      id_utf8 w.crew second.0,
      (
        word (codes "do") refl,
        word (codes "swap") refl,
        (
          word (codes "other_crew") refl,
          id_utf8 w.other_crew fourth.0,
          (
            word (codes "other_pairing") refl,
            id_utf8 w.other_pairing third.0,
            (
              word (codes "pairing") refl,
              id_utf8 w.pairing first.0,
              tt,
            ),
          ),
        ),
      ),
    )
instruction_utf8 (AddGround g) is texts =
    let first = first_passes (is_id g.id) (BadField field.Ground) _ is.0.0 in
    let second = first_passes (is_id g.crew) (BadField field.Crew) _ first.1 in
    let times = and_parts (is_instant g.begin) (is_instant g.end) is.1 in (
      word (codes "begin") refl,
      instant_utf8 g.begin times.0,
      (
        word (codes "crew") refl,
        id_utf8 g.crew second.0,
        (
          word (codes "do") refl,
          word (codes "add-ground") refl,
          (
            word (codes "end") refl,
            instant_utf8 g.end times.1,
            (
              word (codes "ground") refl,
              id_utf8 g.id first.0,
              (
                word (codes "task") refl,
                texts,
                tt,
              ),
            ),
          ),
        ),
      ),
    )
instruction_utf8 (CancelGround id) is texts = (
  word (codes "do") refl,
  word (codes "cancel-ground") refl,
  (
    word (codes "ground") refl,
    id_utf8 id (passes (is_id id) (BadField field.Ground) is.0.0),
    tt,
  ),
)
instruction_utf8 (Actual id a) is texts =
    let all = and_parts (is_instant a.report && is_instant a.release) (list_all times_have_instants a.segments) is.1 in
    let ends = and_parts (is_instant a.report) (is_instant a.release) all.0 in (
      word (codes "do") refl,
      word (codes "actual") refl,
      (
        word (codes "pairing") refl,
        id_utf8 id (first_passes (is_id id) (BadField field.Pairing) _ is.0.0).0,
        (
          word (codes "period") refl,
          IsUtf8-from_ascii _ (IsAscii-decimal a.period (let most = is.0.1.1 in omega (arith, most))),
          (
            word (codes "release") refl,
            instant_utf8 a.release ends.1,
            (
              word (codes "report") refl,
              instant_utf8 a.report ends.0,
              (
                word (codes "segments") refl,
                all_times_utf8 a.segments all.1,
                tt,
              ),
            ),
          ),
        ),
      ),
    )
instruction_utf8 (RecordOutside who o) is texts =
    let first = first_passes (is_id o.id) (BadField field.Outside) _ is.0.0 in
    let second = first_passes (is_id who) (BadField field.Crew) _ first.1 in
    let all = and_parts (is_instant o.report && is_instant o.release) (list_all times_have_instants o.segments) is.1 in
    let ends = and_parts (is_instant o.report) (is_instant o.release) all.0 in (
      word (codes "crew") refl,
      id_utf8 who second.0,
      (
        word (codes "do") refl,
        word (codes "record-outside") refl,
        (
          word (codes "outside") refl,
          id_utf8 o.id first.0,
          (
            word (codes "release") refl,
            instant_utf8 o.release ends.1,
            (
              word (codes "report") refl,
              instant_utf8 o.report ends.0,
              (
                word (codes "segments") refl,
                all_times_utf8 o.segments all.1,
                tt,
              ),
            ),
          ),
        ),
      ),
    )

pub kept_utf8 : (instruction : Instruction) → IsCommand instruction → HasUtf8 instruction → IsUtf8 (kept_text instruction)
unfolding kept_text
kept_utf8 instruction is texts = compact_utf8 (instruction_json instruction) (instruction_utf8 instruction is texts)

-- ---- Replies

section_utf8 : (section : Section) → IsUtf8 (section_text section)
section_utf8 FlightTime = word (codes "117.11(a)(1)") refl
section_utf8 FlightDutyPeriod = word (codes "117.13(a)") refl
section_utf8 FlightTime672Hours = word (codes "117.23(b)(1)") refl
section_utf8 FlightTime365Days = word (codes "117.23(b)(2)") refl
section_utf8 FlightDutyPeriods168Hours = word (codes "117.23(c)(1)") refl
section_utf8 FlightDutyPeriods672Hours = word (codes "117.23(c)(2)") refl
section_utf8 ThirtyHourRest = word (codes "117.25(b)") refl
section_utf8 TenHourRest = word (codes "117.25(e)") refl

exceedance_utf8 : (e : Exceedance) → is_id e.crew ≡ true → IsOfUtf8 (exceedance_json e)
exceedance_utf8 e shape = (word (codes "crew") refl, id_utf8 e.crew shape, (word (codes "section") refl, section_utf8 e.section, tt))

pub reply_utf8 : (reply : Reply) → ((e : Exceedance) → Contains reply.exceedances e → is_id e.crew ≡ true) → IsUtf8 (reply_text reply)
unfolding reply_text
reply_utf8 reply shapes = compact_utf8 (reply_json reply) (
  word (codes "exceedances") refl,
  each_utf8 exceedance_json reply.exceedances (λ e c. exceedance_utf8 e (shapes e c)),
  (
    word (codes "result") refl,
    word (codes "accepted") refl,
    tt,
  ),
)
