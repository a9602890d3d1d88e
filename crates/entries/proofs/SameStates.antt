-- Sound states with the same rows are equal.
use Rattle.std.proofs.Common.{◌≡◌, refl, sym, ap, ◌∙◌, arith, ℕ, ◌+◌, List, [], ◌∷◌, Some, Ok, Result, slice_get}
use Rattle.std.specs.FinMap as fin
use Rattle.sqlite_value.specs.Order.{Row, column}
use Rattle.limits.specs.SectionText.{section_number}
use Rattle.command.specs.declared.member.Member.{Member}
use Rattle.command.specs.Keys.{key_name}
use Rattle.command.specs.declared.exceedance.Reply.{Reply}
use Rattle.roster.specs.Sound.{Members, IsNamed, Sound}
use Rattle.roster.specs.State.{State, exceedance_name}
use Rattle.roster.specs.declared.state.DutyId.{DutyId}
use Rattle.roster.specs.declared.state.DutyId.TheVariants.{Period, Outside}
use Rattle.roster.specs.declared.state.OutsideEntry.{OutsideEntry}
use Rattle.stored_json.specs.KeptText.{kept_text}
use Rattle.stored_json.specs.ReplyText.{reply_text, read_reply}
use Rattle.stored_json.proofs.InstructionsBack.{kept_differ}
use Rattle.stored_json.proofs.ReplyBack.{reply_back}
use Rattle.state_rows.specs.Rows.{At, OutsideSegmentOf, crew, pairing, period, segment, seat, ground_duty, exceedance, request, base, crew_base, outside, outside_segment, InOutside, InOutsideSegment, row_of_outside, row_of_outside_segment, named_id, named_number, InBase, InCrewBase, InCrew, InGround, InExceedance, InRequest, row_of_base, row_of_member, row_of_post, row_of_pairing, row_of_ground, row_of_exceedance, row_of_request, seat_number}
use Rattle.entries.specs.SameRows.{HasInstants, SameRows, RowsSayAll, HoldsOneState}
use Rattle.state_rows.proofs.Lists.{Answers, one_value, same_list, same_map}
use Rattle.entries.proofs.Duties.{IsAboveZero, duties_same}
use Rattle.entries.proofs.SamePairings.{same_pairing}
use Rattle.state_rows.proofs.Values.{members_same, seats_same, sections_same, text_is, number_is}

pub bases_told : (s t : State) → ((row : Row) → InBase s row → InBase t row) → (id : List ℕ) → Answers (fin.get s.bases id) (fin.get t.bases id)
bases_told s t told id zone e =
    let it = told (row_of_base id zone) (record { name = id; value = zone; there = e }, refl) in
    let same_id : id ≡ it.0.name = text_is (ap (λ (row : Row). column row 0) it.1) in
    let same : it.0.value ≡ zone = text_is (sym (ap (λ (row : Row). column row 1) it.1)) in
    ap (fin.get t.bases) same_id ∙ it.0.there ∙ ap Some same

-- a member who is the same but for the base
pub record Alike (members : Members) (who : List ℕ) (m : Member) : Type 0 where
  pub other : Member
  pub there : fin.get members who ≡ Some other
  pub seat : other.seat ≡ m.seat
  pub name : other.name ≡ m.name

-- each of these members is among the others, the same but for the base
abbrev pub HasAlike : Members → Members → Type 0
HasAlike members others = (who : List ℕ) (m : Member) → fin.get members who ≡ Some m → Alike others who m

pub crew_told : (s t : State) → ((row : Row) → InCrew s row → InCrew t row) → HasAlike s.crew t.crew
crew_told s t told id m e =
    let it = told (row_of_member id m) (record { name = id; value = m; there = e }, refl) in
    let same = it.1 in
    let at_column = λ (k : ℕ). ap (λ (row : Row). column row k) same in
    let same_id : id ≡ it.0.name = text_is (at_column 0) in
    let seat : seat_number it.0.value.seat ≡ seat_number m.seat = number_is (sym (at_column 1)) in
    let name : it.0.value.name ≡ m.name = text_is (sym (at_column 2)) in
    record { other = it.0.value; there = ap (fin.get t.crew) same_id ∙ it.0.there; seat = seats_same it.0.value.seat m.seat seat; name = name }

-- with their bases, members are the same
members_told : (s t : State) → ((row : Row) → InCrew s row → InCrew t row) → ((row : Row) → InCrewBase s row → InCrewBase t row) → (id : List ℕ) → Answers (fin.get s.crew id) (fin.get t.crew id)
members_told s t crew_is base_is id m e =
    let alike = crew_told s t crew_is id m e in
    let it = base_is (row_of_post id m.base) (record { name = id; value = m; there = e }, refl) in
    let same_id : id ≡ it.0.name = text_is (ap (λ (row : Row). column row 0) it.1) in
    let same : it.0.value ≡ alike.other = one_value (ap (fin.get t.crew) same_id ∙ it.0.there) alike.there in
    let based : alike.other.base ≡ m.base = ap (λ (n : Member). n.base) (sym same) ∙ text_is (sym (ap (λ (row : Row). column row 1) it.1)) in
    alike.there ∙ ap Some (members_same alike.other m (ap seat_number alike.seat) alike.name based)

grounds_told : (s t : State) → Sound s → Sound t → ((row : Row) → InGround s row → InGround t row) → (id : List ℕ) → Answers (fin.get s.grounds id) (fin.get t.grounds id)
grounds_told s t ss st told id g e =
    let it = told (row_of_ground id g) (record { name = id; value = g; there = e }, refl) in
    let same = it.1 in
    let at_column = λ (k : ℕ). ap (λ (row : Row). column row k) same in
    let same_id : id ≡ it.0.name = text_is (at_column 0) in
    let here = (ss.grounds id g e).named in
    let there = (st.grounds it.0.name it.0.value it.0.there).named in
    let crew : it.0.value.crew ≡ g.crew = text_is (sym (at_column 1)) in
    let task : it.0.value.task ≡ g.task = text_is (sym (at_column 2)) in
    let begin : it.0.value.begin ≡ g.begin = number_is (sym (at_column 3)) in
    let end : it.0.value.end ≡ g.end = number_is (sym (at_column 4)) in
    let plan : it.0.value ≡ g = λ i. record {
      id = (there ∙ sym same_id ∙ sym here) i;
      crew = crew i;
      begin = begin i;
      end = end i;
      task = task i;
    } in
    ap (fin.get t.grounds) same_id ∙ it.0.there ∙ ap Some plan

-- ---- Outside periods

-- a segment of an outside period is one of the other under the same id
times_told : (s t : State) → ((row : Row) → InOutsideSegment s row → InOutsideSegment t row) → (id : List ℕ) (o other : OutsideEntry) → fin.get s.outsides id ≡ Some o →
    fin.get t.outsides id ≡ Some other → (i : ℕ) → Answers (slice_get o.period.segments i) (slice_get other.period.segments i)
times_told s t told id o other e f i times there =
    let at : At s.outsides = record { name = id; value = o; there = e } in
    let g : OutsideSegmentOf o.period = record { place = i; times = times; flown = there } in
    let it = told (row_of_outside_segment id i times) (at, g, refl) in
    let at_column = λ (k : ℕ). ap (λ (row : Row). column row k) it.2 in
    let same_id : id ≡ it.0.name = text_is (at_column 0) in
    let next : i + 1 ≡ it.1.place + 1 = number_is (at_column 1) in
    let place : i ≡ it.1.place = omega (arith, next) in
    let out : it.1.times.block_out ≡ times.block_out = number_is (sym (at_column 2)) in
    let back : it.1.times.block_in ≡ times.block_in = number_is (sym (at_column 3)) in
    let same_times : it.1.times ≡ times = λ k. record { block_out = out k; block_in = back k } in
    let same : other ≡ it.0.value = one_value f (ap (fin.get t.outsides) same_id ∙ it.0.there) in
    ap (λ (x : OutsideEntry). slice_get x.period.segments i) same ∙ ap (slice_get it.0.value.period.segments) place ∙ it.1.flown ∙ ap Some same_times

outsides_told : (s t : State) → Sound s → Sound t → ((row : Row) → InOutside s row → InOutside t row) → ((row : Row) → InOutsideSegment s row → InOutsideSegment t row) →
    ((row : Row) → InOutsideSegment t row → InOutsideSegment s row) → (id : List ℕ) → Answers (fin.get s.outsides id) (fin.get t.outsides id)
outsides_told s t ss st told to back id o e =
    let it = told (row_of_outside id o) (record { name = id; value = o; there = e }, refl) in
    let at_column = λ (k : ℕ). ap (λ (row : Row). column row k) it.1 in
    let same_id : id ≡ it.0.name = text_is (at_column 0) in
    let there : fin.get t.outsides id ≡ Some it.0.value = ap (fin.get t.outsides) same_id ∙ it.0.there in
    let crew : it.0.value.crew ≡ o.crew = text_is (sym (at_column 1)) in
    let report : it.0.value.period.report ≡ o.period.report = number_is (sym (at_column 2)) in
    let release : it.0.value.period.release ≡ o.period.release = number_is (sym (at_column 3)) in
    let named : it.0.value.period.id ≡ o.period.id = (st.outsides id it.0.value there).named ∙ sym (ss.outsides id o e).named in
    let segments : it.0.value.period.segments ≡ o.period.segments =
    same_list it.0.value.period.segments o.period.segments (times_told t s back id it.0.value o there e) (times_told s t to id o it.0.value e there) in
    let same : it.0.value ≡ o = λ i. record { crew = crew i; period = record { id = named i; report = report i; release = release i; segments = segments i } } in
    there ∙ ap Some same

-- ---- Exceedances

-- what a sound state's exceedance names has its number in the tables, above 0 if it is a period's
above_zero : (s : State) (named : DutyId) → IsNamed s named → IsAboveZero named
above_zero s (Period p) is = let n = is.number in omega (arith, n)
above_zero s (Outside id) is = tt

exceedances_told : (s t : State) → Sound s → Sound t → ((row : Row) → InExceedance s row → InExceedance t row) → (name : List ℕ) → Answers (fin.get s.exceedances name) (fin.get t.exceedances name)
exceedances_told s t ss st told name p e =
    let x = ss.exceedances name p e in
    let it = told (row_of_exceedance x.key x.crew x.section p)
    (record { key = x.key; crew = x.crew; section = x.section; named = p; there = ap (fin.get s.exceedances) (sym x.known_by) ∙ e }, refl) in
    let same = it.1 in
    let at_column = λ (k : ℕ). ap (λ (row : Row). column row k) same in
    let number : x.key.number ≡ it.0.key.number = number_is (at_column 0) in
    let part : x.key.part ≡ it.0.key.part = number_is (at_column 1) in
    let crew : x.crew ≡ it.0.crew = text_is (at_column 2) in
    let section_is : section_number x.section ≡ section_number it.0.section = number_is (at_column 3) in
    let id : named_id it.0.named ≡ named_id p = text_is (sym (at_column 4)) in
    let number_of : named_number it.0.named ≡ named_number p = number_is (sym (at_column 5)) in
    let key : x.key ≡ it.0.key = λ i. record { number = number i; part = part i } in
    let section = sections_same x.section it.0.section section_is in
    let named : name ≡ exceedance_name it.0.key it.0.crew it.0.section = x.known_by ∙ (λ i. exceedance_name (key i) (crew i) (section i)) in
    let y = st.exceedances (exceedance_name it.0.key it.0.crew it.0.section) it.0.named it.0.there in
    let duty : it.0.named ≡ p = duties_same it.0.named p (above_zero t it.0.named y.of_duty) (above_zero s p x.of_duty) id number_of in
    ap (fin.get t.exceedances) named ∙ it.0.there ∙ ap Some duty

replies_same : (a b : Reply) → reply_text a ≡ reply_text b → a ≡ b
replies_same a b e = let same : ◌≡◌ {A = Result Reply _} (Ok a) (Ok b) = sym (reply_back a) ∙ ap read_reply e ∙ reply_back b in cc

requests_told : (s t : State) → Sound s → Sound t → HasInstants s → HasInstants t → ((row : Row) → InRequest s row → InRequest t row) → (name : List ℕ) → Answers (fin.get s.requests name) (fin.get t.requests name)
requests_told s t ss st is it_is told name r e =
    let x = ss.requests name r e in
    let it = told (row_of_request x.key r) (record { key = x.key; kept = r; there = ap (fin.get s.requests) (sym x.known_by) ∙ e }, refl) in
    let same = it.1 in
    let at_column = λ (k : ℕ). ap (λ (row : Row). column row k) same in
    let number : x.key.number ≡ it.0.key.number = number_is (at_column 0) in
    let part : x.key.part ≡ it.0.key.part = number_is (at_column 1) in
    let command_text : kept_text it.0.kept.command ≡ kept_text r.command = text_is (sym (at_column 2)) in
    let reply_is : reply_text it.0.kept.reply ≡ reply_text r.reply = text_is (sym (at_column 3)) in
    let named : name ≡ key_name it.0.key = x.known_by ∙ (λ i. number i ∷ part i ∷ []) in
    let y = st.requests (key_name it.0.key) it.0.kept it.0.there in
    let command = kept_differ it.0.kept.command r.command (y.made, it_is _ it.0.kept it.0.there) (x.made, is name r e) command_text in
    let kept : it.0.kept ≡ r = λ i. record { command = command i; reply = replies_same it.0.kept.reply r.reply reply_is i } in
    ap (fin.get t.requests) named ∙ it.0.there ∙ ap Some kept

pairings_told : (s t : State) → Sound s → Sound t → SameRows s t → (id : List ℕ) → Answers (fin.get s.pairings id) (fin.get t.pairings id)
pairings_told s t ss st same id r e =
    let it = (same pairing (row_of_pairing id)).0 (record { name = id; value = r; there = e }, refl) in
    let is = it.1 in
    let same_id : id ≡ it.0.name = text_is (ap (λ (row : Row). column row 0) is) in
    let there : fin.get t.pairings id ≡ Some it.0.value = ap (fin.get t.pairings) same_id ∙ it.0.there in
    there ∙ ap Some (sym (same_pairing s t id r it.0.value e there (ss.pairings id r e) (st.pairings id it.0.value there)
    (λ row. (same period row).0) (λ row. (same period row).1) (λ row. (same segment row).0) (λ row. (same segment row).1)
    (λ row. (same seat row).0) (λ row. (same seat row).1)))

turned : (s t : State) → SameRows s t → SameRows t s
turned s t same name row = ((same name row).1, (same name row).0)

pub rows_say_all : RowsSayAll
rows_say_all s t ss st is it same = λ i. record {
  bases = same_map s.bases t.bases (bases_told s t (λ row. (same base row).0)) (bases_told t s (λ row. (same base row).1)) i;
  crew = same_map s.crew t.crew (members_told s t (λ row. (same crew row).0) (λ row. (same crew_base row).0)) (members_told t s (λ row. (same crew row).1) (λ row. (same crew_base row).1)) i;
  pairings = same_map s.pairings t.pairings (pairings_told s t ss st same) (pairings_told t s st ss (turned s t same)) i;
  grounds = same_map s.grounds t.grounds (grounds_told s t ss st (λ row. (same ground_duty row).0)) (grounds_told t s st ss (λ row. (same ground_duty row).1)) i;
  outsides = same_map s.outsides t.outsides
      (outsides_told s t ss st (λ row. (same outside row).0) (λ row. (same outside_segment row).0) (λ row. (same outside_segment row).1))
      (outsides_told t s st ss (λ row. (same outside row).1) (λ row. (same outside_segment row).1) (λ row. (same outside_segment row).0)) i;
  exceedances = same_map s.exceedances t.exceedances (exceedances_told s t ss st (λ row. (same exceedance row).0)) (exceedances_told t s st ss (λ row. (same exceedance row).1)) i;
  requests = same_map s.requests t.requests (requests_told s t ss st is it (λ row. (same request row).0)) (requests_told t s st ss it is (λ row. (same request row).1)) i;
}

pub database_holds_one_state : HoldsOneState
database_holds_one_state s t db ss st is it p q = rows_say_all s t ss st is it (λ name row.
    (λ x. (q name row).0 ((p name row).1 x), λ x. (p name row).0 ((q name row).1 x)))
