-- A text of 17 bytes that is read is the written text.
use Rattle.std.proofs.Common.{◌≡◌, ℕ, suc, ◌+◌, ◌-◌, ◌*◌, ◌/◌, ◌%◌, ◌<◌, ◌≤◌, Bool, true, false, ◌&&◌, ◌||◌, ◌==◌, if◌then◌else◌, List, [], ◌∷◌, length, get_or, refl, sym, ap, ◌∙◌, arith, rules, nat_le, Result, Ok, Err}
use Rattle.std.proofs.lemmas.Bool.Decides.{nat_tests}
use Rattle.std.specs.Prelude.{codes, IfOk}
use Rattle.std.specs.List.{list_all, zip}
use Rattle.std.specs.Char.{IsAsciiDigit}
use Rattle.time117.specs.declared.minute.TimeFault.{TimeFault}
use Rattle.time117.specs.Instant.{day_number, fits, has_form, instant, is_time, is_written, pair_at, read_instant, written, written_at}
use Rattle.time117.proofs.FormLemmas.{both, digit_at, has_form_length}
use Rattle.time117.proofs.DateFacts.{at_most, date_of_unique, time_parts}

-- the letters of a form, with the bytes of a text from place k on where the form wants digits
abbrev fill : List ℕ → ℕ → List ℕ → List ℕ
fill [] k text = []
fill (p ∷ ps) k text = (if p == 100 then get_or text k 0 else p) ∷ fill ps (k + 1) text

byte_is : (p b given : ℕ) → b ≡ given → fits p b ≡ true → b ≡ (if p == 100 then given else p)
byte_is p b given same h = grind (arith, nat_tests)

cons : (a b : ℕ) (xs ys : List ℕ) → a ≡ b → xs ≡ ys → a ∷ xs ≡ b ∷ ys
cons a b xs ys e f = rw (e, f) refl

-- a text of a form has the form's letters and its own digits
filled : (form text whole : List ℕ) (k : ℕ) → ((j : ℕ) → get_or text j 0 ≡ get_or whole (k + j) 0) → length form ≡ length text → list_all (λ p. fits p.0 p.1) (zip form text) ≡ true → text ≡ fill form k whole
filled [] [] whole k at e t = refl
filled [] (b ∷ bs) whole k at e t = absurd (omega arith)
filled (p ∷ ps) [] whole k at e t = absurd (omega arith)
filled (p ∷ ps) (b ∷ bs) whole k at e t =
    cons _ _ _ _ (byte_is p b (get_or whole k 0) (let here : k + 0 ≡ k = omega arith in at 0 ∙ ap (λ i. get_or whole i 0) here) (both _ _ t).0)
    (filled ps bs whole (k + 1) (λ j. let next : k + suc j ≡ k + 1 + j = omega arith in at (suc j) ∙ ap (λ i. get_or whole i 0) next) (omega arith) (both _ _ t).1)

-- two digits are the digits of the number that they write
digits_back : (a b : ℕ) → IsAsciiDigit a → IsAsciiDigit b → (48 + (10 * (a - 48) + (b - 48)) / 10 ≡ a) × (48 + (10 * (a - 48) + (b - 48)) % 10 ≡ b) × (10 * (a - 48) + (b - 48) < 100)
digits_back a b ha hb = (omega arith, omega arith, omega arith)

value_of : Result ℕ TimeFault → ℕ
value_of (Ok n) = n
value_of (Err e) = 0

abbrev ok : ℕ → Result ℕ TimeFault
ok n = Ok n

same_ok : (a b : ℕ) → ok a ≡ ok b → a ≡ b
unfolding value_of
same_ok a b h = ap value_of h

-- what a minute says of the parts that name it
record Names (year month day hour minute m : ℕ) : Type 0 where
  pub time : is_time year month day hour minute ≡ true
  pub century : (2000 ≤ year) × (year ≤ 2099)
  pub number : 1_440 * day_number year month day + 60 * hour + minute ≡ m

names : (year month day hour minute m : ℕ) → instant year month day hour minute ≡ Ok m → Names year month day hour minute m
names year month day hour minute m h =
    by_time (is_time year month day hour minute) refl
  where
    by_range : (b : Bool) → is_time year month day hour minute ≡ true → (nat_le 2000 year && nat_le year 2099) ≡ b → Names year month day hour minute m
    by_range true t e = record {
      time = t;
      century = (at_most _ _ (both _ _ e).0, at_most _ _ (both _ _ e).1);
      number = same_ok _ _ (rw (t, e) at h);
    }
    by_range false t e = absurd (search rules)

    by_time : (b : Bool) → is_time year month day hour minute ≡ b → Names year month day hour minute m
    by_time true e = by_range (nat_le 2000 year && nat_le year 2099) e refl
    by_time false e = absurd (search rules)

-- by the date and the time of the day that name it
written_parts : (year month day hour minute m : ℕ) → Names year month day hour minute m → written m ≡ written_at (record { year = year; month = month; day = day }) hour minute
unfolding written
written_parts year month day hour minute m n =
    let t = time_parts year month day hour minute n.time in
    let d = date_of_unique year month day n.century t.month_in t.day_in in
    let days : m / 1_440 ≡ day_number year month day = omega (arith, n.number, t.hour_in, t.minute_in) in
    let hours : m % 1_440 / 60 ≡ hour = omega (arith, n.number, t.hour_in, t.minute_in) in
    let minutes : m % 60 ≡ minute = omega (arith, n.number, t.hour_in, t.minute_in) in
    rw (days, hours, minutes, d.0, d.1, d.2) refl

-- the parts that a text writes, written
parts_written : (text : List ℕ) → is_written text ≡ true → written_at (record { year = 100 * pair_at text 0 + pair_at text 2; month = pair_at text 5; day = pair_at text 8 }) (pair_at text 11) (pair_at text 14) ≡ fill (codes "dddd-dd-ddTdd:ddZ") 0 text
parts_written text h =
    let digit : (k : ℕ) → get_or (codes "dddd-dd-ddTdd:ddZ") k 0 ≡ 100 → get_or (codes "dddd-dd-ddTdd:dd:00Z") k 0 ≡ 100 → k < 17 → IsAsciiDigit (get_or text k 0) = digit_at text h in
    let a = digits_back (get_or text 0 0) (get_or text 1 0) (digit 0 refl refl (omega arith)) (digit 1 refl refl (omega arith)) in
    let b = digits_back (get_or text 2 0) (get_or text 3 0) (digit 2 refl refl (omega arith)) (digit 3 refl refl (omega arith)) in
    let c = digits_back (get_or text 5 0) (get_or text 6 0) (digit 5 refl refl (omega arith)) (digit 6 refl refl (omega arith)) in
    let d = digits_back (get_or text 8 0) (get_or text 9 0) (digit 8 refl refl (omega arith)) (digit 9 refl refl (omega arith)) in
    let e = digits_back (get_or text 11 0) (get_or text 12 0) (digit 11 refl refl (omega arith)) (digit 12 refl refl (omega arith)) in
    let f = digits_back (get_or text 14 0) (get_or text 15 0) (digit 14 refl refl (omega arith)) (digit 15 refl refl (omega arith)) in
    let y = century (pair_at text 0) (pair_at text 2) b.2 in
    rw (y.0, y.1, a.0, a.1, b.0, b.1, c.0, c.1, d.0, d.1, e.0, e.1, f.0, f.1) refl
  where
    century : (p q : ℕ) → q < 100 → ((100 * p + q) / 100 ≡ p) × ((100 * p + q) % 100 ≡ q)
    century p q lt = (omega arith, omega arith)

is_read : (text : List ℕ) (m : ℕ) → read_instant text ≡ Ok m → is_written text ≡ true
unfolding read_instant
is_read text m h =
    by_form (is_written text) refl
  where
    by_form : (b : Bool) → is_written text ≡ b → b ≡ true
    by_form true e = refl
    by_form false e = absurd (search rules)

-- of 17 bytes only the first form has a text
first_form : (text : List ℕ) → is_written text ≡ true → length text ≡ 17 → has_form (codes "dddd-dd-ddTdd:ddZ") text ≡ true
first_form text h len =
    by_form (has_form (codes "dddd-dd-ddTdd:ddZ") text) refl
  where
    other : (a b : Bool) → a ≡ false → (a || b) ≡ true → b ≡ true
    other a b e t = rw e at t

    by_form : (b : Bool) → has_form (codes "dddd-dd-ddTdd:ddZ") text ≡ b → b ≡ true
    by_form true e = refl
    by_form false e = absurd (omega (arith, has_form_length (codes "dddd-dd-ddTdd:dd:00Z") text (other _ _ e h)))

same_text : (text : List ℕ) (m : ℕ) → read_instant text ≡ Ok m → length text ≡ 17 → text ≡ written m
unfolding read_instant
same_text text m h len =
    let form = is_read text m h in
    let first = first_form text form len in
    let named = names (100 * pair_at text 0 + pair_at text 2) (pair_at text 5) (pair_at text 8) (pair_at text 11) (pair_at text 14) m (rw form at h) in
    let whole = filled (codes "dddd-dd-ddTdd:ddZ") text text 0 (λ j. let same : j ≡ 0 + j = omega arith in ap (λ i. get_or text i 0) same) (has_form_length (codes "dddd-dd-ddTdd:ddZ") text first) (both _ _ first).1 in
    whole ∙ sym (parts_written text form) ∙ sym (written_parts _ _ _ _ _ m named)

-- a text of 17 bytes is what is written of the minute that it is read as
pub read_first_form : (text : List ℕ) (r : Result ℕ TimeFault) → r ≡ read_instant text → IfOk r (λ m. length text ≡ 17 → text ≡ written m)
read_first_form text (Ok m) h = same_text text m (sym h)
read_first_form text (Err e) h = search rules
