-- The board of the part that is handed out for it is the board of the state, and so is what is kept under a number.
use Rattle.std.proofs.Common.{◌≡◌, ◌↔◌, ℕ, Bool, true, false, ◌&&◌, ◌||◌, ◌++◌, cond, inl, inr, is_some, ◌+◌, Option, None, List, [], ◌∷◌, map, refl, sym, ap, subst, ◌∙◌}
use Rattle.std.specs.FinMap as fin
use Rattle.std.specs.FinMap.{entries_sorted, find}
use Rattle.std.specs.FinMap.Entries.{find-where_key, is_sorted-where_key, same_entries}
use Rattle.std.specs.Cmp.Lexicographic.{nat_list_cmp_total}
use Rattle.values.proofs.Names.{exact_names}
use Rattle.std.specs.List.{AllZip, Contains, enumerate_from, filter, flat_map, list_any}
use Rattle.std.specs.Option.{option_map_or}
use Rattle.std.specs.Str.{bytes_eq}
use Rattle.std.proofs.lemmas.Bool.{cases_Bool}
use Rattle.std.proofs.lemmas.List.Elements.{filter-append}
use Rattle.std.proofs.lemmas.Slice.Eq.{bytes_eq-Decides}
use Rattle.values.specs.Name.{name_cmp}
use Rattle.request.specs.Days.{Days, meets}
use Rattle.command.specs.declared.member.Member.{Member}
use Rattle.duty.specs.Plans.{GroundPlan}
use Rattle.report.specs.Board.{ground_meets, grounds_in, has_period_in, is_open_in, open_in, outside_meets, outsides_in, period_meets, periods_in}
use Rattle.report.specs.BoardText.{IsBoardText, IsMemberInDays, lines_in}
use Rattle.report.specs.Kept.{kept_under, part_in}
use Rattle.report.specs.Lines.{AreLinesInOrder}
use Rattle.report.specs.PairingsText.{AreRowsInOrder, listed_row}
use Rattle.report.specs.Periods.{pairing_periods}
use Rattle.report.specs.RequestText.{part_lines, request_header, request_text}
use Rattle.report.specs.RosterText.{ground_line, outside_line, roster_period_line, roster_period_lines}
use Rattle.report.specs.declared.line.Line.{Line}
use Rattle.roster.specs.Pairings.{holds}
use Rattle.roster.specs.Refusals.{is_member}
use Rattle.roster.specs.State.{State}
use Rattle.roster.specs.declared.state.LoggedCommand.{LoggedCommand}
use Rattle.roster.specs.declared.state.OutsideEntry.{OutsideEntry}
use Rattle.roster.specs.declared.state.PairingEntry.{PairingEntry}
use Rattle.roster.proofs.Members.{from_rows, is_first, is_later}
use Rattle.part.specs.Shown.{board_part, is_ground_in, is_outside_in, is_pairing_in, is_under, request_part}
use Rattle.part.proofs.Retained.{from_retained, get_retained, retained, same_passing}

-- ---- Lists

both : (a b : Bool) → (a && b) ≡ true → (a ≡ true) × (b ≡ true)
both true b is = (refl, is)
both false b is = absurd cc

and_so : (a b : Bool) → a ≡ true → b ≡ true → (a && b) ≡ true
and_so a b first second = ap (λ x. x && b) first ∙ second

-- what gives nothing can be left out
pub flat_without : {A B : Type 0} (g : A → List B) (h t : A → Bool) (xs : List A) → ((x : A) → t x ≡ false → g x ≡ [])
    → flat_map g (filter h xs) ≡ flat_map g (filter (λ x. h x && t x) xs)
flat_without g h t [] none = refl
flat_without g h t (x ∷ xs) none =
    let rest = flat_without g h t xs none in
    elim (h x) as (λ a. flat_map g (cond a (x ∷ filter h xs) (filter h xs))
    ≡ flat_map g (cond (a && t x) (x ∷ filter (λ y. h y && t y) xs) (filter (λ y. h y && t y) xs))) [
      | true ↦ elim (cases_Bool (t x)) [
        | inl passes ↦
            ap (λ l. g x ++ l) rest
            ∙ ap (λ b. flat_map g (cond b (x ∷ filter (λ y. h y && t y) xs) (filter (λ y. h y && t y) xs))) (sym passes)
        | inr fails ↦
            ap (λ l. l ++ flat_map g (filter h xs)) (none x fails)
            ∙ rest
            ∙ ap (λ b. flat_map g (cond b (x ∷ filter (λ y. h y && t y) xs) (filter (λ y. h y && t y) xs))) (sym fails)
      ]
      | false ↦ rest
    ]

filter_flat : {A B : Type 0} (t : B → Bool) (f : A → List B) (xs : List A)
    → filter t (flat_map f xs) ≡ flat_map (λ x. filter t (f x)) xs
filter_flat t f [] = refl
filter_flat t f (x ∷ xs) = filter-append t (f x) (flat_map f xs) ∙ ap (λ l. filter t (f x) ++ l) (filter_flat t f xs)

filter_map_of : {A B : Type 0} (t : B → Bool) (f : A → B) (xs : List A) → filter t (map f xs) ≡ map f (filter (λ x. t (f x)) xs)
filter_map_of t f [] = refl
filter_map_of t f (x ∷ xs) =
    let rest = filter_map_of t f xs in
    elim (t (f x)) as (λ b. cond b (f x ∷ filter t (map f xs)) (filter t (map f xs)) ≡ map f (cond b (x ∷ filter (λ y. t (f y)) xs) (filter (λ y. t (f y)) xs))) [
      | true ↦ ap (λ l. f x ∷ l) rest
      | false ↦ rest
    ]

filter_twice : {A : Type 0} (a b : A → Bool) (xs : List A) → filter b (filter a xs) ≡ filter (λ x. a x && b x) xs
filter_twice a b [] = refl
filter_twice a b (x ∷ xs) =
    let rest = filter_twice a b xs in
    elim (a x) as (λ t. filter b (cond t (x ∷ filter a xs) (filter a xs)) ≡ cond (t && b x) (x ∷ filter (λ y. a y && b y) xs) (filter (λ y. a y && b y) xs)) [
      | true ↦ ap (λ l. cond (b x) (x ∷ l) l) rest
      | false ↦ rest
    ]

-- a list of which no element passes has none with a number either
none_numbered : {A : Type 0} (t : A → Bool) (n : ℕ) (xs : List A) → list_any t xs ≡ false
    → filter (λ row. t row.1) (enumerate_from n xs) ≡ []
none_numbered t n [] none = refl
none_numbered t n (x ∷ xs) none = elim (cases_Bool (t x)) [
  | inl is ↦ let never : true ≡ false = sym (ap (λ b. b || list_any t xs) is) ∙ none in absurd cc
  | inr is ↦
      ap (λ b. cond b ((n, x) ∷ filter (λ row. t row.1) (enumerate_from (n + 1) xs)) (filter (λ row. t row.1) (enumerate_from (n + 1) xs))) is
      ∙ none_numbered t (n + 1) xs (sym (ap (λ b. b || list_any t xs) is) ∙ none)
]

-- ---- A state and its part

pub no_periods : (days : Days) (r : PairingEntry) → has_period_in days r ≡ false → periods_in days r ≡ []
no_periods days r none = none_numbered (period_meets days) 1 (pairing_periods r) none

module _ (s : State) (days : Days) where
  abbrev part : State
  part = board_part s days

  pub held_in_same : (who : List ℕ)
      → filter (λ (row : List ℕ × PairingEntry). holds who row.1 && has_period_in days row.1) (fin.entries part.pairings)
      ≡ filter (λ (row : List ℕ × PairingEntry). holds who row.1 && has_period_in days row.1) (fin.entries s.pairings)
  held_in_same who = same_passing (λ r. holds who r && has_period_in days r) part.pairings s.pairings
      (λ id r there. (from_retained s.pairings (is_pairing_in s days) id r there).1)
      (λ id r there passes. retained s.pairings (is_pairing_in s days) id
      (ap (λ o. option_map_or (has_period_in days) o false) there ∙ (both _ _ passes).1) ∙ there)

  pub open_in_same : open_in days part ≡ open_in days s
  open_in_same = same_passing (is_open_in days) part.pairings s.pairings
      (λ id r there. (from_retained s.pairings (is_pairing_in s days) id r there).1)
      (λ id r there passes. retained s.pairings (is_pairing_in s days) id
      (ap (λ o. option_map_or (has_period_in days) o false) there ∙ (both _ _ passes).1) ∙ there)

  module _ (who : List ℕ) (member : is_member s who ≡ true) where
    of_member : (crew : List ℕ) → bytes_eq crew who ≡ true → is_member s crew ≡ true
    of_member crew same = ap (is_member s) ((bytes_eq-Decides crew who).0 same) ∙ member

    pub grounds_in_same : grounds_in days part who ≡ grounds_in days s who
    grounds_in_same = same_passing (λ g. bytes_eq g.crew who && ground_meets days g) part.grounds s.grounds
        (λ id g there. (from_retained s.grounds (is_ground_in s days) id g there).1)
        (λ id g there passes. let is = both _ _ passes in retained s.grounds (is_ground_in s days) id
        (ap (λ o. option_map_or (λ (x : GroundPlan). is_member s x.crew && ground_meets days x) o false) there
        ∙ and_so _ _ (of_member g.crew is.0) is.1) ∙ there)

    pub outsides_in_same : outsides_in days part who ≡ outsides_in days s who
    outsides_in_same = same_passing (λ o. bytes_eq o.crew who && outside_meets days o) part.outsides s.outsides
        (λ id o there. (from_retained s.outsides (is_outside_in s days) id o there).1)
        (λ id o there passes. let is = both _ _ passes in retained s.outsides (is_outside_in s days) id
        (ap (λ x. option_map_or (λ (y : OutsideEntry). is_member s y.crew && outside_meets days y) x false) there
        ∙ and_so _ _ (of_member o.crew is.0) is.1) ∙ there)

-- ---- The text

abbrev in_days : Days → Line → Bool
in_days days = λ line. meets days line.begin line.end

-- the lines of a member by what they are made of
period_lines_in : (days : Days) (entry : List ℕ × PairingEntry)
    → filter (in_days days) (roster_period_lines entry) ≡ map (roster_period_line entry.0) (periods_in days entry.1)
period_lines_in days entry = filter_map_of (in_days days) (roster_period_line entry.0) (enumerate_from 1 (pairing_periods entry.1))

no_lines : (days : Days) (entry : List ℕ × PairingEntry) → has_period_in days entry.1 ≡ false
    → filter (in_days days) (roster_period_lines entry) ≡ []
no_lines days entry none = period_lines_in days entry ∙ ap (map (roster_period_line entry.0)) (no_periods days entry.1 none)

module _ (days : Days) (t : State) (who : List ℕ) where
  abbrev pairings : List (List ℕ × PairingEntry)
  pairings = filter (λ (row : List ℕ × PairingEntry). holds who row.1) (fin.entries t.pairings)

  abbrev grounds : List (List ℕ × GroundPlan)
  grounds = filter (λ (row : List ℕ × GroundPlan). bytes_eq row.1.crew who) (fin.entries t.grounds)

  abbrev outsides : List (List ℕ × OutsideEntry)
  outsides = filter (λ (row : List ℕ × OutsideEntry). bytes_eq row.1.crew who) (fin.entries t.outsides)

  abbrev lines_of_entry : List ℕ × PairingEntry → List Line
  lines_of_entry entry = filter (in_days days) (roster_period_lines entry)

  period_lines : filter (in_days days) (flat_map roster_period_lines pairings)
      ≡ flat_map lines_of_entry (filter (λ (row : List ℕ × PairingEntry). holds who row.1 && has_period_in days row.1) (fin.entries t.pairings))
  period_lines =
      filter_flat (in_days days) roster_period_lines pairings
      ∙ flat_without lines_of_entry (λ (row : List ℕ × PairingEntry). holds who row.1) (λ row. has_period_in days row.1) (fin.entries t.pairings)
      (no_lines days)

  ground_lines : filter (in_days days) (map ground_line grounds) ≡ map ground_line (grounds_in days t who)
  ground_lines =
      filter_map_of (in_days days) ground_line grounds
      ∙ ap (map ground_line) (filter_twice (λ (row : List ℕ × GroundPlan). bytes_eq row.1.crew who) (λ row. ground_meets days row.1) (fin.entries t.grounds))

  outside_lines : filter (in_days days) (map outside_line outsides) ≡ map outside_line (outsides_in days t who)
  outside_lines =
      filter_map_of (in_days days) outside_line outsides
      ∙ ap (map outside_line) (filter_twice (λ (row : List ℕ × OutsideEntry). bytes_eq row.1.crew who) (λ row. outside_meets days row.1) (fin.entries t.outsides))

  lines_parts : lines_in days t who
      ≡ flat_map lines_of_entry (filter (λ (row : List ℕ × PairingEntry). holds who row.1 && has_period_in days row.1) (fin.entries t.pairings))
      ++ map ground_line (grounds_in days t who) ++ map outside_line (outsides_in days t who)
  lines_parts =
      filter-append (in_days days) (flat_map roster_period_lines pairings ++ map ground_line grounds) (map outside_line outsides)
      ∙ ap (λ l. l ++ filter (in_days days) (map outside_line outsides))
      (filter-append (in_days days) (flat_map roster_period_lines pairings) (map ground_line grounds))
      ∙ (λ i. period_lines i ++ ground_lines i ++ outside_lines i)

module _ (s : State) (days : Days) where
  lines_same : (who : List ℕ) → is_member s who ≡ true → lines_in days (board_part s days) who ≡ lines_in days s who
  lines_same who member =
      lines_parts days (board_part s days) who
      ∙ (λ i. flat_map (λ entry. filter (in_days days) (roster_period_lines entry)) (held_in_same s days who i)
      ++ map ground_line (grounds_in_same s days who member i) ++ map outside_line (outsides_in_same s days who member i))
      ∙ sym (lines_parts days s who)

module _ (s t : State) (days : Days) where
  -- the text of a member in another state where the lines are the same
  member_on : (entry : List ℕ × Member) (text : List ℕ) → lines_in days s entry.0 ≡ lines_in days t entry.0
      → IsMemberInDays s days entry text → IsMemberInDays t days entry text
  member_on entry text same is = record {
    lines = is.lines;
    in_order = subst (λ l. AreLinesInOrder l is.lines) same is.in_order;
    is = is.is;
  }

  members_on : (entries : List (List ℕ × Member)) (texts : List (List ℕ))
      → ((entry : List ℕ × Member) → Contains entries entry → lines_in days s entry.0 ≡ lines_in days t entry.0)
      → AllZip (IsMemberInDays s days) entries texts → AllZip (IsMemberInDays t days) entries texts
  members_on [] [] same are = are
  members_on [] (text ∷ texts) same are = absurd are
  members_on (entry ∷ entries) [] same are = absurd are
  members_on (entry ∷ entries) (text ∷ texts) same are = (
    member_on entry text (same entry (is_first entry entries entry refl)) are.0,
    members_on entries texts (λ other c. same other (is_later entry entries other c)) are.1,
  )

  board_on : (text : List ℕ) → s.crew ≡ t.crew
      → ((entry : List ℕ × Member) → Contains (fin.entries s.crew) entry → lines_in days s entry.0 ≡ lines_in days t entry.0)
      → open_in days s ≡ open_in days t → IsBoardText s days text → IsBoardText t days text
  board_on text crew lines free is = record {
    members = is.members;
    are_members = subst (λ (m : fin.FinMap name_cmp Member). AllZip (IsMemberInDays t days) (fin.entries m) is.members) crew
        (members_on (fin.entries s.crew) is.members lines is.are_members);
    rows = is.rows;
    in_order = subst (λ rows. AreRowsInOrder (map listed_row rows) is.rows) free is.in_order;
    is = is.is;
  }

pub board_shown_text : (s : State) (days : Days) (text : List ℕ) → IsBoardText (board_part s days) days text ↔ IsBoardText s days text
board_shown_text s days text = (
  board_on (board_part s days) s days text refl (λ entry c. lines_same s days entry.0 (there entry c)) (open_in_same s days),
  board_on s (board_part s days) days text refl (λ entry c. sym (lines_same s days entry.0 (there entry c))) (sym (open_in_same s days)),
)
  where
    there : (entry : List ℕ × Member) → Contains (fin.entries s.crew) entry → is_member s entry.0 ≡ true
    there entry c = ap is_some (from_rows s.crew entry.0 entry.1 c)

-- ---- A request

again : {X : Type 0} (b : Bool) (o : Option X) → cond b (cond b o None) None ≡ cond b o None
again true o = refl
again false o = refl

module _ (m : fin.FinMap name_cmp LoggedCommand) (test : List ℕ → Bool) where
  abbrev those : List (List ℕ × LoggedCommand) → List (List ℕ × LoggedCommand)
  those = filter (λ row. test row.0)

  found_in : (n : fin.FinMap name_cmp LoggedCommand) (q : List ℕ)
      → find name_cmp q (those (fin.entries n)) ≡ cond (test q) (fin.get n q) None
  found_in n q =
      find-where_key name_cmp test q (λ x tied. ap test (sym (exact_names q x tied))) (fin.entries n)
      ∙ ap (λ o. cond (test q) o None) (sym (fin.get-entries n q))

  -- those of a map under some keys are those of what is retained of it under these keys
  pub those_retained : those (fin.entries (fin.retain_keys m test)) ≡ those (fin.entries m)
  those_retained =
      same_entries name_cmp nat_list_cmp_total exact_names _ _
      (is_sorted-where_key name_cmp test (fin.entries (fin.retain_keys m test)) (entries_sorted (fin.retain_keys m test)))
      (is_sorted-where_key name_cmp test (fin.entries m) (entries_sorted m)) (λ q.
      found_in (fin.retain_keys m test) q
      ∙ ap (λ o. cond (test q) o None) (get_retained m test q)
      ∙ again (test q) (fin.get m q)
      ∙ sym (found_in m q))

pub kept_same : (s : State) (number : ℕ) → kept_under (request_part s number) number ≡ kept_under s number
kept_same s number = those_retained s.requests (is_under number)

pub request_shown_text : (s : State) (number : ℕ) → request_text (request_part s number) number ≡ request_text s number
request_shown_text s number =
    ap (λ rows. request_header number ++ flat_map (λ (row : List ℕ × LoggedCommand). part_lines (part_in row.0) row.1) rows) (kept_same s number)
