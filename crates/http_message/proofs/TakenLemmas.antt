-- What a route's parameters take from a path is what the path names.
use Rattle.std.proofs.Common.{◌≡◌, ◌<◌, ◌≤◌, ◌+◌, ◌-◌, ℕ, zero, suc, Bool, true, false, ◌&&◌, ◌==◌, List, [], ◌∷◌, ◌++◌, length, drop, refl, sym, ap, ◌∙◌, subst, arith, Option, Some, None, codes, bytes_eq, option_map, if◌then◌else◌, get_or, Fits, w8, ltb, leb, length-append, append_assoc, nat_lt, IsUtf8, IsAscii}
use Rattle.std.proofs.lemmas.Bool.{lt-ltb, le-leb}
use Rattle.std.proofs.lemmas.Bool.Decides.{nat_tests}
use Rattle.std.proofs.lemmas.Str.{IsUtf8-from_ascii, IsUtf8-take, IsUtf8-drop, IsCharBoundary-before_ascii, IsCharBoundary-after_ascii}
use Rattle.std.proofs.Math.Seq.{drop-append_seam, drop-append-add, take-append_seam, take-length, get_or-append_seam}
use Rattle.std.specs.List.{list_all}
use Rattle.matchit.specs.Params.{AllText, walk, part_of, wild_from, wild_stop, after_token}
use Rattle.matchit.specs.Rows.{RowsOf}
use Rattle.matchit.specs.Router.{RouteOf}
use Rattle.matchit.specs.Seek.{first, segment, has_slash}
use Rattle.http_message.specs.declared.routes.Route.{Route}
use Rattle.http_message.specs.declared.routes.Route.TheVariants.{Requests, Checks, Lines, LineChecks, Count, Import, Request, Board, Crew, Pairing, Exceedances, Limits, LimitsWith, Members, Pairings, OpenPairings, Desk}
use Rattle.http_message.specs.Routes.{PathResource, desk, requests, checks, lines, line_checks, count, import, request, board, place_of_path, place_by, route_table, exactly, id_after, ids_after, at_slash, both_ids, is_path_id, first_or_other}
use Rattle.http_message.proofs.RouteLemmas.{Found, IsText, is_text, row_of, route_to, row_to, crew, pairing, exceedances, limits, members, pairings, open_pairings, table_found, text_of, IsCut, cut_at_slash, segment_at_slash}

-- ---- parts of a path

-- the part from a place to the end
part_to_end : (path front rest : List ℕ) (at : ℕ) → path ≡ front ++ rest → at ≡ length front → part_of path at (length path) ≡ rest
part_to_end path front rest at is place =
    let long : length path ≡ length front + length rest = ap length is ∙ length-append front rest in
    let within : leb at (length path) ≡ true = le-leb _ _ (omega arith) in
    let whole : leb (length path) (length path) ≡ true = le-leb _ _ (omega arith) in
    let n : length path - at ≡ length rest = omega arith in
    let after : drop at path ≡ rest = rw (is, place) (drop-append_seam front rest) in
    rw (within, whole, n, after) (take-length rest)

-- the part between two places
part_between : (front part rest : List ℕ) → part_of (front ++ (part ++ rest)) (length front) (length front + length part) ≡ part
part_between front part rest =
    let within : leb (length front) (length front + length part) ≡ true = le-leb _ _ (omega arith) in
    let whole : leb (length front + length part) (length (front ++ (part ++ rest))) ≡ true = le-leb _ _ (omega (arith, length-append front (part ++ rest), length-append part rest)) in
    let n : length front + length part - length front ≡ length part = omega arith in
    rw (within, whole, n, drop-append_seam front (part ++ rest)) (take-append_seam part rest)

-- what stands on both sides of a slash in a text is text
beside_slash : (front rest : List ℕ) → IsUtf8 (front ++ 47 ∷ rest) → IsUtf8 front × IsUtf8 rest
beside_slash front rest utf8 =
    let long : length front < length (front ++ 47 ∷ rest) = omega (arith, length-append front (47 ∷ rest)) in
    let low : get_or (front ++ 47 ∷ rest) (length front) 0 < 128 = omega (arith, get_or-append_seam front 47 rest 0) in
    let before = IsUtf8-take (front ++ 47 ∷ rest) (length front) utf8 (IsCharBoundary-before_ascii (front ++ 47 ∷ rest) (length front) long low) in
    let after = IsUtf8-drop (front ++ 47 ∷ rest) (length front + 1) utf8 (IsCharBoundary-after_ascii (front ++ 47 ∷ rest) (length front) utf8 long low) in
    (subst IsUtf8 (take-append_seam front (47 ∷ rest)) before, subst IsUtf8 (drop-append-add front (47 ∷ rest) 1) after)

-- ---- what the parameters of a route take

-- bytes in front of a parameter stand for themselves
past_bytes : (w more : List ℕ) (long token at : ℕ) → IsText w → at + length w ≤ long
    → ((wild_from (w ++ 256 ∷ more) long token at).0 ≡ token + length w) × ((wild_from (w ++ 256 ∷ more) long token at).1 ≡ at + length w)
past_bytes [] more long token at t fits = (omega arith, omega arith)
past_bytes (b ∷ w) more long token at t fits =
    let low : ltb b 256 ≡ true = let h = t.0 in lt-ltb _ _ h in
    let on : ltb at long ≡ true = lt-ltb _ _ (omega arith) in
    let rest = past_bytes w more long (token + 1) (at + 1) t.1 (omega arith) in
    rw (low, on) (omega (arith, rest.0), omega (arith, rest.1))

-- where the part of a parameter ends: where the path does, or before what stands at the end of a segment
stop_at_end : (w pattern path : List ℕ) (token at : ℕ) → pattern ≡ w ++ 256 ∷ [] → token ≡ length w → wild_stop pattern token path at ≡ length path
stop_at_end w pattern path token at is place =
    let n : length (w ++ 256 ∷ []) ≡ length w + 1 = omega (arith, length-append w (256 ∷ [])) in
    let within : ltb (length w) (length w + 1) ≡ true = lt-ltb _ _ (omega arith) in
    let last : ltb (length w + 1) (length w + 1) ≡ false = grind (arith, nat_tests) in
    rw (is, place, n, within, get_or-append_seam w 256 [] 0, last) refl

stop_at_slash : (w more path : List ℕ) (at : ℕ) → wild_stop (w ++ 256 ∷ 47 ∷ more) (length w) path at ≡ at + length (segment (drop at path)) - 1
stop_at_slash w more path at =
    let n : length (w ++ 256 ∷ 47 ∷ more) ≡ length w + 2 + length more = omega (arith, length-append w (256 ∷ 47 ∷ more)) in
    let within : ltb (length w) (length w + 2 + length more) ≡ true = lt-ltb _ _ (omega arith) in
    let on : ltb (length w + 1) (length w + 2 + length more) ≡ true = lt-ltb _ _ (omega arith) in
    rw (n, within, get_or-append_seam w 256 (47 ∷ more) 0, on, drop-append-add w (256 ∷ 47 ∷ more) 1) refl

-- one parameter is taken, and the others from where it stops
one_more : (pattern text path : List ℕ) (name : ℕ × ℕ) (names : List (ℕ × ℕ)) (token at parameter start stop : ℕ)
    → (wild_from (drop token pattern) (length path) token at).0 ≡ parameter → (wild_from (drop token pattern) (length path) token at).1 ≡ start → wild_stop pattern parameter path start ≡ stop
    → walk pattern text path (name ∷ names) token at ≡ (part_of text name.0 name.1, part_of path start stop) ∷ walk pattern text path names (after_token parameter) stop
one_more pattern text path name names token at parameter start stop p s e = rw (p, s, e) refl

one_taken : (w id text : List ℕ) (name : ℕ × ℕ) → IsText w → walk (w ++ 256 ∷ []) text (w ++ id) (name ∷ []) 0 0 ≡ (part_of text name.0 name.1, id) ∷ []
one_taken w id text name t =
    let past = past_bytes w [] (length (w ++ id)) 0 0 t (omega (arith, length-append w id)) in
    one_more (w ++ 256 ∷ []) text (w ++ id) name [] 0 0 (length w) (length w) (length (w ++ id)) (omega (arith, past.0)) (omega (arith, past.1)) (stop_at_end w _ (w ++ id) _ (length w) refl refl)
    ∙ ap (λ part. (part_of text name.0 name.1, part) ∷ []) (part_to_end (w ++ id) w id (length w) refl refl)

second_taken : (w a b text : List ℕ) (other : ℕ × ℕ)
    → walk (w ++ 256 ∷ 47 ∷ 256 ∷ []) text (w ++ (a ++ 47 ∷ b)) (other ∷ []) (length w + 1) (length w + length a) ≡ (part_of text other.0 other.1, b) ∷ []
second_taken w a b text other =
    let long : length (w ++ (a ++ 47 ∷ b)) ≡ length w + length a + 1 + length b = omega (arith, length-append w (a ++ 47 ∷ b), length-append a (47 ∷ b)) in
    let past = past_bytes (47 ∷ []) [] (length (w ++ (a ++ 47 ∷ b))) (length w + 1) (length w + length a) (omega arith, tt) (omega arith) in
    let from : drop (length w + 1) (w ++ 256 ∷ 47 ∷ 256 ∷ []) ≡ 47 ∷ 256 ∷ [] = drop-append-add w (256 ∷ 47 ∷ 256 ∷ []) 1 in
    one_more (w ++ 256 ∷ 47 ∷ 256 ∷ []) text (w ++ (a ++ 47 ∷ b)) other [] (length w + 1) (length w + length a) (length w + 2) (length w + length a + 1) (length (w ++ (a ++ 47 ∷ b)))
    (rw from (omega (arith, past.0))) (rw from (omega (arith, past.1)))
    (stop_at_end (w ++ 256 ∷ 47 ∷ []) _ (w ++ (a ++ 47 ∷ b)) (length w + 2) (length w + length a + 1) (sym (append_assoc w (256 ∷ 47 ∷ []) (256 ∷ []))) (omega (arith, length-append w (256 ∷ 47 ∷ []))))
    ∙ ap (λ part. (part_of text other.0 other.1, part) ∷ []) (part_to_end (w ++ (a ++ 47 ∷ b)) (w ++ (a ++ 47 ∷ [])) b (length w + length a + 1)
    (ap (λ rest. w ++ rest) (sym (append_assoc a (47 ∷ []) b)) ∙ sym (append_assoc w (a ++ 47 ∷ []) b))
    (omega (arith, length-append w (a ++ 47 ∷ []), length-append a (47 ∷ []))))

two_taken : (w a b text : List ℕ) (one other : ℕ × ℕ) → IsText w → length w < 1_000 → has_slash a ≡ false
    → walk (w ++ 256 ∷ 47 ∷ 256 ∷ []) text (w ++ (a ++ 47 ∷ b)) (one ∷ other ∷ []) 0 0 ≡ (part_of text one.0 one.1, a) ∷ (part_of text other.0 other.1, b) ∷ []
two_taken w a b text one other t short none =
    let past = past_bytes w (47 ∷ 256 ∷ []) (length (w ++ (a ++ 47 ∷ b))) 0 0 t (omega (arith, length-append w (a ++ 47 ∷ b))) in
    let next : after_token (length w) ≡ length w + 1 = omega arith in
    one_more (w ++ 256 ∷ 47 ∷ 256 ∷ []) text (w ++ (a ++ 47 ∷ b)) one (other ∷ []) 0 0 (length w) (length w) (length w + length a) (omega (arith, past.0)) (omega (arith, past.1))
    (stop_at_slash w (256 ∷ []) (w ++ (a ++ 47 ∷ b)) (length w) ∙ rw (drop-append_seam w (a ++ 47 ∷ b), segment_at_slash a b none) (omega (arith, length-append a (47 ∷ []))))
    ∙ rw (part_between w a (47 ∷ b), next) (ap (λ taken. (part_of text one.0 one.1, a) ∷ taken) (second_taken w a b text other))

-- ---- a path and its place

-- what a route of the table takes from a path
abbrev pub taken_from : RouteOf Route → List ℕ → List (List ℕ × List ℕ)
taken_from row path = walk row.pattern row.text path row.names 0 0

-- what was found takes text from the path, which names this place
abbrev pub Agrees : List ℕ → Found → Option PathResource → Type 0
Agrees path None place = place ≡ None
Agrees path (Some row) place = AllText (taken_from row path) × (place_by row.value (taken_from row path) ≡ place)

-- the route to a place does so
abbrev Named : List ℕ → PathResource → Type 0
Named path place = AllText (taken_from (row_of (route_to place)) path) × (place_by (route_to place) (taken_from (row_of (route_to place)) path) ≡ Some place)

named_by : (path : List ℕ) (place : PathResource) (taken : List (List ℕ × List ℕ)) → taken_from (row_of (route_to place)) path ≡ taken → AllText taken → place_by (route_to place) taken ≡ Some place → Named path place
named_by path place taken is text names = (subst AllText (sym is) text, subst (λ taken. place_by (route_to place) taken ≡ Some place) (sym is) names)

-- ASCII is UTF-8
name_is_utf8 : (name : List ℕ) → list_all (λ b. nat_lt b 128) name ≡ true → IsUtf8 name
name_is_utf8 name low = IsUtf8-from_ascii name (each name low)
  where
    both : (x y : Bool) → (x && y) ≡ true → (x ≡ true) × (y ≡ true)
    both true y e = (refl, e)
    both false y e = absurd cc

    each : (name : List ℕ) → list_all (λ b. nat_lt b 128) name ≡ true → IsAscii name
    each [] low k = omega arith
    each (b ∷ name) low zero = let parts = both (nat_lt b 128) (list_all (λ b. nat_lt b 128) name) low in let first = parts.0 in grind (arith, nat_tests)
    each (b ∷ name) low (suc k) = each name (both (nat_lt b 128) (list_all (λ b. nat_lt b 128) name) low).1 k

import_named : (number : List ℕ) → IsUtf8 number → Named (codes "/imports/" ++ number) (import number)
import_named number text =
    named_by (codes "/imports/" ++ number) (import number) ((codes "number", number) ∷ [])
    (one_taken (codes "/imports/") number (codes "/imports/{number}") (10, 16) (is_text (codes "/imports/") refl))
    (name_is_utf8 (codes "number") refl, text, tt) refl

request_named : (number : List ℕ) → IsUtf8 number → Named (codes "/requests/" ++ number) (request number)
request_named number text =
    named_by (codes "/requests/" ++ number) (request number) ((codes "number", number) ∷ [])
    (one_taken (codes "/requests/") number (codes "/requests/{number}") (11, 17) (is_text (codes "/requests/") refl))
    (name_is_utf8 (codes "number") refl, text, tt) refl

board_named : (first last : List ℕ) → has_slash first ≡ false → IsUtf8 first → IsUtf8 last → Named (codes "/board/" ++ (first ++ 47 ∷ last)) (board first last)
board_named first last none text more =
    named_by (codes "/board/" ++ (first ++ 47 ∷ last)) (board first last) ((codes "from", first) ∷ (codes "to", last) ∷ [])
    (two_taken (codes "/board/") first last (codes "/board/{from}/{to}") (8, 12) (15, 17) (is_text (codes "/board/") refl) (omega arith) none)
    (name_is_utf8 (codes "from") refl, text, (name_is_utf8 (codes "to") refl, more, tt)) refl

crew_named : (id : List ℕ) → IsUtf8 id → Named (codes "/crew/" ++ id) (crew id)
crew_named id text =
    named_by (codes "/crew/" ++ id) (crew id) ((codes "id", id) ∷ [])
    (one_taken (codes "/crew/") id (codes "/crew/{id}") (7, 9) (is_text (codes "/crew/") refl))
    (name_is_utf8 (codes "id") refl, text, tt) refl

pairing_named : (id : List ℕ) → IsUtf8 id → Named (codes "/pairings/" ++ id) (pairing id)
pairing_named id text =
    named_by (codes "/pairings/" ++ id) (pairing id) ((codes "id", id) ∷ [])
    (one_taken (codes "/pairings/") id (codes "/pairings/{id}") (11, 13) (is_text (codes "/pairings/") refl))
    (name_is_utf8 (codes "id") refl, text, tt) refl

limits_named : (id : List ℕ) → IsUtf8 id → Named (codes "/reports/limits/" ++ id) (limits id None)
limits_named id text =
    named_by (codes "/reports/limits/" ++ id) (limits id None) ((codes "crew", id) ∷ [])
    (one_taken (codes "/reports/limits/") id (codes "/reports/limits/{crew}") (17, 21) (is_text (codes "/reports/limits/") refl))
    (name_is_utf8 (codes "crew") refl, text, tt) refl

limits_with_named : (id other : List ℕ) → has_slash id ≡ false → IsUtf8 id → IsUtf8 other → Named (codes "/reports/limits/" ++ (id ++ 47 ∷ other)) (limits id (Some other))
limits_with_named id other none text more =
    named_by (codes "/reports/limits/" ++ (id ++ 47 ∷ other)) (limits id (Some other)) ((codes "crew", id) ∷ (codes "pairing", other) ∷ [])
    (two_taken (codes "/reports/limits/") id other (codes "/reports/limits/{crew}/{pairing}") (17, 21) (24, 31) (is_text (codes "/reports/limits/") refl) (omega arith) none)
    (name_is_utf8 (codes "crew") refl, text, (name_is_utf8 (codes "pairing") refl, more, tt)) refl

-- what a part of the table says of a path is named by its route
abbrev Good : List ℕ → Option PathResource → Type 0
Good path o = (place : PathResource) → o ≡ Some place → Named path place

good_first : (path : List ℕ) (a b : Option PathResource) → Good path a → Good path b → Good path (first_or_other a b)
good_first path None b p q = q
good_first path (Some x) b p q = p

good_name : (path text : List ℕ) (place : PathResource) → Named path place → Good path (exactly text place path)
good_name path text place named other e = by (bytes_eq text path) e
  where
    by : (v : Bool) → (if v then Some place else None) ≡ Some other → Named path other
    by true e = let same : place ≡ other = cc in subst (Named path) same named
    by false e = absurd cc

id_stands : (front path id : List ℕ) → id_after front path ≡ Some id → path ≡ front ++ id
id_stands [] path id e = by (is_path_id path) e
  where
    by : (v : Bool) → (if v then Some path else None) ≡ Some id → path ≡ id
    by true e = cc
    by false e = absurd cc
id_stands (a ∷ front) [] id e = absurd cc
id_stands (a ∷ front) (b ∷ path) id e = by (a == b) refl e (id_stands front path id)
  where
    by : (v : Bool) → (a == b) ≡ v → (if v then id_after front path else None) ≡ Some id → (id_after front path ≡ Some id → path ≡ front ++ id) → b ∷ path ≡ a ∷ front ++ id
    by true f e ih = let is : a ≡ b = grind (arith, nat_tests) in let rest = ih e in cc
    by false f e ih = absurd cc

good_id : (path front : List ℕ) (make : List ℕ → PathResource) → IsUtf8 path → ((id : List ℕ) → IsUtf8 id → Named (front ++ 47 ∷ id) (make id)) → Good path (option_map make (id_after (front ++ 47 ∷ []) path))
good_id path front make utf8 each place e = by (id_after (front ++ 47 ∷ []) path) refl e
  where
    by : (o : Option (List ℕ)) → id_after (front ++ 47 ∷ []) path ≡ o → option_map make o ≡ Some place → Named path place
    by None f e = absurd cc
    by (Some id) f e =
        let is : path ≡ front ++ 47 ∷ id = id_stands (front ++ 47 ∷ []) path id f ∙ append_assoc front (47 ∷ []) id in
        let same : make id ≡ place = cc in
        let text = (beside_slash front id (subst IsUtf8 is utf8)).1 in
        subst (Named path) same (subst (λ path. Named path (make id)) (sym is) (each id text))

ids_stand : (front path a b : List ℕ) → ids_after front path ≡ Some (a, b) → (path ≡ front ++ (a ++ 47 ∷ b)) × (has_slash a ≡ false)
ids_stand [] path a b e = by (at_slash path) (cut_at_slash path) e
  where
    same : (parts other : List ℕ × List ℕ) (v : Bool) → (if v then Some parts else None) ≡ Some other → parts ≡ other
    same parts other true e = cc
    same parts other false e = absurd cc

    by : (o : Option (List ℕ × List ℕ)) → IsCut path o → both_ids o ≡ Some (a, b) → (path ≡ a ++ 47 ∷ b) × (has_slash a ≡ false)
    by None is e = absurd cc
    by (Some parts) is e =
        subst (λ parts. (path ≡ parts.0 ++ 47 ∷ parts.1) × (has_slash parts.0 ≡ false)) (same parts (a, b) (is_path_id parts.0 && is_path_id parts.1) e) is
ids_stand (x ∷ front) [] a b e = absurd cc
ids_stand (x ∷ front) (y ∷ path) a b e = by (x == y) refl e (ids_stand front path a b)
  where
    by : (v : Bool) → (x == y) ≡ v → (if v then ids_after front path else None) ≡ Some (a, b)
        → (ids_after front path ≡ Some (a, b) → (path ≡ front ++ (a ++ 47 ∷ b)) × (has_slash a ≡ false)) → (y ∷ path ≡ x ∷ front ++ (a ++ 47 ∷ b)) × (has_slash a ≡ false)
    by true f e ih = let is : x ≡ y = grind (arith, nat_tests) in let rest = ih e in (let more = rest.0 in cc, rest.1)
    by false f e ih = absurd cc

good_ids : (path front : List ℕ) (make : List ℕ × List ℕ → PathResource) → IsUtf8 path
    → ((a b : List ℕ) → has_slash a ≡ false → IsUtf8 a → IsUtf8 b → Named (front ++ 47 ∷ (a ++ 47 ∷ b)) (make (a, b))) → Good path (option_map make (ids_after (front ++ 47 ∷ []) path))
good_ids path front make utf8 each place e = by (ids_after (front ++ 47 ∷ []) path) refl e
  where
    by : (o : Option (List ℕ × List ℕ)) → ids_after (front ++ 47 ∷ []) path ≡ o → option_map make o ≡ Some place → Named path place
    by None f e = absurd cc
    by (Some (a, b)) f e =
        let stands = ids_stand (front ++ 47 ∷ []) path a b f in
        let is : path ≡ front ++ 47 ∷ (a ++ 47 ∷ b) = stands.0 ∙ append_assoc front (47 ∷ []) (a ++ 47 ∷ b) in
        let same : make (a, b) ≡ place = cc in
        let text = beside_slash a b (beside_slash front (a ++ 47 ∷ b) (subst IsUtf8 is utf8)).1 in
        subst (Named path) same (subst (λ path. Named path (make (a, b))) (sym is) (each a b stands.1 text.0 text.1))

good_place : (path : List ℕ) → IsUtf8 path → Good path (place_of_path path)
good_place path utf8 =
    good_first path _ _ (good_name path (codes "/") desk (tt, refl))
    (good_first path _ _ (good_name path (codes "/requests") requests (tt, refl))
    (good_first path _ _ (good_name path (codes "/checks") checks (tt, refl))
    (good_first path _ _ (good_id path (codes "/requests") request utf8 request_named)
    (good_first path _ _ (good_name path (codes "/lines") lines (tt, refl))
    (good_first path _ _ (good_name path (codes "/lines/checks") line_checks (tt, refl))
    (good_first path _ _ (good_name path (codes "/count") count (tt, refl))
    (good_first path _ _ (good_ids path (codes "/board") (λ days. board days.0 days.1) utf8 board_named)
    (good_first path _ _ (good_id path (codes "/imports") import utf8 import_named)
    (good_first path _ _ (good_id path (codes "/crew") crew utf8 crew_named)
    (good_first path _ _ (good_id path (codes "/pairings") pairing utf8 pairing_named)
    (good_first path _ _ (good_name path (codes "/exceedances") exceedances (tt, refl))
    (good_first path _ _ (good_id path (codes "/reports/limits") (λ id. limits id None) utf8 limits_named)
    (good_first path _ _ (good_ids path (codes "/reports/limits") (λ ids. limits ids.0 (Some ids.1)) utf8 limits_with_named)
    (good_first path _ _ (good_name path (codes "/reports/members") members (tt, refl))
    (good_first path _ _ (good_name path (codes "/reports/pairings") pairings (tt, refl))
    (good_name path (codes "/reports/open") open_pairings (tt, refl)))))))))))))))))

value_is : (r : Route) → (row_of r).value ≡ r
value_is Desk = refl
value_is Requests = refl
value_is Checks = refl
value_is Lines = refl
value_is LineChecks = refl
value_is Count = refl
value_is Import = refl
value_is Request = refl
value_is Board = refl
value_is Crew = refl
value_is Pairing = refl
value_is Exceedances = refl
value_is Limits = refl
value_is LimitsWith = refl
value_is Members = refl
value_is Pairings = refl
value_is OpenPairings = refl

agrees : (path : List ℕ) (o : Option PathResource) → Good path o → Agrees path (row_to o) o
agrees path None good = refl
agrees path (Some place) good =
    let named = good place refl in
    (named.0, subst (λ route. place_by route (taken_from (row_of (route_to place)) path) ≡ Some place) (sym (value_is (route_to place))) named.1)

pub routed_by : (router : RowsOf (RouteOf Route)) (path : List ℕ) (found : Found) → router ≡ route_table → first router path ≡ found → ((k : ℕ) → Fits w8 (get_or path k 0)) → IsUtf8 path → Agrees path found (place_of_path path)
routed_by router path found is answer bytes utf8 =
    let there : row_to (place_of_path path) ≡ found = sym (table_found path (text_of path bytes)) ∙ subst (λ table. first table path ≡ found) is answer in
    subst (λ found. Agrees path found (place_of_path path)) there (agrees path (place_of_path path) (good_place path utf8))
