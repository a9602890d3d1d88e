-- What the router finds is what the table of paths says.
use Rattle.std.proofs.Common.{◌≡◌, ◌<◌, ◌-◌, ℕ, zero, suc, Bool, true, false, ◌&&◌, ◌==◌, cond, List, [], ◌∷◌, ◌++◌, length, drop, refl, sym, ap, ◌∙◌, subst, arith, Option, Some, None, codes, bytes_eq, option_and_then, option_map, ◌||◌, if◌then◌else◌, nat_lt, get_or, Fits, w8, ltb, nat_eq, length-append}
use Rattle.std.proofs.lemmas.Bool.Decides.{nat_tests}
use Rattle.std.proofs.lemmas.Bool.{lt-ltb}
use Rattle.std.specs.Cmp.Lexicographic.{pointwise, bytes_decides}
use Rattle.std.proofs.Math.Seq.{drop-append_seam}
use Rattle.std.specs.List.{list_any, list_all}
use Rattle.matchit.specs.Rows.{RowsOf}
use Rattle.matchit.specs.Router.{RouteOf}
use Rattle.matchit.specs.Seek.{seek, step, own, or_else, first, param_step, has_slash, segment, cuts}
use Rattle.http_message.specs.declared.routes.Route.{Route}
use Rattle.http_message.specs.declared.routes.Route.TheVariants.{Requests, Checks, Lines, LineChecks, Count, Import, Request, Board, Crew, Pairing, Exceedances, Limits, LimitsWith, Members, Pairings, OpenPairings, Desk}
use Rattle.request.specs.declared.subject.Listed.TheVariants.{All, Open}
use Rattle.request.specs.declared.subject.Subject.TheVariants as subject
use Rattle.http_message.specs.Routes.{PathResource, desk, requests, checks, lines, line_checks, count, import, request, board, report, place_of_path, route_table, exactly, id_after, ids_after, at_slash, both_ids, is_path_id, first_or_other}

-- ---- a walk over rows of any keys

module _ {K : Type 0} where
  param_none : (p : List ℕ) → (param_step {K = K} [] p).1 ≡ []
  unfolding param_step
  param_none p =
      elim (has_slash p) as (λ v. (cond {A = ℕ × RowsOf K} v (0, []) (length p, [])).1 ≡ []) [
        | true ↦ refl
        | false ↦ refl
      ]

  seek_none : (k : ℕ) (p : List ℕ) → seek {K = K} k [] p ≡ None
  unfolding seek
  seek_none k [] = refl
  seek_none (suc k) (b ∷ p) = seek_none k p
  seek_none zero (b ∷ p) = simp (seek_none 0 p, param_none (b ∷ p), seek_none (((param_step {K = K} [] (b ∷ p)).0) - 1) p)

  or_none : (a : Option K) → or_else a None ≡ a
  or_none None = refl
  or_none (Some k) = refl

  -- rows that go on with bytes alone
  pub literal_step : (rows : RowsOf K) (b : ℕ) (p : List ℕ) → step 256 rows ≡ [] → step 257 rows ≡ [] → seek 0 rows (b ∷ p) ≡ seek 0 (step b rows) p
  unfolding seek
  literal_step rows b p no_param no_rest =
      simp (no_param, no_rest, param_none (b ∷ p), seek_none (((param_step {K = K} [] (b ∷ p)).0) - 1) p, or_none)

-- bytes, which are less than the tokens of parameters
abbrev pub IsText : List ℕ → Type 0
IsText [] = Unit {0}
IsText (b ∷ w) = (b < 256) × IsText w

slashes : (p : List ℕ) → has_slash p ≡ list_any (λ b. b == 47) p
slashes [] = refl
slashes (b ∷ p) = elim (b == 47) as (λ v. cond v true (has_slash p) ≡ (v || list_any (λ b. b == 47) p)) [ true ↦ refl | false ↦ slashes p ]

module _ {K : Type 0} where
  seek_exactly : (w p : List ℕ) (k : K) (place : PathResource) → IsText w → seek 0 ((w, k) ∷ []) p ≡ option_map (λ _. k) (exactly w place p)
  unfolding seek
  seek_exactly [] [] k place t = refl
  seek_exactly [] (b ∷ p) k place t = literal_step (([], k) ∷ []) b p refl refl ∙ seek_none 0 p
  seek_exactly (a ∷ w) [] k place t = refl
  seek_exactly (a ∷ w) (b ∷ p) k place t =
      let e : (a == 256) ≡ false = let h = t.0 in grind (arith, nat_tests) in
      let f : (a == 257) ≡ false = let h = t.0 in grind (arith, nat_tests) in
      literal_step ((a ∷ w, k) ∷ []) b p (rw e refl) (rw f refl) ∙ by (a == b) refl (seek_exactly w p k place t.1)
    where
      by : (v : Bool) → (a == b) ≡ v → seek 0 ((w, k) ∷ []) p ≡ option_map (λ _. k) (exactly w place p)
          → seek 0 (step b ((a ∷ w, k) ∷ [])) p ≡ option_map (λ _. k) (exactly (a ∷ w) place (b ∷ p))
      by true e ih = rw e ih
      by false e ih = rw e (seek_none 0 p)

  seek_all : (p : List ℕ) (rows : RowsOf K) → seek (length p) rows p ≡ own rows
  unfolding seek
  seek_all [] rows = refl
  seek_all (b ∷ p) rows = seek_all p rows

  param_id : (b : ℕ) (p : List ℕ) (k : K) (v : Bool) → has_slash (b ∷ p) ≡ v → param_step (([], k) ∷ []) (b ∷ p) ≡ cond {A = ℕ × RowsOf K} v (0, []) (length (b ∷ p), ([], k) ∷ [])
  unfolding param_step
  param_id b p k v e = rw e refl

  -- a parameter at the end takes an id
  seek_id : (b : ℕ) (p : List ℕ) (k : K) → b < 256 → seek 0 ((256 ∷ [], k) ∷ []) (b ∷ p) ≡ option_map (λ _. k) (id_after [] (b ∷ p))
  unfolding seek
  seek_id b p k small =
      let e : (256 == b) ≡ false = grind (arith, nat_tests) in
      rw (e, seek_none 0 p) (by (has_slash (b ∷ p)) refl (sym (slashes (b ∷ p))))
    where
      by : (v : Bool) → has_slash (b ∷ p) ≡ v → list_any (λ b. b == 47) (b ∷ p) ≡ has_slash (b ∷ p)
          → or_else (seek ((param_step (([], k) ∷ []) (b ∷ p)).0 - 1) (param_step (([], k) ∷ []) (b ∷ p)).1 p) None ≡ option_map (λ _. k) (id_after [] (b ∷ p))
      by true e f = rw (param_id b p k true e, f, e) (rw (seek_none 0 p) refl)
      by false e f =
          let n : suc (length p) - 1 ≡ length p = omega arith in
          rw (param_id b p k false e, f, e, n, seek_all p (([], k) ∷ [])) refl

  seek_param : (w p : List ℕ) (k : K) → IsText w → IsText p → seek 0 ((w ++ 256 ∷ [], k) ∷ []) p ≡ option_map (λ _. k) (id_after w p)
  unfolding seek
  seek_param [] [] k t u = refl
  seek_param [] (b ∷ p) k t u = seek_id b p k u.0
  seek_param (a ∷ w) [] k t u = refl
  seek_param (a ∷ w) (b ∷ p) k t u =
      let e : (a == 256) ≡ false = let h = t.0 in grind (arith, nat_tests) in
      let f : (a == 257) ≡ false = let h = t.0 in grind (arith, nat_tests) in
      literal_step ((a ∷ w ++ 256 ∷ [], k) ∷ []) b p (rw e refl) (rw f refl) ∙ by (a == b) refl (seek_param w p k t.1 u.1)
    where
      by : (v : Bool) → (a == b) ≡ v → seek 0 ((w ++ 256 ∷ [], k) ∷ []) p ≡ option_map (λ _. k) (id_after w p) → seek 0 (step b ((a ∷ w ++ 256 ∷ [], k) ∷ [])) p ≡ option_map (λ _. k) (id_after (a ∷ w) (b ∷ p))
      by true e ih = rw e ih
      by false e ih = rw e (seek_none 0 p)

-- ---- rows that begin alike

-- what follows a text, where a path begins with it
abbrev pub after : List ℕ → List ℕ → Option (List ℕ)
after [] p = Some p
after (a ∷ w) [] = None
after (a ∷ w) (b ∷ p) = if a == b then after w p else None

text_left : (w p rest : List ℕ) → IsText p → after w p ≡ Some rest → IsText rest
text_left [] p rest t e = let same : p ≡ rest = cc in subst IsText same t
text_left (a ∷ w) [] rest t e = absurd cc
text_left (a ∷ w) (b ∷ p) rest t e = by (a == b) e (text_left w p rest t.1)
  where
    by : (v : Bool) → (if v then after w p else None) ≡ Some rest → (after w p ≡ Some rest → IsText rest) → IsText rest
    by true e ih = ih e
    by false e ih = absurd cc

module _ {K : Type 0} where
  abbrev pub prefixed : List ℕ → RowsOf K → RowsOf K
  prefixed w [] = []
  prefixed w ((t, k) ∷ rest) = (w ++ t, k) ∷ prefixed w rest

  step_prefixed : (a b : ℕ) (w : List ℕ) (rows : RowsOf K) (v : Bool) → (a == b) ≡ v → step b (prefixed (a ∷ w) rows) ≡ cond v (prefixed w rows) []
  step_prefixed a b w [] true e = refl
  step_prefixed a b w [] false e = refl
  step_prefixed a b w ((t, k) ∷ rest) true e = rw e (ap (λ r. (w ++ t, k) ∷ r) (step_prefixed a b w rest true e))
  step_prefixed a b w ((t, k) ∷ rest) false e = rw e (step_prefixed a b w rest false e)

  own_prefixed : (a : ℕ) (w : List ℕ) (rows : RowsOf K) → own (prefixed (a ∷ w) rows) ≡ None
  own_prefixed a w [] = refl
  own_prefixed a w ((t, k) ∷ rest) = own_prefixed a w rest

  none_prefixed : (rows : RowsOf K) → prefixed [] rows ≡ rows
  none_prefixed [] = refl
  none_prefixed ((t, k) ∷ rest) = ap (λ r. (t, k) ∷ r) (none_prefixed rest)

  seek_prefixed : (w p : List ℕ) (rows : RowsOf K) → IsText w → seek 0 (prefixed w rows) p ≡ option_and_then (λ rest. seek 0 rows rest) (after w p)
  unfolding seek
  seek_prefixed [] p rows t = ap (λ r. seek 0 r p) (none_prefixed rows)
  seek_prefixed (a ∷ w) [] rows t = own_prefixed a w rows
  seek_prefixed (a ∷ w) (b ∷ p) rows t =
      let e : (a == 256) ≡ false = let h = t.0 in grind (arith, nat_tests) in
      let f : (a == 257) ≡ false = let h = t.0 in grind (arith, nat_tests) in
      literal_step (prefixed (a ∷ w) rows) b p (step_prefixed a 256 w rows false e) (step_prefixed a 257 w rows false f) ∙ by (a == b) refl (seek_prefixed w p rows t.1)
    where
      by : (v : Bool) → (a == b) ≡ v → seek 0 (prefixed w rows) p ≡ option_and_then (λ rest. seek 0 rows rest) (after w p)
          → seek 0 (step b (prefixed (a ∷ w) rows)) p ≡ option_and_then (λ rest. seek 0 rows rest) (if v then after w p else None)
      by true e ih = rw (step_prefixed a b w rows true e) ih
      by false e ih = rw (step_prefixed a b w rows false e) (seek_none 0 p)

-- ---- two ids

-- a text is cut at its first slash, or has none
abbrev pub IsCut : List ℕ → Option (List ℕ × List ℕ) → Type 0
IsCut text None = has_slash text ≡ false
IsCut text (Some parts) = (text ≡ parts.0 ++ 47 ∷ parts.1) × (has_slash parts.0 ≡ false)

pub cut_at_slash : (text : List ℕ) → IsCut text (at_slash text)
cut_at_slash [] = refl
cut_at_slash (b ∷ text) = by (b == 47) refl (at_slash text) (cut_at_slash text)
  where
    by : (v : Bool) → (b == 47) ≡ v → (o : Option (List ℕ × List ℕ)) → IsCut text o
        → IsCut (b ∷ text) (if v then Some ([], text) else option_map (λ parts. (b ∷ parts.0, parts.1)) o)
    by true e o is = let same : b ≡ 47 = grind (arith, nat_tests) in (ap (λ b. b ∷ text) same, refl)
    by false e None is = rw e is
    by false e (Some parts) is = (ap (λ t. b ∷ t) is.0, rw e is.1)

-- what holds of a text without a slash holds of what follows its first byte
tail_has_none : (b : ℕ) (text : List ℕ) → has_slash (b ∷ text) ≡ false → ((b == 47) ≡ false) × (has_slash text ≡ false)
tail_has_none b text none = by (b == 47) none
  where
    by : (v : Bool) → cond v true (has_slash text) ≡ false → (v ≡ false) × (has_slash text ≡ false)
    by true none = absurd cc
    by false none = (refl, none)

pub segment_at_slash : (a rest : List ℕ) → has_slash a ≡ false → segment (a ++ 47 ∷ rest) ≡ a ++ 47 ∷ []
segment_at_slash [] rest none = refl
segment_at_slash (b ∷ a) rest none =
    let tail = tail_has_none b a none in
    rw tail.0 (ap (λ t. b ∷ t) (segment_at_slash a rest tail.1))

slash_stands : (a rest : List ℕ) → has_slash (a ++ 47 ∷ rest) ≡ true
slash_stands [] rest = refl
slash_stands (b ∷ a) rest = elim (b == 47) as (λ v. cond v true (has_slash (a ++ 47 ∷ rest)) ≡ true) [ true ↦ refl | false ↦ slash_stands a rest ]

whole_segment : (text : List ℕ) → has_slash text ≡ false → segment text ≡ text
whole_segment [] none = refl
whole_segment (b ∷ text) none =
    let tail = tail_has_none b text none in
    rw tail.0 (ap (λ t. b ∷ t) (whole_segment text tail.1))

none_further : (n : ℕ) (text : List ℕ) → has_slash text ≡ false → has_slash (drop n text) ≡ false
none_further zero text none = none
none_further (suc n) [] none = refl
none_further (suc n) (b ∷ text) none = none_further n text (tail_has_none b text none).1

-- a segment with a slash at its end, and with something in front of it, is cut there
cuts_before : (b : ℕ) (a : List ℕ) → cuts (b ∷ a ++ 47 ∷ []) (47 ∷ []) ≡ true
cuts_before b a =
    let n : length (b ∷ a ++ 47 ∷ []) - 1 ≡ length (b ∷ a) = omega (arith, length-append (b ∷ a) (47 ∷ [])) in
    let long : ltb 1 (length (b ∷ a ++ 47 ∷ [])) ≡ true = lt-ltb _ _ (omega (arith, length-append (b ∷ a) (47 ∷ []))) in
    rw (long, n, drop-append_seam (b ∷ a) (47 ∷ [])) refl

-- one without a slash isn't
cuts_nowhere : (text : List ℕ) → has_slash text ≡ false → cuts text (47 ∷ []) ≡ false
cuts_nowhere text none = by (ltb 1 (length text)) (pointwise nat_eq (47 ∷ []) (drop (length text - 1) text)) refl
  where
    by : (v w : Bool) → pointwise nat_eq (47 ∷ []) (drop (length text - 1) text) ≡ w → (v && w) ≡ false
    by false w e = refl
    by true false e = refl
    by true true e =
        let is : 47 ∷ [] ≡ drop (length text - 1) text = (bytes_decides (47 ∷ []) (drop (length text - 1) text)).0 e in
        let there : true ≡ has_slash (drop (length text - 1) text) = ap has_slash is in
        let not = none_further (length text - 1) text none in
        absurd cc

no_id : (path : List ℕ) → has_slash path ≡ true → id_after [] path ≡ None
no_id [] there = refl
no_id (b ∷ p) there = rw (← slashes (b ∷ p), there) refl

one_id : (b : ℕ) (p : List ℕ) → has_slash (b ∷ p) ≡ false → id_after [] (b ∷ p) ≡ Some (b ∷ p)
one_id b p none = rw (← slashes (b ∷ p), none) refl

text_after : (a rest : List ℕ) → IsText (a ++ 47 ∷ rest) → IsText rest
text_after [] rest t = t.1
text_after (b ∷ a) rest t = text_after a rest t.1

module _ {K : Type 0} where
  seek_past : (a : List ℕ) (rows : RowsOf K) (path : List ℕ) → seek (length a) rows (a ++ path) ≡ seek 0 rows path
  unfolding seek
  seek_past [] rows path = refl
  seek_past (b ∷ a) rows path = seek_past a rows path

  -- what may follow the first id: another one, or nothing
  abbrev after_first : K → K → RowsOf K
  after_first k m = (47 ∷ 256 ∷ [], k) ∷ ([], m) ∷ []

  -- the same with the parameter of the first
  abbrev from_first : K → K → RowsOf K
  from_first k m = (256 ∷ 47 ∷ 256 ∷ [], k) ∷ (256 ∷ [], m) ∷ []

  -- a walk by a parameter at the start of a path whose first byte is gone
  abbrev walk_on : ℕ × RowsOf K → List ℕ → Option K
  walk_on step p = seek (step.0 - 1) step.1 p

  ids_step : (path : List ℕ) (k m : K) (v : Bool) → cuts (segment path) (47 ∷ []) ≡ v
      → param_step (after_first k m) path ≡ cond {A = ℕ × RowsOf K} v (length (segment path) - 1, (47 ∷ 256 ∷ [], k) ∷ []) (cond (has_slash path) (0, []) (length path, after_first k m))
  unfolding param_step
  ids_step path k m true e = rw e refl
  ids_step path k m false e = rw e refl

  -- a path with no slash is one id
  ids_whole : (b : ℕ) (p : List ℕ) (k m : K) → has_slash (b ∷ p) ≡ false → walk_on (param_step (after_first k m) (b ∷ p)) p ≡ Some m
  ids_whole b p k m none =
      let e : cuts (segment (b ∷ p)) (47 ∷ []) ≡ false = rw (whole_segment (b ∷ p) none) (cuts_nowhere (b ∷ p) none) in
      let n : suc (length p) - 1 ≡ length p = omega arith in
      rw (ids_step (b ∷ p) k m false e, none, n) (seek_all p (after_first k m))

  -- one that begins with a slash has none
  ids_none : (p : List ℕ) (k m : K) → walk_on (param_step (after_first k m) (47 ∷ p)) p ≡ None
  ids_none p k m = rw (ids_step (47 ∷ p) k m false refl) (seek_none 0 p)

  -- else the first id ends at the first slash
  ids_first : (b : ℕ) (a rest : List ℕ) (k m : K) → has_slash (b ∷ a) ≡ false → IsText rest
      → walk_on (param_step (after_first k m) (b ∷ a ++ 47 ∷ rest)) (a ++ 47 ∷ rest) ≡ option_map (λ _. k) (id_after [] rest)
  ids_first b a rest k m none t =
      let s : segment (b ∷ a ++ 47 ∷ rest) ≡ b ∷ a ++ 47 ∷ [] = segment_at_slash (b ∷ a) rest none in
      let e : cuts (segment (b ∷ a ++ 47 ∷ rest)) (47 ∷ []) ≡ true = rw s (cuts_before b a) in
      let n : length (segment (b ∷ a ++ 47 ∷ rest)) - 1 - 1 ≡ length a = omega (arith, ap length s, length-append (b ∷ a) (47 ∷ [])) in
      rw (ids_step (b ∷ a ++ 47 ∷ rest) k m true e, n)
      (seek_past a ((47 ∷ 256 ∷ [], k) ∷ []) (47 ∷ rest) ∙ seek_param (47 ∷ []) (47 ∷ rest) k (omega arith, tt) (omega arith, t))

  ids_two : (b : ℕ) (a rest : List ℕ) (k m : K) → has_slash (b ∷ a) ≡ false → IsText rest
      → walk_on (param_step (after_first k m) (b ∷ a ++ 47 ∷ rest)) (a ++ 47 ∷ rest)
      ≡ or_else (option_map (λ _. m) (id_after [] (b ∷ a ++ 47 ∷ rest))) (option_map (λ _. k) (both_ids (Some (b ∷ a, rest))))
  ids_two b a rest k m none t =
      rw (ids_first b a rest k m none t, no_id (b ∷ a ++ 47 ∷ rest) (slash_stands (b ∷ a) rest), ← slashes (b ∷ a), none)
      (elim (is_path_id rest) as (λ v. option_map (λ _. k) (if v then Some rest else None) ≡ option_map {T = List ℕ × List ℕ} (λ _. k) (if v then Some (b ∷ a, rest) else None)) [ true ↦ refl | false ↦ refl ])

  -- a parameter, and one that may follow it, take an id or two
  seek_ids : (b : ℕ) (p : List ℕ) (k m : K) → IsText (b ∷ p)
      → seek 0 (from_first k m) (b ∷ p) ≡ or_else (option_map (λ _. m) (id_after [] (b ∷ p))) (option_map (λ _. k) (ids_after [] (b ∷ p)))
  unfolding seek
  seek_ids b p k m t =
      let e : (256 == b) ≡ false = let small = t.0 in grind (arith, nat_tests) in
      rw (e, seek_none 0 p) (or_none (walk_on (param_step (after_first k m) (b ∷ p)) p) ∙ by (at_slash (b ∷ p)) (cut_at_slash (b ∷ p)))
    where
      by : (o : Option (List ℕ × List ℕ)) → IsCut (b ∷ p) o
          → walk_on (param_step (after_first k m) (b ∷ p)) p ≡ or_else (option_map (λ _. m) (id_after [] (b ∷ p))) (option_map (λ _. k) (both_ids o))
      by None none = rw (ids_whole b p k m none, one_id b p none) refl
      by (Some ([], rest)) is =
          let same : 47 ≡ b = let all = is.0 in cc in
          subst (λ b. walk_on (param_step (after_first k m) (b ∷ p)) p ≡ or_else (option_map (λ _. m) (id_after [] (b ∷ p))) None) same (ids_none p k m)
      by (Some (c ∷ a, rest)) is =
          let first : c ≡ b = let all = is.0 in cc in
          let more : a ++ 47 ∷ rest ≡ p = let all = is.0 in cc in
          let here = ids_two c a rest k m is.1 (text_after a rest (subst IsText (sym more) t.1)) in
          subst (λ p. walk_on (param_step (after_first k m) (b ∷ p)) p ≡ or_else (option_map (λ _. m) (id_after [] (b ∷ p))) (option_map (λ _. k) (both_ids (Some (c ∷ a, rest))))) more
          (subst (λ b. walk_on (param_step (after_first k m) (b ∷ (a ++ 47 ∷ rest))) (a ++ 47 ∷ rest) ≡ or_else (option_map (λ _. m) (id_after [] (b ∷ (a ++ 47 ∷ rest)))) (option_map (λ _. k) (both_ids (Some (c ∷ a, rest))))) first here)

  seek_one_or_two : (w p : List ℕ) (k m : K) → IsText w → IsText p
      → seek 0 ((w ++ 256 ∷ 47 ∷ 256 ∷ [], k) ∷ (w ++ 256 ∷ [], m) ∷ []) p ≡ or_else (option_map (λ _. m) (id_after w p)) (option_map (λ _. k) (ids_after w p))
  unfolding seek
  seek_one_or_two [] [] k m t u = refl
  seek_one_or_two [] (b ∷ p) k m t u = seek_ids b p k m u
  seek_one_or_two (a ∷ w) [] k m t u = refl
  seek_one_or_two (a ∷ w) (b ∷ p) k m t u =
      let e : (a == 256) ≡ false = let h = t.0 in grind (arith, nat_tests) in
      let f : (a == 257) ≡ false = let h = t.0 in grind (arith, nat_tests) in
      literal_step ((a ∷ w ++ 256 ∷ 47 ∷ 256 ∷ [], k) ∷ (a ∷ w ++ 256 ∷ [], m) ∷ []) b p (rw e refl) (rw f refl) ∙ by (a == b) refl (seek_one_or_two w p k m t.1 u.1)
    where
      by : (v : Bool) → (a == b) ≡ v
          → seek 0 ((w ++ 256 ∷ 47 ∷ 256 ∷ [], k) ∷ (w ++ 256 ∷ [], m) ∷ []) p ≡ or_else (option_map (λ _. m) (id_after w p)) (option_map (λ _. k) (ids_after w p))
          → seek 0 (step b ((a ∷ w ++ 256 ∷ 47 ∷ 256 ∷ [], k) ∷ (a ∷ w ++ 256 ∷ [], m) ∷ [])) p ≡ or_else (option_map (λ _. m) (id_after (a ∷ w) (b ∷ p))) (option_map (λ _. k) (ids_after (a ∷ w) (b ∷ p)))
      by true e ih = rw e ih
      by false e ih = rw e (seek_none 0 p)

  -- ---- two ids, where one alone is nothing

  abbrev two_alone : K → RowsOf K
  two_alone k = (47 ∷ 256 ∷ [], k) ∷ []

  two_step : (path : List ℕ) (k : K) (v : Bool) → cuts (segment path) (47 ∷ []) ≡ v
      → param_step (two_alone k) path ≡ cond {A = ℕ × RowsOf K} v (length (segment path) - 1, two_alone k) (cond (has_slash path) (0, []) (length path, two_alone k))
  unfolding param_step
  two_step path k true e = rw e refl
  two_step path k false e = rw e refl

  two_whole : (b : ℕ) (p : List ℕ) (k : K) → has_slash (b ∷ p) ≡ false → walk_on (param_step (two_alone k) (b ∷ p)) p ≡ None
  two_whole b p k none =
      let e : cuts (segment (b ∷ p)) (47 ∷ []) ≡ false = rw (whole_segment (b ∷ p) none) (cuts_nowhere (b ∷ p) none) in
      let n : suc (length p) - 1 ≡ length p = omega arith in
      rw (two_step (b ∷ p) k false e, none, n) (seek_all p (two_alone k))

  two_none : (p : List ℕ) (k : K) → walk_on (param_step (two_alone k) (47 ∷ p)) p ≡ None
  two_none p k = rw (two_step (47 ∷ p) k false refl) (seek_none 0 p)

  two_first : (b : ℕ) (a rest : List ℕ) (k : K) → has_slash (b ∷ a) ≡ false → IsText rest
      → walk_on (param_step (two_alone k) (b ∷ a ++ 47 ∷ rest)) (a ++ 47 ∷ rest) ≡ option_map (λ _. k) (both_ids (Some (b ∷ a, rest)))
  two_first b a rest k none t =
      let s : segment (b ∷ a ++ 47 ∷ rest) ≡ b ∷ a ++ 47 ∷ [] = segment_at_slash (b ∷ a) rest none in
      let e : cuts (segment (b ∷ a ++ 47 ∷ rest)) (47 ∷ []) ≡ true = rw s (cuts_before b a) in
      let n : length (segment (b ∷ a ++ 47 ∷ rest)) - 1 - 1 ≡ length a = omega (arith, ap length s, length-append (b ∷ a) (47 ∷ [])) in
      let found : walk_on (param_step (two_alone k) (b ∷ a ++ 47 ∷ rest)) (a ++ 47 ∷ rest) ≡ option_map (λ _. k) (id_after [] rest) =
      rw (two_step (b ∷ a ++ 47 ∷ rest) k true e, n)
      (seek_past a (two_alone k) (47 ∷ rest) ∙ seek_param (47 ∷ []) (47 ∷ rest) k (omega arith, tt) (omega arith, t)) in
      found ∙ rw (← slashes (b ∷ a), none)
      (elim (is_path_id rest) as (λ v. option_map (λ _. k) (if v then Some rest else None) ≡ option_map {T = List ℕ × List ℕ} (λ _. k) (if v then Some (b ∷ a, rest) else None)) [ true ↦ refl | false ↦ refl ])

  seek_two : (b : ℕ) (p : List ℕ) (k : K) → IsText (b ∷ p) → seek 0 ((256 ∷ 47 ∷ 256 ∷ [], k) ∷ []) (b ∷ p) ≡ option_map (λ _. k) (ids_after [] (b ∷ p))
  unfolding seek
  seek_two b p k t =
      let e : (256 == b) ≡ false = let small = t.0 in grind (arith, nat_tests) in
      rw (e, seek_none 0 p) (or_none (walk_on (param_step (two_alone k) (b ∷ p)) p) ∙ by (at_slash (b ∷ p)) (cut_at_slash (b ∷ p)))
    where
      by : (o : Option (List ℕ × List ℕ)) → IsCut (b ∷ p) o → walk_on (param_step (two_alone k) (b ∷ p)) p ≡ option_map (λ _. k) (both_ids o)
      by None none = two_whole b p k none
      by (Some ([], rest)) is =
          let same : 47 ≡ b = let all = is.0 in cc in
          subst (λ b. walk_on (param_step (two_alone k) (b ∷ p)) p ≡ None) same (two_none p k)
      by (Some (c ∷ a, rest)) is =
          let first : c ≡ b = let all = is.0 in cc in
          let more : a ++ 47 ∷ rest ≡ p = let all = is.0 in cc in
          let here = two_first c a rest k is.1 (text_after a rest (subst IsText (sym more) t.1)) in
          subst (λ p. walk_on (param_step (two_alone k) (b ∷ p)) p ≡ option_map (λ _. k) (both_ids (Some (c ∷ a, rest)))) more
          (subst (λ b. walk_on (param_step (two_alone k) (b ∷ (a ++ 47 ∷ rest))) (a ++ 47 ∷ rest) ≡ option_map (λ _. k) (both_ids (Some (c ∷ a, rest)))) first here)

  seek_two_after : (w p : List ℕ) (k : K) → IsText w → IsText p → seek 0 ((w ++ 256 ∷ 47 ∷ 256 ∷ [], k) ∷ []) p ≡ option_map (λ _. k) (ids_after w p)
  unfolding seek
  seek_two_after [] [] k t u = refl
  seek_two_after [] (b ∷ p) k t u = seek_two b p k u
  seek_two_after (a ∷ w) [] k t u = refl
  seek_two_after (a ∷ w) (b ∷ p) k t u =
      let e : (a == 256) ≡ false = let h = t.0 in grind (arith, nat_tests) in
      let f : (a == 257) ≡ false = let h = t.0 in grind (arith, nat_tests) in
      literal_step ((a ∷ w ++ 256 ∷ 47 ∷ 256 ∷ [], k) ∷ []) b p (rw e refl) (rw f refl) ∙ by (a == b) refl (seek_two_after w p k t.1 u.1)
    where
      by : (v : Bool) → (a == b) ≡ v → seek 0 ((w ++ 256 ∷ 47 ∷ 256 ∷ [], k) ∷ []) p ≡ option_map (λ _. k) (ids_after w p)
          → seek 0 (step b ((a ∷ w ++ 256 ∷ 47 ∷ 256 ∷ [], k) ∷ [])) p ≡ option_map (λ _. k) (ids_after (a ∷ w) (b ∷ p))
      by true e ih = rw e ih
      by false e ih = rw e (seek_none 0 p)

-- ---- the table

-- the places of the reports
abbrev pub crew : List ℕ → PathResource
crew id = report (subject.Crew id)

abbrev pub pairing : List ℕ → PathResource
pairing id = report (subject.Pairing id)

abbrev pub limits : List ℕ → Option (List ℕ) → PathResource
limits id with = report (subject.Limits id with)

abbrev pub exceedances : PathResource
exceedances = report subject.Exceedances

abbrev pub members : PathResource
members = report subject.Members

abbrev pub pairings : PathResource
pairings = report (subject.Pairings All)

abbrev pub open_pairings : PathResource
open_pairings = report (subject.Pairings Open)

abbrev pub Found : Type 0
Found = Option (RouteOf Route)

abbrev pub row_of : Route → RouteOf Route
row_of Board = (get_or route_table 0 (codes "", record { pattern = []; text = []; names = []; value = Requests })).1
row_of Checks = (get_or route_table 1 (codes "", record { pattern = []; text = []; names = []; value = Requests })).1
row_of Count = (get_or route_table 2 (codes "", record { pattern = []; text = []; names = []; value = Requests })).1
row_of Crew = (get_or route_table 3 (codes "", record { pattern = []; text = []; names = []; value = Requests })).1
row_of Exceedances = (get_or route_table 4 (codes "", record { pattern = []; text = []; names = []; value = Requests })).1
row_of Import = (get_or route_table 5 (codes "", record { pattern = []; text = []; names = []; value = Requests })).1
row_of LineChecks = (get_or route_table 6 (codes "", record { pattern = []; text = []; names = []; value = Requests })).1
row_of Lines = (get_or route_table 7 (codes "", record { pattern = []; text = []; names = []; value = Requests })).1
row_of Pairing = (get_or route_table 8 (codes "", record { pattern = []; text = []; names = []; value = Requests })).1
row_of LimitsWith = (get_or route_table 9 (codes "", record { pattern = []; text = []; names = []; value = Requests })).1
row_of Limits = (get_or route_table 10 (codes "", record { pattern = []; text = []; names = []; value = Requests })).1
row_of Members = (get_or route_table 11 (codes "", record { pattern = []; text = []; names = []; value = Requests })).1
row_of OpenPairings = (get_or route_table 12 (codes "", record { pattern = []; text = []; names = []; value = Requests })).1
row_of Pairings = (get_or route_table 13 (codes "", record { pattern = []; text = []; names = []; value = Requests })).1
row_of Request = (get_or route_table 14 (codes "", record { pattern = []; text = []; names = []; value = Requests })).1
row_of Requests = (get_or route_table 15 (codes "", record { pattern = []; text = []; names = []; value = Requests })).1
row_of Desk = (get_or route_table 16 (codes "", record { pattern = []; text = []; names = []; value = Requests })).1

abbrev pub route_to : PathResource → Route
route_to desk = Desk
route_to requests = Requests
route_to checks = Checks
route_to lines = Lines
route_to line_checks = LineChecks
route_to count = Count
route_to (import number) = Import
route_to (request number) = Request
route_to (board from to) = Board
route_to (report (subject.Crew id)) = Crew
route_to (report (subject.Pairing id)) = Pairing
route_to (report subject.Exceedances) = Exceedances
route_to (report (subject.Limits id None)) = Limits
route_to (report (subject.Limits id (Some other))) = LimitsWith
route_to (report subject.Members) = Members
route_to (report (subject.Pairings All)) = Pairings
route_to (report (subject.Pairings Open)) = OpenPairings
-- (no path names these by a report: the plan makes them of a number, and of days)
route_to (report (subject.Board days)) = Board
route_to (report (subject.Request number)) = Request

-- the row that leads to a place
abbrev pub row_to : Option PathResource → Found
row_to place = option_map (λ place. row_of (route_to place)) place

pub is_text : (w : List ℕ) → list_all (λ b. nat_lt b 256) w ≡ true → IsText w
is_text [] e = tt
is_text (b ∷ w) e = let parts = both (nat_lt b 256) (list_all (λ b. nat_lt b 256) w) e in (let h = parts.0 in grind (arith, nat_tests), is_text w parts.1)
  where
    both : (x y : Bool) → (x && y) ≡ true → (x ≡ true) × (y ≡ true)
    both true y e = (refl, e)
    both false y e = absurd cc

none_after : {A : Type 0} (o : Option A) → first_or_other o None ≡ o
none_after None = refl
none_after (Some a) = refl

exactly_to : (w p : List ℕ) (place : PathResource) → IsText w → seek 0 ((w, row_of (route_to place)) ∷ []) p ≡ row_to (exactly w place p)
exactly_to w p place t =
    seek_exactly w p (row_of (route_to place)) place t
    ∙ elim (bytes_eq w p) as (λ v. option_map (λ _. row_of (route_to place)) (if v then Some place else None) ≡ row_to (if v then Some place else None)) [ true ↦ refl | false ↦ refl ]

made_to : {A : Type 0} (make : A → PathResource) (route : Route) (o : Option A) → ((a : A) → route_to (make a) ≡ route) → option_map (λ _. row_of route) o ≡ row_to (option_map make o)
made_to make route None leads = refl
made_to make route (Some a) leads = ap (λ r. Some (row_of r)) (sym (leads a))

either_to : (a b : Option PathResource) → or_else (row_to a) (row_to b) ≡ row_to (first_or_other a b)
either_to None b = refl
either_to (Some a) b = refl

-- an id after these bytes leads to a place
id_to : (w p : List ℕ) (make : List ℕ → PathResource) (route : Route) → IsText w → IsText p → ((id : List ℕ) → route_to (make id) ≡ route)
    → seek 0 ((w ++ 256 ∷ [], row_of route) ∷ []) p ≡ row_to (option_map make (id_after w p))
id_to w p make route t u leads = seek_param w p (row_of route) t u ∙ made_to make route (id_after w p) leads

-- two ids after these bytes lead to a place
ids_to : (w p : List ℕ) (make : List ℕ × List ℕ → PathResource) (route : Route) → IsText w → IsText p → ((ids : List ℕ × List ℕ) → route_to (make ids) ≡ route)
    → seek 0 ((w ++ 256 ∷ 47 ∷ 256 ∷ [], row_of route) ∷ []) p ≡ row_to (option_map make (ids_after w p))
ids_to w p make route t u leads = seek_two_after w p (row_of route) t u ∙ made_to make route (ids_after w p) leads

-- the limits of a member, alone or with a pairing, where this stands before the ids
abbrev limits_after : List ℕ → List ℕ → Option PathResource
limits_after front p = first_or_other (option_map (λ id. limits id None) (id_after front p)) (option_map (λ ids. limits ids.0 (Some ids.1)) (ids_after front p))

limits_to : (w p : List ℕ) → IsText w → IsText p → seek 0 ((w ++ 256 ∷ 47 ∷ 256 ∷ [], row_of LimitsWith) ∷ (w ++ 256 ∷ [], row_of Limits) ∷ []) p ≡ row_to (limits_after w p)
limits_to w p t u =
    seek_one_or_two w p (row_of LimitsWith) (row_of Limits) t u
    ∙ cong2 (made_to (λ id. limits id None) Limits (id_after w p) (λ _. refl)) (made_to (λ ids. limits ids.0 (Some ids.1)) LimitsWith (ids_after w p) (λ _. refl))
    ∙ either_to _ _
  where
    cong2 : {a b c d : Found} → a ≡ b → c ≡ d → or_else a c ≡ or_else b d
    cong2 e f = rw (e, f) refl

-- the reports, where this stands before what they are of
abbrev reports_after : List ℕ → List ℕ → Option PathResource
reports_after front p =
    first_or_other (option_map (λ id. limits id None) (id_after (front ++ codes "limits/") p))
    (first_or_other (option_map (λ ids. limits ids.0 (Some ids.1)) (ids_after (front ++ codes "limits/") p))
    (first_or_other (exactly (front ++ codes "members") members p)
    (first_or_other (exactly (front ++ codes "pairings") pairings p)
    (exactly (front ++ codes "open") open_pairings p))))

id_past : (w v p : List ℕ) → id_after (w ++ v) p ≡ option_and_then (id_after v) (after w p)
id_past [] v p = refl
id_past (a ∷ w) v [] = refl
id_past (a ∷ w) v (b ∷ p) =
    elim (a == b) as (λ x. (if x then id_after (w ++ v) p else None) ≡ option_and_then (id_after v) (if x then after w p else None)) [ true ↦ id_past w v p | false ↦ refl ]

ids_past : (w v p : List ℕ) → ids_after (w ++ v) p ≡ option_and_then (ids_after v) (after w p)
ids_past [] v p = refl
ids_past (a ∷ w) v [] = refl
ids_past (a ∷ w) v (b ∷ p) =
    elim (a == b) as (λ x. (if x then ids_after (w ++ v) p else None) ≡ option_and_then (ids_after v) (if x then after w p else None)) [ true ↦ ids_past w v p | false ↦ refl ]

exactly_past : (w v p : List ℕ) (place : PathResource) → exactly (w ++ v) place p ≡ option_and_then (exactly v place) (after w p)
exactly_past [] v p place = refl
exactly_past (a ∷ w) v [] place = refl
exactly_past (a ∷ w) v (b ∷ p) place =
    elim (a == b) as (λ x. (if (x && bytes_eq (w ++ v) p) then Some place else None) ≡ option_and_then (exactly v place) (if x then after w p else None)) [ true ↦ exactly_past w v p place | false ↦ refl ]

reports_past : (w p : List ℕ) → reports_after w p ≡ option_and_then (reports_after []) (after w p)
reports_past w p =
    rw (id_past w (codes "limits/") p, ids_past w (codes "limits/") p, exactly_past w (codes "members") p members, exactly_past w (codes "pairings") p pairings, exactly_past w (codes "open") p open_pairings)
    (elim (after w p) as (λ o.
    first_or_other (option_map (λ id. limits id None) (option_and_then (id_after (codes "limits/")) o))
    (first_or_other (option_map (λ ids. limits ids.0 (Some ids.1)) (option_and_then (ids_after (codes "limits/")) o))
    (first_or_other (option_and_then (exactly (codes "members") members) o)
    (first_or_other (option_and_then (exactly (codes "pairings") pairings) o)
    (option_and_then (exactly (codes "open") open_pairings) o))))
    ≡ option_and_then (reports_after []) o) [
      | None ↦ refl
      | Some rest ↦ refl
    ])

-- the rows of the reports, with what stands before them gone
abbrev report_rows : RowsOf (RouteOf Route)
report_rows =
    (codes "limits/" ++ 256 ∷ 47 ∷ 256 ∷ [], row_of LimitsWith)
    ∷ (codes "limits/" ++ 256 ∷ [], row_of Limits)
    ∷ (codes "members", row_of Members)
    ∷ (codes "open", row_of OpenPairings)
    ∷ (codes "pairings", row_of Pairings)
    ∷ []

report_found : (p : List ℕ) → IsText p → seek 0 report_rows p ≡ row_to (reports_after [] p)
unfolding seek
report_found [] t = refl
report_found (c ∷ p) t = literal_step report_rows c p refl refl ∙ by108 (108 == c) refl
  where
    by112 : (v : Bool) → (112 == c) ≡ v → (108 == c) ≡ false → (109 == c) ≡ false → (111 == c) ≡ false → seek 0 (step c report_rows) p ≡ row_to (reports_after [] (c ∷ p))
    by112 true e f g h =
        let is : 112 ≡ c = grind (arith, nat_tests) in
        subst (λ c. seek 0 (step c report_rows) p ≡ row_to (reports_after [] (c ∷ p))) is
        (exactly_to (codes "airings") p pairings (is_text (codes "airings") refl) ∙ ap row_to (sym (none_after (exactly (codes "airings") pairings p))))
    by112 false e f g h = rw (e, f, g, h) (seek_none 0 p)

    by111 : (v : Bool) → (111 == c) ≡ v → (108 == c) ≡ false → (109 == c) ≡ false → seek 0 (step c report_rows) p ≡ row_to (reports_after [] (c ∷ p))
    by111 true e f g =
        let is : 111 ≡ c = grind (arith, nat_tests) in
        subst (λ c. seek 0 (step c report_rows) p ≡ row_to (reports_after [] (c ∷ p))) is
        (exactly_to (codes "pen") p open_pairings (is_text (codes "pen") refl))
    by111 false e f g = by112 (112 == c) refl f g e

    by109 : (v : Bool) → (109 == c) ≡ v → (108 == c) ≡ false → seek 0 (step c report_rows) p ≡ row_to (reports_after [] (c ∷ p))
    by109 true e f =
        let is : 109 ≡ c = grind (arith, nat_tests) in
        subst (λ c. seek 0 (step c report_rows) p ≡ row_to (reports_after [] (c ∷ p))) is
        (exactly_to (codes "embers") p members (is_text (codes "embers") refl) ∙ ap row_to (sym (none_after (exactly (codes "embers") members p))))
    by109 false e f = by111 (111 == c) refl f e

    by108 : (v : Bool) → (108 == c) ≡ v → seek 0 (step c report_rows) p ≡ row_to (reports_after [] (c ∷ p))
    by108 true e =
        let is : 108 ≡ c = grind (arith, nat_tests) in
        subst (λ c. seek 0 (step c report_rows) p ≡ row_to (reports_after [] (c ∷ p))) is
        (limits_to (codes "imits/") p (is_text (codes "imits/") refl) t.1
        ∙ ap (λ o. row_to (first_or_other (option_map (λ id. limits id None) (id_after (codes "imits/") p)) o)) (sym (none_after (option_map (λ ids. limits ids.0 (Some ids.1)) (ids_after (codes "imits/") p)))))
    by108 false e = by109 (109 == c) refl e

reports_found : (w p : List ℕ) → IsText w → IsText p → seek 0 (prefixed w report_rows) p ≡ row_to (reports_after w p)
reports_found w p t u = seek_prefixed w p report_rows t ∙ by (after w p) refl ∙ ap row_to (sym (reports_past w p))
  where
    by : (o : Option (List ℕ)) → after w p ≡ o → option_and_then (λ rest. seek 0 report_rows rest) (after w p) ≡ row_to (option_and_then (reports_after []) (after w p))
    by None e = rw e refl
    by (Some rest) e = rw e (report_found rest (text_left w p rest u e))

-- requests, and lines, where this stands before what may follow either name
abbrev requests_after : List ℕ → List ℕ → Option PathResource
requests_after front p = first_or_other (exactly (front ++ []) requests p) (option_map request (id_after (front ++ codes "/") p))

abbrev lines_after : List ℕ → List ℕ → Option PathResource
lines_after front p = first_or_other (exactly (front ++ []) lines p) (exactly (front ++ codes "/checks") line_checks p)

requests_past : (w p : List ℕ) → requests_after w p ≡ option_and_then (requests_after []) (after w p)
requests_past w p =
    rw (exactly_past w [] p requests, id_past w (codes "/") p)
    (elim (after w p) as (λ o.
    first_or_other (option_and_then (exactly [] requests) o) (option_map request (option_and_then (id_after (codes "/")) o)) ≡ option_and_then (requests_after []) o) [
      | None ↦ refl
      | Some rest ↦ refl
    ])

lines_past : (w p : List ℕ) → lines_after w p ≡ option_and_then (lines_after []) (after w p)
lines_past w p =
    rw (exactly_past w [] p lines, exactly_past w (codes "/checks") p line_checks)
    (elim (after w p) as (λ o.
    first_or_other (option_and_then (exactly [] lines) o) (option_and_then (exactly (codes "/checks") line_checks) o) ≡ option_and_then (lines_after []) o) [
      | None ↦ refl
      | Some rest ↦ refl
    ])

-- their rows, with the name gone
abbrev request_rows : RowsOf (RouteOf Route)
request_rows = (47 ∷ 256 ∷ [], row_of Request) ∷ ([], row_of Requests) ∷ []

abbrev line_rows : RowsOf (RouteOf Route)
line_rows = (codes "/checks", row_of LineChecks) ∷ ([], row_of Lines) ∷ []

request_found : (p : List ℕ) → IsText p → seek 0 request_rows p ≡ row_to (requests_after [] p)
unfolding seek
request_found [] t = refl
request_found (c ∷ p) t = literal_step request_rows c p refl refl ∙ by (47 == c) refl
  where
    by : (v : Bool) → (47 == c) ≡ v → seek 0 (step c request_rows) p ≡ row_to (requests_after [] (c ∷ p))
    by true e =
        let is : 47 ≡ c = grind (arith, nat_tests) in
        subst (λ c. seek 0 (step c request_rows) p ≡ row_to (requests_after [] (c ∷ p))) is
        (id_to [] p request Request tt t.1 (λ _. refl))
    by false e = rw e (seek_none 0 p)

line_found : (p : List ℕ) → IsText p → seek 0 line_rows p ≡ row_to (lines_after [] p)
unfolding seek
line_found [] t = refl
line_found (c ∷ p) t = literal_step line_rows c p refl refl ∙ by (47 == c) refl
  where
    by : (v : Bool) → (47 == c) ≡ v → seek 0 (step c line_rows) p ≡ row_to (lines_after [] (c ∷ p))
    by true e =
        let is : 47 ≡ c = grind (arith, nat_tests) in
        subst (λ c. seek 0 (step c line_rows) p ≡ row_to (lines_after [] (c ∷ p))) is
        (exactly_to (codes "checks") p line_checks (is_text (codes "checks") refl))
    by false e = rw e (seek_none 0 p)

requests_found : (w p : List ℕ) → IsText w → IsText p → seek 0 (prefixed w request_rows) p ≡ row_to (requests_after w p)
requests_found w p t u = seek_prefixed w p request_rows t ∙ by (after w p) refl ∙ ap row_to (sym (requests_past w p))
  where
    by : (o : Option (List ℕ)) → after w p ≡ o → option_and_then (λ rest. seek 0 request_rows rest) (after w p) ≡ row_to (option_and_then (requests_after []) (after w p))
    by None e = rw e refl
    by (Some rest) e = rw e (request_found rest (text_left w p rest u e))

lines_found : (w p : List ℕ) → IsText w → IsText p → seek 0 (prefixed w line_rows) p ≡ row_to (lines_after w p)
lines_found w p t u = seek_prefixed w p line_rows t ∙ by (after w p) refl ∙ ap row_to (sym (lines_past w p))
  where
    by : (o : Option (List ℕ)) → after w p ≡ o → option_and_then (λ rest. seek 0 line_rows rest) (after w p) ≡ row_to (option_and_then (lines_after []) (after w p))
    by None e = rw e refl
    by (Some rest) e = rw e (line_found rest (text_left w p rest u e))

-- what begins with `/r`
abbrev after_r : List ℕ → Option PathResource
after_r p = first_or_other (exactly (codes "equests") requests p) (first_or_other (option_map request (id_after (codes "equests/") p)) (reports_after (codes "eports/") p))

under_req : (c : ℕ) (p : List ℕ) → IsText p → seek 0 (step c (step 101 (step 114 (step 47 route_table)))) p ≡ row_to (after_r (101 ∷ c ∷ p))
under_req c p t = by112 (112 == c) refl
  where
    by113 : (v : Bool) → (113 == c) ≡ v → (112 == c) ≡ false → seek 0 (step c (step 101 (step 114 (step 47 route_table)))) p ≡ row_to (after_r (101 ∷ c ∷ p))
    by113 true e f =
        let is : 113 ≡ c = grind (arith, nat_tests) in
        subst (λ c. seek 0 (step c (step 101 (step 114 (step 47 route_table)))) p ≡ row_to (after_r (101 ∷ c ∷ p))) is
        (requests_found (codes "uests") p (is_text (codes "uests") refl) t
        ∙ ap (λ o. row_to (first_or_other (exactly (codes "uests") requests p) o)) (sym (none_after (option_map request (id_after (codes "uests/") p)))))
    by113 false e f = rw (e, f) (seek_none 0 p)

    by112 : (v : Bool) → (112 == c) ≡ v → seek 0 (step c (step 101 (step 114 (step 47 route_table)))) p ≡ row_to (after_r (101 ∷ c ∷ p))
    by112 true e =
        let is : 112 ≡ c = grind (arith, nat_tests) in
        subst (λ c. seek 0 (step c (step 101 (step 114 (step 47 route_table)))) p ≡ row_to (after_r (101 ∷ c ∷ p))) is
        (reports_found (codes "orts/") p (is_text (codes "orts/") refl) t)
    by112 false e = by113 (113 == c) refl e

under_re : (p : List ℕ) → IsText p → seek 0 (step 101 (step 114 (step 47 route_table))) p ≡ row_to (after_r (101 ∷ p))
unfolding seek
under_re [] t = refl
under_re (c ∷ p) t = literal_step (step 101 (step 114 (step 47 route_table))) c p refl refl ∙ under_req c p t.1

under_r : (p : List ℕ) → IsText p → seek 0 (step 114 (step 47 route_table)) p ≡ row_to (after_r p)
unfolding seek
under_r [] t = refl
under_r (c ∷ p) t = literal_step (step 114 (step 47 route_table)) c p refl refl ∙ by (101 == c) refl
  where
    by : (v : Bool) → (101 == c) ≡ v → seek 0 (step c (step 114 (step 47 route_table))) p ≡ row_to (after_r (c ∷ p))
    by true e =
        let is : 101 ≡ c = grind (arith, nat_tests) in
        subst (λ c. seek 0 (step c (step 114 (step 47 route_table))) p ≡ row_to (after_r (c ∷ p))) is (under_re p t.1)
    by false e = rw e (seek_none 0 p)

-- what begins with `/c`
abbrev pub after_c : List ℕ → Option PathResource
after_c p = first_or_other (exactly (codes "hecks") checks p) (first_or_other (exactly (codes "ount") count p) (option_map crew (id_after (codes "rew/") p)))

under_c : (p : List ℕ) → IsText p → seek 0 (step 99 (step 47 route_table)) p ≡ row_to (after_c p)
unfolding seek
under_c [] t = refl
under_c (c ∷ p) t = literal_step (step 99 (step 47 route_table)) c p refl refl ∙ by104 (104 == c) refl
  where
    by114 : (v : Bool) → (114 == c) ≡ v → (104 == c) ≡ false → (111 == c) ≡ false → seek 0 (step c (step 99 (step 47 route_table))) p ≡ row_to (after_c (c ∷ p))
    by114 true e f g =
        let is : 114 ≡ c = grind (arith, nat_tests) in
        subst (λ c. seek 0 (step c (step 99 (step 47 route_table))) p ≡ row_to (after_c (c ∷ p))) is
        (id_to (codes "ew/") p crew Crew (is_text (codes "ew/") refl) t.1 (λ _. refl))
    by114 false e f g = rw (e, f, g) (seek_none 0 p)

    by111 : (v : Bool) → (111 == c) ≡ v → (104 == c) ≡ false → seek 0 (step c (step 99 (step 47 route_table))) p ≡ row_to (after_c (c ∷ p))
    by111 true e f =
        let is : 111 ≡ c = grind (arith, nat_tests) in
        subst (λ c. seek 0 (step c (step 99 (step 47 route_table))) p ≡ row_to (after_c (c ∷ p))) is
        (exactly_to (codes "unt") p count (is_text (codes "unt") refl) ∙ ap row_to (sym (none_after (exactly (codes "unt") count p))))
    by111 false e f = by114 (114 == c) refl f e

    by104 : (v : Bool) → (104 == c) ≡ v → seek 0 (step c (step 99 (step 47 route_table))) p ≡ row_to (after_c (c ∷ p))
    by104 true e =
        let is : 104 ≡ c = grind (arith, nat_tests) in
        subst (λ c. seek 0 (step c (step 99 (step 47 route_table))) p ≡ row_to (after_c (c ∷ p))) is
        (exactly_to (codes "ecks") p checks (is_text (codes "ecks") refl) ∙ ap row_to (sym (none_after (exactly (codes "ecks") checks p))))
    by104 false e = by111 (111 == c) refl e

-- the rest of a path after its slash
abbrev rest_place : List ℕ → Option PathResource
rest_place p =
    first_or_other (exactly [] desk p)
    (first_or_other (exactly (codes "requests") requests p)
    (first_or_other (exactly (codes "checks") checks p)
    (first_or_other (option_map request (id_after (codes "requests/") p))
    (first_or_other (exactly (codes "lines") lines p)
    (first_or_other (exactly (codes "lines/checks") line_checks p)
    (first_or_other (exactly (codes "count") count p)
    (first_or_other (option_map (λ days. board days.0 days.1) (ids_after (codes "board/") p))
    (first_or_other (option_map import (id_after (codes "imports/") p))
    (first_or_other (option_map crew (id_after (codes "crew/") p))
    (first_or_other (option_map pairing (id_after (codes "pairings/") p))
    (first_or_other (exactly (codes "exceedances") exceedances p)
    (reports_after (codes "reports/") p))))))))))))

split : (c : ℕ) (p : List ℕ) → IsText p → seek 0 (step c (step 47 route_table)) p ≡ row_to (rest_place (c ∷ p))
split c p t = by99 (99 == c) refl
  where
    by98 : (v : Bool) → (98 == c) ≡ v → (99 == c) ≡ false → (101 == c) ≡ false → (105 == c) ≡ false → (112 == c) ≡ false → (114 == c) ≡ false → (108 == c) ≡ false → seek 0 (step c (step 47 route_table)) p ≡ row_to (rest_place (c ∷ p))
    by98 true e f g h i j k =
        let is : 98 ≡ c = grind (arith, nat_tests) in
        subst (λ c. seek 0 (step c (step 47 route_table)) p ≡ row_to (rest_place (c ∷ p))) is
        (ids_to (codes "oard/") p (λ days. board days.0 days.1) Board (is_text (codes "oard/") refl) t (λ _. refl) ∙ ap row_to (sym (none_after (option_map (λ days. board days.0 days.1) (ids_after (codes "oard/") p)))))
    by98 false e f g h i j k = rw (e, f, g, h, i, j, k) (seek_none 0 p)

    by108 : (v : Bool) → (108 == c) ≡ v → (99 == c) ≡ false → (101 == c) ≡ false → (105 == c) ≡ false → (112 == c) ≡ false → (114 == c) ≡ false → seek 0 (step c (step 47 route_table)) p ≡ row_to (rest_place (c ∷ p))
    by108 true e f g h i j =
        let is : 108 ≡ c = grind (arith, nat_tests) in
        subst (λ c. seek 0 (step c (step 47 route_table)) p ≡ row_to (rest_place (c ∷ p))) is
        (lines_found (codes "ines") p (is_text (codes "ines") refl) t ∙ ap (λ o. row_to (first_or_other (exactly (codes "ines") lines p) o)) (sym (none_after (exactly (codes "ines/checks") line_checks p))))
    by108 false e f g h i j = by98 (98 == c) refl f g h i j e

    by114 : (v : Bool) → (114 == c) ≡ v → (99 == c) ≡ false → (101 == c) ≡ false → (105 == c) ≡ false → (112 == c) ≡ false → seek 0 (step c (step 47 route_table)) p ≡ row_to (rest_place (c ∷ p))
    by114 true e f g h i =
        let is : 114 ≡ c = grind (arith, nat_tests) in
        subst (λ c. seek 0 (step c (step 47 route_table)) p ≡ row_to (rest_place (c ∷ p))) is (under_r p t)
    by114 false e f g h i = by108 (108 == c) refl f g h i e

    by112 : (v : Bool) → (112 == c) ≡ v → (99 == c) ≡ false → (101 == c) ≡ false → (105 == c) ≡ false → seek 0 (step c (step 47 route_table)) p ≡ row_to (rest_place (c ∷ p))
    by112 true e f g h =
        let is : 112 ≡ c = grind (arith, nat_tests) in
        subst (λ c. seek 0 (step c (step 47 route_table)) p ≡ row_to (rest_place (c ∷ p))) is
        (id_to (codes "airings/") p pairing Pairing (is_text (codes "airings/") refl) t (λ _. refl) ∙ ap row_to (sym (none_after (option_map pairing (id_after (codes "airings/") p)))))
    by112 false e f g h = by114 (114 == c) refl f g h e

    by105 : (v : Bool) → (105 == c) ≡ v → (99 == c) ≡ false → (101 == c) ≡ false → seek 0 (step c (step 47 route_table)) p ≡ row_to (rest_place (c ∷ p))
    by105 true e f g =
        let is : 105 ≡ c = grind (arith, nat_tests) in
        subst (λ c. seek 0 (step c (step 47 route_table)) p ≡ row_to (rest_place (c ∷ p))) is
        (id_to (codes "mports/") p import Import (is_text (codes "mports/") refl) t (λ _. refl) ∙ ap row_to (sym (none_after (option_map import (id_after (codes "mports/") p)))))
    by105 false e f g = by112 (112 == c) refl f g e

    by101 : (v : Bool) → (101 == c) ≡ v → (99 == c) ≡ false → seek 0 (step c (step 47 route_table)) p ≡ row_to (rest_place (c ∷ p))
    by101 true e f =
        let is : 101 ≡ c = grind (arith, nat_tests) in
        subst (λ c. seek 0 (step c (step 47 route_table)) p ≡ row_to (rest_place (c ∷ p))) is
        (exactly_to (codes "xceedances") p exceedances (is_text (codes "xceedances") refl) ∙ ap row_to (sym (none_after (exactly (codes "xceedances") exceedances p))))
    by101 false e f = by105 (105 == c) refl f e

    -- what is not of checks or of the count is of members, or of none of them
    after_is : (p : List ℕ) → rest_place (99 ∷ p) ≡ after_c p
    after_is p = ap (λ o. first_or_other (exactly (codes "hecks") checks p) (first_or_other (exactly (codes "ount") count p) o)) (none_after (option_map crew (id_after (codes "rew/") p)))

    by99 : (v : Bool) → (99 == c) ≡ v → seek 0 (step c (step 47 route_table)) p ≡ row_to (rest_place (c ∷ p))
    by99 true e =
        let is : 99 ≡ c = grind (arith, nat_tests) in
        subst (λ c. seek 0 (step c (step 47 route_table)) p ≡ row_to (rest_place (c ∷ p))) is
        (under_c p t ∙ ap row_to (sym (after_is p)))
    by99 false e = by101 (101 == c) refl e

under_slash : (p : List ℕ) → IsText p → seek 0 (step 47 route_table) p ≡ row_to (rest_place p)
unfolding seek
under_slash [] t = refl
under_slash (c ∷ p) t = literal_step (step 47 route_table) c p refl refl ∙ split c p t.1

pub table_found : (path : List ℕ) → IsText path → first route_table path ≡ row_to (place_of_path path)
unfolding seek
table_found [] t = refl
table_found (b ∷ p) t = literal_step route_table b p refl refl ∙ by (47 == b) refl
  where
    by : (v : Bool) → (47 == b) ≡ v → seek 0 (step b route_table) p ≡ row_to (place_of_path (b ∷ p))
    by true e =
        let is : 47 ≡ b = grind (arith, nat_tests) in
        subst (λ b. seek 0 (step b route_table) p ≡ row_to (place_of_path (b ∷ p))) is (under_slash p t.1)
    by false e = rw e (seek_none 0 p)

pub text_of : (p : List ℕ) → ((k : ℕ) → Fits w8 (get_or p k 0)) → IsText p
text_of [] h = tt
text_of (b ∷ p) h = (let first = h 0 in omega arith, text_of p (λ k. h (suc k)))
