-- What holds of a command's rows after a walk that met no fault, where each use of an argument keeps it.
use Rattle.std.proofs.Common.{◌≡◌, ◌&&◌, ℕ, Bool, cond, true, false, zero, suc, refl, List, [], ◌∷◌}
use Rattle.std.proofs.Common.{length, drop, Option, Some, None, is_some}
use Rattle.std.specs.Prelude.{encode_utf8, slice_get, find, fold}
use Rattle.std.specs.Option.{option_map_or}
use Rattle.std.specs.List.{list_all}
use Rattle.std.specs.Str.{bytes_eq, chars}
use Rattle.clap.proofs.WalkLemmas.{both}
use Rattle.clap.specs.Lexer.{long_of, short_of}
use Rattle.clap.specs.Walk.{Held, Names, Outcome, Row, Rule, Step, Text, Waiting, Walk, after_flag}
use Rattle.clap.specs.Walk.{after_step, arg_by_id, arg_by_index, arg_by_long, arg_by_short}
use Rattle.clap.specs.Walk.{attached_value, bundle, bundle_met, bundle_step, done, flag_met, idle}
use Rattle.clap.specs.Walk.{is_pending, long_met, long_or_other, next, nothing_held, option}
use Rattle.clap.specs.Walk.{option_met, option_word, plain, plain_word, positional, reacted}
use Rattle.clap.specs.Walk.{refused, rows_after, settled, settled_rows, short_met, short_or_plain}
use Rattle.clap.specs.Walk.{subcommand, subcommand_met, subcommand_or_other, takes_several}
use Rattle.clap.specs.Walk.{takes_values, to_positional, trailing, used, used_by_id, value, waits}
use Rattle.clap.specs.Walk.{walk, walk_from, walked, walked_from, with_default, word_met}
use Rattle.clap.specs.Simple.{Shape}
use Rattle.clap.specs.Kinds.{Kinds, or_else}
use Rattle.clap.specs.Faults.{bundle_fault, bundle_step_fault, flag_word_fault, flags_fault}
use Rattle.clap.specs.Faults.{level_fault, long_fault, option_fault, other_fault, positional_fault}
use Rattle.clap.specs.Faults.{react_fault, settle_fault, short_fault, step_fault, stray_fault}
use Rattle.clap.specs.Faults.{turn_fault, use_fault, walk_fault, word_fault}
use Rattle.clap.specs.declared.error.kind.ErrorKind.TheVariants as kind

-- two steps that come to no fault: neither does
pub none_of : (a b : Kinds) → or_else a b ≡ [] → (a ≡ []) × (b ≡ [])
none_of [] b e = (refl, e)
none_of (k ∷ ks) b e =
    let bad : ⊥ = cc in
    absurd bad

-- what passes for each passes for the one that is found
pub found_passes : {X : Type 0} (p good : X → Bool) (xs : List X) (x : X) → list_all good xs ≡ true
    → find p xs ≡ Some x → good x ≡ true
found_passes p good [] x all e =
    let bad : ⊥ = cc in
    absurd bad
found_passes p good (y ∷ ys) x all e = go (p y) e (λ h. found_passes p good ys x (both _ _ all).1 h)
  where
    go : (b : Bool) → cond b (Some y) (find p ys) ≡ Some x → (find p ys ≡ Some x → good x ≡ true) → good x ≡ true
    go true here later =
        let same : y ≡ x = cc in
        rw (← same) (both _ _ all).0
    go false there later = later there

module _ (s : Shape) (good : Rule → Bool) (J : List Row → Type 0) (all : list_all good s.rules ≡ true)
    (uses : (a : Rule) (values : List Text) (rows : List Row) → good a ≡ true
    → use_fault s.args_override_self a values rows ≡ [] → J rows → J (used a values rows))
    (fills : (a : Rule) (rows : List Row) → good a ≡ true → J rows → J (with_default rows a)) where
  settle_rows : (p : Option (Text × List Text)) (rows : List Row)
      → option_map_or (λ q. option_map_or (λ a. use_fault s.args_override_self a q.1 rows) (arg_by_id s.rules q.0) [])
      p [] ≡ []
      → J rows → J (settled_rows s.rules p rows)
  settle_rows None rows e j = j
  settle_rows (Some p) rows e j = go (arg_by_id s.rules p.0) refl e
    where
      go : (o : Option Rule) → arg_by_id s.rules p.0 ≡ o
          → option_map_or (λ a. use_fault s.args_override_self a p.1 rows) o [] ≡ [] → J (used_by_id o p.1 rows)
      go None is none = j
      go (Some a) is none = uses a p.1 rows (found_passes (λ x. bytes_eq x.id p.0) good s.rules a all is) none j

  settle_keeps : (h : Held) → settle_fault s.rules s.args_override_self h ≡ [] → J h.rows → J (settled s.rules h).rows
  settle_keeps h e j = settle_rows h.pending h.rows e j

  react_keeps : (a : Rule) (values : List Text) (h : Held) → good a ≡ true
      → react_fault s.rules s.args_override_self a values h ≡ [] → J h.rows
      → J (reacted s.rules a values h).rows
  react_keeps a values h ok e j =
      let p = none_of (settle_fault s.rules s.args_override_self h) _ e in
      uses a values (settled s.rules h).rows ok p.1 (settle_keeps h p.0 j)

  option_keeps : (a : Rule) (v : Option Text) (h : Held) → good a ≡ true
      → option_fault s.rules s.args_override_self a v h ≡ [] → J h.rows
      → J (option_met s.rules a v h).0.rows
  option_keeps a None h ok e j = settle_keeps h e j
  option_keeps a (Some v) h ok e j = react_keeps a (v ∷ []) h ok e j

  flag_keeps : (a : Rule) (v : Option Text) (h : Held) → good a ≡ true
      → cond (is_some v) (kind.TooManyValues ∷ []) (react_fault s.rules s.args_override_self a [] h) ≡ [] → J h.rows
      → J (flag_met s.rules a v h).0.rows
  flag_keeps a None h ok e j = react_keeps a [] h ok e j
  flag_keeps a (Some v) h ok e j = j

  long_keeps : (o : Option Rule) (v : Option Text) (h : Held) → ((a : Rule) → o ≡ Some a → good a ≡ true)
      → long_fault s.rules s.args_override_self o v h ≡ [] → J h.rows → J (long_met s.rules o v h).0.rows
  long_keeps None v h ok e j = j
  long_keeps (Some a) v h ok e j = go (takes_values a) e
    where
      go : (b : Bool)
          → cond b (option_fault s.rules s.args_override_self a v h)
          (cond (is_some v) (kind.TooManyValues ∷ []) (react_fault s.rules s.args_override_self a [] h)) ≡ []
          → J (cond b (option_met s.rules a v h) (flag_met s.rules a v h)).0.rows
      go true none = option_keeps a v h (ok a refl) none j
      go false none = flag_keeps a v h (ok a refl) none j

  option_word_keeps : (o : Option Rule) (id word : Text) (h : Held) → J h.rows → J (option_word o id word h).0.rows
  option_word_keeps None id word h j = j
  option_word_keeps (Some a) id word h j = j

  plain_keeps : (waiting : Waiting) (word : Text) (h : Held) → J h.rows → J (plain_word s.rules waiting word h).0.rows
  plain_keeps (option id) word h j = option_word_keeps (arg_by_id s.rules id) id word h j
  plain_keeps idle word h j = j
  plain_keeps positional word h j = j

  flag_done : (waiting : Waiting) (word : Text) (h : Held) (o : Outcome) → J h.rows
      → J (after_flag s.rules waiting word h o).0.rows
  flag_done waiting word h done j = j
  flag_done waiting word h (waits id) j = j
  flag_done waiting word h plain j = plain_keeps waiting word h j
  flag_done waiting word h refused j = plain_keeps waiting word h j

  short_keeps : (o : Option Rule) (rest : Text) (h : Held) (fault : Held → Kinds) (then : Held → Held × Outcome)
      → ((a : Rule) → o ≡ Some a → good a ≡ true)
      → ((g : Held) → fault g ≡ [] → J g.rows → J (then g).0.rows)
      → short_fault s.rules s.args_override_self o rest h fault ≡ [] → J h.rows
      → J (short_met s.rules o rest h then).0.rows
  short_keeps None rest h fault then ok more e j = j
  short_keeps (Some a) rest h fault then ok more e j = go (takes_values a) e
    where
      go : (b : Bool)
          → cond b (option_fault s.rules s.args_override_self a (attached_value rest) h)
          (or_else (react_fault s.rules s.args_override_self a [] h) (fault (reacted s.rules a [] h))) ≡ []
          → J (cond b (option_met s.rules a (attached_value rest) h) (then (reacted s.rules a [] h))).0.rows
      go true none = option_keeps a (attached_value rest) h (ok a refl) none j
      go false none =
          let p = none_of (react_fault s.rules s.args_override_self a [] h) _ none in
          more (reacted s.rules a [] h) p.1 (react_keeps a [] h (ok a refl) p.0 j)

  bundle_step_keeps : (o : Option ℕ) (flags : Text) (skip : ℕ) (so_far : Outcome) (h : Held)
      (fault : Text → ℕ → Held → Kinds) (then : Text → ℕ → Outcome → Held → Held × Outcome)
      → ((t : Text) (n : ℕ) (x : Outcome) (g : Held) → fault t n g ≡ [] → J g.rows → J (then t n x g).0.rows)
      → bundle_step_fault s.rules s.args_override_self o flags skip h fault ≡ [] → J h.rows
      → J (bundle_step s.rules o flags skip so_far h then).0.rows
  bundle_step_keeps None flags skip so_far h fault then more e j = j
  bundle_step_keeps (Some x) flags zero so_far h fault then more e j =
      let rest = drop (length (encode_utf8 x)) flags in
      short_keeps (arg_by_short s.rules x) rest h (fault rest 0) (then rest 0 done)
      (λ a is. found_passes _ good s.rules a all is) (λ g none k. more rest 0 done g none k) e j
  bundle_step_keeps (Some x) flags (suc skip) so_far h fault then more e j =
      more (drop (length (encode_utf8 x)) flags) skip so_far h e j

  flags_keep : (k : ℕ) (flags : Text) (skip : ℕ) (so_far : Outcome) (h : Held)
      → flags_fault s.rules s.args_override_self k flags skip h ≡ [] → J h.rows
      → J (bundle_met s.rules k flags skip so_far h).0.rows
  unfolding bundle_met flags_fault
  flags_keep zero flags skip so_far h e j = j
  flags_keep (suc k) flags skip so_far h e j =
      bundle_step_keeps (slice_get (chars flags) 0) flags skip so_far h (flags_fault s.rules s.args_override_self k)
      (bundle_met s.rules k)
      (λ t n x g none i. flags_keep k t n x g none i) e j

  short_or_plain_keeps : (o : Option Text) (waiting : Waiting) (word : Text) (h : Held)
      → option_map_or (λ flags. bundle_fault s.rules s.args_override_self flags h) o [] ≡ [] → J h.rows
      → J (short_or_plain s.rules waiting word o h).0.rows
  short_or_plain_keeps None waiting word h e j = plain_keeps waiting word h j
  short_or_plain_keeps (Some flags) waiting word h e j =
      flag_done waiting word (bundle s.rules flags h).0 (bundle s.rules flags h).1
      (flags_keep (length flags) flags h.skip plain (record h { skip = 0 }) e j)

  flag_word_keeps : (o : Option (Text × Option Text)) (waiting : Waiting) (word : Text) (h : Held)
      → flag_word_fault s.rules s.args_override_self o word h ≡ [] → J h.rows
      → J (long_or_other s.rules waiting word o h).0.rows
  flag_word_keeps None waiting word h e j = short_or_plain_keeps (short_of word) waiting word h e j
  flag_word_keeps (Some p) waiting word h e j =
      flag_done waiting word (long_met s.rules (arg_by_long s.rules p.0) p.1 h).0
      (long_met s.rules (arg_by_long s.rules p.0) p.1 h).1
      (long_keeps (arg_by_long s.rules p.0) p.1 h (λ a is. found_passes _ good s.rules a all is) e j)

  other_keeps : (o : Option Text) (waiting : Waiting) (position : ℕ) (word : Text) (h : Held)
      → other_fault s o word h ≡ [] → J h.rows → J (subcommand_or_other s.rules o waiting position word h).0.rows
  other_keeps (Some name) waiting position word h e j = j
  other_keeps None waiting position word h e j = go (bytes_eq word (45 ∷ 45 ∷ [])) e
    where
      go : (b : Bool) → cond b [] (flag_word_fault s.rules s.args_override_self (long_of word) word h) ≡ []
          → J (cond b (h, trailing position) (long_or_other s.rules waiting word (long_of word) h)).0.rows
      go true none = j
      go false none = flag_word_keeps (long_of word) waiting word h none j

  word_keeps : (names : Names) (is_trailing : Bool) (waiting : Waiting) (position : ℕ) (word : Text) (h : Held)
      → word_fault s names is_trailing waiting word h ≡ [] → J h.rows
      → J (word_met s.rules names is_trailing waiting position word h).0.rows
  word_keeps names true waiting position word h e j = j
  word_keeps names false waiting position word h e j =
      other_keeps (subcommand_met names waiting word) waiting position word h e j

  positional_keeps : (o : Option Rule) (word : Text) (w : Walk) (h : Held)
      → option_map_or (λ a. positional_fault s.rules s.args_override_self a h) o (stray_fault s) ≡ [] → J h.rows
      → J (to_positional s.rules o word w h).held.rows
  positional_keeps None word w h e j = j
  positional_keeps (Some a) word w h e j = go (is_pending a h.pending && takes_several a) e
    where
      go : (b : Bool) → cond b [] (settle_fault s.rules s.args_override_self h) ≡ []
          → J (cond b h (settled s.rules h)).rows
      go true none = j
      go false none = settle_keeps h none j

  step_keeps : (word : Text) (w : Walk) (h : Held) (step : Step) → step_fault s w.position h step ≡ [] → J h.rows
      → J (after_step s.rules word w h step).held.rows
  step_keeps word w h (next waiting) e j = j
  step_keeps word w h (trailing position) e j = j
  step_keeps word w h (subcommand name) e j = j
  step_keeps word w h value e j = positional_keeps (arg_by_index s.rules w.position) word w h e j

  turn_keeps : (names : Names) (w : Walk) (word : Text) → turn_fault s names w word ≡ [] → J w.held.rows
      → J (walked s.rules names w word).held.rows
  unfolding walked
  turn_keeps names w word e j = go w.stopped e
    where
      go : (o : Option (Text × List Text))
          → cond (is_some o) [] (or_else (word_fault s names w.is_trailing w.waiting word w.held)
          (step_fault s w.position (word_met s.rules names w.is_trailing w.waiting w.position word w.held).0
          (word_met s.rules names w.is_trailing w.waiting w.position word w.held).1)) ≡ []
          → J (walked_from s.rules names o w word).held.rows
      go (Some p) none = j
      go None none =
          let p = none_of (word_fault s names w.is_trailing w.waiting word w.held) _ none in
          let met = word_met s.rules names w.is_trailing w.waiting w.position word w.held in
          step_keeps word w met.0 met.1 p.1 (word_keeps names w.is_trailing w.waiting w.position word w.held p.0 j)

  walk_keeps : (names : Names) (w : Walk) (words : List Text) → walk_fault s names w words ≡ [] → J w.held.rows
      → J (fold (walked s.rules names) w words).held.rows
  unfolding walk_fault
  walk_keeps names w [] e j = j
  walk_keeps names w (word ∷ rest) e j =
      let p = none_of (turn_fault s names w word) _ e in
      walk_keeps names (walked s.rules names w word) rest p.1 (turn_keeps names w word p.0 j)

  defaults_keep : (rules : List Rule) (rows : List Row) → list_all good rules ≡ true → J rows
      → J (fold with_default rows rules)
  defaults_keep [] rows ok j = j
  defaults_keep (a ∷ rest) rows ok j =
      let p = both (good a) _ ok in
      defaults_keep rest (with_default rows a) p.1 (fills a rows p.0 j)

  -- what each use and each default keeps holds of the rows of a level that met no fault
  pub level_keeps : (names : Names) (words : List Text) (has : Bool) (below : Kinds)
      → level_fault s names nothing_held words has below ≡ [] → J []
      → J (rows_after s.rules names words)
  level_keeps names words has below e j =
      let end = (walk s.rules names nothing_held words).held in
      let p = none_of (walk_fault s names (walk_from nothing_held) words) _ e in
      let q = none_of below _ p.1 in
      let r = none_of (settle_fault s.rules s.args_override_self end) _ q.1 in
      defaults_keep s.rules (settled s.rules end).rows all
      (settle_keeps end r.0 (walk_keeps names (walk_from nothing_held) words p.0 j))
