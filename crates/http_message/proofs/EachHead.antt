-- An input begins with a head, or with none: each piece of a head is there or not.
use Rattle.std.proofs.Common.{◌≡◌, ◌∙◌, ◌⊎◌, ◌<◌, ◌≤◌, inl, inr, refl, sym, ap, subst, ℕ, zero, suc, Bool, true, false, List, [], ◌∷◌, ◌++◌, length, IsUtf8, arith, append_assoc, append-nil, length-append}
use Rattle.std.specs.List.{flat_map}
use Rattle.std.specs.Str.{is_utf8}
use Rattle.std.proofs.lemmas.Bool.{cases_Bool, cases_eq, cases_lt, both_ways}
use Rattle.std.proofs.lemmas.List.Elements.{All-cons, All-head, All-nil, All-tail}
use Rattle.std.proofs.lemmas.Str.{IsUtf8-from_is_utf8, is_utf8-from_IsUtf8}
use Rattle.httparse.specs.Grammar.{AllPass, Field, IsField, RequestHead, LineEnd, crlf, lf, is_token_byte, is_uri_byte, is_value_byte, print_end, print_field, print_request, print_version}
use Rattle.httparse.specs.Pieces.{Begins, Blank, Bytes, FieldLine, FieldLines, Newline, Piece, RequestStart, Section, Stops, Target, Text, Then, Version, Word, is_newline}
use Rattle.httparse.proofs.GrammarLemmas.{request_from_pieces, request_head, request_pieces, request_unique}
use Rattle.httparse.proofs.PieceLemmas.{Blank_deterministic, IsDeterministic, Method_deterministic, Name_deterministic, NotYet_elim, NotYet_intro, RequestStart_deterministic, Section_line, Section_skip, Target_deterministic, Version_deterministic, Word_deterministic, FieldLine_parts, colon_ends_token, print_field-append, space_ends_token}
use Rattle.httparse.proofs.ReadLemmas.{Blank_after, FieldLine_done}
use Rattle.http_message.specs.Laws.{HasHeadOrNone}

-- each text begins with the piece, or doesn't
abbrev Decides : {A : Type 0} → Piece A → Type 0
Decides G = (text : List ℕ) → Begins G text ⊎ ¬ (Begins G text)

-- ---- Pieces in a row

then_decides : {A B : Type 0} {G : Piece A} {H : Piece B} → IsDeterministic G → Decides G → Decides H → Decides (Then G H)
then_decides {G} {H} once first second text = elim (first text) [
  | inr none ↦ inr (λ h. none (h.0.0, h.2.0, h.2.1))
  | inl g ↦ elim (second g.1) [
    | inl it ↦ inl ((g.0, it.0), it.1, (g.1, g.2, it.2))
    | inr none ↦ inr (λ h.
        let same = once.unique h.0.0 g.0 text h.2.0 g.1 h.2.1 g.2 in
        none (h.0.1, h.1, subst (λ (m : List ℕ). H h.0.1 m h.1) same.1 h.2.2))
  ]
]

-- ---- Ends of lines

bytes_decide : (bytes : List ℕ) → Decides (Bytes bytes)
bytes_decide [] text = inl (tt, text, refl)
bytes_decide (b ∷ bytes) [] = inr (λ h. let e = h.2 in cc)
bytes_decide (b ∷ bytes) (c ∷ text) = elim (cases_eq c b) [
  | inr other ↦ inr (λ h. let e = h.2 in other cc)
  | inl same ↦ elim (bytes_decide bytes text) [
    | inl it ↦ let rest = it.2 in inl (tt, it.1, cc)
    | inr none ↦ inr (λ h. let e = h.2 in none (tt, h.1, cc))
  ]
]

newline_decides : Decides Newline
newline_decides text = elim (bytes_decide (13 ∷ 10 ∷ []) text) [
  | inl it ↦ inl (crlf, it.1, it.2)
  | inr no_crlf ↦ elim (bytes_decide (10 ∷ []) text) [
    | inl it ↦ inl (lf, it.1, it.2)
    | inr no_lf ↦ inr (λ h. neither h.0 h.1 h.2 no_crlf no_lf)
  ]
]
  where
    neither : (end : LineEnd) (rest : List ℕ) → Newline end text rest → ¬ (Begins (Bytes (13 ∷ 10 ∷ [])) text) → ¬ (Begins (Bytes (10 ∷ [])) text) → ⊥
    neither crlf rest is no_crlf no_lf = no_crlf (tt, rest, is)
    neither lf rest is no_crlf no_lf = no_lf (tt, rest, is)

-- what follows an end of a line has fewer bytes
newline_shortens : (end : LineEnd) (text rest : List ℕ) → Newline end text rest → length rest < length text
newline_shortens crlf text rest is = omega (arith, ap length is)
newline_shortens lf text rest is = omega (arith, ap length is)

-- the empty lines of a text of fewer bytes than this: they end at a byte that begins no other one
blank_within : (most : ℕ) (text : List ℕ) → length text < most → Begins Blank text ⊎ ¬ (Begins Blank text)
blank_within zero text few = absurd (omega (arith, few))
blank_within (suc most) text few = elim (newline_decides text) [
  | inl (end, rest, is) ↦
      let shorter = newline_shortens end text rest is in
      elim (blank_within most rest (omega (arith, few, shorter))) [
        | inl (ends, after, read) ↦
            inl (end ∷ ends, after, (is ∙ ap (λ t. print_end end ++ t) read.0 ∙ sym (append_assoc (print_end end) (flat_map print_end ends) after), read.1))
        | inr none ↦ inr (NotYet_elim (Blank_after (end ∷ []) (is ∙ ap (λ t. t ++ rest) (one_end end)) (NotYet_intro none)))
      ]
  | inr no_end ↦ stopped text no_end
]
  where
    one_end : (end : LineEnd) → print_end end ≡ flat_map print_end (end ∷ [])
    one_end crlf = refl
    one_end lf = refl

    stopped : (bytes : List ℕ) → ¬ (Begins Newline bytes) → Begins Blank bytes ⊎ ¬ (Begins Blank bytes)
    stopped bytes no_end = elim (stops bytes) [
      | inl is ↦ inl ([], bytes, (refl, is))
      | inr moving ↦ inr (λ h. no_blank h.0 bytes h.1 h.2 no_end moving)
    ]
      where
        stops : (at : List ℕ) → Stops is_newline at ⊎ ¬ (Stops is_newline at)
        stops [] = inr (λ h. h)
        stops (b ∷ more) = elim (cases_Bool (is_newline b)) [
          | inl is ↦ inr (λ h. both_ways _ h is)
          | inr not ↦ inl not
        ]

        no_blank : (ends : List LineEnd) (at rest : List ℕ) → Blank ends at rest → ¬ (Begins Newline at) → ¬ (Stops is_newline at) → ⊥
        no_blank [] at rest is none moves = moves (subst (Stops is_newline) (sym is.0) is.1)
        no_blank (end ∷ ends) at rest is none moves =
            none (end, _, is.0 ∙ append_assoc (print_end end) (flat_map print_end ends) rest)

blank_decides : Decides Blank
blank_decides text = blank_within (suc (length text)) text (omega arith)

-- ---- Words

module _ (test : ℕ → Bool) (stop : ℕ) (fails : test stop ≡ false) where
  abbrev Pass : ℕ → Type 0
  Pass b = test b ≡ true

  -- any bytes that pass, also none, and the byte stop
  abbrev Run : Piece (List ℕ)
  Run word text rest = AllPass test word × (text ≡ word ++ stop ∷ rest)

  run_decides : Decides Run
  run_decides [] = inr (λ h. nothing h.0 h.1 h.2.1)
    where
      nothing : (word rest : List ℕ) → [] ≡ word ++ stop ∷ rest → ⊥
      nothing [] rest e = cc
      nothing (b ∷ word) rest e = cc
  run_decides (b ∷ text) = elim (cases_eq b stop) [
    | inl same ↦ inl ([], text, (All-nil Pass, ap (λ c. c ∷ text) same))
    | inr other ↦ elim (cases_Bool (test b)) [
      | inr not ↦ inr (λ h. no_word h.0 h.1 h.2 other (λ passes. both_ways _ not passes))
      | inl passes ↦ elim (run_decides text) [
        | inl (word, rest, read) ↦ inl (b ∷ word, rest, (All-cons Pass b word passes read.0, ap (λ t. b ∷ t) read.1))
        | inr none ↦ inr (λ h. no_more h.0 h.1 h.2 other none)
      ]
    ]
  ]
    where
      no_word : (word rest : List ℕ) → Run word (b ∷ text) rest → ¬ (b ≡ stop) → ¬ (test b ≡ true) → ⊥
      no_word [] rest is other not = let e = is.1 in other cc
      no_word (c ∷ word) rest is other not =
          let e = is.1 in let passes = All-head Pass c word is.0 in not (let same : b ≡ c = cc in subst Pass (sym same) passes)

      no_more : (word rest : List ℕ) → Run word (b ∷ text) rest → ¬ (b ≡ stop) → ¬ (Begins Run text) → ⊥
      no_more [] rest is other none = let e = is.1 in other cc
      no_more (c ∷ word) rest is other none = let e = is.1 in none (word, rest, (All-tail Pass c word is.0, cc))

  word_decides : Decides (Word test stop)
  word_decides [] = inr (λ h. nothing h.0 h.1 h.2.2)
    where
      nothing : (word rest : List ℕ) → [] ≡ word ++ stop ∷ rest → ⊥
      nothing [] rest e = cc
      nothing (b ∷ word) rest e = cc
  word_decides (b ∷ text) = elim (cases_Bool (test b)) [
    | inr not ↦ inr (λ h. no_first h.0 h.1 h.2 not)
    | inl passes ↦ elim (run_decides text) [
      | inl (word, rest, read) ↦ inl (b ∷ word, rest, (omega arith, All-cons Pass b word passes read.0, ap (λ t. b ∷ t) read.1))
      | inr none ↦ inr (λ h. no_more h.0 h.1 h.2 none)
    ]
  ]
    where
      no_first : (word rest : List ℕ) → Word test stop word (b ∷ text) rest → test b ≡ false → ⊥
      no_first [] rest is not = let some = is.0 in omega (arith, some)
      no_first (c ∷ word) rest is not =
          let e = is.2 in let passes = All-head Pass c word is.1 in let same : b ≡ c = cc in both_ways _ not (subst Pass (sym same) passes)

      no_more : (word rest : List ℕ) → Word test stop word (b ∷ text) rest → ¬ (Begins Run text) → ⊥
      no_more [] rest is none = let some = is.0 in omega (arith, some)
      no_more (c ∷ word) rest is none = let e = is.2 in none (word, rest, (All-tail Pass c word is.1, cc))

target_decides : Decides Target
target_decides text = elim (word_decides is_uri_byte 32 refl text) [
  | inr none ↦ inr (λ h. none (h.0, h.1, h.2.0))
  | inl (word, rest, read) ↦ elim (cases_Bool (is_utf8 word)) [
    | inl is ↦ inl (word, rest, (read, IsUtf8-from_is_utf8 word is))
    | inr not ↦ inr (λ h.
        let same = Word_same word h.0 rest h.1 read h.2.0 in
        both_ways _ not (is_utf8-from_IsUtf8 word (subst IsUtf8 (sym same) h.2.1)))
  ]
]
  where
    Word_same : (a b r q : List ℕ) → Word is_uri_byte 32 a text r → Word is_uri_byte 32 b text q → a ≡ b
    Word_same a b r q x y = let same = (Word_deterministic is_uri_byte 32 refl).unique a b text r q x y in same.0

-- ---- The version

minor_is : (minor : ℕ) → minor ≤ 1 → (minor ≡ 0) ⊎ (minor ≡ 1)
minor_is zero few = inl refl
minor_is (suc zero) few = inr refl
minor_is (suc (suc minor)) few = absurd (omega (arith, few))

version_decides : Decides Version
version_decides text = elim (bytes_decide (print_version 0) text) [
  | inl it ↦ inl (0, it.1, (omega arith, it.2))
  | inr not_0 ↦ elim (bytes_decide (print_version 1) text) [
    | inl it ↦ inl (1, it.1, (omega arith, it.2))
    | inr not_1 ↦ inr (λ h. elim (minor_is h.0 h.2.0) [
      | inl is ↦ not_0 (tt, h.1, subst (λ m. text ≡ print_version m ++ h.1) is h.2.1)
      | inr is ↦ not_1 (tt, h.1, subst (λ m. text ≡ print_version m ++ h.1) is h.2.1)
    ])
  ]
]

-- ---- Fields

abbrev IsValueByte : ℕ → Type 0
IsValueByte b = is_value_byte b ≡ true

text_decides : Decides Text
text_decides [] = inr (λ h. nothing h.0.0 h.0.1 h.1 h.2.1)
  where
    nothing : (value : List ℕ) (end : LineEnd) (rest : List ℕ) → [] ≡ value ++ (print_end end ++ rest) → ⊥
    nothing [] crlf rest e = cc
    nothing [] lf rest e = cc
    nothing (b ∷ value) end rest e = cc
text_decides (b ∷ text) = elim (cases_Bool (is_value_byte b)) [
  | inl passes ↦ elim (text_decides text) [
    | inl (value, rest, read) ↦ inl ((b ∷ value.0, value.1), rest, (All-cons IsValueByte b value.0 passes read.0, ap (λ t. b ∷ t) read.1))
    | inr none ↦ inr (λ h. no_more h.0.0 h.0.1 h.1 h.2 passes none)
  ]
  | inr not ↦ elim (newline_decides (b ∷ text)) [
    | inl (end, rest, is) ↦ inl (([], end), rest, (All-nil IsValueByte, is))
    | inr none ↦ inr (λ h. no_end h.0.0 h.0.1 h.1 h.2 not none)
  ]
]
  where
    stops : (end : LineEnd) (rest : List ℕ) → b ∷ text ≡ print_end end ++ rest → is_value_byte b ≡ true → ⊥
    stops crlf rest e passes = let same : b ≡ 13 = cc in both_ways _ (subst (λ c. is_value_byte c ≡ false) (sym same) refl) passes
    stops lf rest e passes = let same : b ≡ 10 = cc in both_ways _ (subst (λ c. is_value_byte c ≡ false) (sym same) refl) passes

    no_more : (value : List ℕ) (end : LineEnd) (rest : List ℕ) → Text (value, end) (b ∷ text) rest → is_value_byte b ≡ true → ¬ (Begins Text text) → ⊥
    no_more [] end rest is passes none = stops end rest is.1 passes
    no_more (c ∷ value) end rest is passes none = let e = is.1 in none ((value, end), rest, (All-tail IsValueByte c value is.0, cc))

    no_end : (value : List ℕ) (end : LineEnd) (rest : List ℕ) → Text (value, end) (b ∷ text) rest → is_value_byte b ≡ false → ¬ (Begins Newline (b ∷ text)) → ⊥
    no_end [] end rest is not none = none (end, rest, is.1)
    no_end (c ∷ value) end rest is not none =
        let e = is.1 in let same : b ≡ c = cc in both_ways _ not (subst IsValueByte (sym same) (All-head IsValueByte c value is.0))

field_decides : Decides FieldLine
field_decides text = elim (then_decides Name_deterministic (word_decides is_token_byte 58 colon_ends_token) text_decides text) [
  | inl (parts, rest, (middle, word, value)) ↦
      inl (record { name = parts.0; raw = parts.1.0; end = parts.1.1 }, rest, FieldLine_done parts.0 parts.1.0 parts.1.1 text middle rest word value)
  | inr none ↦ inr (λ h. none ((h.0.name, (h.0.raw, h.0.end)), h.1, FieldLine_parts h.0 text h.1 h.2))
]

-- what follows a field has fewer bytes
field_shortens : (f : Field) (text rest : List ℕ) → FieldLine f text rest → length rest < length text
field_shortens f text rest read =
    let name : 0 < length f.name = read.0.name.0 in
    let all : length text ≡ length (f.name ++ 58 ∷ (f.raw ++ (print_end f.end ++ rest))) = ap length (read.1 ∙ print_field-append f rest) in
    omega (arith, all, name, length-append f.name (58 ∷ (f.raw ++ (print_end f.end ++ rest))), length-append f.raw (print_end f.end ++ rest), length-append (print_end f.end) rest)

section_within : (most : ℕ) (text : List ℕ) → length text < most → Begins Section text ⊎ ¬ (Begins Section text)
section_within zero text few = absurd (omega (arith, few))
section_within (suc most) text few = elim (newline_decides text) [
  | inl (end, rest, is) ↦ inl (([], end), rest, (All-nil IsField, is))
  | inr no_end ↦ elim (field_decides text) [
    | inr no_field ↦ inr (λ h. elim (Section_line h.0 text h.1 h.2) [
      | inl ends ↦ no_end ends
      | inr field ↦ no_field field
    ])
    | inl (f, middle, read) ↦
        let shorter = field_shortens f text middle read in
        elim (section_within most middle (omega (arith, few, shorter))) [
          | inl (section, rest, reads) ↦
              inl ((f ∷ section.0, section.1), rest, (All-cons IsField f section.0 read.0 reads.0, read.1 ∙ ap (λ t. print_field f ++ t) reads.1 ∙ joined (print_field f) (flat_map print_field section.0) (print_end section.1) rest))
          | inr none ↦ inr (λ h.
              let lines : FieldLines (f ∷ []) text middle = (All-cons IsField f [] read.0 (All-nil IsField), read.1 ∙ ap (λ t. t ++ middle) (sym (append-nil (print_field f)))) in
              let later = Section_skip (f ∷ []) h.0.0 h.0.1 text middle h.1 lines h.2 in
              none ((later.0, h.0.1), h.1, later.2))
        ]
  ]
]
  where
    joined : (a b c d : List ℕ) → a ++ ((b ++ c) ++ d) ≡ ((a ++ b) ++ c) ++ d
    joined a b c d = simp append_assoc

section_decides : Decides Section
section_decides text = section_within (suc (length text)) text (omega arith)

-- ---- Heads

start_decides : Decides RequestStart
start_decides =
    then_decides Blank_deterministic blank_decides
    (then_decides Method_deterministic (word_decides is_token_byte 32 space_ends_token)
    (then_decides Target_deterministic target_decides
    (then_decides Version_deterministic version_decides newline_decides)))

pub has_head_or_none : HasHeadOrNone
has_head_or_none input = elim (then_decides RequestStart_deterministic start_decides section_decides input) [
  | inr none ↦ inr (λ h rest has. none (_, rest, request_pieces input h rest has.reads))
  | inl (tree, rest, pieces) ↦
      let h = request_head tree in
      let reads = request_from_pieces input tree rest pieces in
      elim (cases_lt 16_384 (length (print_request h))) [
        | inl long ↦ inr (λ k more has. let same = request_unique input h k rest more reads has.reads in
            let short = has.short in omega (arith, long, short, ap (λ x. length (print_request x)) same.0))
        | inr short ↦ elim (cases_lt 64 (length h.fields)) [
          | inl many ↦ inr (λ k more has. let same = request_unique input h k rest more reads has.reads in
              let few = has.few in omega (arith, many, few, ap (λ (x : RequestHead). length x.fields) same.0))
          | inr few ↦ inl (h, rest, record { reads = reads; short = short; few = few })
        ]
      ]
]
