-- Lines that were read of a reader so far, up to one more.
use Rattle.std.proofs.Common.{◌≡◌, ◌==◌, ◌∙◌, ◌<◌, inl, inr, refl, sym, ap, arith, ℕ, Bool, true, false, cond, ltb, if◌then◌else◌, List, [], ◌∷◌, ◌++◌, append-nil, append_assoc, length, take, get_or, Some, None, IfSome, sub-one}
use Rattle.std.specs.Prelude.{⊤}
use Rattle.std.proofs.Math.Seq.{take-append_seam}
use Rattle.std.proofs.lemmas.Bool.{cases_Bool, eqb-true, lt-ltb}
use Rattle.std.proofs.lemmas.List.{take_all}
use Rattle.std.proofs.lemmas.List.Elements.{filter-append}
use Rattle.std.specs.Io.BufRead.{DropsThrough, drop_through, first_piece, strip_last, take_through}
use Rattle.std.specs.Io.KnownBytes.{IsAtEnd, prepend_known}
use Rattle.std.specs.List.{slice_split}
use Rattle.http_exchange.specs.Exchange.{ChannelBytes}
use Rattle.rosterbook.specs.InLines.{ReadsFirstLines, ReadsLines}
use Rattle.asking.specs.Lines.{has_bytes, input_lines, not_empty}

-- ---- The first line

cond-cons : (b : Bool) (x : ℕ) (xs ys : List ℕ) → cond b (x ∷ xs) (x ∷ ys) ≡ x ∷ cond b xs ys
cond-cons true x xs ys = refl
cond-cons false x xs ys = refl

strip-cons : (x : ℕ) (xs : List ℕ) → (x == 10) ≡ false → strip_last 10 (x ∷ xs) ≡ x ∷ strip_last 10 xs
strip-cons x [] within = rw within refl
strip-cons x (y ∷ ys) within =
    let more : ltb 0 (length (x ∷ y ∷ ys)) ≡ true = lt-ltb 0 _ (omega arith) in
    let some : ltb 0 (length (y ∷ ys)) ≡ true = lt-ltb 0 _ (omega arith) in
    simp (sub-one, more, some) (cond-cons (get_or (y ∷ ys) (length ys) 0 == 10) x (take (length ys) (y ∷ ys)) (y ∷ ys))

abbrev parts : List ℕ → List (List ℕ)
parts bytes = slice_split (λ byte. byte == 10) bytes

-- bytes are cut at the first line feed
record IsCut (bytes : List ℕ) : Type 0 where
  pub others : List (List ℕ)
  pub cut : parts bytes ≡ first_piece 10 bytes ∷ others
  pub rest : not_empty others ≡ input_lines (drop_through 10 bytes)

cut : (bytes : List ℕ) → IsCut bytes
cut [] = record { others = []; cut = refl; rest = refl }
cut (x ∷ xs) = elim (cases_Bool (x == 10)) [
  | inl ends ↦ record { others = parts xs; cut = rw (ends, ends) refl; rest = rw ends refl }
  | inr within ↦
      let it = cut xs in
      record {
        others = it.others;
        cut = rw (within, it.cut) (ap (λ l. l ∷ it.others) (sym (strip-cons x (take_through 10 xs) within)));
        rest = rw within it.rest;
      }
]

lines_cut : (bytes : List ℕ) → input_lines bytes ≡ not_empty (first_piece 10 bytes ∷ []) ++ input_lines (drop_through 10 bytes)
lines_cut bytes =
    let it = cut bytes in
    ap not_empty it.cut ∙ filter-append has_bytes (first_piece 10 bytes ∷ []) it.others ∙ ap (λ l. not_empty (first_piece 10 bytes ∷ []) ++ l) it.rest

-- ---- Lines so far

-- these lines were read, and what the reader has left are the others
abbrev pub AreReadSoFar : ChannelBytes → ChannelBytes → List (List ℕ) → Type 0
AreReadSoFar None known lines = ⊤
AreReadSoFar (Some bytes) None lines = ⊥
AreReadSoFar (Some bytes) (Some rest) lines = input_lines bytes ≡ lines ++ input_lines rest

pub none_so_far : (held known : ChannelBytes) (capacity : ℕ) (ahead : List ℕ) → capacity ≡ 8192 → ahead ≡ [] → known ≡ (if capacity == 0 then None else prepend_known ahead held) →
    AreReadSoFar held known []
none_so_far None known capacity ahead room empty is = tt
none_so_far (Some bytes) known capacity ahead room empty is = rw (is, room, empty) refl

pub one_more : (byte : ℕ) (line : List ℕ) (held known known' : ChannelBytes) (lines : List (List ℕ)) → byte ≡ 10 →
    IfSome known (λ xs. (0 < length xs) × (line ≡ first_piece byte xs)) × DropsThrough known known' byte → AreReadSoFar held known lines →
    AreReadSoFar held known' (lines ++ not_empty (line ∷ []))
one_more byte line None known known' lines feed step so_far = tt
one_more byte line (Some bytes) None known' lines feed step so_far = absurd so_far
one_more byte line (Some bytes) (Some xs) known' lines feed step so_far =
    let first : line ≡ first_piece 10 xs = rw feed at step.0.1 in
    let rest : known' ≡ Some (drop_through 10 xs) = rw feed at step.1 in
    rw (rest, first) (so_far ∙ ap (λ l. lines ++ l) (lines_cut xs) ∙ sym (append_assoc lines (not_empty (first_piece 10 xs ∷ [])) (input_lines (drop_through 10 xs))))

pub all_read : (held known : ChannelBytes) (lines : List (List ℕ)) → IsAtEnd known → AreReadSoFar held known lines → ReadsLines held lines
all_read None known lines end so_far = tt
all_read (Some bytes) None lines end so_far = absurd so_far
all_read (Some bytes) (Some xs) lines end so_far = sym (so_far ∙ ap (λ l. lines ++ input_lines l) end ∙ append-nil lines)

pub first_read : (held known : ChannelBytes) (lines : List (List ℕ)) → AreReadSoFar held known lines → ReadsFirstLines held lines
first_read None known lines so_far = tt
first_read (Some bytes) None lines so_far = absurd so_far
first_read (Some bytes) (Some xs) lines so_far = sym (ap (take (length lines)) so_far ∙ take-append_seam lines (input_lines xs))

pub none_read : (held : ChannelBytes) → ReadsFirstLines held []
none_read None = tt
none_read (Some bytes) = refl

pub all_are_first : (held : ChannelBytes) (lines : List (List ℕ)) → ReadsLines held lines → ReadsFirstLines held lines
all_are_first None lines read = tt
all_are_first (Some bytes) lines read = read ∙ sym (take_all (length lines) (input_lines bytes) (omega (arith, ap length read)))

-- a line that has a byte is one
pub one_line : (line : List ℕ) → false ≡ (length line == 0) → not_empty (line ∷ []) ≡ line ∷ []
one_line [] is_not = absurd (cc)
one_line (byte ∷ line) is_not = refl

-- and an empty one is none
pub no_line : (line : List ℕ) → true ≡ (length line == 0) → not_empty (line ∷ []) ≡ []
no_line [] is = refl
no_line (byte ∷ line) is =
    let none : length (byte ∷ line) ≡ 0 = eqb-true (length (byte ∷ line)) 0 (sym is) in
    absurd (omega arith)
