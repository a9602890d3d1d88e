-- So many bytes of a body.
use Rattle.std.proofs.Common.{◌≡◌, ◌<◌, ◌+◌, ℕ, List, [], ◌∷◌, ◌++◌, length, take, drop, sym, ap, ◌∙◌, subst, arith, append-nil, length-append, Option, Some, None, le_refl}
use Rattle.std.proofs.lemmas.List.{take-append-le, take_all, drop_all}
use Rattle.std.proofs.Math.Seq.{drop-append_seam}
use Rattle.std.specs.Io.KnownBytes.{Consumes, IsAtEnd, Keeps}
use Rattle.std.proofs.KnownBytes.{Consumes-nil, Consumes-trans}
use Rattle.http_exchange.specs.Body.{IsCutAt, IsWholeAt}

-- this many bytes were read
pub record IsFront (had left : Option (List ℕ)) (bytes : List ℕ) (count : ℕ) : Type 0 where
  pub read : Consumes had left bytes
  pub count_is : length bytes ≡ count

pub nothing_read : (had : Option (List ℕ)) (bytes : List ℕ) → bytes ≡ [] → IsFront had had bytes 0
nothing_read had bytes nil = record { read = subst (Consumes had had) (sym nil) (Consumes-nil had); count_is = ap length nil }

pub one_more : (had was left : Option (List ℕ)) (bytes : List ℕ) (count b : ℕ) (now : List ℕ) → IsFront had was bytes count → Consumes was left (b ∷ []) → now ≡ bytes ++ b ∷ [] → IsFront had left now (count + 1)
one_more had was left bytes count b now front read is = record {
  read = subst (Consumes had left) (sym is) (Consumes-trans had was left bytes (b ∷ []) front.read read);
  count_is = omega (arith, front.count_is, ap length is, length-append bytes (b ∷ []));
}

pub whole_read : (had left : Option (List ℕ)) (bytes : List ℕ) (count n : ℕ) → IsFront had left bytes count → count ≡ n → IsWholeAt n had left bytes
whole_read None left bytes count n front full = tt
whole_read (Some input) None bytes count n front full = absurd front.read
whole_read (Some input) (Some left) bytes count n front full =
    let long : length bytes ≡ n = front.count_is ∙ full in
    let is : input ≡ bytes ++ left = front.read in
    let front_is : take (length bytes) input ≡ bytes = ap (take (length bytes)) is ∙ take-append-le (length bytes) bytes left (le_refl (length bytes)) ∙ take_all (length bytes) bytes (le_refl (length bytes)) in
    let back_is : drop (length bytes) input ≡ left = ap (drop (length bytes)) is ∙ drop-append_seam bytes left in (
      omega (arith, long, ap length is, length-append bytes left),
      sym (subst (λ n. take n input ≡ bytes) long front_is),
      ap Some (sym (subst (λ n. drop n input ≡ left) long back_is)),
    )

pub cut_off : (had was left : Option (List ℕ)) (bytes : List ℕ) (count n : ℕ) → IsFront had was bytes count → count < n → IsAtEnd was × Keeps was left → IsCutAt n had left
cut_off None was left bytes count n front few end = tt
cut_off (Some input) None left bytes count n front few end = absurd front.read
cut_off (Some input) (Some was) None bytes count n front few end = absurd end.1
cut_off (Some input) (Some was) (Some left) bytes count n front few end =
    let all : input ≡ bytes = front.read ∙ ap (λ t. bytes ++ t) end.0 ∙ append-nil bytes in
    let short : length input < n = omega (arith, ap length all, front.count_is, few) in
    (short, ap Some (end.1 ∙ end.0 ∙ sym (drop_all n input (omega (arith, short)))))
