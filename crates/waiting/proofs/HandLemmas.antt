-- Bytes of a response that were handed out, and more of them.
use Rattle.std.proofs.Common.{◌≡◌, ◌≤◌, ◌+◌, ℕ, true, List, [], ◌++◌, inl, bytes_eq, length, take, drop, refl, sym, ap, ◌∙◌, arith, append_assoc, length-append}
use Rattle.std.proofs.lemmas.List.{drop-drop, length-take-le, take-append-drop}
use Rattle.std.proofs.lemmas.Slice.Eq.{bytes_eq-Decides}
use Rattle.std.specs.Io.KnownBytes.{Appends, Keeps}
use Rattle.std.proofs.KnownBytes.{Appends-kept, Appends-nil, Appends-trans}
use Rattle.http_exchange.specs.Exchange.{ChannelBytes}
use Rattle.waiting.specs.Handing.{HandsOut, IsSet}

pub none_handed : (bytes : List ℕ) (gone : ℕ) (out : ChannelBytes) → HandsOut bytes gone gone out out
none_handed bytes gone out = record { handed = []; written = Appends-nil out; next = refl; count = omega arith }

pub handed_none : (bytes : List ℕ) (gone : ℕ) (out out' : ChannelBytes) → Keeps out out' → HandsOut bytes gone gone out out'
handed_none bytes gone out out' kept = record { handed = []; written = Appends-kept out out out' [] (Appends-nil out) kept; next = refl; count = omega arith }

pub handed_zero : (bytes : List ℕ) (gone : ℕ) (out out' : ChannelBytes) → Appends out out' (take 0 (drop gone bytes)) → HandsOut bytes gone gone out out'
handed_zero bytes gone out out' none = record { handed = []; written = none; next = refl; count = omega arith }

pub handed_once : (bytes : List ℕ) (gone n : ℕ) (out out' : ChannelBytes) → n ≤ length (drop gone bytes) → Appends out out' (take n (drop gone bytes)) → HandsOut bytes gone (gone + n) out out'
handed_once bytes gone n out out' within more =
    let rest = drop gone bytes in
    record {
      handed = take n rest;
      written = more;
      next = sym (take-append-drop n rest) ∙ ap (λ t. take n rest ++ t) (drop-drop n gone bytes);
      count = omega (arith, length-take-le n rest within);
    }

pub handed_more : (bytes : List ℕ) (gone mid now : ℕ) (out out' out'' : ChannelBytes) → HandsOut bytes gone mid out out' → HandsOut bytes mid now out' out'' → HandsOut bytes gone now out out''
handed_more bytes gone mid now out out' out'' first more = record {
  handed = first.handed ++ more.handed;
  written = Appends-trans out out' out'' first.handed more.handed first.written more.written;
  next = first.next ∙ ap (λ t. first.handed ++ t) more.next ∙ sym (append_assoc first.handed more.handed (drop now bytes));
  count = omega (arith, first.count, more.count, length-append first.handed more.handed);
}

-- a response that begins with what was said, is set as it is
pub set_whole : (said response : List ℕ) → bytes_eq said (take (length said) response) ≡ true → IsSet said response response
set_whole said response begins =
    let same : said ≡ take (length said) response = (bytes_eq-Decides said (take (length said) response)).0 begins in
    inl (refl, (drop (length said) response, sym (take-append-drop (length said) response) ∙ ap (λ t. t ++ drop (length said) response) (sym same)))
