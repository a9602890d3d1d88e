-- What is read of a reader, read by read.
use Rattle.std.proofs.Common.{◌≡◌, ◌∙◌, ap, sym, append_assoc, ◌++◌, List, ℕ, Some, None, false}
use Rattle.std.specs.Prelude.{Result, Ok, Err, OnOk}
use Rattle.std.specs.Result.{is_err}
use Rattle.std.specs.Io.KnownBytes.{Consumes, Keeps}
use Rattle.waiting.specs.Whole.{IsUnfinished, TakesIn}
use Rattle.waiting.specs.declared.incoming.Taken.{Taken}
use Rattle.waiting.specs.declared.incoming.Taken.TheVariants as taken
use Rattle.http_exchange.specs.Exchange.{ChannelBytes}

-- a reader that gives bytes twice has given both
pub consumed_then : (a b c : ChannelBytes) (xs ys : List ℕ) → Consumes a b xs → Consumes b c ys → Consumes a c (xs ++ ys)
consumed_then None b c xs ys first next = tt
consumed_then (Some a) None c xs ys first next = absurd first
consumed_then (Some a) (Some b) None xs ys first next = absurd next
consumed_then (Some a) (Some b) (Some c) xs ys first next = first ∙ (ap (λ l. xs ++ l) next ∙ sym (append_assoc xs ys c))

-- a reader that gives nothing more has given what it had given
pub consumed_still : (a b c : ChannelBytes) (xs : List ℕ) → Consumes a b xs → Keeps b c → Consumes a c xs
consumed_still None b c xs first next = tt
consumed_still (Some a) None c xs first next = absurd first
consumed_still (Some a) (Some b) None xs first next = absurd next
consumed_still (Some a) (Some b) (Some c) xs first next = first ∙ ap (λ l. xs ++ l) (sym next)

-- what was read so far is taken in, where the request isn't whole
pub taken_unfinished : (had left : ChannelBytes) (old new more : List ℕ) (it : Taken) → Consumes had left more → new ≡ old ++ more
    → IsUnfinished new it → TakesIn had left old new it
taken_unfinished had left old new more taken.More given is so = (more, given, is, tt)
taken_unfinished had left old new more taken.Waits given is so = (more, given, is, so)
taken_unfinished had left old new more taken.NoMemory given is so = tt
taken_unfinished had left old new more taken.Whole given is so = absurd so
taken_unfinished had left old new more taken.Failed given is so = absurd so

-- what holds of a success
pub on_success : {T E : Type 0} (P : Type 0) (r : Result T E) → OnOk r P → is_err r ≡ false → P
on_success P (Ok value) holds fine = holds
on_success P (Err fault) holds fine = absurd cc
