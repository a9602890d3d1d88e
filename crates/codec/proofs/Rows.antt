-- Reading records in turn, one more.
use Rattle.std.proofs.Common.{◌≡◌, ◌<◌, ◌+◌, sym, ap, subst, ℕ, List, [], ◌∷◌, ◌++◌, Bool, not, is_some, Some, map, drop, length, get_or, add-one, arith, drop-cons}
use Rattle.std.specs.List.{position_from}
use Rattle.csv.specs.Records.{Row, fields_of}
use Rattle.codec.specs.Records.{read_record}
use Rattle.codec.specs.declared.scheduled.ScheduledSegment.{ScheduledSegment}

pub next_row : {A : Type 0} (xs : List A) (i : ℕ) (x : A) → i < length xs → drop i xs ≡ get_or xs i x ∷ drop (i + 1) xs
next_row xs i x h = subst (λ n. drop i xs ≡ get_or xs i x ∷ drop n xs) (sym (add-one i)) (drop-cons xs i x h)

pub more_read : (segments : List ScheduledSegment) (s : ScheduledSegment) (row : Row) (rest : List Row) → read_record (fields_of row) ≡ Some s →
    map Some (segments ++ s ∷ []) ++ map read_record (map fields_of rest) ≡ map Some segments ++ map read_record (map fields_of (row ∷ rest))
more_read [] s row rest h = ap (λ t. t ∷ map read_record (map fields_of rest)) (sym h)
more_read (x ∷ xs) s row rest h = ap (λ t. Some x ∷ t) (more_read xs s row rest h)

abbrev pub is_unread : List (List ℕ) → Bool
is_unread fields = not (is_some (read_record fields))

pub more_found : (n : ℕ) (s : ScheduledSegment) (row : Row) (rest : List Row) → read_record (fields_of row) ≡ Some s →
    position_from is_unread (n + 1 + 2) (map fields_of rest) ≡ position_from is_unread (n + 2) (map fields_of (row ∷ rest))
more_found n s row rest h =
    let count : n + 1 + 2 ≡ n + 2 + 1 = omega arith in
    rw h (ap (λ k. position_from is_unread k (map fields_of rest)) count)
