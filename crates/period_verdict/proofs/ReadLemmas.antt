-- Reading texts as instants, one after the other.
use Rattle.std.proofs.Common.{◌≡◌, ℕ, suc, ◌+◌, ◌<◌, ◌≤◌, List, [], ◌∷◌, ◌++◌, length, map, get_or, drop, refl, ap, sym, ◌∙◌, arith, append_assoc, append-nil, Result, Ok, Err, String, Global, string_bytes}
use Rattle.std.proofs.Math.Seq.{drop-cons}
use Rattle.std.proofs.lemmas.List.{at_drop_all}
use Rattle.time117.specs.Instant.{read_instant}
use Rattle.time117.specs.declared.minute.TimeFault.{TimeFault}
use Rattle.period_verdict.specs.Verdict.{read_instants, then_instant}

-- the instants so far, and then those of the texts that are left
abbrev pub followed_by : List ℕ → Result (List ℕ) TimeFault → Result (List ℕ) TimeFault
followed_by times (Ok rest) = Ok (times ++ rest)
followed_by times (Err fault) = Err fault

-- what the texts from the i-th on give after `times`
abbrev pub read_from : List ℕ → List (String Global) → ℕ → Result (List ℕ) TimeFault
read_from times texts i = followed_by times (read_instants (map string_bytes (drop i texts)))

read_from-cons : (times : List ℕ) (texts : List (String Global)) (i : ℕ) (text : String Global) → i < length texts → text ≡ get_or texts i text → read_from times texts i ≡ followed_by times (then_instant (read_instant (string_bytes text)) (read_instants (map string_bytes (drop (i + 1) texts))))
read_from-cons times texts i text h e =
    let parts : drop i texts ≡ get_or texts i text ∷ drop (suc i) texts = drop-cons texts i text h in
    let next : suc i ≡ i + 1 = omega arith in
    let whole : drop i texts ≡ text ∷ drop (i + 1) texts = cc in
    ap (λ rest. followed_by times (read_instants (map string_bytes rest))) whole

followed_by-then : (times : List ℕ) (time : ℕ) (rest : Result (List ℕ) TimeFault) → followed_by times (then_instant (Ok time) rest) ≡ followed_by (times ++ time ∷ []) rest
followed_by-then times time (Ok rest) = ap Ok (sym (append_assoc times (time ∷ []) rest))
followed_by-then times time (Err fault) = refl

-- the next text is read
pub read_from-next : (times : List ℕ) (texts : List (String Global)) (i : ℕ) (text : String Global) (time : ℕ) → i < length texts → text ≡ get_or texts i text → read_instant (string_bytes text) ≡ Ok time → read_from (times ++ time ∷ []) texts (i + 1) ≡ read_from times texts i
read_from-next times texts i text time h e reads =
    sym (read_from-cons times texts i text h e ∙ rw reads (followed_by-then times time _))

-- the next text is no instant
pub read_from-stop : (times : List ℕ) (texts : List (String Global)) (i : ℕ) (text : String Global) (fault : TimeFault) → i < length texts → text ≡ get_or texts i text → read_instant (string_bytes text) ≡ Err fault → read_from times texts i ≡ Err fault
read_from-stop times texts i text fault h e stops = read_from-cons times texts i text h e ∙ rw stops refl

-- all texts are read
pub read_from-end : (times : List ℕ) (texts : List (String Global)) (i : ℕ) → length texts ≤ i → read_from times texts i ≡ Ok times
read_from-end times texts i h =
    at_drop_all (λ rest. followed_by times (read_instants (map string_bytes rest))) texts i h ∙ ap Ok (append-nil times)
