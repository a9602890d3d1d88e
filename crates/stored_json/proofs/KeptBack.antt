-- A kept text is read as its command.
use Rattle.std.proofs.Common.{◌≡◌, ℕ, ◌<◌, Bool, true, false, ◌&&◌, List, [], ◌∷◌, map, Option, Some, refl, arith, rules}
use Rattle.std.proofs.lemmas.Bool.Decides.{nat_tests}
use Rattle.std.specs.List.{list_all}
use Rattle.serde_json.specs.Data.{Data}
use Rattle.serde_json.specs.View.{items_of}
use Rattle.time117.proofs.WrittenLemmas.{read_written}
use Rattle.duty.specs.declared.fdp.Fdp.{Fdp}
use Rattle.duty.specs.declared.segment.BlockTimes.{BlockTimes}
use Rattle.duty.specs.declared.segment.Segment.{Segment}
use Rattle.stored_json.specs.Instants.{is_instant, segment_has_instants, times_have_instants}
use Rattle.stored_json.specs.KeptText.{segment_json, times_json, period_json}
use Rattle.stored_json.specs.Parts.{read_each, read_time, read_times, read_segment}
use Rattle.stored_json.specs.Values.{instant_json}
use Rattle.stored_json.proofs.CompactTexts.{IsKept, items_kept}

pub both : (a b : Bool) → (a && b) ≡ true → (a ≡ true) × (b ≡ true)
both true b h = (refl, h)
both false b h = absurd cc

pub in_range : (m : ℕ) → is_instant m ≡ true → m < 52_596_000
in_range m h = grind (arith, nat_tests)

pub each_back : {A : Type 0} (reads : Data → Option A) (f : A → Data) (ok : A → Bool) → ((x : A) → ok x ≡ true → reads (f x) ≡ Some x) → (xs : List A) → list_all ok xs ≡ true → read_each reads (items_of (map f xs)) ≡ Some xs
each_back reads f ok each [] h = refl
each_back reads f ok each (x ∷ xs) h =
    let p = both (ok x) (list_all ok xs) h in
    rw (each x p.0, each_back reads f ok each xs p.1) refl

pub time_back : (m : ℕ) → is_instant m ≡ true → read_time (instant_json m) ≡ Some m
time_back m h = rw (read_written m (in_range m h)) refl

pub times_back : (t : BlockTimes) → times_have_instants t ≡ true → read_times (times_json t) ≡ Some t
times_back t h =
    let p = both (is_instant t.block_out) (is_instant t.block_in) h in
    rw (read_written t.block_out (in_range _ p.0), read_written t.block_in (in_range _ p.1)) refl

pub segment_back : (s : Segment) → segment_has_instants s ≡ true → read_segment (segment_json s) ≡ Some s
segment_back s h =
    let p = both (is_instant s.block_out) (is_instant s.block_in) h in
    rw (read_written s.block_out (in_range _ p.0), read_written s.block_in (in_range _ p.1)) refl

pub segment_kept : (s : Segment) → IsKept 1 (segment_json s)
segment_kept s = record { same = refl; numbers = search rules; no_float = refl; shallow = omega arith }

pub times_kept : (t : BlockTimes) → IsKept 1 (times_json t)
times_kept t = record { same = refl; numbers = search rules; no_float = refl; shallow = omega arith }

pub period_kept : (f : Fdp) → IsKept 3 (period_json f)
period_kept f =
    let segments = items_kept 1 segment_json segment_kept f.segments in
    record {
      same = rw segments.same refl;
      numbers = (tt, (tt, (segments.numbers, tt)));
      no_float = rw segments.no_float refl;
      shallow = omega (arith, segments.shallow);
    }
