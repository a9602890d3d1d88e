-- What `jiff` answers in the zone of a rule text is what the text says.
use Rattle.std.specs.Prelude.{◌<◌, ◌≡◌, Option, Some, None, Bool, true, false, List, ℕ, ℤ, option_map, if◌then◌else◌}
use Rattle.std.proofs.Common.{refl, ap, ◌∙◌, sym, arith}
use Rattle.jiff_core.specs.declared.Offset.{Offset}
use Rattle.jiff_tz.specs.declared.posix.Dst.{Dst}
use Rattle.jiff_tz.specs.declared.posix.TimeZone.{TimeZone as Rule}
use Rattle.jiff_tz.specs.PosixText.{TzText, tz_view, dst_view}
use Rattle.jiff_tz.specs.PosixRule.{match_some, rule_nanos, in_window, utc_window, dst_at_by}
use Rattle.jiff_core.proofs.SignedLemmas.{signed_arith}
use Rattle.jiff_tz.specs.Year.{year_of_nanos}
use Rattle.jiff.specs.Types.{TimeZone, Posix, UTC, Unknown, Fixed, Tzif}
use Rattle.jiff.specs.Placed.{IsPosixZone}
use Rattle.jiff.specs.Words.{offset_at, read_whole}
use Rattle.time117.specs.Local.{clock_minute, instant_of, local_minute}
use Rattle.time117.specs.ZoneText.{seconds_by, seconds_of, window_of}

by_parts : (std : Offset) (dst : Option Dst) (n : ℤ) → (match_some (dst_at_by std dst n) std (λ d. d.offset)).seconds ≡ seconds_by std.seconds (option_map dst_view dst) n
unfolding utc_window rule_nanos
by_parts std None n = refl
by_parts std (Some d) n =
    by_test (in_window (window_of (dst_view d) (year_of_nanos n) std.seconds) n)
  where
    by_test : (b : Bool) → (match_some (if b then Some d else None) std (λ e. e.offset)).seconds ≡ (if b then d.offset.seconds else std.seconds)
    by_test true = refl
    by_test false = refl

seconds_are : (rule : Rule) (n : ℤ) → offset_at (Posix rule) n ≡ seconds_of (tz_view rule) n
unfolding offset_at
seconds_are rule n = by_parts rule.std_offset rule.dst n

-- by the rule of any zone that the text reads as, a clock shows the text's local minute
pub clock_minute-local_minute : (text : List ℕ) (minute : ℕ) (zone : TimeZone) → IsPosixZone text zone → clock_minute minute (offset_at zone (instant_of minute)) ≡ local_minute text minute
unfolding local_minute
clock_minute-local_minute text minute (Posix rule) reads =
    ap (clock_minute minute) (seconds_are rule (instant_of minute))
    ∙ sym (ap (λ o. match_some o 0 (λ r. clock_minute minute (seconds_of r (instant_of minute)))) reads)
clock_minute-local_minute text minute UTC reads = absurd reads
clock_minute-local_minute text minute Unknown reads = absurd reads
clock_minute-local_minute text minute (Fixed o) reads = absurd reads
clock_minute-local_minute text minute (Tzif t) reads = absurd reads

clock_minute-lt : (minute : ℕ) (seconds : ℤ) → clock_minute minute seconds < 1_440
clock_minute-lt minute seconds = omega (arith, signed_arith)

-- a local minute is one of the day, for every text
pub local_minute-lt : (text : List ℕ) (minute : ℕ) → local_minute text minute < 1_440
unfolding local_minute
local_minute-lt text minute =
    by_rule (read_whole text)
  where
    by_rule : (o : Option TzText) → match_some o 0 (λ rule. clock_minute minute (seconds_of rule (instant_of minute))) < 1_440
    by_rule None = omega arith
    by_rule (Some rule) = clock_minute-lt minute (seconds_of rule (instant_of minute))
