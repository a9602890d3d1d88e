-- What the search for a fullest window has found, for private clauses alone: nothing here has to be
-- read to know what the crate promises. A window is named by its end, the spans are the spans of
-- all duties, and `new` is the set of the new duties' minutes.
use Rattle.std.specs.Prelude.{◌≡◌, ℕ, ◌+◌, ◌<◌, ◌≤◌, ◌^◌, List, Bool, ℤ, pos, ◌-ℤ◌}
use Rattle.std.specs.List.{flat_map}
use Rattle.duty.specs.Minutes.{spans_of, minutes_in, Meets}
use Rattle.duty.specs.declared.span.Span.{Span}
use Rattle.limits.specs.Laws.Windows.{held}
use Rattle.nearness.specs.declared.windows.Window.{Window}
use Rattle.nearness.specs.declared.windows.Windows.{Windows}

-- the spans of one kind of all duties
abbrev pub spans_of_all : Windows → List Span
spans_of_all w = flat_map (spans_of w.kind) w.all.now

-- the minutes of one kind of the new duties
abbrev pub new_in : Windows → ℤ → Bool
new_in w = minutes_in w.kind w.new.now

-- A window of `width` minutes holds as many minutes as it names, and ends before minute 2 ^ 40.
pub record IsCounted (all : List Span) (width : ℕ) (window : Window) : Type 0 where
  pub holds : held all window.end width ≡ window.minutes
  pub near : window.end < 2 ^ 40

-- The window that ends at `end` holds no more than the best window, and holds fewer if it ends
-- earlier.
pub record IsAsGood (all : List Span) (width : ℕ) (best : Window) (end : ℕ) : Type 0 where
  pub most : held all end width ≤ best.minutes
  pub first : end < best.end → held all end width < best.minutes

-- The new best window is as good as each window that the old best window was as good as.
abbrev pub IsNoWorse : List Span → ℕ → (old new : Window) → Type 0
IsNoWorse all width old new = (end : ℕ) → IsAsGood all width old end → IsAsGood all width new end

-- A window meets a new minute, or the window is empty.
abbrev pub IsMet : (ℤ → Bool) → ℕ → Window → Type 0
IsMet new width window = 0 < window.minutes → Meets new (pos window.end -ℤ pos width) width

-- The best window is as good as the window that ends `after_begin` minutes after the span begins,
-- and as the window that ends where the span ends, each if that window meets a new minute.
pub record IsTried (all : List Span) (new : ℤ → Bool) (width : ℕ) (best : Window)
    (after_begin : ℕ) (span : Span) : Type 0 where
  pub at_begin : Meets new (pos (span.from + after_begin) -ℤ pos width) width →
      IsAsGood all width best (span.from + after_begin)
  pub at_end : Meets new (pos span.to -ℤ pos width) width → IsAsGood all width best span.to
