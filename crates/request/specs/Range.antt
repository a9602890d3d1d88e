-- The numbers that requests may have.
use Rattle.std.specs.Prelude.{ℕ, Bool, ◌&&◌, nat_le}

-- whether a request may have this number: one from 1 to 9,223,372,036,854,775,807
abbrev pub is_in_range : ℕ → Bool
is_in_range number = nat_le 1 number && nat_le number 9_223_372_036_854_775_807
