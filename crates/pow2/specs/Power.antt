-- Powers of two and their heights, by counts of bits (document 01, "Numbers that bound the work").
use Rattle.std.specs.Prelude.{ℕ, Bool, ◌&&◌, eqb, leb}
use Rattle.std.specs.Int.Count.{ones, count_trailing_zeros}

-- a power of two: exactly one bit is set
abbrev pub is_power : ℕ → Bool
is_power n = eqb (ones n) 1

-- the height of a power of two: the zeros below its one bit, in 64 bits
abbrev pub height : ℕ → ℕ
height n = count_trailing_zeros 64 n

-- a power of two from low to high
abbrev pub power_between : ℕ → ℕ → ℕ → Bool
power_between low high n = leb low n && leb n high && is_power n
