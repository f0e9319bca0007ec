-- Testing an offset against what is left before the index start is testing where the area ends, without a sum that
-- could wrap.
use mathlib.Core.Path.{◌≡◌, refl, sym, ◌∙◌}
use mathlib.Core.Bool.{Bool, true, false}
use Prim.Native.Nat.{ℕ, ◌+◌, ◌-◌, ◌≤◌}
use native.Mathlib.Omega.{arith}
use lib.Dec.{leb}
use borrow.Author.Tests.{leb-true, leb-false, le-leb, lt-leb}

pub ends_by : (offset area start : ℕ) → area ≤ start → leb offset (start - area) ≡ leb (offset + area) start
ends_by offset area start h = go (leb offset (start - area)) refl
  where
    go : (t : Bool) → leb offset (start - area) ≡ t → leb offset (start - area) ≡ leb (offset + area) start
    go true e = let k = leb-true offset (start - area) e in e ∙ sym (le-leb (offset + area) start (omega arith))
    go false e = let k = leb-false offset (start - area) e in e ∙ sym (lt-leb (offset + area) start (omega arith))
