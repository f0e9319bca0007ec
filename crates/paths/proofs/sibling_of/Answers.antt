use mathlib.Core.Path.{◌≡◌, refl, ap₂, ◌∙◌}
use Prim.Native.Nat.{ℕ, zero, suc, ◌+◌, ◌-◌, ◌*◌, ◌/◌, ◌%◌, ◌<◌}
use native.Mathlib.Omega.{arith}
use lib.Bits.{bit_xor, xor_step, xor_zero_r, differ}
use Rattle.paths.specs.Siblings.{sibling_of}
use Rattle.paths.proofs.sibling_of.Goals as goal

differ_one : (d : ℕ) → d < 2 → differ d 1 ≡ 1 - d
differ_one zero h = refl
differ_one (suc zero) h = refl
differ_one (suc (suc d)) h = absurd (omega arith)

xor_one : (p : ℕ) → bit_xor p 1 ≡ sibling_of p
xor_one p = xor_step p 1 ∙ ap₂ (λ (a b : ℕ). a * 2 + b) (xor_zero_r (p / 2)) (differ_one (p % 2) (omega arith))

pub returns : goal.returns
returns c = xor_one c.args.position
