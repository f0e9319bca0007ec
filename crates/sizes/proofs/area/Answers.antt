use Rattle.std.proofs.Common.{subst, ℕ, ◌/◌, ◌≤◌, ◌<◌}
use Rattle.std.specs.Prelude.{max}
use Rattle.sizes.proofs.NextPower.{area_next}
use Rattle.sizes.proofs.area.Goals as goal

pub returns : goal.returns
returns c =
    let r = c.next_power_of_two.result in
    let e = c.next_power_of_two.ensures in
    area_next c.args.size r e.power (subst (λ (x : ℕ). x ≤ r) c.clamp.ensures e.lower_bound)
    (subst (λ (x : ℕ). r / 2 < max 1 x) c.clamp.ensures e.upper_bound)
