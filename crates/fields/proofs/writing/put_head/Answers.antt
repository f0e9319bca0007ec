use Rattle.std.proofs.Common.{◌≡◌, ◌∙◌, ap, refl, arith, ℕ, ◌/◌, ◌%◌, [], ◌∷◌}
use Rattle.octets.specs.Splice.{splice}
use Rattle.fields.specs.Table.{field_head}
use Rattle.fields.proofs.writing.put_head.Goals as goal

pub returns : goal.returns
unfolding field_head
returns c =
    let a = c.args in
    let high : a.size / 256 % 256 ≡ a.size / 256 = omega (arith, c.requires.0) in (
      rw c.to_le_bytes.ensures at c.put_array.ensures.0
          ∙ ap (λ (h : ℕ). splice a.out.now a.at (a.tag ∷ a.size % 256 ∷ h ∷ [])) high,
      refl,
    )
