-- `sixteen_bare_rounds`: a word that is not there counts as zero.
use Rattle.std.proofs.Common.{ℕ, [], refl, ◌∙◌, replicate}
use Rattle.std.proofs.lemmas.List.{get_or-replicate}
use Rattle.sha256.specs.BlockLaws.{rounds_same}
use Rattle.sha256.proofs.block.sixteen_bare_rounds.Goals as goal

pub returns : goal.returns
returns g c =
    let k = c.args.k in
    c.sixteen_rounds.ensures
    ∙ rounds_same k (replicate 16 0) k [] c.args.s 16 (λ i l x. rw (get_or-replicate {A = ℕ} 16 i 0 0 l) refl)
