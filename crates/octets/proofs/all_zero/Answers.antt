use Rattle.std.proofs.Common.{rules, tests, ◌∙◌, ℕ}
use Rattle.std.specs.Prelude.{eqb}
use Rattle.std.proofs.lemmas.Iterator.{YieldsList-from_slice}
use Rattle.std.proofs.lemmas.Iterator.Search.{all_from_yields_List}
use Rattle.octets.specs.EqualityLaws.{all_zeros}
use Rattle.octets.proofs.all_zero.Goals as goal

pub returns : goal.returns
returns c =
    all_from_yields_List (λ (x : ℕ). eqb x 0) _ _ c.all.result c.all.ensures.ran
    (YieldsList-from_slice c.args.a.now cc) (λ x b q k. search (rules, tests))
    ∙ all_zeros c.args.a.now
