-- `digest`: after i turns the bytes of the first i words stand.
use Rattle.std.proofs.Common.{refl, sym, ◌∙◌, rules, arith, ◌≡◌}
use Rattle.std.proofs.lemmas.List.{take_all}
use Rattle.std.proofs.lemmas.Slice.{overwrites}
use Rattle.sha256.specs.Table.{table}
use Rattle.sha256.specs.DigestLaws.{digest_more}
use Rattle.sha256.proofs.words.digest.Goals as goal

pub loop-i-init : goal.loop-i-init
unfolding table
loop-i-init c = (refl, refl)

pub loop-i-preserved : goal.loop-i-preserved
loop-i-preserved c = (
  search (rules, overwrites),
  digest_more c.loop-i.bytes c.args.hash _ c.loop-i.i _ c.loop-i.invariant.1 (omega arith)
      (c.copy_from_slice.ensures.after ∙ c.to_be_bytes.ensures),
)

pub returns : goal.returns
returns c =
    let done : c.loop-i.i ≡ 8 = omega arith in
    sym (take_all 32 c.loop-i.bytes (omega arith)) ∙ rw done at c.loop-i.invariant.1
