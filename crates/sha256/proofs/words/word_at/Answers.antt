-- `word_at`: the bytes of a slice are below 256, so each is where the exchange looks for it.
use Rattle.std.proofs.Common.{refl, ap, ◌∙◌, ◌+◌, ◌∷◌, [], get_or, rules}
use Rattle.std.specs.Int.{w32, from_be_bytes}
use Rattle.std.proofs.lemmas.Nat.{le_bytes_4}
use Rattle.sha256.proofs.words.word_at.Goals as goal

pub returns : goal.returns
returns c =
    let bytes = c.args.bytes.now in
    let p = c.args.p in
    let four
    = get_or bytes p 0 ∷ get_or bytes (p + 1) 0 ∷ get_or bytes (p + 2) 0 ∷ get_or bytes (p + 3) 0 ∷ [] in
    c.swap_bytes.ensures
    ∙ ap (from_be_bytes w32) (le_bytes_4 four _ refl (search rules) c.from_le_bytes.ensures)
