-- Turns of the loops that write a string part after part: words, and then bytes.
use Rattle.std.proofs.Common.{◌≡◌, ℕ, suc, ◌+◌, ◌<◌, ◌≤◌, List, [], ◌∷◌, ◌++◌, length, get_or, take, drop, set, sym, ap, ◌∙◌}
use Rattle.std.proofs.Common.{ap₂, arith, add-one, length-take-le, take-add}
use lib.Seq.{append_snoc, set_split, drop-cons}
use Rattle.octets.specs.Splice.{part, splice}
use Rattle.octets.specs.SpliceLaws.{splice_append}

-- a byte is a part of one byte
pub byte_set : (d : List ℕ) (at b : ℕ) → at < length d → set d at b ≡ splice d at (b ∷ [])
unfolding splice
byte_set d at b h =
    set_split d at b h
    ∙ sym (append_snoc (take at d) b (drop (suc at) d))
    ∙ ap (λ (n : ℕ). take at d ++ (b ∷ []) ++ drop n d) (sym (add-one at))

pub byte_part : (s : List ℕ) (q byte : ℕ) → q < length s → byte ≡ get_or s q 0 → byte ∷ [] ≡ part s q 1
unfolding part
byte_part s q byte h e = ap (λ (b : ℕ). b ∷ []) e ∙ sym (ap (take 1) (drop-cons s q 0 h))

-- the first k bytes of s are written, and then the next m
pub next_written : (output s now next : List ℕ) (k m : ℕ) → length s ≤ length output → k + m ≤ length s
    → now ≡ splice output 0 (take k s) → next ≡ part s k m
    → splice now k next ≡ splice output 0 (take (k + m) s)
unfolding part
next_written output s now next k m room within e b =
    let l : length (take k s) ≡ k = length-take-le k s (omega arith) in
    ap₂ (λ (d t : List ℕ). splice d k t) e b
    ∙ splice_append output 0 k (take k s) (take m (drop k s)) (omega arith) (omega arith)
    ∙ ap (splice output 0) (sym (take-add k m s))
