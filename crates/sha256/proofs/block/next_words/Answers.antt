-- `next_words`: one word after the other.
use mathlib.Core.Path.{sym, ap, ◌∙◌}
use mathlib.Core.List.{List}
use Prim.Native.Nat.{ℕ}
use lib.ListN.{get_or}
use Rattle.sha256.specs.TableLaws.{as_table}
use Rattle.sha256.specs.Window.{window}
use Rattle.sha256.specs.WindowLaws.{next_words}
use borrow.Author.Rules.{rules}
use Rattle.sha256.proofs.block.next_words.Goals as goal

pub returns : goal.returns
returns g c =
    let w = c.args.w in
    next_words (λ j. get_or w j 0) _ _ _ _ _ _ _ _ _ _ _ _ _ _ _ _
    c.next_word-a.ensures
    c.next_word-b.ensures
    c.next_word-c.ensures
    c.next_word-d.ensures
    c.next_word-e.ensures
    c.next_word-f.ensures
    c.next_word-g.ensures
    c.next_word-h.ensures
    c.next_word-i.ensures
    c.next_word-j.ensures
    c.next_word-k.ensures
    c.next_word-l.ensures
    c.next_word-m.ensures
    c.next_word-n.ensures
    c.next_word-o.ensures
    c.next_word-p.ensures
    ∙ ap (λ (l : List ℕ). window l 16) (sym (as_table w 16 (search rules)))
