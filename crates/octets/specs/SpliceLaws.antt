-- What a splice changes and what not.
use Rattle.std.specs.Prelude.{◌≡◌, List, [], ◌++◌, ℕ, ◌+◌, ◌≤◌, ◌<◌, ◌-◌, take}
use Rattle.std.proofs.Common.{sym, ap₂, ◌∙◌, append_assoc, append-nil, add_assoc, add-zero, zero-add, drop_of_length-le, take-append-drop, ext_get_or, take_all, drop-drop, take_at, drop_at, take-add}
use Rattle.std.proofs.Math.Path.{ap}
use Rattle.std.proofs.Math.Nat.{add-sub_cancel_left}
use Rattle.std.proofs.Math.Decide.{dec_lt}
use native.Mathlib.Omega.{arith}
use Rattle.std.proofs.Math.ListN.{length, drop, get_or, length-append, length-drop, get_or-append}
use Rattle.std.proofs.Math.Seq.{get_or-take, get_or-drop, get_or-append-add, length-take-le, take-length}
use borrow.Rule.Slice.PartMut.{put_mid}
use Rattle.octets.specs.Bytes.{Bytes, bytes_take, bytes_drop, bytes_append}
use Rattle.octets.specs.Splice.{part, splice}

pub part_length : (d : List ℕ) (at n : ℕ) → at + n ≤ length d → length (part d at n) ≡ n
unfolding part
part_length d at n h = length-take-le n (drop at d) (simp length-drop (omega arith))

pub bytes_part : (d : List ℕ) (at n : ℕ) → Bytes d → Bytes (part d at n)
unfolding part
bytes_part d at n h = bytes_take n (drop at d) (bytes_drop at d h)

pub get_d_part : (d : List ℕ) (at n i : ℕ) → i < n → get_or (part d at n) i 0 ≡ get_or d (at + i) 0
unfolding part
get_d_part d at n i h = get_or-take n (drop at d) i 0 h ∙ get_or-drop at d i 0

-- two strings agree on a part where they agree at each index of it
pub same_part : (x y : List ℕ) (b c n : ℕ) → b + n ≤ length x → c + n ≤ length y
    → ((i : ℕ) → i < n → get_or x (b + i) 0 ≡ get_or y (c + i) 0) → part x b n ≡ part y c n
same_part x y b c n hx hy f =
    let lx : length (part x b n) ≡ n = part_length x b n hx in
    let ly : length (part y c n) ≡ n = part_length y c n hy in
    ext_get_or 0 (part x b n) (part y c n) (lx ∙ sym ly)
    (λ i l. let g : i < n = omega arith in get_d_part x b n i g ∙ f i g ∙ sym (get_d_part y c n i g))

-- a part of a part
pub part_part : (d : List ℕ) (at n b m : ℕ) → b + m ≤ n → at + n ≤ length d → part (part d at n) b m ≡ part d (at + b) m
part_part d at n b m h k =
    let l = part_length d at n k in
    same_part (part d at n) d b (at + b) m (omega arith) (omega arith)
    (λ i g. get_d_part d at n (b + i) (omega arith) ∙ ap (λ (j : ℕ). get_or d j 0) (sym (add_assoc at b i)))

-- two parts side by side
pub part_append : (d : List ℕ) (at n m : ℕ) → part d at n ++ part d (at + n) m ≡ part d at (n + m)
unfolding part
part_append d at n m =
    sym (take-add n m (drop at d) ∙ ap (λ (l : List ℕ). take n (drop at d) ++ take m l) (drop-drop n at d))

-- the whole string as a part of itself
pub part_whole : (d : List ℕ) → part d 0 (length d) ≡ d
unfolding part
part_whole d = take-length d

-- what `&d[at..at + n]` lends
pub part_range : (d : List ℕ) (at n : ℕ) → take (at + n - at) (drop at d) ≡ part d at n
unfolding part
part_range d at n = ap (λ (k : ℕ). take k (drop at d)) (add-sub_cancel_left at n)

-- a part up to the end
pub part_end : (d : List ℕ) (at n : ℕ) → length d ≤ at + n → part d at n ≡ drop at d
unfolding part
part_end d at n h = take_all n (drop at d) (simp length-drop (omega arith))

-- a splice that replaces the whole string
pub splice_whole : (d s : List ℕ) → length d ≡ length s → splice d 0 s ≡ s
unfolding splice
splice_whole d s h = ap (λ (l : List ℕ). s ++ l) (drop_of_length-le d {i = 0 + length s} (omega arith)) ∙ append-nil s

-- nothing written
pub splice_nothing : (d : List ℕ) (at : ℕ) → splice d at [] ≡ d
unfolding splice
splice_nothing d at = ap₂ ◌++◌ (append-nil (take at d)) (ap (λ (n : ℕ). drop n d) (add-zero at)) ∙ take-append-drop at d

module _ (d : List ℕ) (at : ℕ) (s : List ℕ) (h : at + length s ≤ length d) where
  head_length : length (take at d ++ s) ≡ at + length s
  head_length = simp (length-append, length-take-le at d (omega arith))

  pub length_splice : length (splice d at s) ≡ length d
  unfolding splice
  length_splice =
      let e =
      head_length in length-append (take at d ++ s) (drop (at + length s) d)
      ∙ omega (arith, length-drop (at + length s) d)

  pub splice_before : (j : ℕ) → j < at → get_or (splice d at s) j 0 ≡ get_or d j 0
  unfolding splice
  splice_before j l =
      let e = head_length in
      let m : length (take at d) ≡ at = length-take-le at d (omega arith) in
      get_or-append (take at d ++ s) (drop (at + length s) d) 0 j (omega arith)
      ∙ get_or-append (take at d) s 0 j (omega arith)
      ∙ get_or-take at d j 0 l

  pub splice_inside : (j : ℕ) → j < length s → get_or (splice d at s) (at + j) 0 ≡ get_or s j 0
  unfolding splice
  splice_inside j l =
      let e = head_length in
      let m : length (take at d) ≡ at = length-take-le at d (omega arith) in
      get_or-append (take at d ++ s) (drop (at + length s) d) 0 (at + j) (omega arith)
      ∙ ap (λ (k : ℕ). get_or (take at d ++ s) (k + j) 0) (sym m)
      ∙ get_or-append-add (take at d) s j 0

  pub splice_after : (j : ℕ) → at + length s ≤ j → get_or (splice d at s) j 0 ≡ get_or d j 0
  unfolding splice
  splice_after j l =
      let e = head_length in
      let q : j ≡ length (take at d ++ s) + (j - (at + length s)) = omega arith in
      let q' : at + length s + (j - (at + length s)) ≡ j = omega arith in
      ap (λ (k : ℕ). get_or (take at d ++ s ++ drop (at + length s) d) k 0) q
      ∙ get_or-append-add (take at d ++ s) (drop (at + length s) d) (j - (at + length s)) 0
      ∙ get_or-drop (at + length s) d (j - (at + length s)) 0
      ∙ ap (λ (k : ℕ). get_or d k 0) q'

  -- parts before, after and inside what was written
  pub part_before : (b n : ℕ) → b + n ≤ at → part (splice d at s) b n ≡ part d b n
  part_before b n l =
      let e = length_splice in
      same_part (splice d at s) d b b n (omega arith) (omega arith) (λ i k. splice_before (b + i) (omega arith))

  pub part_after : (b n : ℕ) → at + length s ≤ b → b + n ≤ length d → part (splice d at s) b n ≡ part d b n
  part_after b n l r =
      let e = length_splice in
      same_part (splice d at s) d b b n (omega arith) r (λ i k. splice_after (b + i) (omega arith))

  pub part_inside : (j n : ℕ) → j + n ≤ length s → part (splice d at s) (at + j) n ≡ part s j n
  part_inside j n l =
      let e = length_splice in
      same_part (splice d at s) s (at + j) j n (omega arith) l
      (λ i k. ap (λ (x : ℕ). get_or (splice d at s) x 0) (add_assoc at j i) ∙ splice_inside (j + i) (omega arith))

  -- just what was written
  pub part_written : part (splice d at s) at (length s) ≡ s
  part_written =
      let e = length_splice in
      same_part (splice d at s) s at 0 (length s) (omega arith) (omega arith)
      (λ i k. splice_inside i k ∙ ap (λ (j : ℕ). get_or s j 0) (sym (zero-add i)))
      ∙ part_whole s

-- what stands there already
pub splice_own : (d : List ℕ) (at : ℕ) (s : List ℕ) → part d at (length s) ≡ s → splice d at s ≡ d
unfolding splice part
splice_own d at s e =
    ap (λ (x : List ℕ). take at d ++ x ++ drop (at + length s) d) (sym e)
    ∙ ap (λ (x : List ℕ). x ++ drop (at + length s) d) (sym (take-add at (length s) d))
    ∙ take-append-drop (at + length s) d

-- two splices of as many bytes at one place are the second
pub splice_over : (d : List ℕ) (at : ℕ) (s t : List ℕ) → at + length s ≤ length d → length t ≡ length s
    → splice (splice d at s) at t ≡ splice d at t
unfolding splice
splice_over d at s t h e =
    let l : length (take at d) ≡ at = length-take-le at d (omega arith) in
    let m : length (take at d ++ s) ≡ at + length t = head_length d at s h ∙ ap (λ (n : ℕ). at + n) (sym e) in
    ap₂ (λ (x y : List ℕ). x ++ t ++ y)
    (ap (take at) (append_assoc (take at d) s (drop (at + length s) d))
    ∙ take_at (take at d) (s ++ drop (at + length s) d) at l)
    (drop_at (take at d ++ s) (drop (at + length s) d) (at + length t) m ∙ ap (λ (n : ℕ). drop (at + n) d) (sym e))

-- two splices, the second where the first ends, are one
pub splice_append : (d : List ℕ) (at next : ℕ) (s t : List ℕ) → at + length s ≤ length d → next ≡ at + length s
    → splice (splice d at s) next t ≡ splice d at (s ++ t)
unfolding splice
splice_append d at next s t h e =
    let l : length (take at d ++ s) ≡ next = head_length d at s h ∙ sym e in
    let n : at + length s + length t ≡ at + length (s ++ t) = omega (arith, length-append s t) in
    ap₂ (λ (x y : List ℕ). x ++ t ++ y)
    (take_at (take at d ++ s) (drop (at + length s) d) next l)
    (sym (drop-drop (length t) next (splice d at s))
    ∙ ap (drop (length t)) (drop_at (take at d ++ s) (drop (at + length s) d) next l)
    ∙ drop-drop (length t) (at + length s) d)
    ∙ ap₂ ◌++◌ (append_assoc (take at d) s t) (ap (λ (k : ℕ). drop k d) n)

-- the same, where together they replace the whole string
pub splice_both : (d s t : List ℕ) → length d ≡ length s + length t → splice (splice d 0 s) (length s) t ≡ s ++ t
splice_both d s t h =
    splice_append d 0 (length s) s t (omega arith) (omega arith)
    ∙ splice_whole d (s ++ t) (omega (arith, length-append s t))

-- two splices apart from one another, in either order
module _ (d : List ℕ) (a : ℕ) (s : List ℕ) (b : ℕ) (t : List ℕ) (h : a + length s ≤ b) (k : b + length t ≤ length d)
  where
    first_fits : a + length s ≤ length (splice d b t)
    first_fits = omega (arith, length_splice d b t k)

    second_fits : b + length t ≤ length (splice d a s)
    second_fits = omega (arith, length_splice d a s (omega arith))

    below_second : (j : ℕ) → j < b → get_or (splice d a s) j 0 ≡ get_or (splice (splice d b t) a s) j 0
    below_second j l =
        elim (dec_lt j a) [
          | yes x ↦
              splice_before d a s (omega arith) j x
              ∙ sym (splice_before (splice d b t) a s first_fits j x ∙ splice_before d b t k j l)
          | no x ↦
              elim (dec_lt j (a + length s)) [
                | yes y ↦
                    let e : j ≡ a + (j - a) = omega arith in
                    ap (λ (i : ℕ). get_or (splice d a s) i 0) e
                    ∙ splice_inside d a s (omega arith) (j - a) (omega arith)
                    ∙ sym (ap (λ (i : ℕ). get_or (splice (splice d b t) a s) i 0) e
                    ∙ splice_inside (splice d b t) a s first_fits (j - a) (omega arith))
                | no y ↦
                    splice_after d a s (omega arith) j (omega arith)
                    ∙ sym (splice_after (splice d b t) a s first_fits j (omega arith) ∙ splice_before d b t k j l)
              ]
        ]

    from_second : (j : ℕ) → b ≤ j → get_or (splice (splice d a s) b t) j 0 ≡ get_or (splice d b t) j 0
    from_second j l =
        elim (dec_lt j (b + length t)) [
          | yes x ↦
              let e : j ≡ b + (j - b) = omega arith in
              ap (λ (i : ℕ). get_or (splice (splice d a s) b t) i 0) e
              ∙ splice_inside (splice d a s) b t second_fits (j - b) (omega arith)
              ∙ sym (ap (λ (i : ℕ). get_or (splice d b t) i 0) e ∙ splice_inside d b t k (j - b) (omega arith))
          | no x ↦
              splice_after (splice d a s) b t second_fits j (omega arith)
              ∙ splice_after d a s (omega arith) j (omega arith)
              ∙ sym (splice_after d b t k j (omega arith))
        ]

    pub splice_apart : splice (splice d a s) b t ≡ splice (splice d b t) a s
    splice_apart =
        ext_get_or 0 (splice (splice d a s) b t) (splice (splice d b t) a s)
        (length_splice (splice d a s) b t second_fits
        ∙ length_splice d a s (omega arith)
        ∙ sym (length_splice (splice d b t) a s first_fits ∙ length_splice d b t k))
        (λ j l.
        elim (dec_lt j b) [
          | yes x ↦ splice_before (splice d a s) b t second_fits j x ∙ below_second j x
          | no x ↦
              from_second j (omega arith) ∙ sym (splice_after (splice d b t) a s first_fits j (omega arith))
        ])

pub bytes_splice : (d : List ℕ) (at : ℕ) (s : List ℕ) → Bytes d → Bytes s → Bytes (splice d at s)
unfolding splice
bytes_splice d at s h k =
    bytes_append (take at d ++ s) (drop (at + length s) d) (bytes_append (take at d) s (bytes_take at d h) k)
    (bytes_drop (at + length s) d h)

-- what a call on `&mut d[a..a + k]` leaves is a splice of what it left of the part
pub put_splice : (d : List ℕ) (at k : ℕ) (s : List ℕ) → length s ≡ k → put_mid at k d s ≡ splice d at s
unfolding splice
put_splice d at k s h =
    sym (append_assoc (take at d) s (drop k (drop at d)))
    ∙ ap (λ (l : List ℕ). take at d ++ s ++ l) (drop-drop k at d ∙ ap (λ (n : ℕ). drop (at + n) d) (sym h))
