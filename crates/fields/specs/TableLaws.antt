-- Reading and writing by a table are inverse, for any table of fields; and the length of what is written.
use Rattle.std.specs.Prelude.{◌≡◌, refl, Bool, true, false, ◌&&◌, ℕ, ◌+◌, ◌*◌, ◌/◌, ◌%◌, ◌≤◌, ◌<◌, List, [], ◌∷◌, ◌++◌, eqb, leb, length, take, drop}
use Rattle.std.proofs.Common.{sym, ap, ap₂, ◌∙◌, subst, arith, append-nil, length-append, take-append-drop, length-take-le, eqb-true, eq-eqb, ne_eqb, leb-true, le-leb}
use Rattle.std.proofs.Math.Seq.{take-append_seam, drop-append_seam}
use Rattle.rules.specs.Choice.{choose}
use Rattle.rules.specs.RefusalLaws.{and_left, and_right}
use Rattle.octets.specs.Bytes.{Bytes, bytes_take, bytes_drop}
use Rattle.fields.specs.Table.{length_allowed, Taken, taken, refused, take_field, Contents, contents, malformed}
use Rattle.fields.specs.Table.{add_content, on_taken, read_contents, field_head, put_field, write_contents, length_by}
use Rattle.fields.specs.Table.{open_after, table_length}
use Rattle.fields.specs.declared.LengthRule.{LengthRule}
use Rattle.fields.specs.declared.LengthRule.TheVariants.{Exactly, MultipleOf}
use Rattle.fields.specs.declared.FieldRule.{FieldRule}

-- what a content that was read is
pub record Content (f : FieldRule) (r c rest : List ℕ) : Type 0 where
  pub written : r ≡ put_field f.tag c rest
  pub right : length_allowed f.length (length c) ≡ true
  pub short : length c < 65536
  pub content_bytes : Bytes c
  pub rest_bytes : Bytes rest

never_taken : {A : Type 0} {c rest : List ℕ} → refused ≡ taken c rest → A
never_taken e = let z : ◌≡◌ {A = ℕ} 0 1 = cc in absurd (omega arith)

never_contents : {A : Type 0} {cs : List (List ℕ)} → malformed ≡ contents cs → A
never_contents e = let z : ◌≡◌ {A = ℕ} 0 1 = cc in absurd (omega arith)

chosen : (t : Bool) (f : Taken) (c rest : List ℕ) → choose t f refused ≡ taken c rest → (t ≡ true) × (f ≡ taken c rest)
chosen true f c rest e = (refl, e)
chosen false f c rest e = never_taken e

pub field_means : (f : FieldRule) (r c rest : List ℕ) → Bytes r → take_field f r ≡ taken c rest → Content f r c rest
unfolding take_field put_field
field_means f [] c rest h e = never_taken e
field_means f (x ∷ []) c rest h e = never_taken e
field_means f (x ∷ y ∷ []) c rest h e = never_taken e
field_means f (x ∷ y ∷ z ∷ l) c rest h e =
    let n = y + 256 * z in
    let p = chosen (eqb x f.tag && (leb n (length l) && length_allowed f.length n))
    (taken (take n l) (drop n l)) c rest e in
    let g : taken (take n l) (drop n l) ≡ taken c rest = p.1 in
    let tag : x ≡ f.tag = eqb-true x f.tag
    (and_left (eqb x f.tag) (leb n (length l) && length_allowed f.length n) p.0) in
    let q = and_right (eqb x f.tag) (leb n (length l) && length_allowed f.length n) p.0 in
    let room : n ≤ length l = leb-true n (length l) (and_left (leb n (length l)) (length_allowed f.length n) q) in
    let len : length (take n l) ≡ n = length-take-le n l room in
    let fc : take n l ≡ c = cc in
    let fr : drop n l ≡ rest = cc in
    let yb : y < 256 = h.1.0 in
    let zb : z < 256 = h.1.1.0 in
    let cl : length c ≡ y + 256 * z = sym (ap length fc) ∙ len in
    let y' : y ≡ length c % 256 = omega arith in
    let z' : z ≡ length c / 256 = omega arith in
    record {
      written = λ i. tag i ∷ y' i ∷ z' i ∷ ((sym (take-append-drop n l) ∙ ap₂ ◌++◌ fc fr) i);
      right = ap (length_allowed f.length) cl ∙ and_right (leb n (length l)) (length_allowed f.length n) q;
      short = omega arith;
      content_bytes = subst Bytes fc (bytes_take n l h.1.1.1);
      rest_bytes = subst Bytes fr (bytes_drop n l h.1.1.1);
    }

-- a field that was written is read
pub field_back : (f : FieldRule) (c rest : List ℕ) → length_allowed f.length (length c) ≡ true → length c < 65536
    → take_field f (put_field f.tag c rest) ≡ taken c rest
unfolding take_field put_field
field_back f c rest k s =
    let n : length c % 256 + 256 * (length c / 256) ≡ length c = omega arith in
    let l : leb (length c) (length (c ++ rest)) ≡ true =
    le-leb (length c) (length (c ++ rest)) (simp length-append (omega arith)) in
    rw (n, eq-eqb f.tag f.tag refl, l, k, take-append_seam c rest, drop-append_seam c rest)

-- but not by a row with another tag
pub other_tag_refused : (f : FieldRule) (tag : ℕ) (c rest : List ℕ) → (tag ≡ f.tag → ⊥)
    → take_field f (put_field tag c rest) ≡ refused
unfolding take_field put_field
other_tag_refused f tag c rest h = rw (ne_eqb tag f.tag h)

-- contents that a table allows: one for each row, of an allowed length below 2 ^ 16
abbrev pub Fits : List FieldRule → List (List ℕ) → Type 0
Fits [] [] = Unit {0}
Fits [] (c ∷ cs) = ⊥
Fits (f ∷ fs) [] = ⊥
Fits (f ∷ fs) (c ∷ cs) = (length_allowed f.length (length c) ≡ true) × (length c < 65536) × Fits fs cs

-- every content is a string of bytes
abbrev pub AllBytes : List (List ℕ) → Type 0
AllBytes [] = Unit {0}
AllBytes (c ∷ cs) = Bytes c × AllBytes cs

-- what was written is read
pub contents_back : (fs : List FieldRule) (cs : List (List ℕ)) → Fits fs cs
    → read_contents fs (write_contents fs cs) ≡ contents cs
unfolding read_contents write_contents
contents_back [] [] h = refl
contents_back [] (c ∷ cs) h = absurd h
contents_back (f ∷ fs) [] h = absurd h
contents_back (f ∷ fs) (c ∷ cs) h =
    rw (field_back f c (write_contents fs cs) h.0 h.1) (ap (add_content c) (contents_back fs cs h.2))

opened : (f : Taken) (later : List ℕ → Contents) (cs : List (List ℕ)) → on_taken f later ≡ contents cs
    → (c : List ℕ) × (rest : List ℕ) × (ds : List (List ℕ)) × (f ≡ taken c rest) × (later rest ≡ contents ds)
    × (cs ≡ c ∷ ds)
opened (taken c rest) later cs e = go (later rest) refl e
  where
    go : (k : Contents) → later rest ≡ k → add_content c k ≡ contents cs
        → (c' : List ℕ) × (rest' : List ℕ) × (ds : List (List ℕ)) × (taken c rest ≡ taken c' rest')
        × (later rest' ≡ contents ds) × (cs ≡ c' ∷ ds)
    go (contents ds) h i = let q : cs ≡ c ∷ ds = cc in (c, rest, ds, refl, h, q)
    go malformed h i = never_contents i
opened refused later cs e = never_contents e

none : (l : List ℕ) → length l ≡ 0 → l ≡ []
none [] e = refl
none (x ∷ xs) e = absurd (omega arith)

ended : (t : Bool) (cs : List (List ℕ)) → choose t (contents []) malformed ≡ contents cs → (t ≡ true) × (cs ≡ [])
ended true cs e = let q : cs ≡ [] = cc in (refl, q)
ended false cs e = never_contents e

-- what was read is what the contents write
pub contents_canonical : (fs : List FieldRule) (r : List ℕ) (cs : List (List ℕ)) → Bytes r
    → read_contents fs r ≡ contents cs → (write_contents fs cs ≡ r) × Fits fs cs × AllBytes cs
unfolding read_contents write_contents
contents_canonical [] r cs h e =
    let a = ended (eqb (length r) 0) cs e in
    let b = none r (eqb-true (length r) 0 a.0) in
    subst (λ (ds : List (List ℕ)). (write_contents [] ds ≡ r) × Fits [] ds × AllBytes ds) (sym a.1) (sym b, tt, tt)
contents_canonical (f ∷ fs) r cs h e =
    let a = opened (take_field f r) (read_contents fs) cs e in
    let b = field_means f r a.0 a.1 h a.3 in
    let c = contents_canonical fs a.1 a.2 b.rest_bytes a.4 in
    subst (λ (ds : List (List ℕ)). (write_contents (f ∷ fs) ds ≡ r) × Fits (f ∷ fs) ds × AllBytes ds) (sym a.5)
    (ap (put_field f.tag a.0) c.0 ∙ sym b.written, (b.right, b.short, c.1), (b.content_bytes, c.2))

-- a field is its head and its content
pub field_is : (tag : ℕ) (content : List ℕ) → put_field tag content [] ≡ field_head tag (length content) ++ content
unfolding put_field field_head
field_is tag content = simp append-nil

pub field_length_lem : (tag : ℕ) (content : List ℕ) → length (put_field tag content []) ≡ 3 + length content
unfolding put_field
field_length_lem tag content = simp append-nil (omega arith)

-- a field in front of others
pub field_before : (tag : ℕ) (content rest : List ℕ) → put_field tag content rest ≡ put_field tag content [] ++ rest
unfolding put_field
field_before tag content rest = simp append-nil

-- the lengths of the contents whose length a table leaves open
abbrev pub open_with : LengthRule → List ℕ → List ℕ → List ℕ
open_with (Exactly n) c left = left
open_with (MultipleOf n) c left = length c ∷ left

abbrev pub open_lengths : List FieldRule → List (List ℕ) → List ℕ
open_lengths [] cs = []
open_lengths (f ∷ fs) [] = []
open_lengths (f ∷ fs) (c ∷ cs) = open_with f.length c (open_lengths fs cs)

-- the contents whose length a table fixes have it
abbrev pub FixedBy : LengthRule → ℕ → Type 0
FixedBy (Exactly n) m = m ≡ n
FixedBy (MultipleOf n) m = Unit {0}

abbrev pub FixedLengths : List FieldRule → List (List ℕ) → Type 0
FixedLengths [] [] = Unit {0}
FixedLengths [] (c ∷ cs) = ⊥
FixedLengths (f ∷ fs) [] = ⊥
FixedLengths (f ∷ fs) (c ∷ cs) = FixedBy f.length (length c) × FixedLengths fs cs

length_by_lem : (rule : LengthRule) (c left : List ℕ) → FixedBy rule (length c)
    → (length_by rule (open_with rule c left) ≡ length c) × (open_after rule (open_with rule c left) ≡ left)
length_by_lem (Exactly n) c left h = (sym h, refl)
length_by_lem (MultipleOf n) c left h = (refl, refl)

-- what is written has the length that the table says
pub written_length : (fs : List FieldRule) (cs : List (List ℕ)) → FixedLengths fs cs
    → length (write_contents fs cs) ≡ table_length fs (open_lengths fs cs)
unfolding write_contents put_field
written_length [] [] h = refl
written_length [] (c ∷ cs) h = absurd h
written_length (f ∷ fs) [] h = absurd h
written_length (f ∷ fs) (c ∷ cs) h =
    let b = length_by_lem f.length c (open_lengths fs cs) h.0 in
    let e = written_length fs cs h.1 in
    rw b.1 (omega (arith, length-append c (write_contents fs cs), e, b.0))
