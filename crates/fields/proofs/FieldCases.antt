-- The ways through the reading of a field, one law for each answer of the code.
use mathlib.Core.Path.{◌≡◌, ap, ◌∙◌}
use mathlib.Core.Bool.{true, false}
use Prim.Native.Nat.{ℕ, ◌+◌, ◌≤◌, ◌<◌}
use mathlib.Core.List.{List}
use lib.ListN.{length, get_or}
use borrow.Author.Tests.{eq-eqb, ne_eqb, le-leb, lt-leb}
use Rattle.rules.specs.Refusals.{first_refusal}
use Rattle.fields.specs.Table.{length_allowed}
use Rattle.fields.specs.FieldAt.{length_at, field_at, field_for, field_code, field_rules, row_rules}
use Rattle.fields.specs.FieldAtLaws.{field_code_lem, row_code_lem}
use Rattle.fields.specs.declared.FieldRule.{FieldRule}
use Rattle.fields.specs.FieldAt.{Field}
use Rattle.fields.specs.FieldAt.{Content, Refused}

-- a field by its four numbers, as taking it apart gives them
abbrev pub content : (ℕ × (ℕ × (ℕ × (ℕ × Unit {0})))) → Field
content x = Content x.0 x.1.0 x.1.1.0 x.1.1.1.0

-- the field at a place, and its code
module _ (r : List ℕ) (at : ℕ) where
  abbrev pub Read : Field → Type 0
  Read x = (x ≡ field_at r at) × (field_code x ≡ first_refusal (field_rules r at))

  read : {x : Field} → x ≡ field_at r at → Read x
  read e = (e, ap field_code e ∙ field_code_lem r at)

  pub read_short : length r < at + 3 → Read Refused
  unfolding field_at
  read_short h = read (rw (lt-leb (at + 3) (length r) h))

  pub read_cut : (n : ℕ) → at + 3 ≤ length r → n ≡ length_at r at → length r < at + 3 + n → Read Refused
  unfolding field_at
  read_cut n h l k = read (rw (le-leb (at + 3) (length r) h, ← l, lt-leb (at + 3 + n) (length r) k))

  pub read_here : (n : ℕ) → at + 3 ≤ length r → n ≡ length_at r at → at + 3 + n ≤ length r
      → Read (Content (get_or r at 0) (at + 3) n (at + 3 + n))
  unfolding field_at
  read_here n h l k = read (rw (le-leb (at + 3) (length r) h, ← l, le-leb (at + 3 + n) (length r) k))

-- the field that a row of a table asks for, and its code
module _ (f : FieldRule) (r : List ℕ) (at : ℕ) where
  abbrev pub Found : Field → Type 0
  Found x = (x ≡ field_for f r at) × (field_code x ≡ first_refusal (row_rules f r at))

  found : {x : Field} → x ≡ field_for f r at → Found x
  found e = (e, ap field_code e ∙ row_code_lem f r at)

  pub none_there : field_at r at ≡ Refused → Found Refused
  unfolding field_for
  none_there e = found (rw e)

  pub other_tag : {tag start n next : ℕ} → field_at r at ≡ Content tag start n next → (tag ≡ f.tag → ⊥) → Found Refused
  unfolding field_for
  other_tag {tag} e t = found (rw (e, ne_eqb tag f.tag t))

  pub other_length : {tag start n next : ℕ} → field_at r at ≡ Content tag start n next → tag ≡ f.tag
      → length_allowed f.length n ≡ false → Found Refused
  unfolding field_for
  other_length {tag} e t a = found (rw (e, eq-eqb tag f.tag t, a))

  pub asked_for : {tag start n next : ℕ} → field_at r at ≡ Content tag start n next → tag ≡ f.tag
      → length_allowed f.length n ≡ true → Found (Content tag start n next)
  unfolding field_for
  asked_for {tag} e t a = found (rw (e, eq-eqb tag f.tag t, a))
