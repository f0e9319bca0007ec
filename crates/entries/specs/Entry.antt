-- Index entries (document 01, "Entries and the index area"): commitment, 32 bytes; offset, 8; size, 8; checksum, 16.
use Rattle.std.specs.Prelude.{Bool, ℕ, List, [], ◌∷◌, ◌++◌, length, replicate, eqb}
use Rattle.rules.specs.Choice.{choose}
use Rattle.rules.specs.Refusals.{rule, first_refusal, unless_refused}
use Rattle.octets.specs.Equality.{same_bytes, all_zero}
use Rattle.octets.specs.LittleEndian.{number_of, bytes_of}
use Rattle.octets.specs.Splice.{part}
use Rattle.stray.specs.StrayBits.{clear_node}
use Rattle.entries.specs.Checksum.{checksum_of}
use Rattle.entries.specs.declared.EntryKind.{EntryKind}
use Rattle.entries.specs.declared.EntryKind.TheVariants.{Blank, Damaged, Valid}

-- the first 48 bytes of an entry: all but its checksum
unfoldable pub entry_body : List ℕ → ℕ → ℕ → List ℕ
entry_body commitment offset size = commitment ++ (bytes_of 8 offset ++ bytes_of 8 size)

-- the entry for a commitment, an offset and a size
unfoldable pub entry_of : List ℕ → ℕ → ℕ → List ℕ
entry_of commitment offset size = entry_body commitment offset size ++ checksum_of (entry_body commitment offset size)

-- the fields of 64 bytes
unfoldable pub commitment_in : List ℕ → List ℕ
commitment_in entry = part entry 0 32

unfoldable pub offset_in : List ℕ → ℕ
offset_in entry = number_of (part entry 32 8)

unfoldable pub size_in : List ℕ → ℕ
size_in entry = number_of (part entry 40 8)

-- the checksum is right
unfoldable pub checksum_right : List ℕ → Bool
checksum_right entry = same_bytes (checksum_of (part entry 0 48)) (part entry 48 16)

-- the kind of 64 bytes (document 02, (ii)): blank where all are zero, else valid where the checksum is right, else
-- damaged
unfoldable pub kind_of : List ℕ → EntryKind
kind_of entry = choose (all_zero entry) Blank (choose (checksum_right entry) Valid Damaged)

-- the number of a kind
abbrev pub kind_number : EntryKind → ℕ
kind_number Blank = 0
kind_number Damaged = 1
kind_number Valid = 2

-- whether an entry is of a kind
unfoldable pub is_kind : EntryKind → List ℕ → Bool
is_kind kind entry = eqb (kind_number (kind_of entry)) (kind_number kind)

-- a code, and the entry of 64 bytes that was made
pub record MadeEntry : Type 0 where
  pub code : ℕ
  pub entry : List ℕ

-- a code, and what the bytes of an entry say
pub record ReadEntry : Type 0 where
  pub code : ℕ
  pub kind : EntryKind
  pub commitment : List ℕ
  pub offset : ℕ
  pub size : ℕ

-- zeros beside a refusal's code
abbrev pub refused : ℕ → MadeEntry
refused code = record { code = code; entry = replicate 64 0 }

-- making an entry: 1 for a commitment that is not 32 bytes long, 8 for one with stray bits; the numbers are taken as
-- they are
unfoldable pub made_entry : List ℕ → ℕ → ℕ → MadeEntry
made_entry commitment offset size =
    unless_refused
    (first_refusal (rule (eqb (length commitment) 32) 1 ∷ rule (clear_node commitment) 8 ∷ []))
    refused
    (record { code = 0; entry = entry_of commitment offset size })

-- no fields: the kind with zeros
abbrev pub no_fields : ℕ → EntryKind → ReadEntry
no_fields code kind = record { code = code; kind = kind; commitment = replicate 32 0; offset = 0; size = 0 }

-- what is read of an entry, by its kind
abbrev pub read_as : EntryKind → List ℕ → ReadEntry
read_as Blank entry = no_fields 0 Blank
read_as Damaged entry = no_fields 0 Damaged
read_as Valid entry =
    record {
      code = 0;
      kind = Valid;
      commitment = commitment_in entry;
      offset = offset_in entry;
      size = size_in entry;
    }

-- reading an entry: 2 unless there are 64 bytes, else its kind, with its three fields where it is valid; Blank beside
-- the 2
unfoldable pub read_entry : List ℕ → ReadEntry
read_entry entry =
    unless_refused
    (first_refusal (rule (eqb (length entry) 64) 2 ∷ []))
    (λ code. no_fields code Blank)
    (read_as (kind_of entry) entry)
