-- The second block of a padded message of 64 bytes: nothing but padding, so that it is always the same.
use Rattle.std.specs.Prelude.{ℕ, List, [], ◌∷◌, get_or}
use Rattle.sha256.specs.Table.{table}
use Rattle.sha256.specs.Fips.{◌⊞◌, constants}

-- its sixteen words: the 1 bit, and the length of 512 bits
abbrev pub padding_block : List ℕ
padding_block =
    0x80000000 ∷ 0 ∷ 0 ∷ 0 ∷ 0 ∷ 0 ∷ 0 ∷ 0 ∷
    0 ∷ 0 ∷ 0 ∷ 0 ∷ 0 ∷ 0 ∷ 0 ∷ 0x200 ∷ []

-- its schedule
unfoldable pub padding_schedule : List ℕ
padding_schedule =
    0x80000000 ∷ 0x00000000 ∷ 0x00000000 ∷ 0x00000000 ∷ 0x00000000 ∷ 0x00000000 ∷ 0x00000000 ∷ 0x00000000 ∷
    0x00000000 ∷ 0x00000000 ∷ 0x00000000 ∷ 0x00000000 ∷ 0x00000000 ∷ 0x00000000 ∷ 0x00000000 ∷ 0x00000200 ∷
    0x80000000 ∷ 0x01400000 ∷ 0x00205000 ∷ 0x00005088 ∷ 0x22000800 ∷ 0x22550014 ∷ 0x05089742 ∷ 0xa0000020 ∷
    0x5a880000 ∷ 0x005c9400 ∷ 0x0016d49d ∷ 0xfa801f00 ∷ 0xd33225d0 ∷ 0x11675959 ∷ 0xf6e6bfda ∷ 0xb30c1549 ∷
    0x08b2b050 ∷ 0x9d7c4c27 ∷ 0x0ce2a393 ∷ 0x88e6e1ea ∷ 0xa52b4335 ∷ 0x67a16f49 ∷ 0xd732016f ∷ 0x4eeb2e91 ∷
    0x5dbf55e5 ∷ 0x8eee2335 ∷ 0xe2bc5ec2 ∷ 0xa83f4394 ∷ 0x45ad78f7 ∷ 0x36f3d0cd ∷ 0xd99c05e8 ∷ 0xb0511dc7 ∷
    0x69bc7ac4 ∷ 0xbd11375b ∷ 0xe3ba71e5 ∷ 0x3b209ff2 ∷ 0x18feee17 ∷ 0xe25ad9e7 ∷ 0x13375046 ∷ 0x0515089d ∷
    0x4f0d0f04 ∷ 0x2627484e ∷ 0x310128d2 ∷ 0xc668b434 ∷ 0x420841cc ∷ 0x62d311b8 ∷ 0xe59ba771 ∷ 0x85a7a484 ∷ []

-- the constants and the words of its schedule, added
unfoldable pub padding_sums : List ℕ
padding_sums = table (λ i. get_or constants i 0 ⊞ get_or padding_schedule i 0) 64
