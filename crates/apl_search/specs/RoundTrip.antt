use Rattle.std.specs.Prelude.{◌≡◌, ◌<◌, ◌≤◌, ◌^◌, ℕ, pos, List, [], ◌∷◌, All, Ok, length, map}
use Rattle.apl_arrays.specs.Array.{PlainArray, number_array}
use Rattle.apl_search.specs.Decode.{decode_of}
use Rattle.apl_search.specs.Encode.{encode_of}

-- positive bases of 64 bits, no more than a vector has
pub record AreBases (bases : List ℕ) : Type 0 where
  pub few : length bases ≤ 16384
  pub each : All (λ base. (0 < base) × (base < 2 ^ 63)) bases

-- the vector of bases
abbrev pub vector_of_bases : List ℕ → PlainArray
vector_of_bases bases = number_array (length bases ∷ []) (map pos bases)

-- B has digits by the bases A, and these have B as their value: A⊥A⊤B gives B back
abbrev pub GivesBack : PlainArray → PlainArray → Type 0
GivesBack a b = (digits : PlainArray) × (encode_of a b ≡ Ok digits) × (decode_of a digits ≡ Ok b)
