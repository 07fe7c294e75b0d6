-- Which values are texts, and why others are none, said of the values.
use Rattle.std.specs.Prelude.{◌≡◌, ◌<◌, ◌≤◌, ℕ, ℤ, List, length}
use Rattle.apl_arrays.specs.Array.{PlainArray, chars, numbers}

-- the value is this text: it has at most one axis, and these characters, at most 1,000
pub record IsTextOfValue (value : PlainArray) (text : List ℕ) : Type 0 where
  pub axes : length value.shape ≤ 1
  pub characters : value.items ≡ chars text
  pub few : length text ≤ 1000

-- it has no more axes than that, but numbers, or none of these
pub record HasNumbers (value : PlainArray) : Type 0 where
  pub axes : length value.shape ≤ 1
  pub list : List ℤ
  pub items : value.items ≡ numbers list

-- it has characters, but too many
pub record HasTooMany (value : PlainArray) : Type 0 where
  pub axes : length value.shape ≤ 1
  pub text : List ℕ
  pub characters : value.items ≡ chars text
  pub many : 1000 < length text
