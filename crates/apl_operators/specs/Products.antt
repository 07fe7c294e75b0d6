use Rattle.std.specs.Prelude.{◌≡◌, ◌+◌, ◌*◌, ◌/◌, ◌%◌, ◌<◌, ◌≤◌, ℕ, ℤ, Option}
use Rattle.apl_operators.specs.declared.products.ProductExtent.{ProductExtent}
use Rattle.apl_verbs.specs.declared.verb.Dyad.{Dyad}
use Rattle.apl_scalar.specs.Table.{dyadic_item, row_of_dyad}
use Rattle.operator_rules.specs.Reduction.{reduction_of}

-- there are pairs, and no side is longer than an array may be
pub record IsExtent (extent : ProductExtent) : Type 0 where
  pub some : 0 < extent.paired
  pub rows : extent.rows ≤ 16384
  pub paired : extent.paired ≤ 16384
  pub columns : extent.columns ≤ 16384

-- the product of a row and a column: the reduction of their pairs, by the places of a pair in the two arrays
abbrev pub product_of : Dyad → (ℕ → ℕ → Option ℤ) → ℕ → ℕ → ℕ → ℕ → Option ℤ
product_of f pair paired columns row column = reduction_of (dyadic_item f) (row_of_dyad f).identity (λ along. pair (row * paired + along) (along * columns + column)) paired

-- the product at a place of all rows and columns
abbrev pub products_at : Dyad → (ℕ → ℕ → Option ℤ) → ℕ → ℕ → ℕ → Option ℤ
products_at f pair paired columns place = product_of f pair paired columns (place / columns) (place % columns)

-- whatever a call answers at two places is what a definition gives there
abbrev pub FollowsPairs : (ℕ → ℕ → Option ℤ → Type 0) → ℕ → ℕ → (ℕ → ℕ → Option ℤ) → Type 0
FollowsPairs answers count others rule = (x y : ℕ) (answer : Option ℤ) → x < count → y < others → answers x y answer → answer ≡ rule x y
