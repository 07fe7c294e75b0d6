use Rattle.std.specs.Prelude.{ℕ, List, [], ◌∷◌, Option, Some, None}

-- a list: its items, in order, and how many more it can take without memory
pub record Listed (T : Type 0) : Type 0 where
  pub items : List T
  pub room : ℕ

-- the glyphs of a line, whatever room is left in it
abbrev pub glyphs_in : Listed ℕ → List ℕ
glyphs_in line = line.items

-- the first item, where there is one
abbrev pub first_of : {A : Type 0} → List A → Option A
first_of [] = None
first_of (x ∷ xs) = Some x

-- the items behind the first
abbrev pub others_of : {A : Type 0} → List A → List A
others_of [] = []
others_of (x ∷ xs) = xs
