-- Paths of files.
use Rattle.std.specs.Prelude.{◌≡◌, ◌≢◌, ℕ, List, [], ◌∷◌, ◌++◌, All}
use Rattle.apl_arrays.specs.Glyph.{period}

-- what stands between the names of a path
abbrev pub slash : ℕ
slash = 47

-- a name in a folder
abbrev pub beside : List ℕ → List ℕ → List ℕ
beside folder name = folder ++ slash ∷ name

-- something stands in front, and it is no dot
abbrev pub ShowsItself : List ℕ → Type 0
ShowsItself [] = ⊥
ShowsItself (first ∷ rest) = first ≢ period

-- the text names something of the folder that it stands in, and nothing hidden
pub record StaysInside (text : List ℕ) : Type 0 where
  pub shown : ShowsItself text
  pub one_name : All (λ byte. byte ≢ slash) text
