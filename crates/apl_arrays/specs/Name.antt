use Rattle.std.specs.Prelude.{◌≡◌, ◌-◌, ◌++◌, ◌&&◌, ◌||◌, ◌==◌, ℕ, Bool, false, List, [], ◌∷◌, Option, Some, None, IsTrue, nat_le, length, take_while, if◌then◌else◌}
use Rattle.std.specs.List.{list_all}
use Rattle.std.specs.declared.cmp.Ordering.{Ordering}
use Rattle.std.specs.Ordering.{nat_cmp}
use Rattle.std.specs.Cmp.Lexicographic.{pointwise, slice_cmp}
use Rattle.apl_arrays.specs.Glyph.{is_letter, is_digit, underscore}
use Rattle.apl_arrays.specs.Limits.{most_name_glyphs}
use Rattle.apl_arrays.specs.Run.{begins}

-- what a name goes on with: a letter, a digit, or _
abbrev pub goes_on : ℕ → Bool
goes_on glyph = is_letter glyph || is_digit glyph || glyph == underscore

-- a letter, and then glyphs with which a name goes on, 32 at the most
abbrev pub is_name : List ℕ → Bool
is_name [] = false
is_name (first ∷ rest) = is_letter first && nat_le (length rest) (most_name_glyphs - 1) && list_all goes_on rest

-- these glyphs are a name
abbrev pub IsName : List ℕ → Type 0
IsName glyphs = IsTrue (is_name glyphs)

-- two names are the same
abbrev pub same_name : List ℕ → List ℕ → Bool
same_name = pointwise ◌==◌

-- of two names, of values or of files, the one is first whose code is less where they first differ, or which ends there
abbrev pub name_order : List ℕ → List ℕ → Ordering
name_order = slice_cmp nat_cmp

-- a run of glyphs that is a name, and how many it has
abbrev pub name_of_run : List ℕ → Option (List ℕ × ℕ)
name_of_run run = if is_name run then Some (run, length run) else None

-- the longest name at the front, and how many glyphs it has: all that go on as a name does, where they are one
abbrev pub longest_name : List ℕ → Option (List ℕ × ℕ)
longest_name line = name_of_run (take_while goes_on line)

-- a name stands at the front, and what follows it does not go on as a name does
pub record IsLongestName (line name rest : List ℕ) : Type 0 where
  pub whole : line ≡ name ++ rest
  pub is_name : IsName name
  pub ends : begins goes_on rest ≡ false
