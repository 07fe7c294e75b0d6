-- Rows of names: what the right argument of a shared variable function says, and what is wrong with it.
use Rattle.std.specs.Prelude.{◌*◌, ◌||◌, ◌&&◌, ◌==◌, ℕ, Bool, not, List, [], ◌∷◌, Option, Some, None, drop, is_none, is_some, length, map, nat_lt, slice_index_or, take, if◌then◌else◌}
use Rattle.std.specs.List.{filter_map, list_any}
use Rattle.apl_arrays.specs.Array.{PlainArray, chars_in, is_chars}
use Rattle.apl_arrays.specs.Name.{is_name}
use Rattle.apl_arrays.specs.Shape.{shape_fault}
use Rattle.apl_arrays.specs.Word.{next_word}
use Rattle.apl_items.specs.Answers.{Faults, no_faults}
use Rattle.apl_items.specs.Places.{places}

-- the names of a row: a local one, and the surrogate
pub record Naming : Type 0 where
  pub local : List ℕ
  pub surrogate : List ℕ

-- two words, where both are names
abbrev pub naming_of : List ℕ → List ℕ → Option Naming
naming_of local surrogate = if is_name local && is_name surrogate then Some (record { local = local; surrogate = surrogate }) else None

-- a word and what follows it: nothing, and then it is the surrogate too; or one more word, and then nothing
abbrev pub naming_behind : List ℕ → Option (List ℕ × List ℕ) → Option Naming
naming_behind local None = naming_of local local
naming_behind local (Some second) = if is_none (next_word second.1) then naming_of local second.0 else None

-- the first word and what follows it
abbrev pub naming_from : Option (List ℕ × List ℕ) → Option Naming
naming_from None = None
naming_from (Some first) = naming_behind first.0 (next_word first.1)

-- the one or two names that a row holds
abbrev pub naming_in : List ℕ → Option Naming
naming_in row = naming_from (next_word row)

-- it is a matrix, so that each row has its own result
abbrev pub has_rows : PlainArray → Bool
has_rows n = length n.shape == 2

-- how many rows it has; a scalar or a vector is one row
abbrev pub naming_count : PlainArray → ℕ
naming_count n = if has_rows n then slice_index_or n.shape 0 0 else 1

-- the characters of a row of a matrix
abbrev pub row_at : List ℕ → ℕ → ℕ → List ℕ
row_at glyphs columns row = take columns (drop (row * columns) glyphs)

-- the rows, first to last
abbrev pub rows_of : PlainArray → List (List ℕ)
rows_of n = if has_rows n then map (row_at (chars_in n.items) (slice_index_or n.shape 1 0)) (places (naming_count n)) else chars_in n.items ∷ []

-- the names of all rows that hold names
abbrev pub namings_of : PlainArray → List Naming
namings_of n = filter_map naming_in (rows_of n)

-- the shape of the result of all rows, where a row's has this one
abbrev pub result_shape : PlainArray → List ℕ → List ℕ
result_shape n each = if has_rows n then naming_count n ∷ each else each

-- what is wrong with rows of names, where the result of a row has this shape: more than two axes; numbers, or a row that does not hold one or two names; or a result that would be too large
abbrev pub naming_faults : PlainArray → List ℕ → Faults
naming_faults n each = record no_faults {
  bad_rank = nat_lt 2 (length n.shape);
  bad_domain = not (is_chars n.items) || list_any (λ row. is_none (naming_in row)) (rows_of n);
  too_large = is_some (shape_fault (result_shape n each));
}
