use Rattle.std.specs.Prelude.{◌+◌, ◌-◌, ◌*◌, ℕ, max, ℤ, pos, List, [], ◌++◌, length, take, drop, map, fold, replicate, slice_index, slice_index_or}
use Rattle.std.specs.List.{range_with_len, zip}
use Rattle.apl_arrays.specs.Array.{PlainItems, numbers, chars, element_count}
use Rattle.apl_display.specs.declared.matrices.Extent.{Extent}
use Rattle.apl_display.specs.Joined.{with_empty_lines}
use Rattle.apl_arrays.specs.Glyph.{blank}
use Rattle.line_text.specs.Spaced.{spaced}
use Rattle.line_text.specs.Number.{number_text, number_width}

-- the matrices of an array of rank 2 or more: the last axis is the columns, the one before it the rows
abbrev pub extent_of : List ℕ → Extent
extent_of shape = record {
  matrices = element_count (take (length shape - 2) shape);
  rows = slice_index shape (length shape - 2);
  columns = slice_index shape (length shape - 1);
}

-- how many rows all matrices have
abbrev pub row_count : Extent → ℕ
row_count extent = extent.matrices * extent.rows

-- a column is as wide as the widest of its numbers in all rows of all matrices
abbrev pub column_width : List ℤ → ℕ → ℕ → ℕ → ℕ
column_width list columns rows column =
    fold max 0 (map (λ row. number_width (slice_index_or list (row * columns + column) (pos 0))) (range_with_len 0 rows))

-- the widths of all columns
abbrev pub column_widths : List ℤ → ℕ → ℕ → List ℕ
column_widths list columns rows = map (column_width list columns rows) (range_with_len 0 columns)

-- a text at the right of its column
abbrev pub right_aligned : ℕ → List ℕ → List ℕ
right_aligned width text = replicate (width - length text) blank ++ text

-- a number at the right of its column: the column's width, and the number
abbrev pub cell : ℕ × ℤ → List ℕ
cell placed = right_aligned placed.0 (number_text placed.1)

-- numbers, each at the right of its column, with one blank between
abbrev pub aligned : List ℕ → List ℤ → List ℕ
aligned widths list = spaced (map cell (zip widths list))

-- the items of a row
abbrev pub row_of : {A : Type 0} → List A → ℕ → ℕ → List A
row_of items columns row = take columns (drop (row * columns) items)

-- the widths of the columns of numbers; characters stand as they are
abbrev pub widths_of : PlainItems → Extent → List ℕ
widths_of (numbers list) extent = column_widths list extent.columns (row_count extent)
widths_of (chars list) extent = []

-- the line of a row: numbers in their columns, characters as they are
abbrev pub row_line : PlainItems → Extent → ℕ → List ℕ
row_line (numbers list) extent row = aligned (widths_of (numbers list) extent) (row_of list extent.columns row)
row_line (chars list) extent row = row_of list extent.columns row

-- the lines of a matrix
abbrev pub matrix_lines : PlainItems → Extent → ℕ → List (List ℕ)
matrix_lines items extent matrix = map (λ row. row_line items extent (matrix * extent.rows + row)) (range_with_len 0 extent.rows)

-- the lines of all matrices, with one empty line between two
abbrev pub matrices_lines : PlainItems → Extent → List (List ℕ)
matrices_lines items extent = with_empty_lines (map (matrix_lines items extent) (range_with_len 0 extent.matrices))
