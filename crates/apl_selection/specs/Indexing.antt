use Rattle.std.specs.Prelude.{◌||◌, ℕ, List, Option, length, nat_lt, slice_get, is_some}
use Rattle.apl_arrays.specs.Array.{PlainArray}
use Rattle.apl_arrays.specs.Limits.{most_axes}
use Rattle.apl_arrays.specs.Shape.{shape_fault}
use Rattle.apl_items.specs.Answers.{ArrayResult, Faults, answer_of}
use Rattle.apl_items.specs.Axes.{source_by_axes}
use Rattle.apl_items.specs.Moves.{moved}
use Rattle.apl_selection.specs.Picks.{strided}
use Rattle.apl_selection.specs.Subscripts.{is_miscounted, named_counts, named_on, selection_shape, subscript_faults}

-- what is wrong with B[I;J]: the subscripts, or a selection that is no array
abbrev pub index_faults : PlainArray → List (Option PlainArray) → Faults
index_faults b subs =
    let shape = selection_shape b.shape subs in record (subscript_faults b.shape subs) {
      bad_rank = is_miscounted b.shape subs || nat_lt most_axes (length shape);
      too_large = is_some (shape_fault shape);
    }

-- the place of B that a place of the selection names: along each axis the one that its subscript names there
abbrev pub named_place : List ℕ → List (Option PlainArray) → ℕ → Option ℕ
named_place shape subs = source_by_axes (named_counts shape subs) (strided shape (λ axis along. slice_get (named_on shape subs axis) along))

-- the items of B at the places that are named
abbrev pub indexed : PlainArray → List (Option PlainArray) → PlainArray
indexed b subs = moved (selection_shape b.shape subs) b.items (named_place b.shape subs)

-- B[I;J]
abbrev pub selection_of : PlainArray → List (Option PlainArray) → ArrayResult
selection_of b subs = answer_of (index_faults b subs) (indexed b subs)
