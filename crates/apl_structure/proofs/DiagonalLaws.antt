-- Each item of a transpose by axes stands where the axes say.
use Rattle.std.proofs.Common.{◌≡◌, ℕ, List, Option, Some, None, Ok, ap, subst}
use Rattle.apl_arrays.specs.declared.items.Item.{Item}
use Rattle.apl_arrays.specs.declared.report.Report.{Report}
use Rattle.apl_arrays.specs.Array.{PlainArray, IsItemOf, element_count, numbers_in}
use Rattle.apl_items.specs.Answers.{unless}
use Rattle.apl_items.specs.Shapes.{AreWithin, coordinates_of, place_of}
use Rattle.apl_items.proofs.ShapeLemmas.{coordinates_of_place, place_of_below}
use Rattle.apl_selection.proofs.MoveLemmas.{moved_item}
use Rattle.apl_structure.specs.Diagonals.{axes_named, coordinates_by, diagonal_shape, transpose_by_of, transposed_by}

stands : (axes : List ℕ) (b : PlainArray) (at : List ℕ) (item : Item) → AreWithin (diagonal_shape axes b.shape) at → IsItemOf b.items (place_of b.shape (coordinates_by axes at)) item
    → IsItemOf (transposed_by axes b).items (place_of (diagonal_shape axes b.shape) at) item
stands axes b at item within there =
    let shape : List ℕ = diagonal_shape axes b.shape in
    moved_item b.items item (element_count shape) (place_of shape at) (place_of b.shape (coordinates_by axes at)) (λ place. Some (place_of b.shape (coordinates_by axes (coordinates_of shape place))))
    (place_of_below shape at within) (ap (λ (xs : List ℕ). Some (place_of b.shape (coordinates_by axes xs))) (coordinates_of_place shape at within)) there

answer_is : (report : Option Report) (x r : PlainArray) → unless report x ≡ Ok r → x ≡ r
answer_is None x r e = cc
answer_is (Some report) x r e = absurd (cc)

-- at coordinates of the result stands the item of B at the coordinates that the axes say
pub stand_by_axes : (a b r : PlainArray) (at : List ℕ) (item : Item) → transpose_by_of a b ≡ Ok r → AreWithin r.shape at
    → IsItemOf b.items (place_of b.shape (coordinates_by (axes_named (numbers_in a.items)) at)) item → IsItemOf r.items (place_of r.shape at) item
stand_by_axes a b r at item answer within there =
    let same : transposed_by (axes_named (numbers_in a.items)) b ≡ r = answer_is _ (transposed_by (axes_named (numbers_in a.items)) b) r answer in
    subst (λ (x : PlainArray). AreWithin x.shape at → IsItemOf x.items (place_of x.shape at) item) same (λ inside. stands (axes_named (numbers_in a.items)) b at item inside there) within
