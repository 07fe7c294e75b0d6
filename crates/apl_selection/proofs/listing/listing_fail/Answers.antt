use Rattle.std.proofs.Common.{◌≡◌, ◌∙◌, ℕ, List, IsOk, refl, is_some, ap, sym}
use Rattle.apl_arrays.specs.Shape.{shape_fault}
use Rattle.apl_selection.specs.Listing.{listed, listed_of, listed_shape, vector_shape}
use Rattle.apl_selection.proofs.FaultLemmas.{answer_fits, answer_too_large}
use Rattle.apl_selection.proofs.ListingLemmas.{listing_shape}
use Rattle.apl_selection.proofs.WantLemmas.{array_is_ok}
use Rattle.apl_selection.proofs.listing.listing_fail.Goals as goal

pub returns-then-is_some : goal.returns-then-is_some
returns-then-is_some c faults list none many =
    let b = c.args.b.now in
    let axis = c.args.axis in
    let shape : c.as_slice.result.now ≡ listed_shape (vector_shape b.shape) axis list =
    listing_shape b axis c.args.count c.vector_shape.result.now c.as_slice.result.now list (c.vector_shape.ensures ∙ ap vector_shape c.shape.ensures.value) (c.as_slice.ensures.value ∙ c.with_axis-axes.ensures) many in
    answer_too_large faults (listed (vector_shape b.shape) b.items axis list) (is_some (shape_fault (listed_shape (vector_shape b.shape) axis list))) none
    (ap (λ (xs : List ℕ). is_some (shape_fault xs)) (sym shape) ∙ ap is_some (sym c.shape_fault.ensures) ∙ sym c.is_some.ensures ∙ c.if-is_some.true)

pub returns-else-is_some : goal.returns-else-is_some
returns-else-is_some c faults list none many =
    let b = c.args.b.now in
    let axis = c.args.axis in
    let shape : c.as_slice.result.now ≡ listed_shape (vector_shape b.shape) axis list =
    listing_shape b axis c.args.count c.vector_shape.result.now c.as_slice.result.now list (c.vector_shape.ensures ∙ ap vector_shape c.shape.ensures.value) (c.as_slice.ensures.value ∙ c.with_axis-axes.ensures) many in
    array_is_ok (listed_of faults b axis list) (listed (vector_shape b.shape) b.items axis list)
    (answer_fits faults (listed (vector_shape b.shape) b.items axis list) (is_some (shape_fault (listed_shape (vector_shape b.shape) axis list))) none
    (ap (λ (xs : List ℕ). is_some (shape_fault xs)) (sym shape) ∙ ap is_some (sym c.shape_fault.ensures) ∙ sym c.is_some.ensures ∙ c.if-is_some.false))
