-- A join on which nothing is reported.
use Rattle.std.proofs.Common.{◌≡◌, ℕ, ℤ, ◌+◌, true, false, List, Option, Some, None, Ok, Err, is_some, length, sym, ap, ◌∙◌}
use Rattle.std.proofs.lemmas.List.{length-set}
use Rattle.apl_arrays.specs.declared.report.Report.TheVariants.{WsFull}
use Rattle.apl_arrays.specs.Array.{PlainArray, PlainItems, element_count, item_count}
use Rattle.apl_arrays.specs.Shape.{shape_fault}
use Rattle.apl_items.specs.Answers.{first_report}
use Rattle.apl_items.specs.Shapes.{split_at}
use Rattle.apl_selection.specs.Catenation.{both_items, catenate_faults, catenate_of, greater_shape, catenated, catenated_axis, catenated_place, catenated_rank, catenated_shape, span_of}
use Rattle.apl_selection.specs.Listing.{vector_shape}
use Rattle.apl_selection.proofs.FaultLemmas.{answer_fits, answer_too_large}
use Rattle.apl_selection.proofs.MoveLemmas.{array_of, count_of_made}
use Rattle.apl_selection.proofs.JoinShapeLemmas.{rank_of_greater}

-- its rank
pub rank_of_join : (a b : PlainArray) (axis : ℕ) (shape : List ℕ) → shape ≡ catenated_shape a b axis → length shape ≡ catenated_rank a b
rank_of_join a b axis shape is =
    ap (λ (xs : List ℕ). length xs) is ∙ length-set (vector_shape (greater_shape a.shape b.shape)) axis (span_of a.shape (catenated_rank a b) axis + span_of b.shape (catenated_rank a b) axis) ∙ rank_of_greater a b

-- as many items as its shape asks for
pub count_of_join : (a b : PlainArray) (axis : ℕ) (shape : List ℕ) (made : PlainItems) → shape ≡ catenated_shape a b axis → made ≡ (catenated a b axis).items → element_count shape ≡ item_count made
count_of_join a b axis shape made s is =
    ap element_count s
    ∙ count_of_made made (both_items a.items b.items) (element_count (catenated_shape a b axis))
    (λ place. Some (catenated_place (split_at (catenated_shape a b axis) axis) (item_count a.items) (item_count b.items) (span_of a.shape (catenated_rank a b) axis) (span_of b.shape (catenated_rank a b) axis) place)) is

-- it is too large
pub join_too_large : (a b : PlainArray) (name : Option ℤ) (axis : ℕ) (shape : List ℕ) → None ≡ first_report (catenate_faults a b name) → axis ≡ catenated_axis a b name → shape ≡ catenated_shape a b axis
    → is_some (shape_fault shape) ≡ true → catenate_of a b name ≡ Err WsFull
join_too_large a b name axis shape none is s large =
    let whole : shape ≡ catenated_shape a b (catenated_axis a b name) = s ∙ ap (catenated_shape a b) is in
    answer_too_large (catenate_faults a b name) (catenated a b (catenated_axis a b name)) (is_some (shape_fault (catenated_shape a b (catenated_axis a b name)))) none
    (ap (λ (xs : List ℕ). is_some (shape_fault xs)) (sym whole) ∙ large)

-- or it is not, and is the answer
pub join_fits : (a b : PlainArray) (name : Option ℤ) (axis : ℕ) (shape : List ℕ) (array : PlainArray) → None ≡ first_report (catenate_faults a b name) → axis ≡ catenated_axis a b name
    → shape ≡ catenated_shape a b axis → is_some (shape_fault shape) ≡ false → array ≡ array_of shape (catenated a b axis).items → catenate_of a b name ≡ Ok array
join_fits a b name axis shape array none is s small same =
    let whole : shape ≡ catenated_shape a b (catenated_axis a b name) = s ∙ ap (catenated_shape a b) is in
    answer_fits (catenate_faults a b name) (catenated a b (catenated_axis a b name)) (is_some (shape_fault (catenated_shape a b (catenated_axis a b name)))) none
    (ap (λ (xs : List ℕ). is_some (shape_fault xs)) (sym whole) ∙ small)
    ∙ ap (λ (x : PlainArray). Ok x) (sym (same ∙ ap (λ (xs : List ℕ). array_of xs (catenated a b axis).items) s ∙ ap (catenated a b) is))
