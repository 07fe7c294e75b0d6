use Rattle.std.proofs.Common.{◌≡◌, ◌<◌, ℕ, List, get_or, length, sym, ap, subst, ◌∙◌, rules, arith}
use Rattle.apl_arrays.specs.Array.{element_count, item_count, plain_items, seen_items}
use Rattle.apl_items.specs.Shapes.{stride_of}
use Rattle.apl_selection.proofs.PickLemmas.{axes_small}
use Rattle.apl_structure.proofs.OppositeLemmas.{count_transposed, fits_transposed, nothing_transposed, transposed_is, transposed_same, transposed_within}
use Rattle.apl_selection.proofs.MoveLemmas.{count_of_made, made_is}
use Rattle.apl_structure.proofs.transposition.transposed.Goals as goal

pub shaped-requires-clause-fits : goal.shaped-requires-clause-fits
shaped-requires-clause-fits c = fits_transposed c.args.b.now c.args.shape.now c.items.ensures.array c.requires

pub shaped-requires-clause-whole : goal.shaped-requires-clause-whole
shaped-requires-clause-whole c =
    count_transposed c.args.b.now c.args.shape.now c.items.ensures.array c.requires ∙ sym (ap item_count (c.in_ok-copy.ensures.items ∙ c.items-then-is_empty.ensures.value))

pub returns-then-is_empty : goal.returns-then-is_empty
returns-then-is_empty c =
    let zero : item_count (seen_items c.items.result) ≡ 0 = first_of (search rules, grind (arith, c.if-is_empty.ensures)) in
    let made = c.in_ok-copy.ensures.items ∙ c.items-then-is_empty.ensures.value in
    made_is c.shaped.result _ _
    (nothing_transposed c.args.b.now c.args.shape.now (plain_items c.in_ok-copy.field-0) c.items.ensures.array c.requires (ap item_count (sym c.items.ensures.value) ∙ zero) made)
    c.shaped.ensures.array

pub moved_by_axes-requires-clause-fits : goal.moved_by_axes-requires-clause-fits
moved_by_axes-requires-clause-fits c = fits_transposed c.args.b.now c.args.shape.now c.items.ensures.array c.requires

pub moved_by_axes-requires-clause-lengths : goal.moved_by_axes-requires-clause-lengths
moved_by_axes-requires-clause-lengths c = λ k h. axes_small c.args.shape.now (fits_transposed c.args.b.now c.args.shape.now c.items.ensures.array c.requires) k h

pub moved_by_axes-requires-clause-within : goal.moved_by_axes-requires-clause-within
moved_by_axes-requires-clause-within c = λ place at below is.
    let value = c.shape-2.ensures.value in
    let whole = ap (λ (xs : List ℕ). length xs) c.as_slice.ensures.value ∙ c.in_ok-strides.ensures.whole ∙ ap (λ (xs : List ℕ). length xs) value in
    let same = transposed_same c.args.b.now c.args.shape.now c.as_slice.result.now c.requires whole
    (λ axis h. ap (λ (xs : List ℕ). get_or xs axis 0) c.as_slice.ensures.value ∙ c.in_ok-strides.ensures.each axis (subst (λ (xs : List ℕ). axis < length xs) (sym value) h)
    ∙ ap (λ (xs : List ℕ). stride_of xs axis) value) place below in
    let low = transposed_within c.args.b.now c.args.shape.now c.items.ensures.array c.requires place at below (sym same ∙ is) in
    omega (arith, low, ap item_count c.items-2.ensures.value)

pub shaped-requires-2-clause-fits : goal.shaped-requires-2-clause-fits
shaped-requires-2-clause-fits c = fits_transposed c.args.b.now c.args.shape.now c.items.ensures.array c.requires

pub shaped-requires-2-clause-whole : goal.shaped-requires-2-clause-whole
shaped-requires-2-clause-whole c = count_of_made (plain_items c.in_ok-moved_by_axes.field-0) (seen_items c.items-2.result) (element_count c.args.shape.now) _ c.in_ok-moved_by_axes.ensures

pub returns : goal.returns
returns c =
    let value = c.shape-2.ensures.value in
    let whole = ap (λ (xs : List ℕ). length xs) c.as_slice.ensures.value ∙ c.in_ok-strides.ensures.whole ∙ ap (λ (xs : List ℕ). length xs) value in
    made_is c.shaped-2.result _ _
    (transposed_is c.args.b.now c.args.shape.now c.as_slice.result.now (seen_items c.items-2.result) (plain_items c.in_ok-moved_by_axes.field-0) c.requires whole
    (λ axis h. ap (λ (xs : List ℕ). get_or xs axis 0) c.as_slice.ensures.value ∙ c.in_ok-strides.ensures.each axis (subst (λ (xs : List ℕ). axis < length xs) (sym value) h)
    ∙ ap (λ (xs : List ℕ). stride_of xs axis) value) c.items-2.ensures.value c.in_ok-moved_by_axes.ensures)
    c.shaped-2.ensures.array
