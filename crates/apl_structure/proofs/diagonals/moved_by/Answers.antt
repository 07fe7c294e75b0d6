use Rattle.std.proofs.Common.{◌≡◌, ◌<◌, ◌-◌, unsigned_abs, ℕ, List, length, get_or, subst, sym, ap, ◌∙◌, arith}
use Rattle.apl_arrays.specs.Array.{element_count, item_count, plain_items, seen_items}
use Rattle.apl_items.specs.Shapes.{stride_of}
use Rattle.apl_structure.specs.Diagonals.{axes_named}
use Rattle.std.proofs.lemmas.List.{length-map}
use Rattle.apl_selection.proofs.PickLemmas.{axes_small}
use Rattle.apl_structure.proofs.DiagonalLemmas.{diagonal_is, diagonal_within, nothing_is, steps_same}
use Rattle.apl_selection.proofs.MoveLemmas.{count_of_made, made_is}
use Rattle.apl_structure.proofs.diagonals.moved_by.Goals as goal

pub shaped-requires-clause-whole : goal.shaped-requires-clause-whole
shaped-requires-clause-whole c = sym c.count_of_elements.ensures ∙ count_of_made (plain_items c.in_ok-none.none) (seen_items c.items-items.result) c.count_of_elements.result _ c.in_ok-none.ensures

pub shaped-requires-2-clause-whole : goal.shaped-requires-2-clause-whole
shaped-requires-2-clause-whole c = count_of_made (plain_items c.in_ok-moved_by_axes.field-0) (seen_items c.items-items.result) (element_count c.args.shape.now) _ c.in_ok-moved_by_axes.ensures

pub moved_by_axes-requires-clause-lengths : goal.moved_by_axes-requires-clause-lengths
moved_by_axes-requires-clause-lengths c = λ k h. axes_small c.args.shape.now c.requires.fits k h

pub returns-then-count-eq0 : goal.returns-then-count-eq0
returns-then-count-eq0 c =
    let none : item_count (seen_items c.items-items.result) ≡ 0 = omega arith in
    made_is c.shaped.result _ _
    (nothing_is (axes_named c.args.numbers.now) c.args.b.now c.args.shape.now (seen_items c.items-items.result) (plain_items c.in_ok-none.none) c.count_of_elements.result c.requires.shape none
    c.items-items.ensures.value c.count_of_elements.ensures c.in_ok-none.ensures)
    c.shaped.ensures.array

pub moved_by_axes-requires-clause-within : goal.moved_by_axes-requires-clause-within
moved_by_axes-requires-clause-within c = λ place at below is.
    let b = c.args.b.now in
    let axes = axes_named c.args.numbers.now in
    let value = c.shape.ensures.value in
    let array = c.items-items.ensures.array in
    let counted = ap item_count c.items-items.ensures.value in
    let many : length axes ≡ length b.shape = length-map c.args.numbers.now (λ number. unsigned_abs number - 1) ∙ c.requires.rank in
    let whole : length c.as_slice.result.now ≡ length b.shape = ap (λ (xs : List ℕ). length xs) c.as_slice.ensures.value ∙ c.in_ok-strides.ensures.whole ∙ ap (λ (xs : List ℕ). length xs) value in
    let some : 0 < element_count b.shape = omega (arith, array.whole, counted) in
    let same = steps_same axes b.shape c.args.shape.now c.as_slice.result.now c.as_slice-2.result.now many array.fits some whole
    (λ k h. ap (λ (xs : List ℕ). get_or xs k 0) c.as_slice.ensures.value ∙ c.in_ok-strides.ensures.each k (subst (λ (xs : List ℕ). k < length xs) (sym value) h) ∙ ap (λ (xs : List ℕ). stride_of xs k) value)
    (c.as_slice-2.ensures.value ∙ c.in_ok-steps.ensures) place below in
    let low = diagonal_within axes b.shape c.args.shape.now place at c.requires.shape many below (sym same ∙ is) in
    omega (arith, low, array.whole, counted)

pub returns : goal.returns
returns c =
    let b = c.args.b.now in
    let axes = axes_named c.args.numbers.now in
    let value = c.shape.ensures.value in
    let array = c.items-items.ensures.array in
    let counted = ap item_count c.items-items.ensures.value in
    let many : length axes ≡ length b.shape = length-map c.args.numbers.now (λ number. unsigned_abs number - 1) ∙ c.requires.rank in
    let whole : length c.as_slice.result.now ≡ length b.shape = ap (λ (xs : List ℕ). length xs) c.as_slice.ensures.value ∙ c.in_ok-strides.ensures.whole ∙ ap (λ (xs : List ℕ). length xs) value in
    let some : 0 < element_count b.shape = omega (arith, array.whole, counted) in
    made_is c.shaped-2.result _ _
    (diagonal_is axes b c.args.shape.now c.as_slice.result.now c.as_slice-2.result.now (seen_items c.items-items.result) (plain_items c.in_ok-moved_by_axes.field-0) c.requires.shape many array some whole
    (λ k h. ap (λ (xs : List ℕ). get_or xs k 0) c.as_slice.ensures.value ∙ c.in_ok-strides.ensures.each k (subst (λ (xs : List ℕ). k < length xs) (sym value) h) ∙ ap (λ (xs : List ℕ). stride_of xs k) value)
    (c.as_slice-2.ensures.value ∙ c.in_ok-steps.ensures) c.items-items.ensures.value c.in_ok-moved_by_axes.ensures)
    c.shaped-2.ensures.array
