use Rattle.std.proofs.Common.{ℕ, List, length, ap, subst, sym, ◌∙◌, arith, map}
use Rattle.std.specs.Prelude.{option_copied}
use Rattle.apl_arrays.specs.Array.{FitsLimits, element_count, plain_items, seen_items}
use Rattle.apl_selection.specs.Subscripts.{named_counts, point_outside, selection_shape}
use Rattle.apl_selection.proofs.IndexLemmas.{counts_fit, counts_length, index_is_right, indexed_is, picks_named}
use Rattle.apl_selection.proofs.MoveLemmas.{count_of_made, made_is}
use Rattle.apl_selection.proofs.indexing.indexed_by_axes.Goals as goal

pub picked_items-requires-clause-fits : goal.picked_items-requires-clause-fits
picked_items-requires-clause-fits c =
    let right = index_is_right c.args.b.now (map option_copied c.args.subs.now) c.args.shape.now c.requires.fine c.requires.shape in
    let counts = c.as_slice.ensures.value ∙ c.in_ok-counts.ensures.value in
    let whole = ap element_count c.as_slice.ensures.value ∙ c.in_ok-counts.ensures.whole right.0 in
    counts_fit c.shape.result.now (map option_copied c.args.subs.now) c.as_slice.result.now c.args.shape.now (subst FitsLimits (sym c.shape.ensures.value) c.shape.ensures.array.fits) right.2 (omega arith)
    counts (whole ∙ ap element_count (ap (λ (xs : List ℕ). selection_shape xs (map option_copied c.args.subs.now)) c.shape.ensures.value ∙ sym c.requires.shape))

pub picked_items-requires-clause-rank : goal.picked_items-requires-clause-rank
picked_items-requires-clause-rank c =
    ap (λ (xs : List ℕ). length xs) (c.shape-lengths.ensures.value ∙ sym c.shape.ensures.value)
    ∙ sym (counts_length c.shape.result.now (map option_copied c.args.subs.now) c.as_slice.result.now (c.as_slice.ensures.value ∙ c.in_ok-counts.ensures.value))

pub picked_items-requires-clause-inside : goal.picked_items-requires-clause-inside
picked_items-requires-clause-inside c =
    let right = index_is_right c.args.b.now (map option_copied c.args.subs.now) c.args.shape.now c.requires.fine c.requires.shape in
    picks_named c.shape-lengths.result.now (map option_copied c.args.subs.now) c.as_slice.result.now
    (c.as_slice.ensures.value ∙ c.in_ok-counts.ensures.value ∙ ap (λ (xs : List ℕ). named_counts xs (map option_copied c.args.subs.now)) (c.shape.ensures.value ∙ sym c.shape-lengths.ensures.value))
    (ap (λ (xs : List ℕ). point_outside xs (map option_copied c.args.subs.now)) c.shape-lengths.ensures.value ∙ right.1)

pub shaped-requires-clause-whole : goal.shaped-requires-clause-whole
shaped-requires-clause-whole c =
    let right = index_is_right c.args.b.now (map option_copied c.args.subs.now) c.args.shape.now c.requires.fine c.requires.shape in
    let whole = ap element_count c.as_slice.ensures.value ∙ c.in_ok-counts.ensures.whole right.0
    ∙ ap element_count (ap (λ (xs : List ℕ). selection_shape xs (map option_copied c.args.subs.now)) c.shape.ensures.value ∙ sym c.requires.shape) in
    sym whole ∙ count_of_made (plain_items c.in_ok-items.items) (seen_items c.items.result) (element_count c.as_slice.result.now) _ c.in_ok-items.ensures

pub returns : goal.returns
returns c =
    let right = index_is_right c.args.b.now (map option_copied c.args.subs.now) c.args.shape.now c.requires.fine c.requires.shape in
    let whole = ap element_count c.as_slice.ensures.value ∙ c.in_ok-counts.ensures.whole right.0
    ∙ ap element_count (ap (λ (xs : List ℕ). selection_shape xs (map option_copied c.args.subs.now)) c.shape.ensures.value ∙ sym c.requires.shape) in
    made_is c.shaped.result _ _
    (indexed_is c.args.b.now (map option_copied c.args.subs.now) c.args.shape.now c.shape-lengths.result.now c.as_slice.result.now (seen_items c.items.result) (plain_items c.in_ok-items.items) c.requires.shape
    c.shape-lengths.ensures.value (c.as_slice.ensures.value ∙ c.in_ok-counts.ensures.value ∙ ap (λ (xs : List ℕ). named_counts xs (map option_copied c.args.subs.now)) c.shape.ensures.value) c.items.ensures.value whole
    c.in_ok-items.ensures)
    c.shaped.ensures.array
