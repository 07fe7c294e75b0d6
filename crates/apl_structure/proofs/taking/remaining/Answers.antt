use Rattle.std.proofs.Common.{◌≡◌, ℕ, Option, pos, slice_index, slice_index_or, subst, sym, ap, ◌∙◌}
use Rattle.std.proofs.lemmas.Result.{IfOk-weaker}
use Rattle.apl_arrays.specs.Array.{FitsLimits, element_count, item_count, seen_items}
use Rattle.apl_selection.specs.Picks.{picked}
use Rattle.apl_structure.specs.Taking.{remaining, remaining_from}
use Rattle.apl_structure.proofs.TakeLemmas.{left_fits, left_is, source_fits, source_of}
use Rattle.apl_structure.proofs.taking.remaining.Goals as goal

pub remaining_items-requires-clause-fits : goal.remaining_items-requires-clause-fits
remaining_items-requires-clause-fits c =
    let source_is = source_of c.args.a.now c.args.b.now c.len.result c.as_slice-source.result.now (c.len.ensures ∙ ap item_count c.items.ensures.value) (c.as_slice-source.ensures.value ∙ c.in_ok-axes.ensures) in
    let parts = source_fits c.args.a.now c.args.b.now c.items-2.ensures.array c.requires in
    (left_fits c.as_slice-source.result.now c.numbers-numbers.result.now c.as_slice-shape.result.now (subst FitsLimits (sym source_is) parts.0) (c.as_slice-shape.ensures.value ∙ c.in_ok-lengths.ensures)).0

pub remaining_items-requires-clause-source : goal.remaining_items-requires-clause-source
remaining_items-requires-clause-source c =
    let source_is = source_of c.args.a.now c.args.b.now c.len.result c.as_slice-source.result.now (c.len.ensures ∙ ap item_count c.items.ensures.value) (c.as_slice-source.ensures.value ∙ c.in_ok-axes.ensures) in
    subst FitsLimits (sym source_is) (source_fits c.args.a.now c.args.b.now c.items-2.ensures.array c.requires).0

pub remaining_items-requires-clause-whole : goal.remaining_items-requires-clause-whole
remaining_items-requires-clause-whole c =
    let source_is = source_of c.args.a.now c.args.b.now c.len.result c.as_slice-source.result.now (c.len.ensures ∙ ap item_count c.items.ensures.value) (c.as_slice-source.ensures.value ∙ c.in_ok-axes.ensures) in
    ap element_count source_is ∙ (source_fits c.args.a.now c.args.b.now c.items-2.ensures.array c.requires).1 ∙ sym (ap item_count c.items-2.ensures.value)

pub remaining_items-requires-clause-rank : goal.remaining_items-requires-clause-rank
remaining_items-requires-clause-rank c =
    let source_is = source_of c.args.a.now c.args.b.now c.len.result c.as_slice-source.result.now (c.len.ensures ∙ ap item_count c.items.ensures.value) (c.as_slice-source.ensures.value ∙ c.in_ok-axes.ensures) in
    let parts = source_fits c.args.a.now c.args.b.now c.items-2.ensures.array c.requires in
    (left_fits c.as_slice-source.result.now c.numbers-numbers.result.now c.as_slice-shape.result.now (subst FitsLimits (sym source_is) parts.0) (c.as_slice-shape.ensures.value ∙ c.in_ok-lengths.ensures)).1

pub remaining_items-requires-clause-shape : goal.remaining_items-requires-clause-shape
remaining_items-requires-clause-shape c = c.as_slice-shape.ensures.value ∙ c.in_ok-lengths.ensures

pub returns : goal.returns
returns c =
    let source = c.as_slice-source.result.now in
    let numbers = c.numbers-numbers.result.now in
    let shape = c.as_slice-shape.result.now in
    let items = seen_items c.items-2.result in
    let source_is = source_of c.args.a.now c.args.b.now c.len.result source (c.len.ensures ∙ ap item_count c.items.ensures.value) (c.as_slice-source.ensures.value ∙ c.in_ok-axes.ensures) in
    let from : ℕ → ℕ → Option ℕ = λ axis along. remaining_from (slice_index_or numbers axis (pos 0)) (slice_index source axis) along in
    IfOk-weaker c.remaining_items.result (λ array. array ≡ picked shape source items from) (λ array. array ≡ remaining c.args.a.now c.args.b.now)
    (λ array is. is ∙ left_is c.args.a.now c.args.b.now numbers source shape items c.numbers-numbers.ensures source_is (c.as_slice-shape.ensures.value ∙ c.in_ok-lengths.ensures) c.items-2.ensures.value)
    c.remaining_items.ensures
