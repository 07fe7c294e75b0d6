use Rattle.std.proofs.Common.{◌≡◌, ◌*◌, ℕ, min, None, List, option_map, get_or, sym, ap, ◌∙◌, arith}
use Rattle.std.proofs.lemmas.Result.{IfOk-weaker}
use Rattle.apl_arrays.specs.Array.{element_count, plain_items, seen_items}
use Rattle.apl_items.specs.Axes.{source_by_axes}
use Rattle.apl_items.specs.Moves.{moved_items}
use Rattle.apl_selection.specs.Picks.{strided}
use Rattle.apl_selection.proofs.PickLemmas.{picked_nowhere, picked_same, picked_within}
use Rattle.apl_selection.proofs.MoveLemmas.{same_moved}
use Rattle.apl_selection.proofs.picks.picked_items.Goals as goal

pub returns-then-is_empty : goal.returns-then-is_empty
returns-then-is_empty g c =
    let items = seen_items c.args.items in
    let shape = c.args.shape.now in
    let source = source_by_axes shape (strided c.args.source.now (g.P.Picks.from c.args.picks.now)) in
    let none : element_count c.args.source.now ≡ 0 = omega arith in
    IfOk-weaker c.filled.result (λ made. plain_items made ≡ moved_items items c.count_of_elements.result (λ _. None)) (λ made. plain_items made ≡ moved_items items (element_count shape) source)
    (λ made is. is ∙ ap (λ (n : ℕ). moved_items items n (λ _. None)) c.count_of_elements.ensures
    ∙ same_moved items (element_count shape) (λ _. None) source
    (λ place below. sym (picked_nowhere c.args.source.now shape (g.P.Picks.from c.args.picks.now) c.requires.rank c.requires.inside none place below)))
    c.filled.ensures

pub moved_by_axes-requires-clause-within : goal.moved_by_axes-requires-clause-within
moved_by_axes-requires-clause-within g c = λ place at below is.
    let from = g.P.Picks.from c.args.picks.now in
    let strides = c.as_slice.result.now in
    let same = picked_same c.args.source.now c.args.shape.now strides from c.requires.source c.requires.rank c.requires.inside
    (λ axis h. ap (λ (xs : List ℕ). get_or xs axis 0) c.as_slice.ensures.value ∙ c.in_ok-strides.ensures.each axis h) place below in
    let low = picked_within c.args.source.now c.args.shape.now from c.requires.rank c.requires.inside place at below (sym same ∙ is) in
    omega (arith, low, c.requires.whole)

pub returns : goal.returns
returns g c =
    let items = seen_items c.args.items in
    let shape = c.args.shape.now in
    let from = g.P.Picks.from c.args.picks.now in
    let strides = c.as_slice.result.now in
    let listed = source_by_axes shape (λ axis along. option_map (λ at. min at 65535 * get_or strides axis 0) (from axis along)) in
    let source = source_by_axes shape (strided c.args.source.now from) in
    let same = same_moved items (element_count shape) listed source
    (picked_same c.args.source.now shape strides from c.requires.source c.requires.rank c.requires.inside
    (λ axis h. ap (λ (xs : List ℕ). get_or xs axis 0) c.as_slice.ensures.value ∙ c.in_ok-strides.ensures.each axis h)) in
    IfOk-weaker c.moved_by_axes.result (λ made. plain_items made ≡ moved_items items (element_count shape) listed) (λ made. plain_items made ≡ moved_items items (element_count shape) source)
    (λ made is. is ∙ same) c.moved_by_axes.ensures
