use Rattle.std.proofs.Common.{◌≡◌, ◌<◌, ◌≤◌, ℕ, List, get_or, length, ap, ◌∙◌, arith}
use Rattle.apl_meaning.specs.Queries.{longest}
use Rattle.apl_answers.proofs.Listing.{within_longest}
use Rattle.apl_answers.proofs.lists.filled_names.Goals as goal

pub overflow_sub-width : goal.overflow_sub-width
overflow_sub-width c =
    let lt : c.loop-name.name-index < length c.args.names.now = omega arith in
    let few : length (get_or c.args.names.now c.loop-name.name-index c.name-item.result) ≤ longest c.args.names.now = within_longest c.args.names.now c.loop-name.name-index c.name-item.result lt in
    let own : length c.glyphs-in-loop-name-2.result.now ≡ length (get_or c.args.names.now c.loop-name.name-index c.name-item.result) = ap (λ (name : List ℕ). length name) (c.glyphs-in-loop-name-2.ensures.value ∙ c.name-item.is) in
    omega (arith, few, own, c.requires)
