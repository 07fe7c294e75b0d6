use Rattle.apl_arrays.specs.Array.{element_count, plain_items, seen_items}
use Rattle.apl_selection.proofs.MoveLemmas.{count_of_made, whole_source}
use Rattle.apl_structure.proofs.moves.moved_on.Goals as goal

pub moved_along-requires-clause-whole : goal.moved_along-requires-clause-whole
moved_along-requires-clause-whole g c =
    whole_source c.args.b.now c.shape-shape.result.now (seen_items c.items.result) c.args.axis (g.R.Along.length c.args.rule.now)
    c.shape-shape.ensures.value c.items.ensures.value c.shape-shape.ensures.array c.requires.axis c.requires.long

pub shaped-requires-clause-whole : goal.shaped-requires-clause-whole
shaped-requires-clause-whole g c =
    count_of_made (plain_items c.in_ok-items.items) (seen_items c.items.result) (element_count c.shape-shape.result.now) _ c.in_ok-items.ensures
