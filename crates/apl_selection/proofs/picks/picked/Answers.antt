use Rattle.apl_arrays.specs.Array.{element_count, plain_items, seen_items}
use Rattle.apl_selection.proofs.MoveLemmas.{count_of_made}
use Rattle.apl_selection.proofs.picks.picked.Goals as goal

pub shaped-requires-clause-whole : goal.shaped-requires-clause-whole
shaped-requires-clause-whole g c =
    count_of_made (plain_items c.in_ok-made.made) (seen_items c.args.items) (element_count c.args.shape.now) _ c.in_ok-made.ensures
