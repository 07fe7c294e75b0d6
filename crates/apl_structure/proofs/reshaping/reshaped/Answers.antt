use Rattle.std.proofs.Common.{◌∙◌, sym}
use Rattle.apl_arrays.specs.Array.{plain_items, seen_items}
use Rattle.apl_selection.proofs.MoveLemmas.{count_of_made, made_is}
use Rattle.apl_structure.proofs.ReshapeLemmas.{reshaped_is}
use Rattle.apl_structure.proofs.reshaping.reshaped.Goals as goal

pub shaped-requires-2-clause-whole : goal.shaped-requires-2-clause-whole
shaped-requires-2-clause-whole c =
    sym c.count_of_elements-count.ensures ∙ count_of_made (plain_items c.in_ok-moved.field-0) (seen_items c.items-items.result) c.count_of_elements-count.result _ c.in_ok-moved.ensures

pub returns : goal.returns
returns c =
    made_is c.shaped-2.result _ _
    (reshaped_is c.args.b.now c.args.shape.now (seen_items c.items-items.result) (plain_items c.in_ok-moved.field-0) c.count_of_elements-count.result c.len.result
    c.items-items.ensures.value c.count_of_elements-count.ensures c.len.ensures c.in_ok-moved.ensures)
    c.shaped-2.ensures.array
