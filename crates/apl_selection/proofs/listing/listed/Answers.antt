use Rattle.std.proofs.Common.{ap, sym, ◌∙◌}
use Rattle.apl_arrays.specs.Array.{element_count, plain_items, item_count, seen_items}
use Rattle.apl_selection.proofs.ListingLemmas.{listed_is, vector_count, whole_relength}
use Rattle.apl_selection.proofs.MoveLemmas.{count_of_made, made_is}
use Rattle.apl_selection.proofs.listing.listed.Goals as goal

pub moved_along-requires-clause-whole : goal.moved_along-requires-clause-whole
moved_along-requires-clause-whole c =
    whole_relength c.args.source.now c.args.shape.now c.args.axis _ c.length_of.result (item_count (seen_items c.items.result)) c.requires.shape c.requires.axis c.length_of.ensures
    (ap element_count c.requires.source ∙ vector_count c.args.b.now c.items.ensures.array ∙ ap item_count (sym c.items.ensures.value))

pub shaped-requires-clause-whole : goal.shaped-requires-clause-whole
shaped-requires-clause-whole c = count_of_made (plain_items c.in_ok-items.items) (seen_items c.items.result) (element_count c.args.shape.now) _ c.in_ok-items.ensures

pub returns : goal.returns
returns c =
    made_is c.shaped.result _ _
    (listed_is c.args.b.now c.args.source.now c.args.shape.now c.args.axis c.length_of.result c.args.list.now (seen_items c.items.result) (plain_items c.in_ok-items.items)
    c.requires.shape c.length_of.ensures c.items.ensures.value c.requires.inside c.in_ok-items.ensures)
    c.shaped.ensures.array
