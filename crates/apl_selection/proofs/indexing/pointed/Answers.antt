use Rattle.std.proofs.Common.{ap, ◌∙◌}
use Rattle.apl_arrays.specs.Array.{numbers_in, plain_items, seen_items}
use Rattle.apl_selection.proofs.PointLemmas.{pointed_is, pointed_whole, pointed_within}
use Rattle.apl_selection.proofs.MoveLemmas.{made_is}
use Rattle.apl_selection.proofs.indexing.pointed.Goals as goal

pub moved-requires-clause-within : goal.moved-requires-clause-within
moved-requires-clause-within c =
    pointed_within c.args.b.now c.args.sub.now c.args.shape.now (seen_items c.items-2.result) c.numbers-numbers.result.now c.requires.fine c.items-2.ensures.array c.requires.shape c.items-2.ensures.value
    (c.numbers-numbers.ensures ∙ ap numbers_in c.items.ensures.value)

pub shaped-requires-clause-whole : goal.shaped-requires-clause-whole
shaped-requires-clause-whole c =
    pointed_whole c.args.b.now c.args.sub.now c.args.shape.now (seen_items c.items-2.result) (plain_items c.in_ok-items.items) c.numbers-numbers.result.now c.requires.fine c.items.ensures.array c.requires.shape
    (c.numbers-numbers.ensures ∙ ap numbers_in c.items.ensures.value) c.in_ok-items.ensures

pub returns : goal.returns
returns c =
    made_is c.shaped.result _ _
    (pointed_is c.args.b.now c.args.sub.now c.args.shape.now (seen_items c.items-2.result) (plain_items c.in_ok-items.items) c.numbers-numbers.result.now c.requires.fine c.items.ensures.array c.requires.shape c.items-2.ensures.value
    (c.numbers-numbers.ensures ∙ ap numbers_in c.items.ensures.value) c.in_ok-items.ensures)
    c.shaped.ensures.array
