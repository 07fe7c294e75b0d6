use Rattle.std.proofs.Common.{pos, ap, ◌∙◌, arith}
use Rattle.std.specs.List.{list_any}
use Rattle.apl_selection.specs.Subscripts.{is_outside}
use Rattle.apl_selection.proofs.AssignLemmas.{named_on_axis, table_long, table_step}
use Rattle.apl_selection.proofs.assignment.last_of_numbers.Goals as goal

pub loop-place-init : goal.loop-place-init
loop-place-init c = c.in_ok-table.ensures

pub index_mut-requires : goal.index_mut-requires
index_mut-requires c =
    let inside = ap (list_any (is_outside c.args.axis)) c.numbers-numbers.ensures ∙ c.requires.inside in
    let low = named_on_axis c.args.axis c.numbers-numbers.result.now c.loop-place.place (pos 0) inside c.loop-place-test.true in
    let long = table_long c.args.axis _ c.loop-place.table.items c.loop-place.invariant in
    omega (arith, c.place_named.ensures)

pub loop-place-preserved : goal.loop-place-preserved
loop-place-preserved c =
    let inside = ap (list_any (is_outside c.args.axis)) c.numbers-numbers.ensures ∙ c.requires.inside in
    let low = named_on_axis c.args.axis c.numbers-numbers.result.now c.loop-place.place (pos 0) inside c.loop-place-test.true in
    table_step c.args.axis c.args.stride c.loop-place.place c.place_named.result c.scaled.result c.numbers-numbers.result.now (pos 0) c.loop-place.table.items c.loop-place.invariant c.loop-place-test.true
    c.place_named.ensures (omega (arith, c.place_named.ensures)) c.scaled.ensures.value
