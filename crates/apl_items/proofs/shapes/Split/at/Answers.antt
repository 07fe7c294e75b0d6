use Rattle.std.proofs.Common.{length, drop, ◌-◌, ◌+◌, subst, sym, arith}
use Rattle.std.proofs.lemmas.List.{length-drop, take_all}
use Rattle.apl_arrays.specs.Array.{FitsLimits}
use Rattle.apl_items.proofs.ShapeLemmas.{parts_fit}
use Rattle.apl_items.proofs.shapes.Split.at.Goals as goal

pub count_of_elements-requires : goal.count_of_elements-requires
count_of_elements-requires c = (parts_fit c.args.shape.now c.args.axis c.requires.fits c.requires.elements c.requires.axis).0

pub count_of_elements-requires-2 : goal.count_of_elements-requires-2
count_of_elements-requires-2 c =
    let shape = c.args.shape.now in let next = c.args.axis + 1 in
    let rest = take_all (length shape - next) (drop next shape) (omega (arith, length-drop next shape)) in
    subst FitsLimits (sym rest) (parts_fit shape c.args.axis c.requires.fits c.requires.elements c.requires.axis).1
