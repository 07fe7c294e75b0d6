use Rattle.apl_display.proofs.ExtentLemmas.{matrix_has_items, extent_by_division, divided_whole, divided_counted}
use Rattle.apl_display.proofs.matrices.extent_of.Goals as goal

pub nonzero_div-result : goal.nonzero_div-result
nonzero_div-result c = matrix_has_items c.args.shape.now c.args.elements c.requires.rank c.requires.elements c.requires.some

pub returns-clause-value : goal.returns-clause-value
returns-clause-value c = extent_by_division c.args.shape.now c.args.elements c.requires.rank c.requires.elements c.requires.some

pub returns-clause-whole : goal.returns-clause-whole
returns-clause-whole c = divided_whole c.args.shape.now c.args.elements c.requires.rank c.requires.elements c.requires.some

pub returns-clause-counted : goal.returns-clause-counted
returns-clause-counted c = divided_counted c.args.shape.now c.args.elements c.requires.rank c.requires.elements c.requires.some
