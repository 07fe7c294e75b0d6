use Rattle.std.proofs.Common.{length, refl}
use Rattle.apl_meaning.specs.Reading.{classes_of}
use Rattle.apl_values.proofs.ReadLaw.{is_read}
use Rattle.apl_values.proofs.reading.read.Goals as goal

pub returns-clause-read : goal.returns-clause-read
returns-clause-read c =
    let t = c.in_ok-tree.ensures.tree in
    is_read c.args.workspace.now c.args.text.now.items t.tokens (classes_of c.args.workspace.now) (length c.args.text.now.items) _ c.in_ok-of.field-0 t.scanned refl refl t.nodes c.in_ok-of.ensures.tree c.in_ok-of.ensures.parts
