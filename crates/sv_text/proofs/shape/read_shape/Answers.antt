use Rattle.sv_text.proofs.ShapeForms.{read_axes_fit}
use Rattle.sv_text.proofs.shape.read_shape.Goals as goal

pub returns-in_ok-add_axes-clause-fits : goal.returns-in_ok-add_axes-clause-fits
returns-in_ok-add_axes-clause-fits c = read_axes_fit c.args.cursor.now c.add_axes.new.shape.items c.add_axes.new.cursor c.new-shape.result.items c.new-shape.ensures c.in_ok-add_axes.ensures
