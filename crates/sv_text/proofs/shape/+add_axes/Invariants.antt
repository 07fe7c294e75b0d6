use Rattle.sv_text.proofs.shape.+add_axes.Given as goal

abbrev pub decreases-add_axes : goal.decreases-add_axes
decreases-add_axes l = l.most
