use Rattle.std.proofs.Common.{◌∙◌, reverse, arith}
use Rattle.apl_workspace.proofs.Fitting.{globals_fit}
use Rattle.apl_workspace.proofs.Giving.{with_frames}
use Rattle.apl_workspace.proofs.workspace.Workspace.has_room.Goals as goal

pub returns : goal.returns
returns c = λ meaning is.
    c.fits.ensures meaning is
    ∙ globals_fit c.args.self.now (with_frames c.self.inside.globals c.self.inside.offers.items c.self.inside.printed (reverse c.self.inside.frames.items)) c.args.name.now meaning c.self.inside.frames_weight c.self.view_is c.self.invariant.counted (omega (arith, c.self.invariant.counted, c.self.invariant.rules.weight))
