use Rattle.std.proofs.Common.{◌∙◌, ap, reverse, sym}
use Rattle.apl_workspace.specs.Workspace.{PlainWorkspace, is_shared}
use Rattle.apl_workspace.proofs.Giving.{with_frames}
use Rattle.apl_workspace.proofs.Inside.{put_inside}
use Rattle.apl_workspace.proofs.workspace.Workspace.put_global.Goals as goal

pub invariant_of-self : goal.invariant_of-self
invariant_of-self c =
    put_inside c.put.result (with_frames c.self.inside.globals c.self.inside.offers.items c.self.inside.printed (reverse c.self.inside.frames.items)) c.put.new.self c.args.name c.args.meaning c.self.inside.frames_weight c.self.invariant
    c.requires.is_global (λ shared. c.requires.stays_shared (ap (λ (w : PlainWorkspace). is_shared w c.args.name) (sym c.self.view_is) ∙ shared)) c.put.ensures.ok c.put.ensures.err c.put.ensures.fits
