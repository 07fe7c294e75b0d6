use Rattle.std.proofs.Common.{◌∙◌, ap, reverse}
use Rattle.apl_workspace.specs.Workspace.{PlainWorkspace, is_shared}
use Rattle.apl_workspace.proofs.Giving.{with_frames}
use Rattle.apl_workspace.proofs.Inside.{erased_inside}
use Rattle.apl_workspace.proofs.workspace.Workspace.erase.Goals as goal

pub invariant_of-self : goal.invariant_of-self
invariant_of-self c =
    erased_inside (with_frames c.self.inside.globals c.self.inside.offers.items c.self.inside.printed (reverse c.self.inside.frames.items)) c.remove.new.self c.args.name.now c.self.inside.frames_weight c.self.invariant
    (ap (λ (w : PlainWorkspace). is_shared w c.args.name.now) c.self.view_is ∙ c.requires) c.remove.ensures.others
