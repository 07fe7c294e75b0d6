use Rattle.std.proofs.Common.{refl, reverse}
use Rattle.apl_workspace.proofs.Giving.{with_frames}
use Rattle.apl_workspace.proofs.Inside.{left_inside}
use Rattle.apl_workspace.proofs.workspace.Workspace.pop_frame.Goals as goal

pub invariant_of-self : goal.invariant_of-self
invariant_of-self c =
    left_inside (with_frames c.self.inside.globals c.self.inside.offers.items c.self.inside.printed (reverse c.self.inside.frames.items)) c.self.inside.frames.items c.pop.new.self.items c.in-Some.frame c.self.inside.frames_weight c.weight.result c.self.invariant refl
    c.in-Some.ensures.items c.weight.ensures.value
