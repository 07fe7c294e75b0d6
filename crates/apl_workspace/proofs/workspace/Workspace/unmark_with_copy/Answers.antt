use Rattle.std.proofs.Common.{reverse}
use Rattle.apl_workspace.proofs.Giving.{with_frames}
use Rattle.apl_workspace.proofs.Inside.{kept_inside}
use Rattle.apl_workspace.proofs.workspace.Workspace.unmark_with_copy.Goals as goal

pub invariant_of-self : goal.invariant_of-self
invariant_of-self c =
    kept_inside (with_frames c.self.inside.globals c.self.inside.offers.items c.self.inside.printed (reverse c.self.inside.frames.items)) c.keep_copy.new.self c.unlist.new.offers.items c.args.name.now c.self.inside.frames_weight c.self.invariant
    c.keep_copy.ensures.value c.keep_copy.ensures.weight c.unlist.ensures.items
