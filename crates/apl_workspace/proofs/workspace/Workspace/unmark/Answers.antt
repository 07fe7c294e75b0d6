use Rattle.std.proofs.Common.{reverse}
use Rattle.apl_workspace.proofs.Giving.{with_frames}
use Rattle.apl_workspace.proofs.Inside.{unmarked_inside}
use Rattle.apl_workspace.proofs.workspace.Workspace.unmark.Goals as goal

pub invariant_of-self : goal.invariant_of-self
invariant_of-self c =
    unmarked_inside (with_frames c.self.inside.globals c.self.inside.offers.items c.self.inside.printed (reverse c.self.inside.frames.items)) c.unshare.new.self c.unlist.new.offers.items c.args.name.now c.args.value c.self.inside.frames_weight c.self.invariant
    c.unshare.ensures.fits c.unshare.ensures.heavy c.unshare.ensures.weight c.unlist.ensures.items
