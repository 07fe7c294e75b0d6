use Rattle.std.proofs.Common.{arith}
use Rattle.run_picture.proofs.Drawn.{lanes_more}
use Rattle.run_picture.proofs.picture.add_lanes.Goals as goal

pub loop-party-preserved : goal.loop-party-preserved
loop-party-preserved c =
    lanes_more c.args.low c.loop-party.party-index 0 c.args.lanes.now c.args.bytes.now.items c.loop-party.bytes.items c.add_lane.new.bytes.items (omega arith) c.loop-party.invariant c.in_ok-add_lane.ensures
