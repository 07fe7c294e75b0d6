use Rattle.std.proofs.Common.{◌≡◌, ◌++◌, take}
use Rattle.run_picture.specs.Picture.{lane_tags}
use Rattle.run_picture.specs.Tag.{markup}
use Rattle.run_picture.proofs.picture.add_lanes.Given as goal

-- the lanes so far
abbrev pub invariant-loop-party : goal.invariant-loop-party
invariant-loop-party l = l.bytes.items ≡ l.fn.bytes.items ++ markup (lane_tags l.low l.lanes (take l.party-index l.lanes))
