use Rattle.std.proofs.Common.{◌∙◌}
use Rattle.run_picture.proofs.Pages.{lane_told}
use Rattle.run_picture.proofs.picture.add_lane.Goals as goal

pub returns : goal.returns
returns c =
    lane_told c.add_stroke.result c.args.bytes.now.items c.add_words.new.bytes.items c.add_stroke.new.bytes.items c.as_slice.result.now c.args.lanes.now c.middle_of-x.result c.args.party c.args.low c.middle_of-x.ensures.middle (c.as_slice.ensures ∙ c.in_ok-number.ensures) c.in_ok-add_words.ensures c.add_stroke.ensures
