use Rattle.std.proofs.Common.{length, ◌∙◌}
use Rattle.run_picture.proofs.Drawn.{head_told}
use Rattle.run_picture.proofs.picture.add_head.Goals as goal

pub returns : goal.returns
returns c =
    head_told c.add_lanes.result c.args.bytes.now.items c.add_page.new.bytes.items c.add_drawing.new.bytes.items c.add_words.new.bytes.items c.add_left_out.new.bytes.items c.add_lanes.new.bytes.items c.as_slice.result.now c.args.scene.now.lanes.now c.args.window.now (length c.args.scene.now.entries.now) c.page_width.result c.args.low c.page_width.ensures (c.as_slice.ensures ∙ c.in_ok-text.ensures) c.in_ok-add_page.ensures c.in_ok-add_drawing.ensures c.in_ok-add_words.ensures c.in_ok-add_left_out.ensures c.add_lanes.ensures
