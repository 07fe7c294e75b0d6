use Rattle.sv_events.specs.Entry.{plain_entry}
use Rattle.run_picture.specs.Scene.{scene_in}
use Rattle.run_picture.proofs.Rows.{figures_told}
use Rattle.run_picture.proofs.row.add_figures.Goals as goal

pub returns : goal.returns
returns c =
    figures_told c.add_entry_words.result c.args.bytes.now.items c.add_links.new.bytes.items c.add_mark.new.bytes.items c.add_entry_words.new.bytes.items (scene_in c.args.scene.now) c.args.y c.args.place (plain_entry c.args.entry.now) c.as_slice.result.now c.in_ok-links.links.items c.style_of.result.now c.mark_of.result.now c.middle_of.result c.as_slice.ensures c.in_ok-links.ensures.links c.style_of.ensures.text c.mark_of.ensures.text c.middle_of.ensures.middle c.in_ok-add_links.ensures c.in_ok-add_mark.ensures c.add_entry_words.ensures
