use Rattle.std.proofs.Common.{◌∙◌}
use Rattle.sv_events.specs.Entry.{plain_entry}
use Rattle.run_picture.specs.Scene.{scene_in}
use Rattle.run_picture.proofs.Rows.{words_of_entry}
use Rattle.run_picture.proofs.row.add_entry_words.Goals as goal

pub returns : goal.returns
returns c =
    words_of_entry c.add_words-2.result c.args.bytes.now.items c.add_place.new.bytes.items c.add_words.new.bytes.items c.add_words-2.new.bytes.items (scene_in c.args.scene.now) c.args.y c.args.place (plain_entry c.args.entry.now) c.middle_of.result c.line_begin.result c.as_slice.result.now c.as_slice-2.result.now c.middle_of.ensures.middle c.line_begin.ensures.begin (c.as_slice.ensures ∙ c.in_ok-label.ensures) (c.as_slice-2.ensures ∙ c.in_ok-line.ensures) c.in_ok-add_place.ensures c.in_ok-add_words.ensures c.add_words-2.ensures
