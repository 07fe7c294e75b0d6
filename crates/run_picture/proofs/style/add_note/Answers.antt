use Rattle.std.proofs.Common.{codes, ◌∙◌}
use Rattle.run_picture.proofs.TagsAdded.{same_words}
use Rattle.run_picture.proofs.style.add_note.Goals as goal

pub returns : goal.returns
returns c = same_words c.add_words.result c.args.bytes.now.items c.add_words.new.bytes.items (codes "note") c.as_slice.result.now c.args.text.now c.args.at.x c.args.at.y (c.as_slice.ensures ∙ c.in_ok-line.ensures) c.add_words.ensures
