use Rattle.std.proofs.Common.{[], codes}
use Rattle.run_picture.specs.Style.{style_rules}
use Rattle.run_picture.specs.Tag.{worded}
use Rattle.run_picture.proofs.TagsAdded.{word_told}
use Rattle.run_picture.proofs.style.add_rules.Goals as goal

pub returns : goal.returns
unfolding style_rules
returns c = word_told c.add_word.result c.args.bytes.now.items c.add_word.new.bytes.items (worded (codes "style") [] style_rules) c.add_word.ensures.text
