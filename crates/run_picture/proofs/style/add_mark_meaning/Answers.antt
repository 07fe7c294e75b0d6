use Rattle.std.proofs.Common.{◌+◌, [], ◌∷◌, codes}
use Rattle.run_picture.specs.Figure.{mark_at, words}
use Rattle.run_picture.proofs.Markup.{told_behind}
use Rattle.run_picture.proofs.TagsAdded.{same_words}
use Rattle.run_picture.proofs.style.add_mark_meaning.Goals as goal

pub returns : goal.returns
returns c =
    let mark = c.args.mark.now in
    told_behind c.add_words.result c.args.bytes.now.items c.add_mark.new.bytes.items c.add_words.new.bytes.items (mark_at mark mark 76 c.args.y ∷ []) (words (codes "note") 96 (c.args.y + 4) c.args.text.now.items ∷ []) c.in_ok-add_mark.ensures
    (same_words c.add_words.result c.add_mark.new.bytes.items c.add_words.new.bytes.items (codes "note") c.as_slice.result.now c.args.text.now.items 96 (c.args.y + 4) c.as_slice.ensures c.add_words.ensures)
