use Rattle.std.proofs.Common.{List, [], ◌∷◌, ◌++◌, codes}
use Rattle.run_picture.specs.Style.{line_ends, shapes, style_rules}
use Rattle.run_picture.specs.Tag.{Tag, begins, finishes, worded}
use Rattle.run_picture.proofs.Markup.{told_behind}
use Rattle.run_picture.proofs.TagsAdded.{word_tag, word_told}
use Rattle.run_picture.proofs.style.add_drawing.Goals as goal

pub returns : goal.returns
returns c =
    let m4 : List Tag = ((finishes (codes "defs")) ∷ []) in
    let m3 : List Tag = shapes ++ m4 in
    let m2 : List Tag = line_ends ++ m3 in
    let m1 : List Tag = ((begins (codes "defs") []) ∷ []) ++ m2 in
    told_behind c.add_word-2.result c.args.bytes.now.items c.add_rules.new.bytes.items c.add_word-2.new.bytes.items (worded (codes "style") [] style_rules ∷ []) m1 c.in_ok-add_rules.ensures
    (told_behind c.add_word-2.result c.add_rules.new.bytes.items c.add_word.new.bytes.items c.add_word-2.new.bytes.items ((begins (codes "defs") []) ∷ []) m2 (word_tag c.add_rules.new.bytes.items c.add_word.new.bytes.items (begins (codes "defs") []) c.in_ok-add_word.ensures.text)
    (told_behind c.add_word-2.result c.add_word.new.bytes.items c.add_line_ends.new.bytes.items c.add_word-2.new.bytes.items line_ends m3 c.in_ok-add_line_ends.ensures
    (told_behind c.add_word-2.result c.add_line_ends.new.bytes.items c.add_shapes.new.bytes.items c.add_word-2.new.bytes.items shapes m4 c.in_ok-add_shapes.ensures
    (word_told c.add_word-2.result c.add_shapes.new.bytes.items c.add_word-2.new.bytes.items (finishes (codes "defs")) c.add_word-2.ensures.text))))
