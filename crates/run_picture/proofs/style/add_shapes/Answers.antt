use Rattle.std.proofs.Common.{List, [], ◌∷◌, ◌++◌, codes}
use Rattle.run_picture.specs.Style.{shape}
use Rattle.run_picture.specs.Tag.{Tag}
use Rattle.run_picture.proofs.Markup.{told_behind}
use Rattle.run_picture.proofs.TagsAdded.{word_tag, word_told}
use Rattle.run_picture.proofs.style.add_shapes.Goals as goal

pub returns : goal.returns
returns c =
    let m6 : List Tag = ((shape (codes "leave") (codes "M-6,0H6")) ∷ []) in
    let m5 : List Tag = ((shape (codes "use") (codes "M4,-5L-5,0L4,5Z")) ∷ []) ++ m6 in
    let m4 : List Tag = ((shape (codes "set") (codes "M-4,-5L5,0L-4,5Z")) ∷ []) ++ m5 in
    let m3 : List Tag = ((shape (codes "question") (codes "M-2,0A2,2 0 1 0 2,0A2,2 0 1 0 -2,0Z")) ∷ []) ++ m4 in
    let m2 : List Tag = ((shape (codes "control") (codes "M-4,-4H4V4H-4Z")) ∷ []) ++ m3 in
    let m1 : List Tag = ((shape (codes "retract") (codes "M-4,-4L4,4M4,-4L-4,4")) ∷ []) ++ m2 in
    told_behind c.add_word-7.result c.args.bytes.now.items c.add_word.new.bytes.items c.add_word-7.new.bytes.items ((shape (codes "offer") (codes "M-5,0A5,5 0 1 0 5,0A5,5 0 1 0 -5,0Z")) ∷ []) m1 (word_tag c.args.bytes.now.items c.add_word.new.bytes.items (shape (codes "offer") (codes "M-5,0A5,5 0 1 0 5,0A5,5 0 1 0 -5,0Z")) c.in_ok-add_word.ensures.text)
    (told_behind c.add_word-7.result c.add_word.new.bytes.items c.add_word-2.new.bytes.items c.add_word-7.new.bytes.items ((shape (codes "retract") (codes "M-4,-4L4,4M4,-4L-4,4")) ∷ []) m2 (word_tag c.add_word.new.bytes.items c.add_word-2.new.bytes.items (shape (codes "retract") (codes "M-4,-4L4,4M4,-4L-4,4")) c.in_ok-add_word-2.ensures.text)
    (told_behind c.add_word-7.result c.add_word-2.new.bytes.items c.add_word-3.new.bytes.items c.add_word-7.new.bytes.items ((shape (codes "control") (codes "M-4,-4H4V4H-4Z")) ∷ []) m3 (word_tag c.add_word-2.new.bytes.items c.add_word-3.new.bytes.items (shape (codes "control") (codes "M-4,-4H4V4H-4Z")) c.in_ok-add_word-3.ensures.text)
    (told_behind c.add_word-7.result c.add_word-3.new.bytes.items c.add_word-4.new.bytes.items c.add_word-7.new.bytes.items ((shape (codes "question") (codes "M-2,0A2,2 0 1 0 2,0A2,2 0 1 0 -2,0Z")) ∷ []) m4 (word_tag c.add_word-3.new.bytes.items c.add_word-4.new.bytes.items (shape (codes "question") (codes "M-2,0A2,2 0 1 0 2,0A2,2 0 1 0 -2,0Z")) c.in_ok-add_word-4.ensures.text)
    (told_behind c.add_word-7.result c.add_word-4.new.bytes.items c.add_word-5.new.bytes.items c.add_word-7.new.bytes.items ((shape (codes "set") (codes "M-4,-5L5,0L-4,5Z")) ∷ []) m5 (word_tag c.add_word-4.new.bytes.items c.add_word-5.new.bytes.items (shape (codes "set") (codes "M-4,-5L5,0L-4,5Z")) c.in_ok-add_word-5.ensures.text)
    (told_behind c.add_word-7.result c.add_word-5.new.bytes.items c.add_word-6.new.bytes.items c.add_word-7.new.bytes.items ((shape (codes "use") (codes "M4,-5L-5,0L4,5Z")) ∷ []) m6 (word_tag c.add_word-5.new.bytes.items c.add_word-6.new.bytes.items (shape (codes "use") (codes "M4,-5L-5,0L4,5Z")) c.in_ok-add_word-6.ensures.text)
    (word_told c.add_word-7.result c.add_word-6.new.bytes.items c.add_word-7.new.bytes.items (shape (codes "leave") (codes "M-6,0H6")) c.add_word-7.ensures.text))))))
