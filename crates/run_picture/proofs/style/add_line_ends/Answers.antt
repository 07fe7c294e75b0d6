use Rattle.std.proofs.Common.{List, [], ◌∷◌, codes}
use Rattle.run_picture.specs.Style.{line_end}
use Rattle.run_picture.specs.Tag.{Tag, finishes, single, word_of}
use Rattle.run_picture.proofs.LineEnds.{arrow_begins, dot, dot_begins, dot_is}
use Rattle.run_picture.proofs.Markup.{told_behind}
use Rattle.run_picture.proofs.TagLines.{one_tag}
use Rattle.run_picture.proofs.TagsAdded.{word_tag, word_told}
use Rattle.run_picture.proofs.style.add_line_ends.Goals as goal

pub returns : goal.returns
returns c =
    let last : List Tag = finishes (codes "marker") ∷ [] in
    let path : Tag = single (codes "path") (word_of (codes "class") (codes "arrow") ∷ word_of (codes "d") (codes "M0,0L8,4L0,8") ∷ []) in
    let arrow_begin : Tag = line_end (codes "arrow") 8 8 in
    let dot_begin : Tag = line_end (codes "dot") 4 4 in
    let arrow_line = codes "<marker id=\"arrow\" refX=\"8\" refY=\"4\" markerWidth=\"8\" markerHeight=\"8\" viewBox=\"0 0 8 8\" orient=\"auto\">" in
    let dot_line = codes "<marker id=\"dot\" refX=\"4\" refY=\"4\" markerWidth=\"4\" markerHeight=\"4\" viewBox=\"0 0 8 8\" orient=\"auto\">" in
    let circle_line = codes "<circle class=\"dot\" cx=\"4\" cy=\"4\" r=\"4\"/>" in
    told_behind c.add_word-6.result c.args.bytes.now.items c.add_word.new.bytes.items c.add_word-6.new.bytes.items (arrow_begin ∷ []) (path ∷ finishes (codes "marker") ∷ dot_begin ∷ dot ∷ last) (one_tag c.args.bytes.now.items c.add_word.new.bytes.items arrow_line arrow_begin arrow_begins c.in_ok-add_word.ensures.text)
    (told_behind c.add_word-6.result c.add_word.new.bytes.items c.add_word-2.new.bytes.items c.add_word-6.new.bytes.items (path ∷ []) (finishes (codes "marker") ∷ dot_begin ∷ dot ∷ last) (word_tag c.add_word.new.bytes.items c.add_word-2.new.bytes.items path c.in_ok-add_word-2.ensures.text)
    (told_behind c.add_word-6.result c.add_word-2.new.bytes.items c.add_word-3.new.bytes.items c.add_word-6.new.bytes.items (finishes (codes "marker") ∷ []) (dot_begin ∷ dot ∷ last) (word_tag c.add_word-2.new.bytes.items c.add_word-3.new.bytes.items (finishes (codes "marker")) c.in_ok-add_word-3.ensures.text)
    (told_behind c.add_word-6.result c.add_word-3.new.bytes.items c.add_word-4.new.bytes.items c.add_word-6.new.bytes.items (dot_begin ∷ []) (dot ∷ last) (one_tag c.add_word-3.new.bytes.items c.add_word-4.new.bytes.items dot_line dot_begin dot_begins c.in_ok-add_word-4.ensures.text)
    (told_behind c.add_word-6.result c.add_word-4.new.bytes.items c.add_word-5.new.bytes.items c.add_word-6.new.bytes.items (dot ∷ []) last (one_tag c.add_word-4.new.bytes.items c.add_word-5.new.bytes.items circle_line dot dot_is c.in_ok-add_word-5.ensures.text)
    (word_told c.add_word-6.result c.add_word-5.new.bytes.items c.add_word-6.new.bytes.items (finishes (codes "marker")) c.add_word-6.ensures.text)))))
