use Rattle.std.proofs.Common.{◌+◌, List, ◌∷◌, ◌++◌, codes}
use Rattle.apl_arrays.specs.Glyph.{left_arrow, right_arrow}
use Rattle.run_picture.specs.Style.{mark_meaning}
use Rattle.run_picture.specs.Tag.{Tag}
use Rattle.run_picture.proofs.Markup.{told_behind}
use Rattle.run_picture.proofs.style.add_mark_meanings.Goals as goal

pub returns : goal.returns
returns c =
    let m6 : List Tag = (mark_meaning (codes "leave") (codes "a leave") (c.args.low + 128)) in
    let m5 : List Tag = (mark_meaning (codes "use") (codes "a use: the name" ++ right_arrow ∷ codes "the value") (c.args.low + 110)) ++ m6 in
    let m4 : List Tag = (mark_meaning (codes "set") (codes "a set: the name" ++ left_arrow ∷ codes "the value") (c.args.low + 92)) ++ m5 in
    let m3 : List Tag = (mark_meaning (codes "question") (codes "a question") (c.args.low + 74)) ++ m4 in
    let m2 : List Tag = (mark_meaning (codes "control") (codes "a control is set") (c.args.low + 56)) ++ m3 in
    let m1 : List Tag = (mark_meaning (codes "retract") (codes "a name is taken back") (c.args.low + 38)) ++ m2 in
    told_behind c.add_mark_text-5.result c.args.bytes.now.items c.add_mark_text.new.bytes.items c.add_mark_text-5.new.bytes.items (mark_meaning (codes "offer") (codes "an offer") (c.args.low + 20)) m1 c.in_ok-add_mark_text.ensures
    (told_behind c.add_mark_text-5.result c.add_mark_text.new.bytes.items c.add_mark_text-2.new.bytes.items c.add_mark_text-5.new.bytes.items (mark_meaning (codes "retract") (codes "a name is taken back") (c.args.low + 38)) m2 c.in_ok-add_mark_text-2.ensures
    (told_behind c.add_mark_text-5.result c.add_mark_text-2.new.bytes.items c.add_mark_text-3.new.bytes.items c.add_mark_text-5.new.bytes.items (mark_meaning (codes "control") (codes "a control is set") (c.args.low + 56)) m3 c.in_ok-add_mark_text-3.ensures
    (told_behind c.add_mark_text-5.result c.add_mark_text-3.new.bytes.items c.add_mark_text-4.new.bytes.items c.add_mark_text-5.new.bytes.items (mark_meaning (codes "question") (codes "a question") (c.args.low + 74)) m4 c.in_ok-add_mark_text-4.ensures
    (told_behind c.add_mark_text-5.result c.add_mark_text-4.new.bytes.items c.add_access.new.bytes.items c.add_mark_text-5.new.bytes.items (mark_meaning (codes "set") (codes "a set: the name" ++ left_arrow ∷ codes "the value") (c.args.low + 92)) m5 c.in_ok-add_access.ensures
    (told_behind c.add_mark_text-5.result c.add_access.new.bytes.items c.add_access-2.new.bytes.items c.add_mark_text-5.new.bytes.items (mark_meaning (codes "use") (codes "a use: the name" ++ right_arrow ∷ codes "the value") (c.args.low + 110)) m6 c.in_ok-add_access-2.ensures
    c.add_mark_text-5.ensures)))))
