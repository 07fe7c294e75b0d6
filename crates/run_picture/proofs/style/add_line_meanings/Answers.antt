use Rattle.std.proofs.Common.{◌+◌, List, [], ◌∷◌, ◌++◌, codes}
use Rattle.run_picture.specs.Figure.{stroke}
use Rattle.run_picture.specs.Style.{meaning}
use Rattle.run_picture.specs.Tag.{Tag}
use Rattle.run_picture.proofs.Markup.{told_behind}
use Rattle.run_picture.proofs.style.add_line_meanings.Goals as goal

pub returns : goal.returns
returns c =
    let m3 : List Tag = (meaning (c.args.low + 186) (codes "coupled, where both have lanes here; 64 lines of an entry at most") ∷ []) in
    let m2 : List Tag = (stroke (codes "coupled") 66 (c.args.low + 182) 88 (c.args.low + 182) ∷ []) ++ m3 in
    let m1 : List Tag = (meaning (c.args.low + 168) (codes "offered to this party, where it has a lane here") ∷ []) ++ m2 in
    told_behind c.add_meaning-2.result c.args.bytes.now.items c.add_sample.new.bytes.items c.add_meaning-2.new.bytes.items (stroke (codes "offered") 66 (c.args.low + 164) 88 (c.args.low + 164) ∷ []) m1 c.in_ok-add_sample.ensures
    (told_behind c.add_meaning-2.result c.add_sample.new.bytes.items c.add_meaning.new.bytes.items c.add_meaning-2.new.bytes.items (meaning (c.args.low + 168) (codes "offered to this party, where it has a lane here") ∷ []) m2 c.in_ok-add_meaning.ensures
    (told_behind c.add_meaning-2.result c.add_meaning.new.bytes.items c.add_sample-2.new.bytes.items c.add_meaning-2.new.bytes.items (stroke (codes "coupled") 66 (c.args.low + 182) 88 (c.args.low + 182) ∷ []) m3 c.in_ok-add_sample-2.ensures
    c.add_meaning-2.ensures))
