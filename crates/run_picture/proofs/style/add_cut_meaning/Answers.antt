use Rattle.std.proofs.Common.{◌+◌, List, [], ◌∷◌, codes}
use Rattle.run_picture.specs.Figure.{words}
use Rattle.run_picture.specs.Style.{meaning}
use Rattle.run_picture.specs.Tag.{Tag}
use Rattle.run_picture.proofs.Markup.{told_behind}
use Rattle.run_picture.proofs.style.add_cut_meaning.Goals as goal

pub returns : goal.returns
returns c =
    let m1 : List Tag = (meaning (c.args.low + 204) (codes "the text goes on, and is cut here") ∷ []) in
    told_behind c.add_meaning.result c.args.bytes.now.items c.add_note.new.bytes.items c.add_meaning.new.bytes.items (words (codes "note") 69 (c.args.low + 204) (codes "..") ∷ []) m1 c.in_ok-add_note.ensures
    c.add_meaning.ensures
