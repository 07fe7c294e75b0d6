use Rattle.std.proofs.Common.{◌+◌, List, [], ◌∷◌, codes}
use Rattle.run_picture.specs.Figure.{bar_at}
use Rattle.run_picture.specs.Style.{meaning}
use Rattle.run_picture.specs.Tag.{Tag}
use Rattle.run_picture.proofs.Markup.{told_behind}
use Rattle.run_picture.proofs.style.add_wait_meaning.Goals as goal

pub returns : goal.returns
returns c =
    let m1 : List Tag = (meaning (c.args.low + 150) (codes "hollow: refused, by which element and whose 1; the bar ends where the wait does, if here") ∷ []) in
    told_behind c.add_meaning.result c.args.bytes.now.items c.add_bar.new.bytes.items c.add_meaning.new.bytes.items (bar_at (codes "hold") 69 (c.args.low + 141) 14 10 ∷ []) m1 c.in_ok-add_bar.ensures
    c.add_meaning.ensures
