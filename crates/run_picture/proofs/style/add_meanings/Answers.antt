use Rattle.std.proofs.Common.{List}
use Rattle.run_picture.specs.Style.{figure_meanings, mark_meanings}
use Rattle.run_picture.specs.Tag.{Tag}
use Rattle.run_picture.proofs.Markup.{told_behind}
use Rattle.run_picture.proofs.style.add_meanings.Goals as goal

pub returns : goal.returns
returns c =
    let m1 : List Tag = (figure_meanings c.args.low) in
    told_behind c.add_figure_meanings.result c.args.bytes.now.items c.add_mark_meanings.new.bytes.items c.add_figure_meanings.new.bytes.items (mark_meanings c.args.low) m1 c.in_ok-add_mark_meanings.ensures
    c.add_figure_meanings.ensures
