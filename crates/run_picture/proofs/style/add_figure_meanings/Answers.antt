use Rattle.std.proofs.Common.{List, ◌++◌}
use Rattle.run_picture.specs.Style.{cut_meaning, line_meanings, wait_meaning}
use Rattle.run_picture.specs.Tag.{Tag}
use Rattle.run_picture.proofs.Markup.{told_behind}
use Rattle.run_picture.proofs.style.add_figure_meanings.Goals as goal

pub returns : goal.returns
returns c =
    let m2 : List Tag = (cut_meaning c.args.low) in
    let m1 : List Tag = (line_meanings c.args.low) ++ m2 in
    told_behind c.add_cut_meaning.result c.args.bytes.now.items c.add_wait_meaning.new.bytes.items c.add_cut_meaning.new.bytes.items (wait_meaning c.args.low) m1 c.in_ok-add_wait_meaning.ensures
    (told_behind c.add_cut_meaning.result c.add_wait_meaning.new.bytes.items c.add_line_meanings.new.bytes.items c.add_cut_meaning.new.bytes.items (line_meanings c.args.low) m2 c.in_ok-add_line_meanings.ensures
    c.add_cut_meaning.ensures)
