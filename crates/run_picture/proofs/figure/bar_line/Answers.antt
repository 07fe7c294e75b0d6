use Rattle.run_picture.proofs.TagLines.{bar_told}
use Rattle.run_picture.proofs.figure.bar_line.Goals as goal

pub returns : goal.returns
returns c =
    bar_told c.new-line.result.items c.begin_figure.new.line.items c.add_point.new.line.items c.add_size_of.new.line.items c.add_size_of-2.new.line.items c.add_text.new.line.items c.args.at.x c.args.at.y 14 c.args.height c.new-line.ensures c.in_ok-begin_figure.ensures c.in_ok-add_point.ensures c.in_ok-add_size_of.ensures c.in_ok-add_size_of-2.ensures c.in_ok-add_text.ensures.text
