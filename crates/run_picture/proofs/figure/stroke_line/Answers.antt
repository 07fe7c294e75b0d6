use Rattle.run_picture.proofs.TagLines.{stroke_told}
use Rattle.run_picture.proofs.figure.stroke_line.Goals as goal

pub returns : goal.returns
returns c =
    stroke_told c.new-line.result.items c.begin_figure.new.line.items c.add_size_of.new.line.items c.add_size_of-2.new.line.items c.add_size_of-3.new.line.items c.add_size_of-4.new.line.items c.add_text.new.line.items c.args.style_name.now c.args.from.x c.args.from.y c.args.to.x c.args.to.y c.new-line.ensures c.in_ok-begin_figure.ensures c.in_ok-add_size_of.ensures c.in_ok-add_size_of-2.ensures c.in_ok-add_size_of-3.ensures c.in_ok-add_size_of-4.ensures c.in_ok-add_text.ensures.text
