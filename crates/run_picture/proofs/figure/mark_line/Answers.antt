use Rattle.run_picture.proofs.TagLines.{mark_told}
use Rattle.run_picture.proofs.figure.mark_line.Goals as goal

pub returns : goal.returns
returns c =
    mark_told c.new-line.result.items c.begin_figure.new.line.items c.add_reference.new.line.items c.add_point.new.line.items c.add_text.new.line.items c.args.style_name.now c.args.mark.now c.args.at.x c.args.at.y c.new-line.ensures c.in_ok-begin_figure.ensures c.in_ok-add_reference.ensures c.in_ok-add_point.ensures c.in_ok-add_text.ensures.text
