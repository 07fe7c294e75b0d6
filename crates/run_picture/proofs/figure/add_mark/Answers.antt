use Rattle.run_picture.specs.Figure.{mark_at}
use Rattle.run_picture.proofs.TagLines.{told_so}
use Rattle.run_picture.proofs.figure.add_mark.Goals as goal

pub returns : goal.returns
returns c = told_so c.add_line.result c.args.bytes.now.items c.add_line.new.bytes.items c.in_ok-line.line.items (mark_at c.args.style_name.now c.args.mark.now c.args.at.x c.args.at.y) c.in_ok-line.ensures c.add_line.ensures.text
