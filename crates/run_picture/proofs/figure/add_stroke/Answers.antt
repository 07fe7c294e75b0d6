use Rattle.run_picture.specs.Figure.{stroke}
use Rattle.run_picture.proofs.TagLines.{told_so}
use Rattle.run_picture.proofs.figure.add_stroke.Goals as goal

pub returns : goal.returns
returns c = told_so c.add_line.result c.args.bytes.now.items c.add_line.new.bytes.items c.in_ok-line.line.items (stroke c.args.style_name.now c.args.from.x c.args.from.y c.args.to.x c.args.to.y) c.in_ok-line.ensures c.add_line.ensures.text
