use Rattle.std.proofs.Common.{codes}
use Rattle.run_picture.specs.Figure.{bar_at}
use Rattle.run_picture.proofs.TagLines.{told_so}
use Rattle.run_picture.proofs.figure.add_bar.Goals as goal

pub returns : goal.returns
returns c = told_so c.add_line.result c.args.bytes.now.items c.add_line.new.bytes.items c.in_ok-line.line.items (bar_at (codes "hold") c.args.at.x c.args.at.y 14 c.args.height) c.in_ok-line.ensures c.add_line.ensures.text
