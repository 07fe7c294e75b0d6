use Rattle.run_picture.specs.Figure.{words_up_to}
use Rattle.run_picture.proofs.TagLines.{told_so}
use Rattle.run_picture.proofs.figure.add_words_up_to.Goals as goal

pub returns : goal.returns
returns c = told_so c.add_line.result c.args.bytes.now.items c.add_line.new.bytes.items c.in_ok-line.line.items (words_up_to c.args.style_name.now c.args.at.x c.args.at.y c.args.text.now) c.in_ok-line.ensures c.add_line.ensures.text
