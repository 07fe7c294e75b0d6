use Rattle.run_picture.specs.Picture.{page}
use Rattle.run_picture.proofs.TagLines.{told_so}
use Rattle.run_picture.proofs.picture.add_page.Goals as goal

pub returns : goal.returns
returns c = told_so c.add_line.result c.args.bytes.now.items c.add_line.new.bytes.items c.in_ok-line.line.items (page c.args.width c.args.height) c.in_ok-line.ensures c.add_line.ensures.text
