use Rattle.run_picture.proofs.TagLines.{words_told}
use Rattle.run_picture.proofs.figure.words_line.Goals as goal

pub returns : goal.returns
returns c =
    words_told c.new-line.result.items c.begin_figure.new.line.items c.add_point.new.line.items c.add_size_of.new.line.items c.finish_words.new.line.items c.args.style_name.now c.args.text.now c.args.at.x c.args.at.y c.in_ok-width.width c.new-line.ensures c.in_ok-begin_figure.ensures c.in_ok-add_point.ensures c.in_ok-width.ensures c.in_ok-add_size_of.ensures c.in_ok-finish_words.ensures
