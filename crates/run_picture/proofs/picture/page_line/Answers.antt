use Rattle.run_picture.proofs.Pages.{page_told}
use Rattle.run_picture.proofs.picture.page_line.Goals as goal

pub returns : goal.returns
returns c =
    page_told c.new-line.result.items c.add_front.new.line.items c.add_word_of.new.line.items c.add_word_of-2.new.line.items c.add_size_of.new.line.items c.add_size_of-2.new.line.items c.add_view_box.new.line.items c.add_text.new.line.items c.args.width c.args.height c.new-line.ensures c.in_ok-add_front.ensures c.in_ok-add_word_of.ensures c.in_ok-add_word_of-2.ensures c.in_ok-add_size_of.ensures c.in_ok-add_size_of-2.ensures c.in_ok-add_view_box.ensures c.in_ok-add_text.ensures.text
