use Rattle.run_picture.proofs.Pages.{shown_told}
use Rattle.run_picture.proofs.picture.shown_text.Goals as goal

pub returns : goal.returns
returns c =
    shown_told c.new-line.result.items c.add_text.new.line.items c.add_count.new.line.items c.add_text-2.new.line.items c.add_count-2.new.line.items c.add_text-3.new.line.items c.add_count-3.new.line.items c.args.window.now c.args.count c.new-line.ensures c.in_ok-add_text.ensures.text c.in_ok-add_count.ensures.text c.in_ok-add_text-2.ensures.text c.in_ok-add_count-2.ensures.text c.in_ok-add_text-3.ensures.text c.in_ok-add_count-3.ensures.text
