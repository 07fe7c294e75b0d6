use Rattle.std.proofs.Common.{◌≡◌, ◌++◌, codes, decimal}
use Rattle.std.proofs.lemmas.Result.{on_ok_weaker}
use Rattle.run_picture.proofs.Pages.{view_told}
use Rattle.run_picture.proofs.picture.add_view_box.Goals as goal

pub returns : goal.returns
returns c =
    on_ok_weaker c.add_text-3.result (λ (e : c.add_text-3.new.line.items ≡ c.add_count-2.new.line.items ++ codes "\""). view_told c.args.line.now.items c.add_text.new.line.items c.add_count.new.line.items c.add_text-2.new.line.items c.add_count-2.new.line.items c.add_text-3.new.line.items (decimal c.args.width) (decimal c.args.height) c.in_ok-add_text.ensures.text c.in_ok-add_count.ensures.text c.in_ok-add_text-2.ensures.text c.in_ok-add_count-2.ensures.text e) c.add_text-3.ensures.text
