use Rattle.std.proofs.Common.{◌≡◌, ℕ, List, ◌++◌, subst}
use Rattle.std.specs.Result.{OnOk}
use Rattle.run_picture.specs.Style.{mark_meaning}
use Rattle.run_picture.specs.Tag.{markup}
use Rattle.run_picture.proofs.style.add_access.Goals as goal

pub returns : goal.returns
returns c =
    subst (λ (text : List ℕ). OnOk c.add_mark_meaning.result (c.add_mark_meaning.new.bytes.items ≡ c.args.bytes.now.items ++ markup (mark_meaning c.args.mark.now text c.args.y)))
    c.in_ok-line.ensures c.add_mark_meaning.ensures
