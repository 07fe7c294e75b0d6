use Rattle.std.proofs.Common.{◌<◌, ◌∙◌, arith}
use Rattle.run_picture.proofs.Pages.{some_left}
use Rattle.run_picture.proofs.picture.add_left_out.Goals as goal

pub returns : goal.returns
returns c =
    let some : 0 < c.args.left = omega (arith, c.if-left-eq0.false) in
    some_left c.add_words.result c.args.bytes.now.items c.add_words.new.bytes.items c.as_slice.result.now c.args.left some (c.as_slice.ensures ∙ c.in_ok-line.ensures) c.add_words.ensures
