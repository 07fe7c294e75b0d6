use Rattle.std.proofs.Common.{◌≡◌, length, arith}
use Rattle.std.proofs.lemmas.Bool.Decides.{nat_tests}
use Rattle.printed_text.proofs.Steps.{all_read}
use Rattle.printed_text.proofs.text.finished.Goals as goal

pub returns-in-Some : goal.returns-in-Some
returns-in-Some c =
    let none : length c.args.rest.now ≡ 0 = grind (arith, nat_tests) in
    λ users text so_far e. all_read users text c.args.rest.now c.args.draft c.in-Some.printed so_far none c.in-Some.ensures.0 c.in-Some.ensures.1
