use Rattle.std.proofs.Common.{◌≡◌, ◌+◌, ◌<◌, length, arith}
use Rattle.std.proofs.lemmas.Bool.Decides.{nat_tests}
use Rattle.std.proofs.lemmas.Result.{err_from_is_err_and}
use Rattle.bundle_text.proofs.SoFar.{nothing_left, end_left, refused_last}
use Rattle.bundle_text.proofs.text.read_rest.Goals as goal

pub returns-then-is_empty : goal.returns-then-is_empty
returns-then-is_empty c =
    let none : length c.args.rest.now ≡ 0 = grind (arith, nat_tests) in
    λ bytes so_far e. nothing_left bytes c.args.rest.now c.args.draft c.args.offset c.finished.result none so_far e c.finished.ensures

pub returns-in_err-add_last_line : goal.returns-in_err-add_last_line
returns-in_err-add_last_line c =
    let some : 0 < length c.args.rest.now = grind (arith, nat_tests) in
    let p = err_from_is_err_and c.from_residual.result c.from_residual.ensures.1 in
    λ bytes so_far e. rw (p.1, p.2) (refused_last bytes c.args.rest.now c.args.draft c.args.offset c.in_err-add_last_line.field-0.0 so_far e c.requires.no_feed some c.in_err-add_last_line.ensures.refused)

pub returns : goal.returns
returns c =
    let is = c.in_ok-add_last_line.ensures.ok in
    λ bytes so_far e. end_left bytes c.args.rest.now c.args.draft c.add_last_line.new.draft (c.args.offset + length c.args.rest.now) c.finished-2.result so_far is (c.in_ok-add_last_line.ensures.added is) e c.finished-2.ensures
