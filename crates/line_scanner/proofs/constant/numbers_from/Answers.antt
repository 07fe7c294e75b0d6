use Rattle.std.proofs.Common.{rules, w64}
use Rattle.std.specs.Prelude.{FitsSigned}
use Rattle.std.proofs.lemmas.Int.{to_z-of_z}
use Rattle.line_scanner.proofs.Numbers.{reads_on, reads_all}
use Rattle.line_scanner.proofs.constant.numbers_from.Goals as goal

pub loop-next-preserved : goal.loop-next-preserved
loop-next-preserved c =
    let fits : FitsSigned w64 c.in-Some.next = search rules in
    reads_on _ _ _ _ _ _ _ _ _ c.in-Some.ensures.value c.in-Some.ensures.within c.in_ok-push.ensures.ok (to_z-of_z w64 c.in-Some.next fits) c.loop-next.invariant

pub returns-clause-value : goal.returns-clause-value
returns-clause-value c =
    let fits : FitsSigned w64 c.args.first = c.ranges.first in
    reads_all _ _ _ _ _ c.in_default.ensures.value (simp to_z-of_z at c.loop-next.invariant)
