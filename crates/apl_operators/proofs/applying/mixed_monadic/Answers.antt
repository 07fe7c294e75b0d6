use Rattle.std.proofs.Common.{IsOk, length, refl, subst, sym}
use Rattle.apl_verbs.specs.declared.verb.Mix1.{Mix1}
use Rattle.apl_items.specs.Axis.{lacks_axis}
use Rattle.apl_items.specs.Places.{OnWantOfMemory}
use Rattle.apl_search.specs.Grade.{grade_faults}
use Rattle.apl_selection.proofs.WantLemmas.{on_want}
use Rattle.apl_structure.specs.Counting.{iota_faults}
use Rattle.operator_rules.specs.Apply.{mixed_monadic_of}
use Rattle.apl_operators.proofs.WantLemmas.{on_axis_there, on_no_faults}
use Rattle.apl_operators.proofs.applying.mixed_monadic.Goals as goal

pub returns-in-Shape-clause-memory : goal.returns-in-Shape-clause-memory
returns-in-Shape-clause-memory c = subst (λ (f : Mix1). OnWantOfMemory c.shape_of.result (IsOk (mixed_monadic_of f c.args.b.now c.args.axis))) (sym c.in-Shape.is) (on_want c.shape_of.result _ refl)

pub returns-in-Iota-clause-memory : goal.returns-in-Iota-clause-memory
returns-in-Iota-clause-memory c = subst (λ (f : Mix1). OnWantOfMemory c.iota.result (IsOk (mixed_monadic_of f c.args.b.now c.args.axis))) (sym c.in-Iota.is) (on_no_faults c.iota.result (iota_faults c.args.b.now) _ c.iota.ensures.memory)

pub returns-in-Ravel-clause-memory : goal.returns-in-Ravel-clause-memory
returns-in-Ravel-clause-memory c = subst (λ (f : Mix1). OnWantOfMemory c.ravel.result (IsOk (mixed_monadic_of f c.args.b.now c.args.axis))) (sym c.in-Ravel.is) (on_want c.ravel.result _ refl)

pub returns-in-Reverse-clause-memory : goal.returns-in-Reverse-clause-memory
returns-in-Reverse-clause-memory c = subst (λ (f : Mix1). OnWantOfMemory c.reverse.result (IsOk (mixed_monadic_of f c.args.b.now c.args.axis))) (sym c.in-Reverse.is) (on_axis_there c.reverse.result (lacks_axis (length c.args.b.now.shape) c.args.axis) _ c.reverse.ensures.memory)

pub returns-in-Transpose-clause-memory : goal.returns-in-Transpose-clause-memory
returns-in-Transpose-clause-memory c = subst (λ (f : Mix1). OnWantOfMemory c.transpose.result (IsOk (mixed_monadic_of f c.args.b.now c.args.axis))) (sym c.in-Transpose.is) (on_want c.transpose.result _ refl)

pub returns-in-GradeUp-clause-memory : goal.returns-in-GradeUp-clause-memory
returns-in-GradeUp-clause-memory c = subst (λ (f : Mix1). OnWantOfMemory c.grade_up.result (IsOk (mixed_monadic_of f c.args.b.now c.args.axis))) (sym c.in-GradeUp.is) (on_no_faults c.grade_up.result (grade_faults c.args.b.now) _ c.grade_up.ensures.memory)

pub returns-in-GradeDown-clause-memory : goal.returns-in-GradeDown-clause-memory
returns-in-GradeDown-clause-memory c = subst (λ (f : Mix1). OnWantOfMemory c.grade_down.result (IsOk (mixed_monadic_of f c.args.b.now c.args.axis))) (sym c.in-GradeDown.is) (on_no_faults c.grade_down.result (grade_faults c.args.b.now) _ c.grade_down.ensures.memory)

pub returns-in-Format-clause-memory : goal.returns-in-Format-clause-memory
returns-in-Format-clause-memory c = subst (λ (f : Mix1). OnWantOfMemory c.format.result (IsOk (mixed_monadic_of f c.args.b.now c.args.axis))) (sym c.in-Format.is) c.format.ensures.memory
