use Rattle.std.proofs.Common.{is_some}
use Rattle.apl_arrays.specs.Shape.{shape_fault}
use Rattle.apl_items.proofs.AnswerLemmas.{answers_at_all}
use Rattle.apl_selection.specs.Catenation.{catenate_faults, catenate_of, catenated, catenated_axis, catenated_shape}
use Rattle.apl_selection.proofs.FaultLemmas.{answer_reported}
use Rattle.apl_selection.proofs.WantLemmas.{first_on_want}
use Rattle.apl_selection.proofs.catenation.catenate.Goals as goal

pub returns-in-Some-clause-answer : goal.returns-in-Some-clause-answer
returns-in-Some-clause-answer c =
    let a = c.args.a.now in let b = c.args.b.now in
    let faults = catenate_faults a b c.args.axis in
    answer_reported faults.bad_rank faults.bad_length faults.bad_domain faults.bad_index (is_some (shape_fault (catenated_shape a b (catenated_axis a b c.args.axis)))) (catenated a b (catenated_axis a b c.args.axis)) c.in-Some.report
    c.in-Some.ensures.value

pub returns-in-None-clause-answer : goal.returns-in-None-clause-answer
returns-in-None-clause-answer c = answers_at_all c.catenated.result (catenate_of c.args.a.now c.args.b.now c.args.axis) c.catenated.ensures

pub returns-in-None-clause-memory : goal.returns-in-None-clause-memory
returns-in-None-clause-memory c = first_on_want c.catenated.result (catenate_of c.args.a.now c.args.b.now c.args.axis) c.catenated.ensures
