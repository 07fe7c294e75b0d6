use Rattle.std.proofs.Common.{rules, w64, SFits}
use Rattle.std.proofs.lemmas.Int.{to_z-of_z}
use Rattle.apl_items.specs.Answers.{AnswersFirst}
use Rattle.apl_items.proofs.AnswerLemmas.{answers_at_all}
use Rattle.apl_selection.proofs.WantLemmas.{first_on_want}
use Rattle.apl_scalar.specs.Scalar.{dyadic_of}
use Rattle.apl_operators.proofs.LoneLemmas.{pair_answers}
use Rattle.apl_operators.proofs.lone.pair.Goals as goal
use Rattle.apl_operators.proofs.lone.pair.Goals.{After-pair_of_numbers}

-- what was answered for the numbers
answered : (c : After-pair_of_numbers) → AnswersFirst c.pair_of_numbers.result (dyadic_of c.args.f c.args.a.now c.args.b.now)
answered c =
    let one : SFits w64 c.in-Some.pair.0 = search rules in
    let other : SFits w64 c.in-Some.pair.1 = search rules in
    pair_answers c.args.f c.args.a.now c.args.b.now c.in-Some.pair.0 c.in-Some.pair.1 c.pair_of_numbers.result c.in-Some.ensures.0 c.in-Some.ensures.1 (simp to_z-of_z at c.pair_of_numbers.ensures)

pub returns-in-Some-clause-value : goal.returns-in-Some-clause-value
returns-in-Some-clause-value c = answers_at_all c.pair_of_numbers.result (dyadic_of c.args.f c.args.a.now c.args.b.now) (answered c)

pub returns-in-Some-clause-memory : goal.returns-in-Some-clause-memory
returns-in-Some-clause-memory c = first_on_want c.pair_of_numbers.result (dyadic_of c.args.f c.args.a.now c.args.b.now) (answered c)
