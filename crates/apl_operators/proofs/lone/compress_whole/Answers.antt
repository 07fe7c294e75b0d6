use Rattle.std.proofs.Common.{None, rules, w64, SFits}
use Rattle.std.proofs.lemmas.Int.{to_z-of_z}
use Rattle.apl_items.specs.Answers.{AnswersFirst}
use Rattle.apl_items.proofs.AnswerLemmas.{answers_at_all}
use Rattle.apl_selection.proofs.WantLemmas.{first_on_want}
use Rattle.apl_selection.specs.Compression.{compress_of}
use Rattle.apl_operators.proofs.LoneLemmas.{kept_answers}
use Rattle.apl_operators.proofs.lone.compress_whole.Goals as goal
use Rattle.apl_operators.proofs.lone.compress_whole.Goals.{After-kept_number}

-- what was answered for the flag and the number
answered : (c : After-kept_number) → AnswersFirst c.kept_number.result (compress_of c.args.a.now c.args.b.now c.args.way None)
answered c =
    let flag : SFits w64 c.in-Some.pair.0 = search rules in
    let number : SFits w64 c.in-Some.pair.1 = search rules in
    kept_answers c.args.way c.args.a.now c.args.b.now c.in-Some.pair.0 c.in-Some.pair.1 c.kept_number.result c.in-Some.ensures.0 c.in-Some.ensures.1 (simp to_z-of_z at (c.kept_number.ensures c.args.way))

pub returns-in-Some-clause-answer : goal.returns-in-Some-clause-answer
returns-in-Some-clause-answer c = answers_at_all c.kept_number.result (compress_of c.args.a.now c.args.b.now c.args.way None) (answered c)

pub returns-in-Some-clause-memory : goal.returns-in-Some-clause-memory
returns-in-Some-clause-memory c = first_on_want c.kept_number.result (compress_of c.args.a.now c.args.b.now c.args.way None) (answered c)
