use Rattle.std.proofs.Common.{ℤ, Option, sym, subst}
use Rattle.std.specs.Prelude.{IsOk}
use Rattle.apl_items.specs.Answers.{Answers}
use Rattle.apl_items.specs.Places.{OnWantOfMemory}
use Rattle.apl_selection.specs.Compression.{compress_of}
use Rattle.apl_operators.proofs.lone.compress_by.Goals as goal

pub returns-in-None-clause-answer : goal.returns-in-None-clause-answer
returns-in-None-clause-answer c = subst (λ (axis : Option ℤ). Answers c.compress_whole.result (compress_of c.args.a.now c.args.b.now c.args.way axis)) (sym c.in-None.is) c.compress_whole.ensures.answer

pub returns-in-None-clause-memory : goal.returns-in-None-clause-memory
returns-in-None-clause-memory c = subst (λ (axis : Option ℤ). OnWantOfMemory c.compress_whole.result (IsOk (compress_of c.args.a.now c.args.b.now c.args.way axis))) (sym c.in-None.is) c.compress_whole.ensures.memory
