use Rattle.apl_items.proofs.AnswerLemmas.{answers_at_all}
use Rattle.apl_selection.specs.Compression.{compress_of}
use Rattle.apl_selection.proofs.WantLemmas.{first_on_want}
use Rattle.apl_selection.proofs.compression.compress.Goals as goal

pub returns-in-None-clause-answer : goal.returns-in-None-clause-answer
returns-in-None-clause-answer c = answers_at_all c.compressed.result (compress_of c.args.a.now c.args.b.now c.args.way c.args.axis) c.compressed.ensures

pub returns-in-None-clause-memory : goal.returns-in-None-clause-memory
returns-in-None-clause-memory c = first_on_want c.compressed.result (compress_of c.args.a.now c.args.b.now c.args.way c.args.axis) c.compressed.ensures
