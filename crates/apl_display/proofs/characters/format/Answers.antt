use Rattle.apl_display.proofs.AnswerLemmas.{format_answers, format_wants}
use Rattle.apl_display.proofs.characters.format.Goals as goal

pub returns-clause-value : goal.returns-clause-value
returns-clause-value c = format_answers c.as_characters.result c.args.b.now c.as_characters.ensures.array.fits.rank c.as_characters.ensures.value c.as_characters.ensures.fits c.as_characters.ensures.refused

pub returns-clause-memory : goal.returns-clause-memory
returns-clause-memory c = format_wants c.as_characters.result c.args.b.now c.as_characters.ensures.memory
