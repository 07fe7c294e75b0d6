use Rattle.ws_commands.proofs.WordLaws.{next_words, no_words, shorter}
use Rattle.ws_commands.proofs.words.first_word.Goals as goal

pub returns-in-None-clause-words : goal.returns-in-None-clause-words
returns-in-None-clause-words c = no_words c.args.line.now ((c.words_stand_between_blanks.ensures.none c.args.line.now).0 c.in-None.ensures)

pub returns-in-Some-clause-words : goal.returns-in-Some-clause-words
returns-in-Some-clause-words c = next_words c.args.line.now c.in-Some.word.now c.in-Some.rest.now ((c.words_stand_between_blanks.ensures.word c.args.line.now c.in-Some.word.now c.in-Some.rest.now).0 c.in-Some.ensures)

pub returns-in-Some-clause-shorter : goal.returns-in-Some-clause-shorter
returns-in-Some-clause-shorter c = shorter c.args.line.now c.in-Some.word.now c.in-Some.rest.now ((c.words_stand_between_blanks.ensures.word c.args.line.now c.in-Some.word.now c.in-Some.rest.now).0 c.in-Some.ensures)
