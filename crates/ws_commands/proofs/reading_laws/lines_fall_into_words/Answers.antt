use Rattle.ws_commands.proofs.WordLaws.{next_words, no_words}
use Rattle.ws_commands.proofs.reading_laws.lines_fall_into_words.Goals as goal

pub returns-clause-word : goal.returns-clause-word
returns-clause-word c = next_words

pub returns-clause-none : goal.returns-clause-none
returns-clause-none c = no_words
