use Rattle.apl_arrays.proofs.Words.{word_is_next, next_is_word, no_word_where_blank, blank_where_no_word}
use Rattle.apl_arrays.proofs.word.words_stand_between_blanks.Goals as goal

pub returns-clause-word : goal.returns-clause-word
returns-clause-word c line word rest = (word_is_next line word rest, next_is_word line word rest)

pub returns-clause-none : goal.returns-clause-none
returns-clause-none c line = (blank_where_no_word line, no_word_where_blank line)
