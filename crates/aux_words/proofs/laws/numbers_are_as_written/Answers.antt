use Rattle.aux_words.proofs.Numbers.{read, written}
use Rattle.aux_words.proofs.laws.numbers_are_as_written.Goals as goal

pub returns : goal.returns
returns c = record { read = read; written = written }
