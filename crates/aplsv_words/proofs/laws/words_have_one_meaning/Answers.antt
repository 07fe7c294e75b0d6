use Rattle.aplsv_words.proofs.Counts.{means_once}
use Rattle.aplsv_words.proofs.laws.words_have_one_meaning.Goals as goal

pub returns : goal.returns
returns c = means_once
