use Rattle.aplsv_words.proofs.Looks.{look_means_once}
use Rattle.aplsv_words.proofs.laws.looks_have_one_meaning.Goals as goal

pub returns : goal.returns
returns c = look_means_once
