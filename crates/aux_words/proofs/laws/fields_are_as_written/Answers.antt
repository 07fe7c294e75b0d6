use Rattle.aux_words.proofs.Fronts.{front_is_cut, name_has_no_blank, nothing_is_cut, number_has_no_blank}
use Rattle.aux_words.proofs.laws.fields_are_as_written.Goals as goal

pub returns : goal.returns
returns c = record { cut = front_is_cut; whole = nothing_is_cut; numbers = number_has_no_blank; names = name_has_no_blank }
