use Rattle.ws_codec.proofs.Texts.{first_of_one, never_both, second_of_one}
use Rattle.ws_codec.proofs.laws.texts_are_of_one_workspace.Goals as goal

pub returns : goal.returns
returns c = record { second = second_of_one; first = first_of_one; apart = never_both }
