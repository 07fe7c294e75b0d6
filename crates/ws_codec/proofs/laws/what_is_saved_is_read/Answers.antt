use Rattle.ws_codec.proofs.SavedParts.{read_first, read_second}
use Rattle.ws_codec.proofs.laws.what_is_saved_is_read.Goals as goal

pub returns : goal.returns
returns c = record { second = read_second; first = read_first }
