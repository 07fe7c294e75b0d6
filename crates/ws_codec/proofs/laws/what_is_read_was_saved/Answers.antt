use Rattle.ws_codec.proofs.SavedParts.{read_back}
use Rattle.ws_codec.proofs.laws.what_is_read_was_saved.Goals as goal

pub returns : goal.returns
returns c = record {
  sound = λ bytes table offers are e. (read_back bytes table offers are e).0;
  bytes = λ bytes table offers are e. (read_back bytes table offers are e).1;
}
