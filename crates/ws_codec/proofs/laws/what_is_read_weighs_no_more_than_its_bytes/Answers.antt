use Rattle.ws_codec.proofs.Weighing.{read_weighs}
use Rattle.ws_codec.proofs.laws.what_is_read_weighs_no_more_than_its_bytes.Goals as goal

pub returns : goal.returns
returns c = read_weighs
