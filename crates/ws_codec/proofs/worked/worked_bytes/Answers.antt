use Rattle.std.proofs.Common.{refl}
use Rattle.ws_codec.proofs.worked.worked_bytes.Goals as goal

pub returns : goal.returns
returns c = record { alone = refl; offered = refl; first = refl }
