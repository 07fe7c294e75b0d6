use Rattle.ws_codec.specs.Kept.{kept_globals}
use Rattle.ws_codec.proofs.SavedParts.{read_second}
use Rattle.ws_codec.proofs.StorableNames.{workspace_sound}
use Rattle.ws_codec.proofs.laws.workspaces_may_be_saved.Goals as goal

pub returns : goal.returns
returns c = record {
  sound = workspace_sound;
  read = λ w h stored. read_second (kept_globals w.globals) w.offers (workspace_sound w h stored);
}
