use Rattle.session_rules.proofs.Growing.{transcripts_grow}
use Rattle.session_rules.proofs.session_laws.transcripts_grow.Goals as goal

pub returns : goal.returns
returns c = transcripts_grow
