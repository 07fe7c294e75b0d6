use Rattle.session_rules.proofs.OneTranscript.{one_transcript}
use Rattle.session_rules.proofs.run_laws.one_transcript_of_parts.Goals as goal

pub returns : goal.returns
returns c = one_transcript
