use Rattle.fn_editor.proofs.BracketLaw.{bracket_is_written, written_is_bracket}
use Rattle.fn_editor.proofs.laws.brackets_ask_what_is_written.Goals as goal

pub returns : goal.returns
returns c = λ text rest bracket. (bracket_is_written text bracket rest, written_is_bracket text bracket rest)
