use Rattle.ws_codec.proofs.Texts.{text_is_unspoiled, unspoiled_is_text}
use Rattle.ws_codec.proofs.laws.bytes_are_texts_or_break_a_rule.Goals as goal

pub returns : goal.returns
returns c = record { text = unspoiled_is_text; unspoiled = text_is_unspoiled }
