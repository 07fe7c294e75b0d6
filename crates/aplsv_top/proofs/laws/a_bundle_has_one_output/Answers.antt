use Rattle.aplsv_top.proofs.OneOutput.{one_output_of_bytes}
use Rattle.aplsv_top.proofs.laws.a_bundle_has_one_output.Goals as goal

pub returns : goal.returns
returns c = one_output_of_bytes c.files_are_read_in_one_way.ensures c.one_transcript_of_parts.ensures c.texts_are_of_one_bundle.ensures
