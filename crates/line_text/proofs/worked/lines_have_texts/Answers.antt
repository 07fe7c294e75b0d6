use Rattle.std.proofs.Common.{refl}
use Rattle.std.specs.Char.{encode_utf8}
use Rattle.std.specs.Fmt.{digits}
use Rattle.line_text.proofs.worked.lines_have_texts.Goals as goal

pub returns : goal.returns
unfolding digits encode_utf8
returns c = record { user = refl; last = refl }
