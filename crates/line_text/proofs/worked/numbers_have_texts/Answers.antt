use Rattle.std.proofs.Common.{refl}
use Rattle.std.specs.Fmt.{digits}
use Rattle.line_text.proofs.worked.numbers_have_texts.Goals as goal

pub returns : goal.returns
unfolding digits
returns c = record { none = refl; ten = refl; negative = refl; least = refl; wide = refl }
