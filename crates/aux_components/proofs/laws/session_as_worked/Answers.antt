use Rattle.std.proofs.Common.{refl, arith}
use Rattle.std.specs.Char.{encode_utf8}
use Rattle.std.proofs.lemmas.Fmt.{decimal_digit}
use Rattle.aux_components.proofs.laws.session_as_worked.Goals as goal

pub returns-clause-bytes : goal.returns-clause-bytes
unfolding encode_utf8
returns-clause-bytes c = rw (decimal_digit 7 (omega arith), decimal_digit 2 (omega arith)) refl
