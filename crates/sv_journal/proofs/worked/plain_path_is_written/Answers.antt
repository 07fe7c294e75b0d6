use Rattle.std.proofs.Common.{refl}
use Rattle.std.specs.Fmt.{digits}
use lib.Utf8.{encode}
use Rattle.sv_journal.proofs.worked.plain_path_is_written.Goals as goal

pub returns : goal.returns
unfolding digits encode
returns c = refl
