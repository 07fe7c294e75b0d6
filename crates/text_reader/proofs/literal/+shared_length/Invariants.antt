use Rattle.std.proofs.Common.{length}
use Rattle.text_reader.proofs.literal.+shared_length.Given as goal

abbrev pub decreases-shared_length : goal.decreases-shared_length
decreases-shared_length l = length l.text.now
