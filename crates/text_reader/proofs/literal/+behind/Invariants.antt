use Rattle.std.proofs.Common.{length}
use Rattle.text_reader.proofs.literal.+behind.Given as goal

abbrev pub decreases-behind : goal.decreases-behind
decreases-behind l = length l.text.now
