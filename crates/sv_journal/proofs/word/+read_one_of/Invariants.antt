use Rattle.std.proofs.Common.{length}
use Rattle.sv_journal.proofs.word.+read_one_of.Given as goal

abbrev pub decreases-read_one_of : goal.decreases-read_one_of
decreases-read_one_of g l = length l.words.now
