use Rattle.std.proofs.lemmas.Slice.Eq.{slice_eq-Decides}
use Rattle.sv_plain.proofs.SameLemmas.{same_pair_decides}
use Rattle.run_judging.proofs.same.same_pairs.Goals as goal

pub returns : goal.returns
returns c = slice_eq-Decides same_pair_decides c.args.one.now.items c.args.other.now.items c.eq.result c.eq.ensures
