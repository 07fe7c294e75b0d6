use Rattle.std.proofs.Common.{◌≤◌, ℕ, sym, subst, arith}
use Rattle.apl_selection.proofs.FlaggedLemmas.{short_kept}
use Rattle.apl_selection.proofs.JoinLaws.{vector_fits}
use Rattle.apl_selection.proofs.flagged.flagged_vector.Goals as goal

pub overflow_cast-count : goal.overflow_cast-count
overflow_cast-count c = let few = short_kept c.args.flags.now c.requires.few in let is = c.ones_of-count.ensures in omega arith

pub shaped-requires-clause-fits : goal.shaped-requires-clause-fits
shaped-requires-clause-fits c = vector_fits c.ones_of-count.result (subst (λ (n : ℕ). n ≤ 16384) (sym c.ones_of-count.ensures) (short_kept c.args.flags.now c.requires.few))
