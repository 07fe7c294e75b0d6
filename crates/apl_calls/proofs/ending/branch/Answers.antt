use Rattle.std.proofs.lemmas.Result.{err_from_is_err_and}
use Rattle.apl_statements.proofs.Wants.{want_exit}
use Rattle.apl_calls.proofs.ending.branch.Goals as goal

pub returns-in_err-held-clause-memory : goal.returns-in_err-held-clause-memory
returns-in_err-held-clause-memory c = let p = err_from_is_err_and c.from_residual.result c.from_residual.ensures.1 in want_exit c.from_residual.result p.0 _ ⊥ p.1 p.2 tt

pub returns-in_err-branch_to-clause-memory : goal.returns-in_err-branch_to-clause-memory
returns-in_err-branch_to-clause-memory c = let p = err_from_is_err_and c.from_residual-in_err-branch_to.result c.from_residual-in_err-branch_to.ensures.1 in want_exit c.from_residual-in_err-branch_to.result p.0 _ ⊥ p.1 p.2 tt
