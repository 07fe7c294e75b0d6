use Rattle.std.proofs.Common.{◌≡◌, length}
use Rattle.apl_workspace.specs.Header.{locals_in}
use Rattle.apl_workspace.proofs.Locals.{with_locals}
use Rattle.apl_workspace.proofs.header.locals_in.Given as goal

-- the names so far, and those of what is left, are those of all
abbrev pub invariant-loop-rest : goal.invariant-loop-rest
invariant-loop-rest l = with_locals l.locals.items (locals_in l.rest) ≡ locals_in l.symbols

-- the symbols that are left
abbrev pub decreases-loop-rest : goal.decreases-loop-rest
decreases-loop-rest l = length l.rest
