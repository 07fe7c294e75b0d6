use Rattle.std.proofs.Common.{◌≡◌, take, true}
use Rattle.std.specs.List.{list_all}
use Rattle.sv_rules.specs.Work.{is_halted}
use Rattle.sv_core.proofs.processor.Core.halt.Given as goal

-- the users so far are halted
abbrev pub invariant-loop-user : goal.invariant-loop-user
invariant-loop-user l = list_all (is_halted l.self.journal) (take l.user-index l.users) ≡ true
