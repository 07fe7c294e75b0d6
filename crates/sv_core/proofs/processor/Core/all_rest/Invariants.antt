use Rattle.std.proofs.Common.{◌≡◌, take, true}
use Rattle.std.specs.List.{list_all}
use Rattle.sv_rules.specs.Work.{rests}
use Rattle.sv_core.proofs.processor.Core.all_rest.Given as goal

-- the parties of the rows so far have no work
abbrev pub invariant-loop-row : goal.invariant-loop-row
invariant-loop-row l = list_all (rests l.self.journal) (take l.row-index l.rows) ≡ true
