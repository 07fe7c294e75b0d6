use Rattle.std.proofs.Common.{◌≡◌, true, take}
use Rattle.std.specs.List.{list_all}
use Rattle.sv_rules.specs.Journal.{journal_of}
use Rattle.sv_rules.specs.Work.{rests}
use Rattle.sv_plain.proofs.waiting.all_rest.Given as goal

-- the parties of the rows so far have no work
abbrev pub invariant-loop-row : goal.invariant-loop-row
invariant-loop-row l = list_all (rests (journal_of l.entries)) (take l.row-index l.rows) ≡ true
