use Rattle.std.proofs.Common.{◌≡◌, true, take}
use Rattle.std.specs.List.{list_all}
use Rattle.sv_rules.specs.Journal.{journal_of}
use Rattle.sv_rules.specs.Work.{is_halted}
use Rattle.sv_plain.proofs.waiting.all_halt.Given as goal

-- the users so far are halted
abbrev pub invariant-loop-user : goal.invariant-loop-user
invariant-loop-user l = list_all (is_halted (journal_of l.entries)) (take l.user-index l.users) ≡ true
