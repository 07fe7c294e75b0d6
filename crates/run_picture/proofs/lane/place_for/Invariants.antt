use Rattle.std.proofs.Common.{◌≡◌, ◌++◌, drop, take}
use Rattle.sv_rules.specs.Questions.{with_number}
use Rattle.run_picture.proofs.lane.place_for.Given as goal

-- the parties gone over are below the new one, which has its place among what is left
abbrev pub invariant-loop-at : goal.invariant-loop-at
invariant-loop-at l = with_number l.new l.lanes ≡ take l.at l.lanes ++ with_number l.new (drop l.at l.lanes)
