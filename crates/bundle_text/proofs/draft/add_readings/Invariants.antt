use Rattle.std.proofs.Common.{◌≡◌, ◌++◌, map, pos, take}
use Rattle.bundle_text.proofs.draft.add_readings.Given as goal

abbrev pub invariant-loop-number : goal.invariant-loop-number
invariant-loop-number l = l.clock.items ≡ l.fn.clock.items ++ map pos (take l.number-index l.numbers)
