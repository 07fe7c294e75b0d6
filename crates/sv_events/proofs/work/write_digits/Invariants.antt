use Rattle.std.proofs.Common.{◌≡◌, ◌+◌, ◌++◌, take}
use Rattle.sv_events.proofs.work.write_digits.Given as goal

abbrev pub invariant-loop-at : goal.invariant-loop-at
invariant-loop-at l = take (l.at + 1) l.glyphs ≡ take 1 l.fn.glyphs ++ take l.at l.digit-items
