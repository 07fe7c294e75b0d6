use Rattle.std.proofs.Common.{◌≡◌, ◌++◌, take}
use Rattle.bundle_text.proofs.draft.add_parties.Given as goal

abbrev pub invariant-loop-number : goal.invariant-loop-number
invariant-loop-number l = l.order.items ≡ l.fn.order.items ++ take l.number-index l.numbers
