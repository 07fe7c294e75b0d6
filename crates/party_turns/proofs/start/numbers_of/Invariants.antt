use Rattle.std.proofs.Common.{◌≡◌, map, take}
use Rattle.party_turns.proofs.start.numbers_of.Given as goal

abbrev pub invariant-loop-user : goal.invariant-loop-user
invariant-loop-user l = l.numbers.items ≡ map (λ user. user.number) (take l.user-index l.users)
