use Rattle.std.proofs.Common.{◌≡◌, take}
use Rattle.std.specs.Prelude.{map, pos}
use Rattle.apl_answers.proofs.lists.party_numbers.Given as goal

-- the parties so far
abbrev pub invariant-loop-party : goal.invariant-loop-party
invariant-loop-party l = l.numbers.items ≡ map (λ party. pos party) (take l.party-index l.parties)
