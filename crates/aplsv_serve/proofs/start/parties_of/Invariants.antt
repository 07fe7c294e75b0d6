use Rattle.std.proofs.Common.{◌≡◌, ◌∷◌, take}
use Rattle.aux_parties.specs.Auxiliaries.{clock_party, text_party}
use Rattle.aplsv_serve.proofs.start.parties_of.Given as goal

abbrev pub invariant-loop-user : goal.invariant-loop-user
invariant-loop-user l = l.parties.items ≡ clock_party ∷ text_party ∷ take l.user-index l.users
