use Rattle.std.proofs.Common.{ℕ, List, ◌∷◌, [], ◌++◌, subst, sym}
use Rattle.std.specs.List.Sorted.{IsStrictlyIncreasing}
use Rattle.case_devices.proofs.CallLemmas.{three_ascend}
use Rattle.case_devices.proofs.calls.three_calls.Goals as goal

pub push-requires : goal.push-requires
push-requires c = subst (λ (numbers : List ℕ). IsStrictlyIncreasing (numbers ++ c.args.third ∷ [])) (sym c.in_ok-calls.ensures) (three_ascend c.args.first c.args.second c.args.third c.requires.first c.requires.second)
