use Rattle.std.proofs.Common.{ℕ, List, ◌∷◌, [], ◌++◌, subst, sym}
use Rattle.std.specs.List.Sorted.{IsStrictlyIncreasing}
use Rattle.case_devices.proofs.CallLemmas.{two_ascend}
use Rattle.case_devices.proofs.calls.two_calls.Goals as goal

pub push-requires : goal.push-requires
push-requires c = subst (λ (numbers : List ℕ). IsStrictlyIncreasing (numbers ++ c.args.second ∷ [])) (sym c.in_ok-calls.ensures) (two_ascend c.args.first c.args.second c.requires)
