use Rattle.std.proofs.Common.{◌≡◌, ℕ, ◌+◌, ◌%◌, Some, ap, ◌∙◌, arith}
use Rattle.std.proofs.Math.Nat.{mod-add-mod}
use Rattle.apl_structure.proofs.reshaping.CycleWalk.advance.Goals as goal

cycle_on : (at length next n : ℕ) → next ≡ (at + 1) % length → (next + n) % length ≡ (at + (n + 1)) % length
cycle_on at length next n e =
    let same : (at + 1) + n ≡ at + (n + 1) = omega arith in
    ap (λ (m : ℕ). (m + n) % length) e ∙ mod-add-mod (at + 1) length n ∙ ap (λ (m : ℕ). m % length) same

pub returns-clause-rest : goal.returns-clause-rest
returns-clause-rest c = λ n. let same = cycle_on c.args.self.now.at c.args.self.now.length c.after-next.result n c.after-next.ensures.value in ap (λ (m : ℕ). Some m) same
