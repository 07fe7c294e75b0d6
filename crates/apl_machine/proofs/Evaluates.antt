-- A statement that goes on part by part, and statements one after another.
use Rattle.std.proofs.Common.{◌≡◌, ◌≤◌, ◌+◌, ◌-◌, ℕ, length, sym, ap, subst, arith}
use Rattle.std.specs.Prelude.{Result}
use Rattle.apl_arrays.specs.declared.report.Fail.{Fail}
use Rattle.apl_statements.specs.declared.evaluation.Evaluation.{Evaluation}
use Rattle.apl_statements.specs.declared.flow.Flow.{Flow}
use Rattle.apl_statements.specs.Evaluating.{plain_purpose}
use Rattle.apl_statements.specs.Interpreter.{PlainInterpreter}
use Rattle.apl_statements.specs.Moves.{Coming, Comes, Moves, value_put}
use Rattle.apl_statements.specs.Holding.{parts_of}
use Rattle.apl_statements.proofs.Moving.{comes_behind, comes_then, moved}
use Rattle.apl_statements.proofs.Same.{moves_then}
use Rattle.apl_calls.proofs.Falling.{ends_there}
use Rattle.apl_machine.proofs.StepParts.{to_come}

-- what was counted up to a point, and from there on
pub moved_on : (m p n : PlainInterpreter) (coming left rest : Coming) (a b c : ℕ) → a ≤ b → b ≤ c → Moves m coming (b - a) p left → Moves p left (c - b) n rest → Moves m coming (c - a) n rest
moved_on m p n coming left rest a b c first second before behind =
    let e : b - a + (c - b) ≡ c - a = omega (arith, first, second) in
    subst (λ (k : ℕ). Moves m coming k n rest) e (moved m p n coming left rest (b - a) (c - b) before behind)

pub comes_on : (m p n : PlainInterpreter) (coming left : Coming) (a b c : ℕ) (r : Result Flow Fail) → a ≤ b → b ≤ c → Moves m coming (b - a) p left → Comes p left (c - b) n r → Comes m coming (c - a) n r
comes_on m p n coming left a b c r first second before behind =
    let e : b - a + (c - b) ≡ c - a = omega (arith, first, second) in
    subst (λ (k : ℕ). Comes m coming k n r) e (comes_behind m p n coming left (b - a) (c - b) r before behind)

-- a statement that is over, and is not followed in its place, is ended
pub ended_on : (m n same o : PlainInterpreter) (e left : Evaluation) (coming : Coming) (k : ℕ) (r : Result Flow Fail) → (same ≡ n) × (left ≡ e) → length (parts_of e) ≤ e.at → Moves m coming k n (to_come n e)
    → Comes same (value_put same left (plain_purpose left.purpose)) 0 o r → Comes m coming k o r
ended_on m n same o e left coming k r unchanged all before behind =
    comes_then m n o coming (value_put n e (plain_purpose e.purpose)) k r (moves_then m n coming (to_come n e) (value_put n e (plain_purpose e.purpose)) k (λ s. ends_there n e s all) before)
    (subst (λ (x : PlainInterpreter). Comes x (value_put x e (plain_purpose e.purpose)) 0 o r) unchanged.0
    (subst (λ (x : Evaluation). Comes same (value_put same x (plain_purpose x.purpose)) 0 o r) unchanged.1 behind))
