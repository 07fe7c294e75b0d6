-- Steps one after another.
use Rattle.std.proofs.Common.{◌≡◌, ℕ, ◌+◌, ap, subst, sym, ◌∙◌, arith}
use Rattle.std.specs.Prelude.{Result, Ok, Err}
use Rattle.apl_arrays.specs.declared.report.Fail.{Fail}
use Rattle.apl_arrays.specs.declared.report.Fail.TheVariants as fail
use Rattle.apl_meaning.specs.State.{refuses}
use Rattle.apl_meaning.specs.Meaning.{closed}
use Rattle.apl_statements.specs.declared.flow.Flow.{Flow}
use Rattle.apl_statements.specs.Interpreter.{PlainInterpreter, state_at}
use Rattle.apl_statements.specs.Moves.{Coming, Comes, Moves, flow_to_come}

-- nothing was done
pub stays : (m : PlainInterpreter) (coming : Coming) → Moves m coming 0 m coming
stays m coming = record { same = λ asked count taken further. let e : count ≡ count + 0 = omega arith in ap (λ (c : ℕ). closed (coming (state_at m asked c taken further))) e }

-- one step, and then another
pub moved : (m n o : PlainInterpreter) (coming left rest : Coming) (a b : ℕ) → Moves m coming a n left → Moves n left b o rest → Moves m coming (a + b) o rest
moved m n o coming left rest a b first second = record {
  same = λ asked count taken further.
      let e : count + a + b ≡ count + (a + b) = omega arith in
      first.same asked count taken further ∙ second.same asked (count + a) taken further ∙ ap (λ (c : ℕ). closed (rest (state_at o asked c taken further))) e;
}

-- a step, and then one that comes to a flow or to a report
pub comes_behind : (m n o : PlainInterpreter) (coming left : Coming) (a b : ℕ) (r : Result Flow Fail) → Moves m coming a n left → Comes n left b o r → Comes m coming (a + b) o r
comes_behind m n o coming left a b (Ok next) first second = moved m n o coming left (flow_to_come o next) a b first second
comes_behind m n o coming left a b (Err (fail.Report report)) first second = moved m n o coming left (λ s. refuses report s) a b first second
comes_behind m n o coming left a b (Err fail.WantOfMemory) first second = tt

-- a step that counts nothing, and then more
pub comes_after : (m n o : PlainInterpreter) (coming left : Coming) (b : ℕ) (r : Result Flow Fail) → Moves m coming 0 n left → Comes n left b o r → Comes m coming b o r
comes_after m n o coming left b r first second =
    let e : 0 + b ≡ b = omega arith in
    subst (λ (k : ℕ). Comes m coming k o r) e (comes_behind m n o coming left 0 b r first second)

-- more, and then a step that counts nothing
pub comes_then : (m n o : PlainInterpreter) (coming left : Coming) (a : ℕ) (r : Result Flow Fail) → Moves m coming a n left → Comes n left 0 o r → Comes m coming a o r
comes_then m n o coming left a r first second =
    let e : a + 0 ≡ a = omega arith in
    subst (λ (k : ℕ). Comes m coming k o r) e (comes_behind m n o coming left a 0 r first second)

-- where so many were counted, and that is none
pub none_counted : (m n : PlainInterpreter) (coming : Coming) (k : ℕ) (r : Result Flow Fail) → k ≡ 0 → Comes m coming 0 n r → Comes m coming k n r
none_counted m n coming k r none comes = subst (λ (i : ℕ). Comes m coming i n r) (sym none) comes

pub moved_none : (m n : PlainInterpreter) (coming left : Coming) (k : ℕ) → k ≡ 0 → Moves m coming 0 n left → Moves m coming k n left
moved_none m n coming left k none moves = subst (λ (i : ℕ). Moves m coming i n left) (sym none) moves
