-- A part that gives a statement an array.
use Rattle.std.proofs.Common.{◌≡◌, ℕ, ◌+◌, Bool, false, true, subst, ap, arith}
use Rattle.std.specs.Prelude.{ℤ, Option, Some, Result, Ok, Err, if◌then◌else◌}
use Rattle.apl_arrays.specs.Array.{PlainArray}
use Rattle.apl_arrays.specs.declared.report.Fail.{Fail}
use Rattle.apl_arrays.specs.declared.report.Fail.TheVariants as fail
use Rattle.apl_arrays.specs.declared.report.Report.TheVariants.{Syntax}
use Rattle.apl_verbs.specs.declared.verb.Verb.{Verb}
use Rattle.apl_items.specs.Answers.{Answers}
use Rattle.operator_rules.specs.Apply.{applied}
use Rattle.apl_meaning.specs.Expressions.{valued}
use Rattle.apl_meaning.specs.State.{gives, refuses, outcome_of}
use Rattle.apl_meaning.specs.Verbs.{application, may_be_applied}
use Rattle.apl_statements.specs.declared.evaluation.Evaluation.{Evaluation}
use Rattle.apl_statements.specs.Evaluating.{caller_of}
use Rattle.apl_statements.specs.Interpreter.{PlainInterpreter, here, state_at}
use Rattle.apl_statements.specs.Moves.{Coming, Comes, Moves, part_gives}
use Rattle.apl_statements.specs.Stack.{carried_on}
use Rattle.apl_statements.proofs.Moving.{moved}
use Rattle.apl_statements.proofs.Same.{SameAt, at_once, moves_as}
use Rattle.apl_statements.proofs.Taken.{answer_ends, answer_gives}
use Rattle.apl_machine.specs.Given.{ComesToGive}
use Rattle.apl_machine.proofs.Applies.{counts_one}

-- what comes of a part that is the same comes of it
pub gives_as : (m : PlainInterpreter) (coming left : Coming) (k : ℕ) (under : Evaluation) (r : Result PlainArray Fail) → SameAt m coming left → ComesToGive m left k under r → ComesToGive m coming k under r
gives_as m coming left k under (Ok array) same comes = moves_as m m coming left (part_gives m under (λ s. gives (Some array) s)) k same comes
gives_as m coming left k under (Err (fail.Report report)) same comes = moves_as m m coming left (λ s. refuses report s) k same comes
gives_as m coming left k under (Err fail.WantOfMemory) same comes = tt

-- a part that ends the line gives nothing
pub refused_gives : (m : PlainInterpreter) (coming : Coming) (k : ℕ) (under : Evaluation) (why : Fail) → Comes m coming k m (Err why) → ComesToGive m coming k under (Err why)
refused_gives m coming k under (fail.Report report) comes = comes
refused_gives m coming k under fail.WantOfMemory comes = tt

pub given_refused : (m : PlainInterpreter) (coming : Coming) (k : ℕ) (under : Evaluation) (why : Fail) → ComesToGive m coming k under (Err why) → Comes m coming k m (Err why)
given_refused m coming k under (fail.Report report) comes = comes
given_refused m coming k under fail.WantOfMemory comes = tt

-- a step, and then one that counts nothing
behind : (m : PlainInterpreter) (coming left rest : Coming) (k : ℕ) → Moves m coming k m left → Moves m left 0 m rest → Moves m coming k m rest
behind m coming left rest k first second =
    let e : k + 0 ≡ k = omega arith in
    subst (λ (i : ℕ). Moves m coming i m rest) e (moved m m m coming left rest k 0 first second)

-- a function that may be applied gives what its call answers
pub applied_gives : (m : PlainInterpreter) (under : Evaluation) (f : Verb) (left : Option PlainArray) (right : PlainArray) (axis : Option ℤ) (k : ℕ) (r : Result PlainArray Fail) → may_be_applied f left axis ≡ true → k ≡ 1 → Answers r (applied f left right axis)
    → ComesToGive m (part_gives m under (λ s. valued (application f left right axis s))) k under r
applied_gives m under f left right axis k (Ok array) may one is =
    behind m (part_gives m under (λ s. valued (application f left right axis s))) (part_gives m under (λ s. valued (outcome_of (applied f left right axis) s))) (part_gives m under (λ s. gives (Some array) s)) k
    (counts_one m under f left right axis k may one)
    (at_once m (part_gives m under (λ s. valued (outcome_of (applied f left right axis) s))) (part_gives m under (λ s. gives (Some array) s)) (answer_gives m under (applied f left right axis) array is))
applied_gives m under f left right axis k (Err (fail.Report report)) may one is =
    behind m (part_gives m under (λ s. valued (application f left right axis s))) (part_gives m under (λ s. valued (outcome_of (applied f left right axis) s))) (λ s. refuses report s) k
    (counts_one m under f left right axis k may one) (answer_ends m under (applied f left right axis) (fail.Report report) is)
applied_gives m under f left right axis k (Err fail.WantOfMemory) may one is = tt

-- one that may not be applied ends the line
pub not_applied : (m : PlainInterpreter) (under : Evaluation) (f : Verb) (left : Option PlainArray) (right : PlainArray) (axis : Option ℤ) → may_be_applied f left axis ≡ false → SameAt m (part_gives m under (λ s. valued (application f left right axis s))) (λ s. refuses Syntax s)
not_applied m under f left right axis may asked count taken further =
    let s = state_at m asked count taken further in
    ap (λ (b : Bool). carried_on (valued (if b then outcome_of (applied f left right axis) (record s { applications = s.applications + 1 }) else refuses Syntax s)) (caller_of m.workspace (here m) under) m.stack) may
