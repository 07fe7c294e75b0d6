-- Where nothing is wrong with an indexing no report of it is due.
use Rattle.std.proofs.Common.{◌≡◌, ℕ, List, ◌∷◌, [], refl, sym, subst}
use Rattle.std.specs.Prelude.{Option, Some, None, Result, Ok, Err}
use Rattle.apl_arrays.specs.Array.{PlainArray}
use Rattle.apl_arrays.specs.declared.report.Fail.{Fail}
use Rattle.apl_arrays.specs.declared.report.Fail.TheVariants as fail
use Rattle.apl_arrays.specs.declared.report.Report.{Report}
use Rattle.apl_items.specs.Answers.{Answers, first_report, unless}
use Rattle.apl_items.specs.Places.{OnWantOfMemory}
use Rattle.apl_selection.specs.Indexing.{index_faults, indexed, selection_of}
use Rattle.apl_meaning.specs.Expressions.{valued}
use Rattle.apl_meaning.specs.Nodes.{indexed_step, leaving_values, popped}
use Rattle.apl_meaning.specs.State.{State, outcome_of}
use Rattle.apl_statements.specs.declared.evaluation.Evaluation.{Evaluation}
use Rattle.apl_statements.specs.Holding.{stack_values}
use Rattle.apl_statements.specs.Interpreter.{PlainInterpreter, state_at}
use Rattle.apl_statements.specs.Wants.{IsNoReport, NoReportIsDue}
use Rattle.apl_machine.specs.Wants.{UnlessReport}

-- nothing is wrong with it
pub index_free : (m : PlainInterpreter) (e : Evaluation) (places : List (Option ℕ)) (array : PlainArray) (values : List PlainArray) → stack_values m.workspace e ≡ array ∷ values → None ≡ first_report (index_faults array (popped places values).subs)
    → NoReportIsDue m (indexed_step places (stack_values m.workspace e))
index_free m e places array values first none asked count taken =
    let s : State = state_at m asked count taken [] in
    subst (λ (all : List PlainArray). IsNoReport (indexed_step places all s)) (sym first)
    (subst (λ (r : Option Report). IsNoReport (leaving_values (popped places values).values (valued (outcome_of (unless r (indexed array (popped places values).subs)) s)))) none tt)

-- what was selected has no report
none_told : (told : Option Report) (array picked : PlainArray) → unless told array ≡ Ok picked → None ≡ told
none_told None array picked is = refl
none_told (Some report) array picked is = absurd (let no : Err report ≡ Ok picked = is in cc)

-- nothing is wrong, but where a report was told
pub index_unless : (result : Result PlainArray Fail) (array : PlainArray) (subs : List (Option PlainArray)) → Answers result (selection_of array subs) → OnWantOfMemory result (first_report (index_faults array subs) ≡ None)
    → UnlessReport result (None ≡ first_report (index_faults array subs))
index_unless (Ok picked) array subs is free = none_told (first_report (index_faults array subs)) (indexed array subs) picked is
index_unless (Err (fail.Report report)) array subs is free = tt
index_unless (Err fail.WantOfMemory) array subs is free = sym free
