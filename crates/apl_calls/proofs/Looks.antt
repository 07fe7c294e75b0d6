-- What is looked at before what becomes of a value needs memory.
use Rattle.std.proofs.Common.{◌≡◌, ℕ, List, [], sym, subst}
use Rattle.std.specs.Prelude.{Some, Result, Ok, Err, IsOk}
use Rattle.std.proofs.lemmas.Bool.{false≢true}
use Rattle.apl_arrays.specs.Array.{PlainArray}
use Rattle.apl_arrays.specs.declared.report.Fail.{Fail}
use Rattle.apl_arrays.specs.declared.report.Fail.TheVariants as fail
use Rattle.apl_arrays.specs.declared.report.Report.{Report}
use Rattle.apl_execute.specs.Text.{GivesNoText, text_of}
use Rattle.apl_items.specs.Places.{OnWantOfMemory}
use Rattle.apl_meaning.specs.Expressions.{Found}
use Rattle.apl_meaning.specs.State.{State, gives, and_then, outcome_of}
use Rattle.apl_statements.specs.Interpreter.{PlainInterpreter, state_at}
use Rattle.apl_statements.specs.Stack.{executes}
use Rattle.apl_statements.specs.Wants.{IsNoReport, NoReportIsDue}
use Rattle.apl_calls.specs.Ended.{looked_at}

text_there : (text : Result (List ℕ) Report) (s : State) → IsOk text → IsNoReport (and_then (outcome_of text s) (λ _ u. gives (tt {0}) u))
text_there (Ok line) s is = tt
text_there (Err report) s is = absurd (false≢true is)

-- a value that is a text
pub text_looked_at : (m : PlainInterpreter) (found : Found) (v : PlainArray) → found ≡ Some v → IsOk (text_of v) → NoReportIsDue m (looked_at executes found)
text_looked_at m found v is text asked count taken =
    subst (λ (f : Found). IsNoReport (looked_at executes f (state_at m asked count taken []))) (sym is) (text_there (text_of v) (state_at m asked count taken []) text)

-- memory ran out for a text only where the value is one
pub no_text_looked_at : (T : Type 0) (m : PlainInterpreter) (found : Found) (v : PlainArray) (why : Fail) → found ≡ Some v → GivesNoText (text_of v) why
    → OnWantOfMemory {T = T} (Err why) (NoReportIsDue m (looked_at executes found))
no_text_looked_at T m found v (fail.Report report) is refused = tt
no_text_looked_at T m found v fail.WantOfMemory is refused = text_looked_at m found v is refused
