-- Where memory ran out for a part no report of it was due.
use Rattle.std.proofs.Common.{◌≡◌, ℕ, ◌+◌, Bool, true, List, [], sym, subst}
use Rattle.std.specs.Prelude.{ℤ, Option, Result, Ok, Err, IsOk, if◌then◌else◌}
use Rattle.std.proofs.lemmas.Bool.{false≢true}
use Rattle.apl_arrays.specs.Array.{PlainArray}
use Rattle.apl_arrays.specs.declared.report.Fail.{Fail}
use Rattle.apl_arrays.specs.declared.report.Fail.TheVariants as fail
use Rattle.apl_arrays.specs.declared.report.Report.{Report}
use Rattle.apl_arrays.specs.declared.report.Report.TheVariants.{Syntax}
use Rattle.apl_verbs.specs.declared.verb.Verb.{Verb}
use Rattle.apl_items.specs.Places.{OnWantOfMemory}
use Rattle.operator_rules.specs.Apply.{applied}
use Rattle.apl_workspace.specs.Workspace.{look}
use Rattle.apl_workspace.specs.declared.meaning.Meaning.{Meaning}
use Rattle.apl_workspace.specs.declared.meaning.Meaning.TheVariants as meaning
use Rattle.apl_meaning.specs.State.{State, refuses, outcome_of}
use Rattle.apl_meaning.specs.Variables.{reference, reference_by}
use Rattle.apl_meaning.specs.Verbs.{application, may_be_applied}
use Rattle.apl_statements.specs.Interpreter.{PlainInterpreter, state_at}
use Rattle.apl_statements.specs.Wants.{IsNoReport, NoReportIsDue}

-- a name that stands for this may be referred to
abbrev pub IsReferred : Meaning → Type 0
IsReferred meaning.Nothing = ⊥
IsReferred (meaning.Value value) = Unit {0}
IsReferred (meaning.Function function) = ⊥
IsReferred (meaning.Label line) = Unit {0}
IsReferred (meaning.Shared copy) = Unit {0}

referred_there : (name : List ℕ) (seen : Meaning) (m : PlainInterpreter) → IsReferred seen → NoReportIsDue m (reference_by seen name)
referred_there name meaning.Nothing m may asked count taken = absurd may
referred_there name (meaning.Value value) m may asked count taken = tt
referred_there name (meaning.Function function) m may asked count taken = absurd may
referred_there name (meaning.Label line) m may asked count taken = tt
referred_there name (meaning.Shared copy) m may asked count taken = tt

pub refers_free : (m : PlainInterpreter) (name : List ℕ) (seen : Meaning) → look m.workspace name ≡ seen → IsReferred seen → NoReportIsDue m (reference name)
refers_free m name seen is may asked count taken =
    subst (λ (x : Meaning). IsNoReport (reference_by x name (state_at m asked count taken []))) (sym is) (referred_there name seen m may asked count taken)

answer_there : (answer : Result PlainArray Report) (s : State) → IsOk answer → IsNoReport (outcome_of answer s)
answer_there (Ok array) s is = tt
answer_there (Err report) s is = absurd (false≢true is)

-- a function that may be applied, and has an array
pub applied_free : (m : PlainInterpreter) (f : Verb) (left : Option PlainArray) (right : PlainArray) (axis : Option ℤ) → may_be_applied f left axis ≡ true → IsOk (applied f left right axis) → NoReportIsDue m (application f left right axis)
applied_free m f left right axis may is asked count taken =
    let s : State = state_at m asked count taken [] in
    subst (λ (b : Bool). IsNoReport (if b then outcome_of (applied f left right axis) (record s { applications = s.applications + 1 }) else refuses Syntax s)) (sym may)
    (answer_there (applied f left right axis) (record s { applications = s.applications + 1 }) is)

-- three things hold where memory ran out
pub all_on_want : {T : Type 0} (r : Result T Fail) (one other last : Type 0) → OnWantOfMemory r one → OnWantOfMemory r other → OnWantOfMemory r last → OnWantOfMemory r (one × other × last)
all_on_want (Ok done) one other last h k l = tt
all_on_want (Err (fail.Report report)) one other last h k l = tt
all_on_want (Err fail.WantOfMemory) one other last h k l = (h, k, l)
