-- What the answer to an act does that a line is alone.
use Rattle.std.proofs.Common.{◌≡◌, ℕ, ◌+◌, ◌≤◌, ◌<◌, Bool, true, false, List, ◌++◌, refl, sym, ap, ◌∙◌, arith}
use Rattle.std.specs.Prelude.{Option, Some, None, Result, Ok, Err, IfErr, OnErr, OnOk, nat_le, if◌then◌else◌}
use Rattle.std.proofs.lemmas.Bool.{le-leb}
use Rattle.std.proofs.lemmas.Bool.Decides.{nat_tests}
use Rattle.apl_arrays.specs.Array.{PlainArray}
use Rattle.apl_arrays.specs.declared.report.Fail.{Fail}
use Rattle.apl_arrays.specs.declared.report.Fail.TheVariants as fail
use Rattle.apl_arrays.specs.declared.report.Report.{Report}
use Rattle.apl_arrays.specs.declared.report.Report.TheVariants.{WsFull}
use Rattle.apl_items.specs.Places.{OnWantOfMemory}
use Rattle.apl_workspace.specs.Limits.{most_weight}
use Rattle.apl_workspace.specs.Workspace.{IsTooHeavy, PlainWorkspace, workspace_weight}
use Rattle.sv_events.specs.Answer.{PlainAnswer}
use Rattle.sv_events.specs.Row.{answer_row}
use Rattle.sv_events.specs.declared.event.Act.{Act}
use Rattle.apl_meaning.specs.Answers.{got, report_of_kind, unless_ended, with_copy}
use Rattle.apl_meaning.specs.Printing.{value_printed}
use Rattle.apl_meaning.specs.State.{State, Effect, gives, refuses, and_then}
use Rattle.apl_values.proofs.Seen.{renewed}
use Rattle.apl_statements.specs.Led.{EndsThere, HasLed, Leads}
use Rattle.apl_statements.proofs.Printed.{over, still_printed}
use Rattle.apl_statements.proofs.Steps.{grouped}
use Rattle.apl_acts.specs.Alone.{answer_outcome, answer_told}

-- ---- one part after another

module _ {T : Type 0} where
  -- a part that was done, and then another
  pub leads_then : (r : Result T Fail) (w v u : PlainWorkspace) (before mid after : List (List ℕ)) (part next : State → Effect) → Leads w before part v mid → HasLed v mid next u after r → HasLed w before (λ s. and_then (part s) (λ _ t. next t)) u after r
  leads_then (Ok done) w v u before mid after part next first second = record {
    same = λ s front at printed.
        ap (λ (o : Effect). and_then o (λ _ t. next t)) (first.same s front at printed) ∙ second.same (record s { workspace = v; printed = front ++ mid }) front refl refl;
  }
  leads_then (Err (fail.Report report)) w v u before mid after part next first second = record {
    same = λ s front at printed.
        ap (λ (o : Effect). and_then o (λ _ t. next t)) (first.same s front at printed) ∙ second.same (record s { workspace = v; printed = front ++ mid }) front refl refl;
  }
  leads_then (Err fail.WantOfMemory) w v u before mid after part next first second = tt

  -- a part that does the same as another
  pub led_as : (r : Result T Fail) (w v : PlainWorkspace) (before after : List (List ℕ)) (one other : State → Effect) → ((s : State) → s.workspace ≡ w → one s ≡ other s) → HasLed w before other v after r → HasLed w before one v after r
  led_as (Ok done) w v before after one other same led = record { same = λ s front at printed. same s at ∙ led.same s front at printed }
  led_as (Err (fail.Report report)) w v before after one other same led = record { same = λ s front at printed. same s at ∙ led.same s front at printed }
  led_as (Err fail.WantOfMemory) w v before after one other same led = tt

  -- the own copy is another, unless the workspace would weigh too much
  pub copy_led : (r : Result T Fail) (w v : PlainWorkspace) (before : List (List ℕ)) (name : List ℕ) (value : PlainArray) → OnOk r (v ≡ renewed name value w) → OnErr r (v ≡ w) → OnOk r (workspace_weight (renewed name value w) ≤ most_weight)
      → IfErr r (IsTooHeavy (renewed name value w)) → HasLed w before (with_copy name value) v before r
  copy_led (Ok done) w v before name value ok err fits full = record {
    same = λ s front at printed.
        ap (λ (x : PlainWorkspace). if nat_le (workspace_weight (renewed name value x)) most_weight then gives tt (record s { workspace = renewed name value x }) else refuses WsFull s) at
        ∙ ap (λ (b : Bool). if b then gives tt (record s { workspace = renewed name value w }) else refuses WsFull s) (le-leb (workspace_weight (renewed name value w)) most_weight fits)
        ∙ ap (λ (x : PlainWorkspace). gives tt (record s { workspace = x })) (sym ok)
        ∙ ap (λ (t : State). gives tt t) (still_printed s v (front ++ before) printed);
  }
  copy_led (Err (fail.Report report)) w v before name value ok err fits full =
      let is : fail.Report report ≡ fail.Report WsFull = full.0 in
      let full_is : WsFull ≡ report = cc in
      record {
        same = λ s front at printed.
            ap (λ (x : PlainWorkspace). if nat_le (workspace_weight (renewed name value x)) most_weight then gives tt (record s { workspace = renewed name value x }) else refuses WsFull s) at
            ∙ ap (λ (b : Bool). if b then gives tt (record s { workspace = renewed name value w }) else refuses WsFull s) (over (workspace_weight (renewed name value w)) most_weight full.1)
            ∙ ap (λ (why : Report). refuses why s) full_is
            ∙ ap (λ (x : PlainWorkspace). refuses report (record s { workspace = x })) (at ∙ sym err)
            ∙ ap (λ (t : State). refuses report t) (still_printed s v (front ++ before) printed);
      }
  copy_led (Err fail.WantOfMemory) w v before name value ok err fits full = tt

-- a copy that takes no memory is never refused for want of it
pub no_want : {T : Type 0} (r : Result T Fail) (w : PlainWorkspace) (fact : Type 0) → IfErr r (IsTooHeavy w) → OnWantOfMemory r fact
no_want (Ok done) w fact heavy = tt
no_want (Err (fail.Report report)) w fact heavy = tt
no_want (Err fail.WantOfMemory) w fact heavy = absurd (cc (heavy.0))

-- whether a copy fits, as it was tested
pub copy_fits : (weight most : ℕ) (fits : Bool) → fits ≡ nat_le weight most → fits ≡ true → weight ≤ most
copy_fits weight most fits is e = grind (arith, nat_tests)

over_most : (weight most : ℕ) (fits : Bool) → fits ≡ nat_le weight most → fits ≡ false → most < weight
over_most weight most fits is e = grind (arith, nat_tests)

-- a copy that does not fit ends the line
pub heavy_led : (w : PlainWorkspace) (before : List (List ℕ)) (name : List ℕ) (value : PlainArray) (fits : Bool) → fits ≡ nat_le (workspace_weight (renewed name value w)) most_weight → fits ≡ false
    → HasLed {T = Unit {0}} w before (with_copy name value) w before (Err (fail.Report WsFull))
heavy_led w before name value fits is e = copy_led {T = Unit {0}} (Err (fail.Report WsFull)) w w before name value tt refl tt (refl, over_most (workspace_weight (renewed name value w)) most_weight fits is e)

-- a part that ended the line, and another that would follow
pub ends_before : (w v : PlainWorkspace) (before after : List (List ℕ)) (part next : State → Effect) (why : Fail) → HasLed {T = Unit {0}} w before part v after (Err why) → HasLed {T = Unit {0}} w before (λ s. and_then (part s) (λ _ t. next t)) v after (Err why)
ends_before w v before after part next (fail.Report report) led = record { same = λ s front at printed. ap (λ (o : Effect). and_then o (λ _ t. next t)) (led.same s front at printed) }
ends_before w v before after part next fail.WantOfMemory led = tt

-- a part that ends the line at once
pub ends_at_once : (w v : PlainWorkspace) (before : List (List ℕ)) (part : State → Effect) (report : Report) → v ≡ w → ((s : State) → part s ≡ refuses report s) → EndsThere w before part report v before
ends_at_once w v before part report same is = record {
  same = λ s front at printed. is s ∙ ap (λ (x : PlainWorkspace). refuses report (record s { workspace = x })) (at ∙ sym same) ∙ ap (λ (t : State). refuses report t) (still_printed s v (front ++ before) printed);
}

-- ---- an answer

-- a use that got a value
pub use_told : (name : List ℕ) (found : Option PlainArray) (value : PlainArray) (s : State) → found ≡ Some value → and_then (got name found s) value_printed ≡ and_then (with_copy name value s) (λ _ t. value_printed value t)
use_told name found value s is = ap (λ (o : Option PlainArray). and_then (got name o s) value_printed) is ∙ grouped (with_copy name value s) (λ _ t. gives value t) value_printed

-- an answer that does not end the line
pub told_on : (asked : Act) (answer : PlainAnswer) (s : State) → report_of_kind (answer_row answer).row.kind ≡ None → answer_outcome asked answer s ≡ answer_told asked answer s
told_on asked answer s none = ap (λ (o : Option Report). and_then (unless_ended o answer s) (λ told t. answer_told asked told t)) none

-- and one that does
pub told_ends : (asked : Act) (answer : PlainAnswer) (report : Report) (s : State) → report_of_kind (answer_row answer).row.kind ≡ Some report → answer_outcome asked answer s ≡ refuses report s
told_ends asked answer report s is = ap (λ (o : Option Report). and_then (unless_ended o answer s) (λ told t. answer_told asked told t)) is
