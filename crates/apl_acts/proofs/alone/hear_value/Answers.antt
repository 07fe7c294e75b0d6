use Rattle.std.proofs.Common.{◌≡◌, ℕ, List, refl, subst, sym}
use Rattle.std.specs.Prelude.{◌≤◌, IfSome, IsSome, Option, Some}
use Rattle.apl_arrays.specs.Array.{PlainArray}
use Rattle.apl_arrays.specs.declared.report.Report.TheVariants.{Value}
use Rattle.apl_items.specs.Places.{OnWantOfMemory}
use Rattle.apl_selection.proofs.WantLemmas.{on_want}
use Rattle.apl_workspace.specs.Limits.{most_weight}
use Rattle.apl_workspace.specs.Workspace.{workspace_weight}
use Rattle.sv_events.specs.Answer.{plain_answer}
use Rattle.sv_events.specs.Row.{answer_row}
use Rattle.apl_meaning.specs.Answers.{got, with_copy}
use Rattle.apl_meaning.specs.Printing.{value_printed}
use Rattle.apl_meaning.specs.State.{and_then}
use Rattle.apl_values.proofs.Seen.{got_value, renewed}
use Rattle.apl_acts.proofs.HeardLaw.{led_as, use_told}
use Rattle.apl_acts.proofs.alone.hear_value.Goals as goal

pub returns-clause-led : goal.returns-clause-led
returns-clause-led c =
    let before : List (List ℕ) = c.args.output.now.items in
    let after : List (List ℕ) = c.keep_and_print.new.output.items in
    let name : List ℕ = c.args.name.now in
    let value : PlainArray = c.in_ok-value.value in
    let found : Option PlainArray = (answer_row (plain_answer c.args.answer)).value in
    let got_it : found ≡ Some value = got_value found Value value c.in_ok-value.ensures in
    led_as c.keep_and_print.result c.args.workspace.now c.keep_and_print.new.workspace before after (λ s. and_then (got name found s) value_printed) (λ s. and_then (with_copy name value s) (λ _ t. value_printed value t)) (λ s at. use_told name found value s got_it)
    c.keep_and_print.ensures.led

pub returns-clause-memory : goal.returns-clause-memory
returns-clause-memory c =
    let value : PlainArray = c.in_ok-value.value in
    let found : Option PlainArray = (answer_row (plain_answer c.args.answer)).value in
    let got_it : found ≡ Some value = got_value found Value value c.in_ok-value.ensures in
    on_want c.keep_and_print.result (IsSome found) (subst (λ (o : Option PlainArray). IsSome o) (sym got_it) refl)

pub returns-clause-room : goal.returns-clause-room
returns-clause-room c =
    let value : PlainArray = c.in_ok-value.value in
    let found : Option PlainArray = (answer_row (plain_answer c.args.answer)).value in
    let got_it : found ≡ Some value = got_value found Value value c.in_ok-value.ensures in
    subst (λ (o : Option PlainArray). OnWantOfMemory c.keep_and_print.result (IfSome o (λ copy. workspace_weight (renewed c.args.name.now copy c.args.workspace.now) ≤ most_weight))) (sym got_it) c.keep_and_print.ensures.room
