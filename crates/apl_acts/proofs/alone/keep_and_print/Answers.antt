use Rattle.std.proofs.Common.{◌≡◌, ℕ, List, subst, ◌∙◌}
use Rattle.std.specs.Prelude.{map}
use Rattle.std.proofs.lemmas.Result.{err_from_is_err_and}
use Rattle.apl_arrays.specs.Array.{PlainArray}
use Rattle.apl_arrays.specs.List.{glyphs_in}
use Rattle.apl_arrays.specs.declared.report.Fail.TheVariants as fail
use Rattle.apl_arrays.specs.declared.report.Report.TheVariants.{WsFull}
use Rattle.apl_display.specs.Display.{display_lines}
use Rattle.apl_selection.proofs.WantLemmas.{on_want}
use Rattle.apl_workspace.specs.Limits.{most_weight}
use Rattle.apl_workspace.specs.Workspace.{PlainWorkspace, workspace_weight}
use Rattle.apl_meaning.specs.Answers.{with_copy}
use Rattle.apl_meaning.specs.Printing.{lines_printed, value_printed}
use Rattle.apl_meaning.specs.State.{Effect, State, and_then}
use Rattle.apl_values.proofs.Seen.{renewed}
use Rattle.apl_statements.specs.Led.{HasLed}
use Rattle.apl_statements.proofs.Printed.{led_exit}
use Rattle.apl_acts.proofs.HeardLaw.{copy_fits, ends_before, heavy_led, leads_then}
use Rattle.apl_acts.proofs.alone.keep_and_print.Goals as goal

-- the workspace would weigh too much
pub returns-then-not-takes_copy-clause-led : goal.returns-then-not-takes_copy-clause-led
returns-then-not-takes_copy-clause-led c =
    let w : PlainWorkspace = c.args.workspace.now in
    let before : List (List ℕ) = c.args.output.now.items in
    ends_before w w before before (with_copy c.args.name.now c.args.value) (value_printed c.args.value) (fail.Report WsFull) (heavy_led w before c.args.name.now c.args.value c.takes_copy.result c.takes_copy.ensures c.if-not-takes_copy.true)

pub returns-in_err-renew-clause-led : goal.returns-in_err-renew-clause-led
returns-in_err-renew-clause-led c =
    let w : PlainWorkspace = c.args.workspace.now in
    let v : PlainWorkspace = c.renew.new.workspace in
    let before : List (List ℕ) = c.args.output.now.items in
    let name : List ℕ = c.args.name.now in
    let value : PlainArray = c.args.value in
    let part : State → Effect = λ s. and_then (with_copy name value s) (λ _ t. value_printed value t) in
    let exit = err_from_is_err_and c.from_residual-in_err-renew.result c.from_residual-in_err-renew.ensures.1 in
    let why : exit.0 ≡ c.in_err-renew.field-0.0 = cc exit.2 in
    led_exit w v before before part c.from_residual-in_err-renew.result exit.0 c.in_err-renew.field-0.0 exit.1 why
    (ends_before w v before before (with_copy name value) (value_printed value) c.in_err-renew.field-0.0 (c.in_err-renew.ensures.led before))

pub returns-clause-led : goal.returns-clause-led
returns-clause-led c =
    let w : PlainWorkspace = c.args.workspace.now in
    let v : PlainWorkspace = c.renew.new.workspace in
    let u : PlainWorkspace = c.print_lines.new.workspace in
    let before : List (List ℕ) = c.args.output.now.items in
    let after : List (List ℕ) = c.print_lines.new.output.items in
    let name : List ℕ = c.args.name.now in
    let value : PlainArray = c.args.value in
    let shown : map glyphs_in c.into_vec.result.items ≡ display_lines value = c.into_vec.ensures ∙ c.in_ok-lines.ensures in
    leads_then c.print_lines.result w v u before before after (with_copy name value) (value_printed value) (c.in_ok-renew.ensures.led before)
    (subst (λ (lines : List (List ℕ)). HasLed v before (lines_printed lines) u after c.print_lines.result) shown c.print_lines.ensures.led)

pub returns-in_err-lines-clause-room : goal.returns-in_err-lines-clause-room
returns-in_err-lines-clause-room c = on_want c.from_residual.result _ (copy_fits (workspace_weight (renewed c.args.name.now c.args.value c.args.workspace.now)) most_weight c.takes_copy.result c.takes_copy.ensures c.if-not-takes_copy.false)

pub returns-in_err-renew-clause-room : goal.returns-in_err-renew-clause-room
returns-in_err-renew-clause-room c = on_want c.from_residual-in_err-renew.result _ (copy_fits (workspace_weight (renewed c.args.name.now c.args.value c.args.workspace.now)) most_weight c.takes_copy.result c.takes_copy.ensures c.if-not-takes_copy.false)

pub returns-clause-room : goal.returns-clause-room
returns-clause-room c = on_want c.print_lines.result _ (copy_fits (workspace_weight (renewed c.args.name.now c.args.value c.args.workspace.now)) most_weight c.takes_copy.result c.takes_copy.ensures c.if-not-takes_copy.false)
