use Rattle.std.proofs.Common.{◌≡◌, sym, ap, ◌∙◌}
use Rattle.std.specs.Prelude.{Some, unwrap_or}
use Rattle.std.specs.Option.{option_copied}
use Rattle.apl_selection.proofs.WantLemmas.{on_want}
use Rattle.apl_workspace.specs.Workspace.{look}
use Rattle.apl_workspace.specs.declared.meaning.Meaning.{Meaning}
use Rattle.apl_workspace.specs.declared.meaning.Meaning.TheVariants as meaning
use Rattle.apl_meaning.specs.Deeds.{value_of}
use Rattle.apl_meaning.specs.State.{gives}
use Rattle.apl_meaning.specs.Variables.{reference}
use Rattle.apl_values.specs.declared.values.StackValue.TheVariants as held
use Rattle.apl_values.specs.Values.{stack_value, no_array}
use Rattle.apl_statements.specs.Evaluating.{caller_of}
use Rattle.apl_statements.specs.Interpreter.{PlainInterpreter, here, state_at}
use Rattle.apl_statements.specs.Moves.{part_gives}
use Rattle.apl_statements.specs.Stack.{carried_on}
use Rattle.apl_statements.specs.Wants.{NoReportIsDue}
use Rattle.apl_statements.specs.Holding.{parts_of}
use Rattle.apl_statements.proofs.Same.{comes_as}
use Rattle.apl_machine.proofs.StepParts.{refers_to}
use Rattle.apl_machine.proofs.WantParts.{refers_free}
use Rattle.apl_machine.proofs.stepping.refer.Goals as goal

pub returns-in-Value-clause-comes : goal.returns-in-Value-clause-comes
returns-in-Value-clause-comes c =
    let m : PlainInterpreter = c.args.interpreter.now in
    let seen : look m.workspace c.args.name ≡ meaning.Value c.in-Value.field-0.now = ap (λ (n : PlainInterpreter). look n.workspace c.args.name) (sym c.interpreter.view_is) ∙ sym c.in-Value.ensures.value in
    comes_as m m _ (part_gives m c.args.e (λ s. gives (Some (stack_value m.workspace (parts_of c.args.e) (held.Named c.args.name))) s)) 0 c.give.result (λ asked count taken further.
    refers_to m c.args.e c.args.name (meaning.Value c.in-Value.field-0.now) seen asked count taken further
    ∙ ap (λ (found : Meaning). carried_on (gives (Some (unwrap_or (value_of found) no_array)) (state_at m asked count taken further)) (caller_of m.workspace (here m) c.args.e) m.stack) (sym seen)) c.give.ensures.comes

pub returns-in-Value-clause-memory : goal.returns-in-Value-clause-memory
returns-in-Value-clause-memory c =
    let m : PlainInterpreter = c.args.interpreter.now in
    let seen : look m.workspace c.args.name ≡ meaning.Value c.in-Value.field-0.now = ap (λ (n : PlainInterpreter). look n.workspace c.args.name) (sym c.interpreter.view_is) ∙ sym c.in-Value.ensures.value in
    on_want c.give.result (NoReportIsDue m (reference c.args.name)) (refers_free m c.args.name (meaning.Value c.in-Value.field-0.now) seen tt)

pub returns-in_err-number-in-Label-clause-memory : goal.returns-in_err-number-in-Label-clause-memory
returns-in_err-number-in-Label-clause-memory c =
    let m : PlainInterpreter = c.args.interpreter.now in
    let seen : look m.workspace c.args.name ≡ meaning.Label c.in-Label.line = ap (λ (n : PlainInterpreter). look n.workspace c.args.name) (sym c.interpreter.view_is) ∙ sym c.in-Label.ensures.value in
    on_want c.from_residual.result (NoReportIsDue m (reference c.args.name)) (refers_free m c.args.name (meaning.Label c.in-Label.line) seen tt)

pub returns-in_ok-number-in-Label-clause-memory : goal.returns-in_ok-number-in-Label-clause-memory
returns-in_ok-number-in-Label-clause-memory c =
    let m : PlainInterpreter = c.args.interpreter.now in
    let seen : look m.workspace c.args.name ≡ meaning.Label c.in-Label.line = ap (λ (n : PlainInterpreter). look n.workspace c.args.name) (sym c.interpreter.view_is) ∙ sym c.in-Label.ensures.value in
    on_want c.give-in-Label.result (NoReportIsDue m (reference c.args.name)) (refers_free m c.args.name (meaning.Label c.in-Label.line) seen tt)

pub returns-in-Shared-clause-memory : goal.returns-in-Shared-clause-memory
returns-in-Shared-clause-memory c =
    let m : PlainInterpreter = c.args.interpreter.now in
    let seen : look m.workspace c.args.name ≡ meaning.Shared (option_copied c.in-Shared.field-0) = ap (λ (n : PlainInterpreter). look n.workspace c.args.name) (sym c.interpreter.view_is) ∙ sym c.in-Shared.ensures.value in
    on_want c.open.result (NoReportIsDue m (reference c.args.name)) (refers_free m c.args.name (meaning.Shared (option_copied c.in-Shared.field-0)) seen tt)
