use Rattle.std.proofs.Common.{◌≡◌, List, ap, subst, ◌∙◌}
use Rattle.std.specs.Prelude.{Option, Result, Ok, Err, option_map}
use Rattle.std.specs.Option.{option_copied}
use Rattle.std.proofs.lemmas.Result.{err_from_is_err_and}
use Rattle.apl_arrays.specs.Array.{PlainArray}
use Rattle.apl_arrays.specs.declared.report.Fail.{Fail}
use Rattle.apl_arrays.specs.declared.system.SystemName.{SystemName}
use Rattle.apl_selection.proofs.WantLemmas.{on_want}
use Rattle.apl_meaning.specs.Expressions.{valued}
use Rattle.apl_meaning.specs.Queries.{system_outcome}
use Rattle.apl_values.specs.declared.part.Part.{Part}
use Rattle.apl_values.specs.declared.values.StackValue.{StackValue}
use Rattle.apl_values.specs.Values.{stack_value}
use Rattle.apl_statements.specs.Interpreter.{PlainInterpreter}
use Rattle.apl_statements.specs.Moves.{part_gives}
use Rattle.apl_statements.specs.Holding.{parts_of}
use Rattle.apl_statements.specs.Wants.{NoReportIsDue}
use Rattle.apl_statements.proofs.Same.{comes_exit}
use Rattle.apl_statements.proofs.Wants.{want_exit}
use Rattle.apl_acts.specs.Asking.{Asks}
use Rattle.apl_acts.specs.declared.asking.Asking.{Asking}
use Rattle.apl_acts.proofs.Asked.{asks_comes, asks_ends, asks_free, asks_wants}
use Rattle.apl_acts.proofs.sharing.system.Goals as goal

-- what is asked of arguments that are lent is asked of the values
of_arguments : (m : PlainInterpreter) (name : SystemName) (lent left : Option PlainArray) (own right : PlainArray) (r : Result Asking Fail) → lent ≡ left → own ≡ right → Asks m (system_outcome name lent own) r → Asks m (system_outcome name left right) r
of_arguments m name lent left own right r first second asks =
    subst (λ (array : PlainArray). Asks m (system_outcome name left array) r) second (subst (λ (found : Option PlainArray). Asks m (system_outcome name found own) r) first asks)

pub returns-in_err-what-clause-comes : goal.returns-in_err-what-clause-comes
returns-in_err-what-clause-comes c =
    let m : PlainInterpreter = c.args.interpreter.now in
    let value : StackValue → PlainArray = stack_value m.workspace (parts_of c.args.e) in
    let left : Option PlainArray = option_map value c.args.left in
    let right : PlainArray = value c.args.right in
    let own : c.array_of.result.now ≡ right =
    c.array_of.ensures ∙ ap (λ (parts : List Part). stack_value c.interpreter.inside.workspace parts c.args.right) c.parts.ensures ∙ ap (λ (x : PlainInterpreter). stack_value x.workspace (parts_of c.args.e) c.args.right) c.interpreter.view_is in
    let lent : option_copied c.lent.result ≡ left = c.lent.ensures ∙ ap (option_map value) c.as_ref.ensures.value in
    let asks : Asks m (system_outcome c.args.name left right) (Err c.in_err-what.field-0.0) = of_arguments m c.args.name (option_copied c.lent.result) left c.array_of.result.now right (Err c.in_err-what.field-0.0) lent own c.in_err-what.ensures.asks in
    let exit = err_from_is_err_and c.from_residual.result c.from_residual.ensures.1 in
    let why : exit.0 ≡ c.in_err-what.field-0.0 = cc exit.2 in
    comes_exit m m (part_gives m c.args.e (λ s. valued (system_outcome c.args.name left right s))) 0 c.from_residual.result exit.0 c.in_err-what.field-0.0 exit.1 why
    (asks_ends m c.args.e (system_outcome c.args.name left right) c.in_err-what.field-0.0 asks)

pub returns-in_err-what-clause-memory : goal.returns-in_err-what-clause-memory
returns-in_err-what-clause-memory c =
    let m : PlainInterpreter = c.args.interpreter.now in
    let value : StackValue → PlainArray = stack_value m.workspace (parts_of c.args.e) in
    let left : Option PlainArray = option_map value c.args.left in
    let right : PlainArray = value c.args.right in
    let own : c.array_of.result.now ≡ right =
    c.array_of.ensures ∙ ap (λ (parts : List Part). stack_value c.interpreter.inside.workspace parts c.args.right) c.parts.ensures ∙ ap (λ (x : PlainInterpreter). stack_value x.workspace (parts_of c.args.e) c.args.right) c.interpreter.view_is in
    let lent : option_copied c.lent.result ≡ left = c.lent.ensures ∙ ap (option_map value) c.as_ref.ensures.value in
    let asks : Asks m (system_outcome c.args.name left right) (Err c.in_err-what.field-0.0) = of_arguments m c.args.name (option_copied c.lent.result) left c.array_of.result.now right (Err c.in_err-what.field-0.0) lent own c.in_err-what.ensures.asks in
    let exit = err_from_is_err_and c.from_residual.result c.from_residual.ensures.1 in
    let why : exit.0 ≡ c.in_err-what.field-0.0 = cc exit.2 in
    want_exit c.from_residual.result exit.0 c.in_err-what.field-0.0 (NoReportIsDue m (system_outcome c.args.name left right)) exit.1 why
    (asks_wants m (system_outcome c.args.name left right) c.in_err-what.field-0.0 asks)

pub returns-clause-comes : goal.returns-clause-comes
returns-clause-comes c =
    let m : PlainInterpreter = c.args.interpreter.now in
    let value : StackValue → PlainArray = stack_value m.workspace (parts_of c.args.e) in
    let left : Option PlainArray = option_map value c.args.left in
    let right : PlainArray = value c.args.right in
    let own : c.array_of.result.now ≡ right =
    c.array_of.ensures ∙ ap (λ (parts : List Part). stack_value c.interpreter.inside.workspace parts c.args.right) c.parts.ensures ∙ ap (λ (x : PlainInterpreter). stack_value x.workspace (parts_of c.args.e) c.args.right) c.interpreter.view_is in
    let lent : option_copied c.lent.result ≡ left = c.lent.ensures ∙ ap (option_map value) c.as_ref.ensures.value in
    let asks : Asks m (system_outcome c.args.name left right) (Ok c.in_ok-what.what) = of_arguments m c.args.name (option_copied c.lent.result) left c.array_of.result.now right (Ok c.in_ok-what.what) lent own c.in_ok-what.ensures.asks in
    asks_comes m c.args.e (system_outcome c.args.name left right) c.in_ok-what.what c.ask.result asks c.ask.ensures.comes

pub returns-clause-memory : goal.returns-clause-memory
returns-clause-memory c =
    let m : PlainInterpreter = c.args.interpreter.now in
    let value : StackValue → PlainArray = stack_value m.workspace (parts_of c.args.e) in
    let left : Option PlainArray = option_map value c.args.left in
    let right : PlainArray = value c.args.right in
    let own : c.array_of.result.now ≡ right =
    c.array_of.ensures ∙ ap (λ (parts : List Part). stack_value c.interpreter.inside.workspace parts c.args.right) c.parts.ensures ∙ ap (λ (x : PlainInterpreter). stack_value x.workspace (parts_of c.args.e) c.args.right) c.interpreter.view_is in
    let lent : option_copied c.lent.result ≡ left = c.lent.ensures ∙ ap (option_map value) c.as_ref.ensures.value in
    let asks : Asks m (system_outcome c.args.name left right) (Ok c.in_ok-what.what) = of_arguments m c.args.name (option_copied c.lent.result) left c.array_of.result.now right (Ok c.in_ok-what.what) lent own c.in_ok-what.ensures.asks in
    on_want c.ask.result (NoReportIsDue m (system_outcome c.args.name left right)) (asks_free m (system_outcome c.args.name left right) c.in_ok-what.what asks)
