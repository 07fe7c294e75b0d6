use Rattle.std.proofs.Common.{◌≡◌, ◌++◌, [], ◌∷◌, true, List, refl, sym, ap, subst, ◌∙◌}
use Rattle.std.specs.Prelude.{IfErr}
use Rattle.std.proofs.lemmas.Result.{err_from_is_err_and}
use Rattle.apl_arrays.specs.declared.report.Fail.{Fail}
use Rattle.apl_arrays.specs.declared.report.Fail.TheVariants as fail
use Rattle.apl_workspace.specs.Workspace.{IsNotEntered, IsWorkspace, empty_workspace, look, with_frame}
use Rattle.apl_statements.specs.declared.interpreter.Interpreter.TheInside.{Inside}
use Rattle.apl_statements.specs.declared.waiting.Waiting.{Waiting}
use Rattle.apl_statements.specs.Evaluating.{caller_of, function_by, takes_by}
use Rattle.apl_statements.specs.Interpreter.{PlainInterpreter, here}
use Rattle.apl_statements.specs.Sound.{plain_interpreter}
use Rattle.apl_calls.proofs.Entered.{entered_does, entered_seen, entered_soundly}
use Rattle.apl_calls.proofs.Enters.{arguments_for, entered_by, only_memory}
use Rattle.apl_calls.proofs.entry.enter.Goals as goal

pub push_frame-requires : goal.push_frame-requires
push_frame-requires c = arguments_for (look c.interpreter.inside.workspace c.args.name) c.args.args (subst (λ (x : PlainInterpreter). takes_by (look x.workspace c.args.name) c.args.args ≡ true) (sym c.interpreter.view_is) c.requires.takes)

pub invariant_of-interpreter-2 : goal.invariant_of-interpreter-2
invariant_of-interpreter-2 c =
    let m : PlainInterpreter = c.args.interpreter.now in
    let waiting : Waiting = record { name = c.args.name; number = 0; readings = c.new.result; caller = c.args.caller } in
    entered_soundly c.interpreter.inside.workspace c.push_frame.new.self c.args.args waiting c.interpreter.inside.callers.items c.push_reserved.new.self.items
    (subst (λ (x : PlainInterpreter). IsWorkspace x.workspace) (sym c.interpreter.view_is) c.rules.ensures)
    (subst (λ (x : PlainInterpreter). takes_by (look x.workspace c.args.name) c.args.args ≡ true) (sym c.interpreter.view_is) c.requires.takes)
    c.in_ok-push_frame.ensures.ok (c.push_reserved.ensures.items ∙ ap (λ (list : List Waiting). list ++ waiting ∷ []) c.make_room.ensures.items) refl c.new.ensures.items c.requires.settled c.interpreter.invariant

pub returns-clause-done : goal.returns-clause-done
returns-clause-done c =
    let m : PlainInterpreter = c.args.interpreter.now in
    let waiting : Waiting = record { name = c.args.name; number = 0; readings = c.new.result; caller = c.args.caller } in
    let after : Inside = record c.interpreter.inside { workspace = c.push_frame.new.self; callers = c.push_reserved.new.self } in
    let seen : plain_interpreter after ≡ entered_by m waiting.name c.args.args (function_by (look m.workspace waiting.name)) (caller_of empty_workspace (here m) waiting.caller) =
    entered_seen c.interpreter.inside after m c.args.args waiting c.rules.ensures c.requires.takes refl c.in_ok-push_frame.ensures.ok (c.push_reserved.ensures.items ∙ ap (λ (list : List Waiting). list ++ waiting ∷ []) c.make_room.ensures.items) refl c.interpreter.view_is in
    entered_does c.interpreter.inside after m c.args.args waiting seen c.interpreter.view_is c.in_ok-push_frame.ensures.depth c.in_ok-push_frame.ensures.fits

pub returns-clause-stack : goal.returns-clause-stack
returns-clause-stack c =
    let m : PlainInterpreter = c.args.interpreter.now in
    let waiting : Waiting = record { name = c.args.name; number = 0; readings = c.new.result; caller = c.args.caller } in
    let after : Inside = record c.interpreter.inside { workspace = c.push_frame.new.self; callers = c.push_reserved.new.self } in
    ap (λ (x : PlainInterpreter). x.stack)
    (entered_seen c.interpreter.inside after m c.args.args waiting c.rules.ensures c.requires.takes refl c.in_ok-push_frame.ensures.ok (c.push_reserved.ensures.items ∙ ap (λ (list : List Waiting). list ++ waiting ∷ []) c.make_room.ensures.items) refl c.interpreter.view_is)

pub returns-in_err-push_frame-clause-refused : goal.returns-in_err-push_frame-clause-refused
returns-in_err-push_frame-clause-refused c =
    let m : PlainInterpreter = c.args.interpreter.now in
    let not : IsNotEntered m.workspace (with_frame m.workspace c.args.name c.args.args) c.in_err-push_frame.field-0.0 =
    subst (λ (x : PlainInterpreter). IsNotEntered x.workspace (with_frame x.workspace c.args.name c.args.args) c.in_err-push_frame.field-0.0) c.interpreter.view_is c.in_err-push_frame.ensures.full in
    let why : c.in_err-push_frame.field-0.0 ≡ fail.WantOfMemory = only_memory m.workspace (with_frame m.workspace c.args.name c.args.args) c.in_err-push_frame.field-0.0 not c.requires.shallow c.requires.fits in
    let exit = err_from_is_err_and c.from_residual-in_err-push_frame.result c.from_residual-in_err-push_frame.ensures.1 in
    subst (λ r. IfErr r (λ (f : Fail). f ≡ fail.WantOfMemory)) (sym exit.1) (exit.2 ∙ why)
