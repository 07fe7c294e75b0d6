use Rattle.std.proofs.Common.{◌≡◌, ◌≤◌, Bool, true, sym, ap, subst, ◌∙◌}
use Rattle.std.specs.Prelude.{is_some}
use Rattle.std.specs.Option.{option_copied}
use Rattle.std.proofs.lemmas.Bool.{leb-true}
use Rattle.std.proofs.lemmas.Result.{err_from_is_err_and}
use Rattle.apl_arrays.specs.declared.report.Fail.TheVariants as fail
use Rattle.apl_selection.proofs.WantLemmas.{on_want}
use Rattle.apl_workspace.specs.Limits.{most_weight}
use Rattle.apl_workspace.specs.Workspace.{look, with_frame, workspace_weight}
use Rattle.apl_workspace.specs.declared.args.Args.{Args}
use Rattle.apl_workspace.specs.declared.meaning.Meaning.{Meaning}
use Rattle.apl_meaning.specs.Calls.{call}
use Rattle.apl_meaning.specs.Meaning.{ran}
use Rattle.apl_values.specs.Values.{stack_value}
use Rattle.apl_statements.specs.Evaluating.{takes_by}
use Rattle.apl_statements.specs.Interpreter.{PlainInterpreter}
use Rattle.apl_statements.specs.Moves.{Comes, part_gives}
use Rattle.apl_statements.specs.Holding.{parts_of}
use Rattle.apl_statements.proofs.Same.{comes_exit}
use Rattle.apl_calls.specs.Callings.{MayBeCalled, arguments, takes_so}
use Rattle.apl_calls.proofs.Enters.{fitting, mapped, may_call, not_called, takes_as}
use Rattle.apl_calls.proofs.entry.call_with.Goals as goal

pub returns-in_err-may_be_called-clause-comes : goal.returns-in_err-may_be_called-clause-comes
returns-in_err-may_be_called-clause-comes c =
    let m : PlainInterpreter = c.args.interpreter.now in
    let args : Args = arguments m.workspace c.args.caller c.args.left c.args.right in
    let seen : Meaning = look m.workspace c.args.name in
    let one : c.is_some.result ≡ is_some c.args.left = cc in
    let same : takes_so seen c.is_some.result true ≡ takes_by seen args =
    ap (λ (b : Bool). takes_so seen b true) (one ∙ sym (mapped (stack_value m.workspace (parts_of c.args.caller)) c.args.left)) ∙ takes_as seen args in
    let exit = err_from_is_err_and c.from_residual.result c.from_residual.ensures.1 in
    let why : exit.0 ≡ fail.Report c.in_err-may_be_called.field-0.0 = cc exit.2 in
    comes_exit m m (part_gives m c.args.caller (λ s. call ran c.args.name args s)) 0 c.from_residual.result exit.0 (fail.Report c.in_err-may_be_called.field-0.0) exit.1 why
    (not_called m c.args.caller c.args.name args c.in_err-may_be_called.field-0.0 (takes_so seen c.is_some.result true) c.frame_fits_with-fits.result same (fitting m.workspace c.args.caller c.args.name (option_copied c.as_ref.result) c.args.left c.args.right c.frame_fits_with-fits.result c.frame_fits_with-fits.ensures c.as_ref.ensures.value) c.in_err-may_be_called.ensures.err)

pub returns-in_err-args-clause-memory : goal.returns-in_err-args-clause-memory
returns-in_err-args-clause-memory c =
    let m : PlainInterpreter = c.args.interpreter.now in
    let args : Args = arguments m.workspace c.args.caller c.args.left c.args.right in
    let seen : Meaning = look m.workspace c.args.name in
    let one : c.is_some.result ≡ is_some c.args.left = cc in
    let same : takes_so seen c.is_some.result true ≡ takes_by seen args =
    ap (λ (b : Bool). takes_so seen b true) (one ∙ sym (mapped (stack_value m.workspace (parts_of c.args.caller)) c.args.left)) ∙ takes_as seen args in
    on_want c.from_residual-in_err-args.result (MayBeCalled m.workspace c.args.name args)
    (may_call m c.args.name args (takes_so seen c.is_some.result true) c.frame_fits_with-fits.result same (fitting m.workspace c.args.caller c.args.name (option_copied c.as_ref.result) c.args.left c.args.right c.frame_fits_with-fits.result c.frame_fits_with-fits.ensures c.as_ref.ensures.value) c.in_ok-may_be_called.ensures.ok.0 c.in_ok-may_be_called.ensures.ok.1 c.in_ok-may_be_called.ensures.fits)

pub begin_call-requires-clause-takes : goal.begin_call-requires-clause-takes
begin_call-requires-clause-takes c =
    let m : PlainInterpreter = c.args.interpreter.now in
    let args : Args = arguments m.workspace c.args.caller c.args.left c.args.right in
    let seen : Meaning = look m.workspace c.args.name in
    let one : c.is_some.result ≡ is_some c.args.left = cc in
    let same : takes_so seen c.is_some.result true ≡ takes_by seen args =
    ap (λ (b : Bool). takes_so seen b true) (one ∙ sym (mapped (stack_value m.workspace (parts_of c.args.caller)) c.args.left)) ∙ takes_as seen args in
    subst (λ (a : Args). takes_by seen a ≡ true) (sym c.in_ok-args.ensures.ok) (sym same ∙ c.in_ok-may_be_called.ensures.ok.0)

pub begin_call-requires-clause-fits : goal.begin_call-requires-clause-fits
begin_call-requires-clause-fits c =
    let m : PlainInterpreter = c.args.interpreter.now in
    let fits = fitting m.workspace c.args.caller c.args.name (option_copied c.as_ref.result) c.args.left c.args.right c.frame_fits_with-fits.result c.frame_fits_with-fits.ensures c.as_ref.ensures.value in
    subst (λ (a : Args). workspace_weight (with_frame m.workspace c.args.name a) ≤ most_weight) (sym c.in_ok-args.ensures.ok) (leb-true _ most_weight (sym fits ∙ c.in_ok-may_be_called.ensures.fits))

pub returns-clause-comes : goal.returns-clause-comes
returns-clause-comes c =
    let m : PlainInterpreter = c.args.interpreter.now in
    subst (λ (a : Args). Comes m (part_gives m c.args.caller (λ s. call ran c.args.name a s)) 0 c.begin_call.new.interpreter c.begin_call.result) c.in_ok-args.ensures.ok c.begin_call.ensures.comes

pub returns-clause-memory : goal.returns-clause-memory
returns-clause-memory c =
    let m : PlainInterpreter = c.args.interpreter.now in
    let args : Args = arguments m.workspace c.args.caller c.args.left c.args.right in
    let seen : Meaning = look m.workspace c.args.name in
    let one : c.is_some.result ≡ is_some c.args.left = cc in
    let same : takes_so seen c.is_some.result true ≡ takes_by seen args =
    ap (λ (b : Bool). takes_so seen b true) (one ∙ sym (mapped (stack_value m.workspace (parts_of c.args.caller)) c.args.left)) ∙ takes_as seen args in
    on_want c.begin_call.result (MayBeCalled m.workspace c.args.name args)
    (may_call m c.args.name args (takes_so seen c.is_some.result true) c.frame_fits_with-fits.result same (fitting m.workspace c.args.caller c.args.name (option_copied c.as_ref.result) c.args.left c.args.right c.frame_fits_with-fits.result c.frame_fits_with-fits.ensures c.as_ref.ensures.value) c.in_ok-may_be_called.ensures.ok.0 c.in_ok-may_be_called.ensures.ok.1 c.in_ok-may_be_called.ensures.fits)
