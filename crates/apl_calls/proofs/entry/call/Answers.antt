use Rattle.std.proofs.Common.{◌≡◌, Bool, sym, ap, ◌∙◌}
use Rattle.std.specs.Prelude.{is_some}
use Rattle.std.proofs.lemmas.Bool.{leb-true}
use Rattle.std.proofs.lemmas.Result.{err_from_is_err_and}
use Rattle.apl_arrays.specs.declared.report.Fail.TheVariants as fail
use Rattle.apl_selection.proofs.WantLemmas.{on_want}
use Rattle.apl_workspace.specs.Limits.{most_weight}
use Rattle.apl_workspace.specs.Workspace.{look}
use Rattle.apl_workspace.specs.declared.args.Args.{Args}
use Rattle.apl_workspace.specs.declared.meaning.Meaning.{Meaning}
use Rattle.apl_meaning.specs.Calls.{call}
use Rattle.apl_meaning.specs.Meaning.{ran}
use Rattle.apl_statements.specs.Evaluating.{takes_by}
use Rattle.apl_statements.specs.Interpreter.{PlainInterpreter}
use Rattle.apl_statements.specs.Moves.{part_gives}
use Rattle.apl_statements.proofs.Same.{comes_exit}
use Rattle.apl_calls.specs.Callings.{MayBeCalled, takes_so}
use Rattle.apl_calls.proofs.Enters.{may_call, not_called, takes_as}
use Rattle.apl_calls.proofs.entry.call.Goals as goal

pub returns-in_err-may_be_called-clause-comes : goal.returns-in_err-may_be_called-clause-comes
returns-in_err-may_be_called-clause-comes c =
    let m : PlainInterpreter = c.args.interpreter.now in
    let args : Args = c.args.args in
    let seen : Meaning = look m.workspace c.args.name in
    let one : c.is_some.result ≡ is_some args.left = cc in
    let two : c.is_some-2.result ≡ is_some args.right = cc in
    let same : takes_so seen c.is_some.result c.is_some-2.result ≡ takes_by seen args =
    ap (λ (b : Bool). takes_so seen b c.is_some-2.result) one ∙ ap (λ (b : Bool). takes_so seen (is_some args.left) b) two ∙ takes_as seen args in
    let exit = err_from_is_err_and c.from_residual.result c.from_residual.ensures.1 in
    let why : exit.0 ≡ fail.Report c.in_err-may_be_called.field-0.0 = cc exit.2 in
    comes_exit m m (part_gives m c.args.caller (λ s. call ran c.args.name args s)) 0 c.from_residual.result exit.0 (fail.Report c.in_err-may_be_called.field-0.0) exit.1 why
    (not_called m c.args.caller c.args.name args c.in_err-may_be_called.field-0.0 (takes_so seen c.is_some.result c.is_some-2.result) c.frame_fits-fits.result same c.frame_fits-fits.ensures c.in_err-may_be_called.ensures.err)

pub begin_call-requires-clause-takes : goal.begin_call-requires-clause-takes
begin_call-requires-clause-takes c =
    let m : PlainInterpreter = c.args.interpreter.now in
    let args : Args = c.args.args in
    let seen : Meaning = look m.workspace c.args.name in
    let one : c.is_some.result ≡ is_some args.left = cc in
    let two : c.is_some-2.result ≡ is_some args.right = cc in
    let same : takes_so seen c.is_some.result c.is_some-2.result ≡ takes_by seen args =
    ap (λ (b : Bool). takes_so seen b c.is_some-2.result) one ∙ ap (λ (b : Bool). takes_so seen (is_some args.left) b) two ∙ takes_as seen args in
    sym same ∙ c.in_ok-may_be_called.ensures.ok.0

pub begin_call-requires-clause-fits : goal.begin_call-requires-clause-fits
begin_call-requires-clause-fits c = leb-true _ most_weight (sym c.frame_fits-fits.ensures ∙ c.in_ok-may_be_called.ensures.fits)

pub returns-clause-memory : goal.returns-clause-memory
returns-clause-memory c =
    let m : PlainInterpreter = c.args.interpreter.now in
    let args : Args = c.args.args in
    let seen : Meaning = look m.workspace c.args.name in
    let one : c.is_some.result ≡ is_some args.left = cc in
    let two : c.is_some-2.result ≡ is_some args.right = cc in
    let same : takes_so seen c.is_some.result c.is_some-2.result ≡ takes_by seen args =
    ap (λ (b : Bool). takes_so seen b c.is_some-2.result) one ∙ ap (λ (b : Bool). takes_so seen (is_some args.left) b) two ∙ takes_as seen args in
    on_want c.begin_call.result (MayBeCalled m.workspace c.args.name args)
    (may_call m c.args.name args (takes_so seen c.is_some.result c.is_some-2.result) c.frame_fits-fits.result same c.frame_fits-fits.ensures c.in_ok-may_be_called.ensures.ok.0 c.in_ok-may_be_called.ensures.ok.1 c.in_ok-may_be_called.ensures.fits)
