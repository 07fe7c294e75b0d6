use Rattle.std.proofs.Common.{◌≡◌, List, sym, ap, subst, ◌∙◌}
use Rattle.std.specs.Prelude.{Err, IsOk, Option, Some}
use Rattle.std.proofs.lemmas.Result.{err_from_is_err_and}
use Rattle.apl_arrays.specs.Array.{PlainArray}
use Rattle.apl_items.specs.Places.{OnWantOfMemory}
use Rattle.apl_selection.specs.Assignment.{assign_of}
use Rattle.apl_selection.proofs.WantLemmas.{array_is_ok, on_want}
use Rattle.apl_workspace.specs.Meaning.{shared_copy}
use Rattle.apl_workspace.specs.Workspace.{look}
use Rattle.apl_workspace.specs.declared.meaning.Meaning.TheVariants as meaning
use Rattle.apl_values.specs.Pending.{assigned_giving, replaced}
use Rattle.apl_statements.specs.declared.flow.Flow.{Flow}
use Rattle.apl_statements.specs.Interpreter.{PlainInterpreter}
use Rattle.apl_statements.specs.Moves.{Comes, part_gives}
use Rattle.apl_statements.proofs.Same.{comes_as, comes_exit}
use Rattle.apl_statements.proofs.Wants.{want_exit}
use Rattle.apl_answers.proofs.Replacing.{replaced_as, replaced_ends}
use Rattle.apl_answers.proofs.Wanting.{items_there}
use Rattle.apl_answers.proofs.assigning.replace_items.Goals as goal

pub returns-in_err-new-in-Some-clause-comes : goal.returns-in_err-new-in-Some-clause-comes
returns-in_err-new-in-Some-clause-comes c = λ (old : PlainArray) (is : look c.args.interpreter.now.workspace c.args.name ≡ meaning.Shared (Some old)).
    let m : PlainInterpreter = c.args.interpreter.now in
    let subs : List (Option PlainArray) = c.args.subs.items in
    let copy : Some c.in-Some.old.now ≡ Some old = c.in-Some.ensures ∙ ap shared_copy is in
    let own : c.in-Some.old.now ≡ old = cc in
    let exit = err_from_is_err_and c.from_residual.result c.from_residual.ensures.1 in
    let why : exit.0 ≡ c.in_err-new-in-Some.field-0.0 = cc exit.2 in
    comes_exit m m (part_gives m c.args.e (replaced c.args.name subs c.args.right old)) 0 c.from_residual.result exit.0 c.in_err-new-in-Some.field-0.0 exit.1 why
    (subst (λ (x : PlainArray). Comes m (part_gives m c.args.e (replaced c.args.name subs c.args.right x)) 0 m (Err c.in_err-new-in-Some.field-0.0)) own
    (replaced_ends m c.args.e c.args.name subs c.args.right c.in-Some.old.now c.in_err-new-in-Some.field-0.0 c.in_err-new-in-Some.ensures.answer))

pub returns-in_ok-new-in-Some-clause-comes : goal.returns-in_ok-new-in-Some-clause-comes
returns-in_ok-new-in-Some-clause-comes c = λ (old : PlainArray) (is : look c.args.interpreter.now.workspace c.args.name ≡ meaning.Shared (Some old)).
    let m : PlainInterpreter = c.args.interpreter.now in
    let subs : List (Option PlainArray) = c.args.subs.items in
    let copy : Some c.in-Some.old.now ≡ Some old = c.in-Some.ensures ∙ ap shared_copy is in
    let own : c.in-Some.old.now ≡ old = cc in
    comes_as m c.put.new.interpreter (part_gives m c.args.e (replaced c.args.name subs c.args.right old)) (part_gives m c.args.e (assigned_giving c.args.name c.in_ok-new-in-Some.new c.args.right)) 0 c.put.result
    (replaced_as m c.args.e c.args.name subs c.args.right old c.in_ok-new-in-Some.new
    (ap (λ (x : PlainArray). assign_of x subs c.args.right) (sym own) ∙ c.in_ok-new-in-Some.ensures.answer)) c.put.ensures.comes

pub returns-in_err-new-in-Some-clause-memory : goal.returns-in_err-new-in-Some-clause-memory
returns-in_err-new-in-Some-clause-memory c = λ (old : PlainArray) (is : look c.args.interpreter.now.workspace c.args.name ≡ meaning.Shared (Some old)).
    let subs : List (Option PlainArray) = c.args.subs.items in
    let copy : Some c.in-Some.old.now ≡ Some old = c.in-Some.ensures ∙ ap shared_copy is in
    let own : c.in-Some.old.now ≡ old = cc in
    let exit = err_from_is_err_and c.from_residual.result c.from_residual.ensures.1 in
    let why : exit.0 ≡ c.in_err-new-in-Some.field-0.0 = cc exit.2 in
    want_exit c.from_residual.result exit.0 c.in_err-new-in-Some.field-0.0 (IsOk (assign_of old subs c.args.right)) exit.1 why
    (subst (λ (x : PlainArray). OnWantOfMemory {T = Flow} (Err c.in_err-new-in-Some.field-0.0) (IsOk (assign_of x subs c.args.right))) own (items_there c.in_err-new-in-Some.field-0.0 c.in-Some.old.now subs c.args.right c.in_err-new-in-Some.ensures.memory))

pub returns-in_ok-new-in-Some-clause-memory : goal.returns-in_ok-new-in-Some-clause-memory
returns-in_ok-new-in-Some-clause-memory c = λ (old : PlainArray) (is : look c.args.interpreter.now.workspace c.args.name ≡ meaning.Shared (Some old)).
    let subs : List (Option PlainArray) = c.args.subs.items in
    let copy : Some c.in-Some.old.now ≡ Some old = c.in-Some.ensures ∙ ap shared_copy is in
    let own : c.in-Some.old.now ≡ old = cc in
    on_want c.put.result (IsOk (assign_of old subs c.args.right)) (array_is_ok (assign_of old subs c.args.right) c.in_ok-new-in-Some.new (ap (λ (x : PlainArray). assign_of x subs c.args.right) (sym own) ∙ c.in_ok-new-in-Some.ensures.answer))
