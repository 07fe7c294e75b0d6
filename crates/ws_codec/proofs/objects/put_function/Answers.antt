use Rattle.std.proofs.Common.{◌≡◌, ℕ, true, List, [], ◌∷◌, ◌++◌, Some, ◌∙◌, ap, subst, sym}
use Rattle.apl_arrays.specs.declared.report.Fail.{Fail}
use Rattle.apl_workspace.specs.Meaning.{is_variable_meaning}
use Rattle.apl_workspace.specs.Workspace.{IsFull, PlainWorkspace, with_global}
use Rattle.apl_workspace.specs.declared.meaning.Meaning.TheVariants.{Function}
use Rattle.ws_codec.specs.Objects.{is_above, last_name}
use Rattle.ws_codec.proofs.Ends.{IsEnd, function_taken, last_put, no_global, put_last}
use Rattle.ws_codec.proofs.objects.put_function.Goals as goal

pub define-requires-clause-no_variable : goal.define-requires-clause-no_variable
define-requires-clause-no_variable c =
    let above = subst (λ (n : List ℕ). is_above (last_name c.args.ws.now.globals) n ≡ true) (sym c.requires.name) c.requires.above in
    let h : IsEnd c.args.ws.now c.args.function.header.name = record { plain = c.requires.plain; rules = c.weight.ensures.rules; above = above } in
    ap is_variable_meaning (no_global c.args.ws.now c.args.function.header.name h)

pub unreachable-requires : goal.unreachable-requires
unreachable-requires c =
    let above = subst (λ (n : List ℕ). is_above (last_name c.args.ws.now.globals) n ≡ true) (sym c.requires.name) c.requires.above in
    let h : IsEnd c.args.ws.now c.args.function.header.name = record { plain = c.requires.plain; rules = c.weight.ensures.rules; above = above } in
    let full = subst (λ (f : Fail). IsFull (with_global c.args.ws.now c.args.function.header.name (Function c.args.function)) f) c.in-Err-Report.field-0-is c.in-Err-Report.ensures.full in
    function_taken c.args.ws.now c.args.function.header.name h c.args.function c.in-Err-Report.field-0-0 c.requires.light full

pub returns-in-Ok-clause-globals : goal.returns-in-Ok-clause-globals
returns-in-Ok-clause-globals c =
    let above = subst (λ (n : List ℕ). is_above (last_name c.args.ws.now.globals) n ≡ true) (sym c.requires.name) c.requires.above in
    let h : IsEnd c.args.ws.now c.args.function.header.name = record { plain = c.requires.plain; rules = c.weight.ensures.rules; above = above } in
    ap (λ (w : PlainWorkspace). w.globals) (c.in-Ok.ensures.ok ∙ put_last c.args.ws.now c.args.function.header.name h (Function c.args.function))
    ∙ ap (λ (n : List ℕ). c.args.ws.now.globals ++ (n, Function c.args.function) ∷ []) c.requires.name

pub returns-in-Ok-clause-last : goal.returns-in-Ok-clause-last
returns-in-Ok-clause-last c =
    let above = subst (λ (n : List ℕ). is_above (last_name c.args.ws.now.globals) n ≡ true) (sym c.requires.name) c.requires.above in
    let h : IsEnd c.args.ws.now c.args.function.header.name = record { plain = c.requires.plain; rules = c.weight.ensures.rules; above = above } in
    let put = ap (λ (w : PlainWorkspace). w.globals) (c.in-Ok.ensures.ok ∙ put_last c.args.ws.now c.args.function.header.name h (Function c.args.function)) in
    ap (λ (n : List ℕ). Some n) (sym c.requires.name) ∙ last_put c.args.ws.now.globals c.args.function.header.name (Function c.args.function) ∙ ap last_name (sym put)
