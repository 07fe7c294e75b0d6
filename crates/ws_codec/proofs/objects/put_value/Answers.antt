use Rattle.std.proofs.Common.{◌∙◌, ap, subst, sym}
use Rattle.apl_arrays.specs.declared.report.Fail.{Fail}
use Rattle.apl_workspace.specs.Meaning.{is_shared_meaning}
use Rattle.apl_workspace.specs.Workspace.{IsNotAssigned, PlainWorkspace, assigned, is_assignable, is_there, look}
use Rattle.apl_workspace.specs.declared.meaning.Meaning.TheVariants.{Value}
use Rattle.ws_codec.specs.Objects.{last_name}
use Rattle.ws_codec.proofs.Ends.{IsEnd, assigned_last, last_put, unseen, value_taken}
use Rattle.ws_codec.proofs.objects.put_value.Goals as goal

pub assign-requires : goal.assign-requires
assign-requires c =
    let h : IsEnd c.args.ws.now c.args.name = record { plain = c.requires.plain; rules = c.weight.ensures.rules; above = c.requires.above } in
    ap is_shared_meaning (unseen c.args.ws.now c.args.name h)

pub unreachable-requires : goal.unreachable-requires
unreachable-requires c =
    let h : IsEnd c.args.ws.now c.args.name = record { plain = c.requires.plain; rules = c.weight.ensures.rules; above = c.requires.above } in
    let refused =
    subst (λ (f : Fail). IsNotAssigned (is_there c.args.ws.now c.args.name) (is_assignable (look c.args.ws.now c.args.name)) (assigned c.args.ws.now c.args.name c.args.value) f) c.in-Err-Report.field-0-is c.in-Err-Report.ensures.refused in
    value_taken c.args.ws.now c.args.name h c.args.value c.in-Err-Report.field-0-0 c.requires.light refused

pub returns-in-Ok-clause-globals : goal.returns-in-Ok-clause-globals
returns-in-Ok-clause-globals c =
    let h : IsEnd c.args.ws.now c.args.name = record { plain = c.requires.plain; rules = c.weight.ensures.rules; above = c.requires.above } in
    ap (λ (w : PlainWorkspace). w.globals) (c.in-Ok.ensures.ok ∙ assigned_last c.args.ws.now c.args.name h c.args.value)

pub returns-in-Ok-clause-last : goal.returns-in-Ok-clause-last
returns-in-Ok-clause-last c =
    let h : IsEnd c.args.ws.now c.args.name = record { plain = c.requires.plain; rules = c.weight.ensures.rules; above = c.requires.above } in
    let put = ap (λ (w : PlainWorkspace). w.globals) (c.in-Ok.ensures.ok ∙ assigned_last c.args.ws.now c.args.name h c.args.value) in
    last_put c.args.ws.now.globals c.args.name (Value c.args.value) ∙ ap last_name (sym put)
