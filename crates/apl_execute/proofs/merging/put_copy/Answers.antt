use Rattle.std.proofs.Common.{◌≡◌, Some, ap, subst, sym}
use Rattle.apl_arrays.specs.declared.report.Fail.{Fail}
use Rattle.apl_workspace.specs.Workspace.{IsFull, PlainWorkspace}
use Rattle.apl_workspace.specs.declared.meaning.Meaning.TheVariants.{Function}
use Rattle.apl_execute.specs.Merge.{copied_as, copy_in, with_name_copied}
use Rattle.apl_execute.proofs.Copies.{function_fits}
use Rattle.apl_execute.proofs.merging.put_copy.Goals as goal

pub returns-in-Err-clause-full : goal.returns-in-Err-clause-full
returns-in-Err-clause-full c =
    let ws : PlainWorkspace = c.args.ws.now in
    let from = c.args.from.now in
    let name = c.args.name.now in
    let function = c.in-Function.function.now in
    let copy : copy_in from name ≡ Some (Function function) = ap copied_as (sym c.in-Function.ensures.value) in
    subst (λ (why : Fail). IsFull (record ws { globals = with_name_copied ws.globals name (copy_in from name) }) why) (sym c.no_copy.ensures)
    (function_fits ws from name function c.has_room.result copy (c.has_room.ensures (Function function) c.weight.ensures))
