use Rattle.std.proofs.Common.{◌<◌, ap, sym, ◌∙◌, length, arith}
use Rattle.std.specs.Prelude.{slice_set}
use Rattle.std.proofs.lemmas.Grind.{common_steps}
use Rattle.std.proofs.lemmas.List.Edits.{map_over_more}
use Rattle.apl_values.specs.declared.values.StackValue.{StackValue}
use Rattle.apl_values.specs.Values.{settled}
use Rattle.apl_values.proofs.values.settle.Goals as goal

pub loop-value-preserved : goal.loop-value-preserved
loop-value-preserved c =
    let within : c.loop-value.value-index < length c.args.values.now.items = grind (arith, common_steps) in
    ap (λ (v : StackValue). slice_set c.loop-value.value-items c.loop-value.value-index v) c.in_ok-settle_one.ensures
    ∙ ap (λ (v : StackValue). slice_set c.loop-value.value-items c.loop-value.value-index (settled c.args.workspace.now v)) (sym c.value-item.is)
    ∙ map_over_more (settled c.args.workspace.now) c.args.values.now.items c.loop-value.value-items c.loop-value.value-index c.value-item.result within c.loop-value.invariant c.value-item.is
