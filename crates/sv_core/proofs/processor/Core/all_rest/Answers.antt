use Rattle.sv_core.proofs.processor.Core.all_rest.Goals as goal

pub rests-requires : goal.rests-requires
rests-requires c = c.requires c.loop-row.row-index _ c.loop-row-test.true
