use Rattle.std.proofs.Common.{rules, ◌≡◌, ◌≤◌, length, subst, sym}
use Rattle.apl_io.specs.Whole.{ReadsAll}
use Rattle.aplsv_look.specs.Causes.{most_looked_at}
use Rattle.aplsv_look.proofs.LookCauses.{cause_by_bytes}
use Rattle.aplsv_look.proofs.looking.looked.Goals as goal

pub returns-in-Ok-clause-causes : goal.returns-in-Ok-clause-causes
returns-in-Ok-clause-causes g c =
    let same : c.as_slice.result.now ≡ c.in-Ok.bytes.items = search rules in
    let all = subst (ReadsAll (g.S.Source.left c.args.input.now) (g.S.Source.left c.read_all.new.source)) (sym same) c.in-Ok.ensures.all in
    let few : length c.as_slice.result.now ≤ most_looked_at = search rules in
    cause_by_bytes c.args.look c.shown.result c.as_slice.result.now
    (record { bytes = g.S.Source.left c.args.input.now; faults = g.S.Source.faults c.args.input.now }) (record { bytes = g.S.Source.left c.read_all.new.source; faults = g.S.Source.faults c.read_all.new.source })
    (record { bytes = g.W.Sink.held c.args.output.now; faults = g.W.Sink.faults c.args.output.now }) (record { bytes = g.W.Sink.held c.shown.new.output; faults = g.W.Sink.faults c.shown.new.output })
    all few c.shown.ensures.causes (c.in-Ok.ensures.taken (λ refused. absurd cc))
