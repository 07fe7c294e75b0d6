use Rattle.std.proofs.Common.{rules, ◌≡◌, ◌≤◌, length, subst, sym}
use Rattle.apl_io.specs.Whole.{ReadsAll}
use Rattle.aplsv_top.specs.Checks.{most_checked_bytes}
use Rattle.aplsv_top.proofs.CheckCauses.{check_by_bytes}
use Rattle.aplsv_top.proofs.checking.checked.Goals as goal

pub returns-in-Ok-clause-causes : goal.returns-in-Ok-clause-causes
returns-in-Ok-clause-causes g c =
    let same : c.as_slice.result.now ≡ c.in-Ok.bytes.items = search rules in
    let all = subst (ReadsAll (g.S.Source.left c.args.input.now) (g.S.Source.left c.read_all.new.source)) (sym same) c.in-Ok.ensures.all in
    let few : length c.as_slice.result.now ≤ most_checked_bytes = search rules in
    check_by_bytes c.answer.result c.as_slice.result.now
    (record { bytes = g.S.Source.left c.args.input.now; faults = g.S.Source.faults c.args.input.now }) (record { bytes = g.S.Source.left c.read_all.new.source; faults = g.S.Source.faults c.read_all.new.source })
    (record { bytes = g.W.Sink.held c.args.output.now; faults = g.W.Sink.faults c.args.output.now }) (record { bytes = g.W.Sink.held c.answer.new.output; faults = g.W.Sink.faults c.answer.new.output })
    all few c.answer.ensures.causes (c.in-Ok.ensures.taken (λ refused. absurd cc))
