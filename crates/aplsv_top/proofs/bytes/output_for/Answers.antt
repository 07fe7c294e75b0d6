use Rattle.std.proofs.lemmas.Result.{IfOk-weaker}
use Rattle.aplsv_top.specs.Headline.{IsOutputIn, IsOutputOf}
use Rattle.aplsv_top.proofs.Over.{own_written}
use Rattle.aplsv_top.proofs.bytes.output_for.Goals as goal

pub returns : goal.returns
returns c =
    let devices = c.in_ok-devices.devices in
    let run = c.replay-ended.result in
    IfOk-weaker c.output_in.result (λ output. IsOutputIn run.ended output.items) (λ output. IsOutputOf c.args.bundle output.items)
    (λ output written.
    own_written c.args.bundle output.items devices.clock run.devices.clock devices.text run.devices.text devices.shelves.items run.devices.shelves.items run.ended
    c.in_ok-devices.ensures.clock c.in_ok-devices.ensures.text c.in_ok-devices.ensures.shelves c.replay-ended.ensures.run written)
    c.output_in.ensures
