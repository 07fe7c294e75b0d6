use Rattle.std.proofs.Common.{◌-◌, rules}
use Rattle.apl_statements.specs.declared.waiting.Waiting.{Waiting}
use Rattle.apl_calls.proofs.Lasts.{has_one, last_at}
use Rattle.apl_calls.proofs.waiting.stand_at.Goals as goal

pub returns : goal.returns
returns c =
    let waiting : Waiting = c.index_mut.result.now in
    let found = last_at c.args.callers.now.items waiting (record waiting { number = c.args.number }) (c.len-last.result - 1) (has_one c.args.callers.now.items c.len-last.result c.requires (search rules)) c.index_mut.ensures.value in
    record { others = found.0; waiting = waiting; was = found.1; is = found.2 }
