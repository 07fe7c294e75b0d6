use Rattle.std.proofs.Common.{◌+◌, ◌*◌, arith}
use Rattle.apl_items.proofs.AlongLemmas.{source_below, parts_below}
use Rattle.apl_items.proofs.along.place_of_source.Goals as goal

pub overflow_mul-result-in-Some : goal.overflow_mul-result-in-Some
overflow_mul-result-in-Some g c =
    let split = c.args.split in let long = g.R.Along.length c.args.rule.now in
    let below = source_below split.outer long split.inner c.args.outer c.in-Some.from c.args.inner c.requires.outer c.in-Some.ensures.inside c.requires.inner in
    rw c.length.ensures (omega (arith, below, c.requires.fits))

pub overflow_add-result-in-Some : goal.overflow_add-result-in-Some
overflow_add-result-in-Some g c =
    let split = c.args.split in let long = g.R.Along.length c.args.rule.now in
    let below = source_below split.outer long split.inner c.args.outer c.in-Some.from c.args.inner c.requires.outer c.in-Some.ensures.inside c.requires.inner in
    let part = parts_below (c.args.outer * long + c.in-Some.from) split.inner c.args.inner c.requires.inner in
    rw c.length.ensures (omega (arith, below, part, c.requires.fits))

pub returns-in-Some-clause-inside : goal.returns-in-Some-clause-inside
returns-in-Some-clause-inside g c =
    let split = c.args.split in let long = g.R.Along.length c.args.rule.now in
    rw c.length.ensures (source_below split.outer long split.inner c.args.outer c.in-Some.from c.args.inner c.requires.outer c.in-Some.ensures.inside c.requires.inner)
