use Rattle.std.proofs.Common.{sym, ◌∙◌}
use Rattle.std.specs.Prelude.{Some}
use Rattle.apl_values.proofs.Found.{found_at}
use Rattle.apl_calls.proofs.Keeping.{kept_of}
use Rattle.apl_calls.proofs.waiting.has_reading.Goals as goal

pub returns-in-Some-get : goal.returns-in-Some-get
returns-in-Some-get c is =
    kept_of c.args.readings.now c.args.number c.in-Some.at c.in-Some-get.kept.now
    (sym (found_at c.args.readings.now c.in-Some.at (Some c.in-Some-get.kept) c.in-Some-get.ensures.lookup)) (sym c.is_some.ensures ∙ is) c.in-Some.ensures.0 c.in-Some.ensures.1
