use Rattle.std.proofs.Common.{◌∙◌, sym, refl}
use Rattle.auxiliaries.proofs.clock_aux.ClockAux.reply.Goals as goal

pub returns-then-not-asks_reading-clause-ok : goal.returns-then-not-asks_reading-clause-ok
returns-then-not-asks_reading-clause-ok g c =
    rw (sym c.asks_reading.ensures ∙ c.if-not-asks_reading.true) (c.of_number.ensures, refl)
