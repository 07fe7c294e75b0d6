use Rattle.sv_turn.specs.Seating.{BelongsTo}
use Rattle.turn_cases.specs.Logs.{nobody}
use Rattle.turn_cases.proofs.turns.work.Given as goal

abbrev pub invariant-loop-turn : goal.invariant-loop-turn
invariant-loop-turn g l = BelongsTo nobody l.stile l.seat
