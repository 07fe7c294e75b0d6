use Rattle.bundle_text.specs.User.{PlainUser}
use Rattle.aplsv_check.specs.Followed.{IsSeatOf, TookTurns, turns_left}
use Rattle.aplsv_check.proofs.turns.take_turns.Given as goal

-- how far its turns came
abbrev pub invariant-turns : goal.invariant-turns
invariant-turns l = (user : PlainUser) → IsSeatOf l.fn.core.journal user l.fn.seat → TookTurns user l.fn.core l.is_entered l.core l.seat

abbrev pub decreases-turns : goal.decreases-turns
decreases-turns l = turns_left l.is_entered l.core l.seat
