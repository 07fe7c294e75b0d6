use Rattle.apl_session.specs.Wants.{MayGoOn}
use Rattle.machine_cases.proofs.sessions.give_all.Given as goal

-- the session can go on
abbrev pub invariant-loop-given : goal.invariant-loop-given
invariant-loop-given l = MayGoOn l.session.stage
