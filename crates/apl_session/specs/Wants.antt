-- What a session asks of its driver.
use Rattle.std.specs.Prelude.{IsTrue, not, Option, Some, None}
use Rattle.sv_events.specs.declared.event.Act.{Act}
use Rattle.sv_rules.specs.Entries.{is_leave}
use Rattle.apl_session.specs.declared.session.Need.{Need}
use Rattle.apl_session.specs.declared.session.Need.TheVariants as need
use Rattle.apl_session.specs.declared.session.SessionStage.{SessionStage}
use Rattle.apl_session.specs.declared.session.SessionStage.TheVariants as stage
use Rattle.apl_session.specs.declared.session.Wants.{Wants}
use Rattle.apl_session.specs.declared.session.Wants.TheVariants as wants

-- the act that is asked, if any
abbrev pub wanted : Wants → Option Act
wanted (wants.Act act) = Some act
wanted wants.Finished = None

-- the act that is asked, if any, is no leave
abbrev pub IsOfPresent : Wants → Type 0
IsOfPresent (wants.Act act) = IsTrue (not (is_leave act))
IsOfPresent wants.Finished = Unit {0}

-- what a session needs by the act that waits, if one does: its answer
abbrev pub need_by : Option Act → Need
need_by (Some act) = need.Answer
need_by None = need.Nothing

-- how far a session is that asks an act, or nothing more
abbrev pub stage_by : Option Act → SessionStage
stage_by (Some act) = stage.Waiting
stage_by None = stage.Finished

-- a session may go on: no act of it is open
abbrev pub MayGoOn : SessionStage → Type 0
MayGoOn stage.Ready = Unit {0}
MayGoOn stage.Waiting = ⊥
MayGoOn stage.Finished = Unit {0}
MayGoOn stage.Failed = Unit {0}

-- all answers were heard: an act waits for the next one, or no line is left
abbrev pub HasHeardAll : SessionStage → Type 0
HasHeardAll stage.Ready = ⊥
HasHeardAll stage.Waiting = Unit {0}
HasHeardAll stage.Finished = Unit {0}
HasHeardAll stage.Failed = ⊥
