-- What holds of every machine, and the machine as plain data.
use Rattle.apl_workspace.specs.Workspace.{PlainWorkspace}
use Rattle.apl_values.specs.Parts.{IsLineReading}
use Rattle.apl_values.specs.Pending.{IsPending}
use Rattle.apl_statements.specs.Interpreter.{here}
use Rattle.apl_statements.specs.Sound.{IsCaller}
use Rattle.apl_machine.specs.declared.machine.Machine.TheInside.{Inside}
use Rattle.apl_machine.specs.declared.machine.Stage.{Stage}
use Rattle.apl_machine.specs.declared.machine.Stage.TheVariants as stage
use Rattle.apl_machine.specs.Machine.{PlainMachine, plain_stage}

-- what holds of a stage
abbrev pub IsStage : PlainWorkspace → Stage → Type 0
IsStage w stage.Idle = Unit {0}
IsStage w (stage.Begins reading) = IsLineReading reading
IsStage w (stage.Open for_this e) = IsPending w for_this.value × IsCaller w e
IsStage w (stage.Answered answer for_this e) = IsPending w for_this.value × IsCaller w e
IsStage w stage.Lost = Unit {0}

-- what holds of every machine
abbrev pub IsMachine : Inside → Type 0
IsMachine m = IsStage m.interpreter.workspace m.stage

-- a machine as plain data
abbrev pub plain_machine : Inside → PlainMachine
plain_machine m = record { interpreter = m.interpreter; stage = plain_stage m.interpreter.workspace (here m.interpreter) m.stage }
