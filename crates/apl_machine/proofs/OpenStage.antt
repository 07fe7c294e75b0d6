-- A machine whose act is open may be given the answer.
use Rattle.apl_workspace.specs.Workspace.{PlainWorkspace}
use Rattle.sv_events.specs.declared.event.Act.{Act}
use Rattle.apl_machine.specs.Machine.{IsOpenIn, IsOpenStage, PlainStage, begins, has_answer, idle, is_open, lost}

-- a stage in which this act is open
pub open_stage : (w : PlainWorkspace) (s : PlainStage) (asked : Act) → IsOpenIn w s asked → IsOpenStage s
open_stage w idle asked is = is
open_stage w (begins tree) asked is = is
open_stage w (is_open for_this caller) asked is = tt
open_stage w (has_answer answer for_this caller) asked is = is
open_stage w lost asked is = is
