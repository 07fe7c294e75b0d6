-- How a look may end.
use Rattle.std.specs.Prelude.{ℕ}
use Rattle.aplsv_look.specs.declared.refused.LookRefused.{LookRefused}
use Rattle.aplsv_look.specs.declared.refused.LookRefused.TheVariants as refused
use Rattle.aplsv_look.specs.declared.status.LookStatus.{LookStatus}
use Rattle.aplsv_look.specs.declared.status.LookStatus.TheVariants as status

-- the exit status of the process, for each way to end
abbrev pub look_exit_status : LookStatus → ℕ
look_exit_status status.Done = 0
look_exit_status status.Usage = 1
look_exit_status (status.NoOutput offset) = 2
look_exit_status status.ReadFault = 3
look_exit_status status.WriteFault = 4
look_exit_status status.TooLong = 5
look_exit_status status.WantOfMemory = 6
look_exit_status status.NoEntry = 8

-- how a look ends that shows nothing
abbrev pub status_refused : LookRefused → LookStatus
status_refused (refused.NoOutput at) = status.NoOutput at
status_refused refused.NoEntry = status.NoEntry
status_refused refused.WantOfMemory = status.WantOfMemory

-- how a look that was asked for may end, where neither source nor sink failed and the text is not too long
abbrev pub IsLookConclusion : LookStatus → Type 0
IsLookConclusion status.Done = Unit {0}
IsLookConclusion (status.NoOutput offset) = Unit {0}
IsLookConclusion status.WantOfMemory = Unit {0}
IsLookConclusion status.NoEntry = Unit {0}
IsLookConclusion status.Usage = ⊥
IsLookConclusion status.ReadFault = ⊥
IsLookConclusion status.WriteFault = ⊥
IsLookConclusion status.TooLong = ⊥
