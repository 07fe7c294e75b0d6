-- What words ask of the program, and how it may end.
use Rattle.std.specs.Prelude.{◌≡◌, ℕ, List, true}
use Rattle.aplsv_words.specs.Meaning.{Asked, Means}
use Rattle.aplsv_top.specs.declared.status.Status.{Status}
use Rattle.aplsv_top.specs.declared.status.Status.TheVariants as status

-- the words have a meaning, and --replay is among them
abbrev pub AskReplay : List (List ℕ) → Type 0
AskReplay words = (asked : Asked) × Means words asked × (asked.replay ≡ true)

-- the words have a meaning
abbrev pub HaveMeaning : List (List ℕ) → Type 0
HaveMeaning words = (asked : Asked) × Means words asked

-- the bytes themselves decided: their run was written, or they are said to be no bundle, or memory ran out
abbrev pub IsConclusion : Status → Type 0
IsConclusion status.Done = Unit {0}
IsConclusion (status.Malformed offset rule) = Unit {0}
IsConclusion status.WantOfMemory = Unit {0}
IsConclusion status.Usage = ⊥
IsConclusion status.ReadFault = ⊥
IsConclusion status.WriteFault = ⊥
IsConclusion status.TooLong = ⊥
IsConclusion (status.NotARun found) = ⊥

-- the exit status of the process, for each way to end
abbrev pub exit_status : Status → ℕ
exit_status status.Done = 0
exit_status status.Usage = 1
exit_status (status.Malformed offset rule) = 2
exit_status status.ReadFault = 3
exit_status status.WriteFault = 4
exit_status status.TooLong = 5
exit_status status.WantOfMemory = 6
exit_status (status.NotARun found) = 7
