-- Worked runs: two users without lines, who leave.
use Rattle.std.specs.Prelude.{ℕ, List, [], ◌∷◌, codes}
use Rattle.bundle_text.specs.Rules.{PlainBundle}
use Rattle.bundle_text.specs.User.{PlainUser}
use Rattle.sv_events.specs.Answer.{done}
use Rattle.sv_events.specs.Entry.{PlainEntry, uncoupled}
use Rattle.sv_events.specs.declared.event.Act.TheVariants.{Leave}

-- a user without lines
abbrev pub without_lines : ℕ → PlainUser
without_lines number = record { number = number; lines = [] }

-- two of them
abbrev pub two_without_lines : PlainBundle
two_without_lines = record { users = without_lines 1001 ∷ without_lines 1002 ∷ []; order = []; files = []; clock = [] }

-- a user leaves
abbrev pub leave_of : ℕ → PlainEntry
leave_of party = uncoupled party Leave done

-- some lines
abbrev pub four_lines : List (List ℕ)
four_lines = codes "      1001 ⎕SVO 'X'" ∷ codes "2" ∷ codes "      X" ∷ codes "4" ∷ []

-- with another last one
abbrev pub with_another : List (List ℕ)
with_another = codes "      1001 ⎕SVO 'X'" ∷ codes "2" ∷ codes "      X" ∷ codes "5" ∷ []
