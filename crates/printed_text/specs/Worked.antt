-- Worked lines: an output of two users, line by line.
use Rattle.std.specs.Prelude.{ℕ, List, [], ◌∷◌, Option, Some, None, codes}
use Rattle.sv_events.specs.Answer.{done}
use Rattle.sv_events.specs.Entry.{PlainEntry, uncoupled}
use Rattle.sv_events.specs.declared.event.Act.TheVariants.{Leave}
use Rattle.printed_text.specs.Draft.{PlainDraft, said}
use Rattle.printed_text.specs.Line.{PlainLine, user, shown, journal, entry, end}

-- two users are named
abbrev pub two_named : Option (List ℕ)
two_named = Some (1001 ∷ 1002 ∷ [])

-- none is
abbrev pub any_users : Option (List ℕ)
any_users = None

-- a user leaves
abbrev pub leave_of : ℕ → PlainEntry
leave_of party = uncoupled party Leave done

-- one user saw a line
abbrev pub one_user_read : PlainDraft
one_user_read = said (shown (codes "      2") ∷ user 1001 ∷ [])

-- and the other nothing
abbrev pub both_users_read : PlainDraft
both_users_read = said (user 1002 ∷ shown (codes "      2") ∷ user 1001 ∷ [])

-- one of them left
abbrev pub one_left : PlainDraft
one_left = said (entry 1 (leave_of 1001) ∷ journal ∷ user 1002 ∷ shown (codes "      2") ∷ user 1001 ∷ [])

-- and that was all
abbrev pub ended_there : PlainDraft
ended_there = said (end ∷ entry 1 (leave_of 1001) ∷ journal ∷ user 1002 ∷ shown (codes "      2") ∷ user 1001 ∷ [])
