-- Worked journals of control, written with the oldest entry first.
use Rattle.std.specs.Prelude.{ℕ, [], ◌∷◌, reverse, None}
use Rattle.sv_access.specs.declared.control.Control.{Control}
use Rattle.sv_access.specs.declared.verdict.Owners.TheVariants.{Mine, Partner}
use Rattle.sv_events.specs.Answer.{PlainAnswer, degree, granted, vector}
use Rattle.sv_events.specs.Entry.{PlainEntry, uncoupled}
use Rattle.sv_events.specs.declared.event.Act.TheVariants.{SetControl}
use Rattle.sv_rules.specs.Entries.{Entries}
use Rattle.sv_plain.specs.Worked.{bits, joining, x, offer_x, set_x, use_x, left, answered_value, holds, gives_up, shared_x}

-- a control of X is set, and is in force
abbrev pub control_x : ℕ → Control → Control → PlainEntry
control_x party set in_force = uncoupled party (SetControl x set) (vector in_force)

-- 1001 controls its sets and the partner's uses: its second set is held until 1002 has used the first
abbrev pub second_set_is_held : Entries
second_set_is_held =
    shared_x None None
    (control_x 1001 (bits 1 0 0 1) (bits 1 0 0 1) ∷ set_x 1001 5 granted ∷ set_x 1001 6 (holds 1 Mine) ∷ use_x 1002 (answered_value 5)
    ∷ set_x 1001 6 granted ∷ use_x 1002 (answered_value 6) ∷ left 1001 ∷ left 1002 ∷ [])

-- the partner's vector holds a second set, until the partner leaves
abbrev pub held_by_the_partner : Entries
held_by_the_partner =
    shared_x None None
    (control_x 1002 (bits 0 1 0 0) (bits 0 1 0 0) ∷ set_x 1001 5 granted ∷ set_x 1001 6 (holds 1 Partner) ∷ left 1002
    ∷ set_x 1001 6 granted ∷ left 1001 ∷ [])

-- a use of the partner is held until there is a value
abbrev pub view_is_swapped : Entries
view_is_swapped =
    shared_x None None
    (control_x 1001 (bits 1 0 0 1) (bits 1 0 0 1) ∷ use_x 1002 (holds 4 Partner) ∷ set_x 1001 5 granted ∷ use_x 1002 (answered_value 5)
    ∷ left 1001 ∷ left 1002 ∷ [])

-- both wait, and nobody can go on: one wait is given up, and then the other, whose offer is open again
abbrev pub both_hold : Entries
both_hold =
    shared_x None None
    (control_x 1001 (bits 1 1 1 1) (bits 1 1 1 1) ∷ use_x 1002 (holds 4 Partner) ∷ use_x 1001 (holds 3 Mine)
    ∷ use_x 1002 (gives_up 4 Partner) ∷ left 1002 ∷ use_x 1001 (gives_up 3 Mine) ∷ left 1001 ∷ [])

-- a second set is held before there is a partner
abbrev pub second_set_before_a_partner : Entries
second_set_before_a_partner =
    reverse
    (uncoupled 1001 (offer_x 1002 None) (degree 1) ∷ control_x 1001 (bits 1 0 0 0) (bits 1 0 0 0) ∷ set_x 1001 1 granted
    ∷ set_x 1001 2 (holds 1 Mine) ∷ joining 1002 (offer_x 1001 None) (degree 2) 1 5 ∷ use_x 1002 (answered_value 1) ∷ set_x 1001 2 granted
    ∷ left 1002 ∷ left 1001 ∷ [])

-- 1002 sets over a value that it has not seen
abbrev pub set_over_unseen : Entries
set_over_unseen =
    shared_x None None
    (control_x 1001 (bits 1 1 1 1) (bits 1 1 1 1) ∷ set_x 1001 1 granted ∷ set_x 1002 9 granted ∷ use_x 1001 (answered_value 9)
    ∷ set_x 1001 2 granted ∷ use_x 1002 (answered_value 2) ∷ left 1001 ∷ left 1002 ∷ [])

-- 1002 may go on, so that it is too soon for 1001 to give up its wait
abbrev pub given_up_too_soon : Entries
given_up_too_soon =
    shared_x None None
    (control_x 1001 (bits 0 0 1 0) (bits 0 0 1 0) ∷ use_x 1001 (holds 3 Mine) ∷ use_x 1001 (gives_up 3 Mine) ∷ [])

-- a user that waits does something else
abbrev pub acts_while_it_waits : PlainEntry → Entries
acts_while_it_waits entry =
    shared_x None None (control_x 1001 (bits 0 0 1 0) (bits 0 0 1 0) ∷ use_x 1001 (holds 3 Mine) ∷ entry ∷ [])

-- a control on a name that its user has not offered
abbrev pub control_without_an_offer : PlainAnswer → Entries
control_without_an_offer answer = reverse (uncoupled 1001 (SetControl x (bits 1 1 1 1)) answer ∷ [])
