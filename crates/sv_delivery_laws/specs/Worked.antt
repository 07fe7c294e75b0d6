-- Worked stretches, with the oldest entry first.
use Rattle.std.specs.Prelude.{ℕ, pos, true, false, List, [], ◌∷◌, ◌++◌, reverse, codes, Option, Some, None}
use Rattle.apl_arrays.specs.Array.{PlainArray, scalar}
use Rattle.sv_access.specs.Control.{four_elements, no_control}
use Rattle.sv_access.specs.declared.access.Side.TheVariants.{A, B}
use Rattle.sv_access.specs.declared.control.Control.{Control}
use Rattle.sv_access.specs.declared.verdict.Owners.TheVariants.{Mine}
use Rattle.sv_events.specs.Answer.{degree, granted, value, held, vector, kept, done}
use Rattle.sv_events.specs.Entry.{PlainEntry, uncoupled}
use Rattle.sv_events.specs.declared.event.Act.TheVariants.{Offer, Retract, SetControl, Set, Use, Leave}
use Rattle.sv_rules.specs.declared.coupling.Coupling.{Coupling}
use Rattle.sv_rules.specs.declared.standing.Standing.{Standing}
use Rattle.sv_rules.specs.Entries.{Entries}
use Rattle.sv_delivery_laws.specs.Stretch.{Stretch}

-- the users
abbrev pub users : List ℕ
users = 1001 ∷ 1002 ∷ 1003 ∷ []

-- X
abbrev pub x : List ℕ
x = codes "X"

-- a number as a value
abbrev pub number_value : ℕ → PlainArray
number_value n = scalar (pos n)

-- each access is controlled; a set by me and a use by the partner are; the other two are
abbrev pub all_four : Control
all_four = four_elements true true true true

-- a set by me and a use by the partner are controlled
abbrev pub first_and_fourth : Control
first_and_fourth = four_elements true false false true

-- a set by the partner and a use by me are controlled
abbrev pub second_and_third : Control
second_and_third = four_elements false true true false

-- a party offers X to another, or to any, and it stays open, or is coupled at once
abbrev pub offers_x : ℕ → ℕ → Option PlainArray → PlainEntry
offers_x party to handed = uncoupled party (Offer to x x handed) (degree 1)

-- a party offers X, and is coupled at once
abbrev pub joins : ℕ → ℕ → Option PlainArray → ℕ → ℕ → PlainEntry
joins party to handed a b = record { party = party; act = Offer to x x handed; answer = degree 2; made = record { a = a; b = b } ∷ [] }

-- a leave couples two others
abbrev pub leaves_two : ℕ → ℕ → ℕ → PlainEntry
leaves_two party a b = record { party = party; act = Leave; answer = done; made = record { a = a; b = b } ∷ [] }

-- a set of X
abbrev pub sets_x : ℕ → ℕ → PlainEntry
sets_x party n = uncoupled party (Set x (number_value n)) granted

-- a use of X that gives a number
abbrev pub uses_x : ℕ → ℕ → PlainEntry
uses_x party n = uncoupled party (Use x) (value (number_value n))

-- a set of X that is held by the party's own vector
abbrev pub set_is_held : ℕ → ℕ → PlainEntry
set_is_held party n = uncoupled party (Set x (number_value n)) (held (record { element = 1; owners = Mine }))

-- a control of X that is in force then
abbrev pub controls_x : ℕ → Control → PlainEntry
controls_x party control = uncoupled party (SetControl x control) (vector control)

-- a retraction of X, which was coupled, by a party that knows no value of it
abbrev pub retracts : ℕ → PlainEntry
retracts party = uncoupled party (Retract x) (kept 2 None)

-- the standing offer of X
abbrev pub standing_offer_of_x : ℕ → ℕ → ℕ → Standing
standing_offer_of_x place party to = record { place = place; party = party; to = to; local = x; surrogate = x }

-- the coupling of two such offers of 1001 and 1002
abbrev pub coupling_of_x : ℕ → ℕ → Coupling
coupling_of_x second at = record { a = standing_offer_of_x 1 1001 1002; b = standing_offer_of_x second 1002 1001; at = at }

-- 1001 and 1002 share X, no value is known, and 1001 sets a control; then come a stretch's entries
abbrev pub shared_under : Control → List PlainEntry → Stretch
shared_under control entries = record {
  entries = reverse entries;
  before = reverse (offers_x 1001 1002 None ∷ joins 1002 1001 None 1 2 ∷ controls_x 1001 control ∷ []);
  coupling = coupling_of_x 2 2;
  giver = B;
}

-- 1002 sets over the 1 of 1001, which it has not seen
abbrev pub set_over_unseen : Stretch
set_over_unseen = shared_under all_four (sets_x 1001 1 ∷ sets_x 1002 9 ∷ uses_x 1001 9 ∷ sets_x 1001 2 ∷ uses_x 1002 2 ∷ [])

-- the same stretch without its last entry
abbrev pub ends_unseen : Stretch
ends_unseen = shared_under all_four (sets_x 1001 1 ∷ sets_x 1002 9 ∷ uses_x 1001 9 ∷ sets_x 1001 2 ∷ [])

-- the stretch behind its first use
abbrev pub seen_later : Entries
seen_later = uses_x 1002 2 ∷ []

-- 1001 has no partner yet, and its second set is held until 1002 has used the first
abbrev pub before_a_partner : Entries
before_a_partner = reverse (offers_x 1001 1002 None ∷ controls_x 1001 first_and_fourth ∷ [])

-- a stretch that begins while 1001 has no partner
abbrev pub begins_alone : Stretch
begins_alone = record {
  entries = reverse (sets_x 1001 1 ∷ set_is_held 1001 2 ∷ joins 1002 1001 None 1 5 ∷ uses_x 1002 1 ∷ sets_x 1001 2 ∷ uses_x 1002 2 ∷ []);
  before = before_a_partner;
  coupling = coupling_of_x 5 5;
  giver = A;
}

-- the same stretch up to the first set
abbrev pub ends_alone : Stretch
ends_alone = record begins_alone { entries = sets_x 1001 1 ∷ [] }

-- that stretch up to where the partner comes
abbrev pub joined_later : Entries
joined_later = reverse (set_is_held 1001 2 ∷ joins 1002 1001 None 1 5 ∷ uses_x 1002 1 ∷ sets_x 1001 2 ∷ uses_x 1002 2 ∷ [])

-- 1001 sets X before 1002 retracts it, so that its own offer opens again with the 1; then 1002 offers anew
abbrev pub until_retracted : Entries
until_retracted = reverse (offers_x 1001 1002 None ∷ joins 1002 1001 None 1 2 ∷ sets_x 1001 1 ∷ [])

-- 1002 retracts X once its control is set
abbrev pub since_retracted : Entries
since_retracted = reverse (retracts 1002 ∷ controls_x 1001 first_and_fourth ∷ [])

-- a stretch on an offer that opened again
abbrev pub opens_again : Stretch
opens_again = record {
  entries = reverse (joins 1002 1001 None 1 6 ∷ uses_x 1002 1 ∷ sets_x 1001 2 ∷ uses_x 1002 2 ∷ []);
  before = since_retracted ++ until_retracted;
  coupling = coupling_of_x 6 6;
  giver = A;
}

-- the same entries and those from the retraction on, behind which the offer opened
abbrev pub begins_too_early : Stretch
begins_too_early = record opens_again { entries = opens_again.entries ++ since_retracted; before = until_retracted }

-- the coupling with the first offer of 1002, up to its retraction
abbrev pub ends_retracted : Stretch
ends_retracted = record {
  entries = reverse (sets_x 1001 1 ∷ retracts 1002 ∷ []);
  before = reverse (offers_x 1001 1002 None ∷ joins 1002 1001 None 1 2 ∷ []);
  coupling = coupling_of_x 2 2;
  giver = B;
}

-- 1002 sets X while its partner-to-be is coupled with 1003, and is the giver and side B once 1003 has left
abbrev pub given_by_b : Stretch
given_by_b = record {
  entries = reverse (sets_x 1002 5 ∷ set_is_held 1002 6 ∷ leaves_two 1003 1 3 ∷ uses_x 1001 5 ∷ sets_x 1002 6 ∷ uses_x 1001 6 ∷ []);
  before = reverse (offers_x 1001 0 None ∷ joins 1003 1001 None 1 2 ∷ offers_x 1002 1001 None ∷ controls_x 1002 first_and_fourth ∷ []);
  coupling = record { a = standing_offer_of_x 1 1001 0; b = standing_offer_of_x 3 1002 1001; at = 7 };
  giver = B;
}

-- the control is lifted after the first set: the second is granted, and 1002 never sees the first
abbrev pub control_is_lifted : Stretch
control_is_lifted = shared_under first_and_fourth (sets_x 1001 1 ∷ controls_x 1001 no_control ∷ sets_x 1001 2 ∷ uses_x 1002 2 ∷ [])

-- under a control one user sets two values, and the other uses the second
abbrev pub set_twice : Control → ℕ → ℕ → Stretch
set_twice control one other = shared_under control (sets_x one 1 ∷ sets_x one 2 ∷ uses_x other 2 ∷ [])

-- under a control one user sets a value, and the other uses it twice
abbrev pub used_twice : Control → ℕ → ℕ → Stretch
used_twice control one other = shared_under control (sets_x one 1 ∷ uses_x other 1 ∷ uses_x other 1 ∷ [])

-- both uses are controlled
abbrev pub third_and_fourth : Control
third_and_fourth = four_elements false false true true

-- one element alone
abbrev pub only_first : Control
only_first = four_elements true false false false

-- a set by the partner alone is controlled
abbrev pub only_second : Control
only_second = four_elements false true false false

-- a use by me alone is controlled
abbrev pub only_third : Control
only_third = four_elements false false true false

-- a use by the partner alone is controlled
abbrev pub only_fourth : Control
only_fourth = four_elements false false false true

-- two sets of 1001, of which control would hold the second
abbrev pub two_unseen : Stretch
two_unseen = shared_under first_and_fourth (sets_x 1001 1 ∷ sets_x 1001 2 ∷ [])

-- 1001 asks and 1002 replies; the last reply is unseen
abbrev pub asked_twice : Stretch
asked_twice =
    shared_under all_four
    (sets_x 1001 1 ∷ uses_x 1002 1 ∷ sets_x 1002 10 ∷ uses_x 1001 10 ∷ sets_x 1001 2 ∷ uses_x 1002 2 ∷ sets_x 1002 20 ∷ [])

-- 1002 uses a 1 that was unseen at the start, and sets over the 2 that follows
abbrev pub begins_unseen : Stretch
begins_unseen = record {
  entries = reverse (uses_x 1002 1 ∷ sets_x 1001 2 ∷ sets_x 1002 10 ∷ []);
  before = reverse (offers_x 1001 1002 None ∷ joins 1002 1001 None 1 2 ∷ controls_x 1001 all_four ∷ sets_x 1001 1 ∷ []);
  coupling = coupling_of_x 2 2;
  giver = B;
}

-- a value of 1002 is unseen, and nothing follows: a request would take it out
abbrev pub reply_unseen : Stretch
reply_unseen = record {
  entries = [];
  before = reverse (offers_x 1001 1002 None ∷ joins 1002 1001 None 1 2 ∷ controls_x 1001 all_four ∷ sets_x 1002 5 ∷ []);
  coupling = coupling_of_x 2 2;
  giver = B;
}

-- 1001 uses its own 1, as only the uses of 1002 are held
abbrev pub asks_itself : Stretch
asks_itself = shared_under only_fourth (sets_x 1001 1 ∷ uses_x 1001 1 ∷ [])

-- 1002 replies to 1 and then uses its own reply, as only the uses of 1001 are held
abbrev pub replies_to_itself : Stretch
replies_to_itself = shared_under only_third (sets_x 1001 1 ∷ uses_x 1002 1 ∷ sets_x 1002 10 ∷ uses_x 1002 10 ∷ [])

-- 1001 hands in 7 with its offer, and sets 8
abbrev pub hands_in : Stretch
hands_in = record {
  entries = reverse (joins 1002 1001 None 1 3 ∷ uses_x 1002 7 ∷ sets_x 1001 8 ∷ []);
  before = reverse (offers_x 1001 1002 (Some (number_value 7)) ∷ controls_x 1001 first_and_fourth ∷ []);
  coupling = coupling_of_x 3 3;
  giver = A;
}

-- 1002 uses the 7 twice that was handed in, before 1001 sets its control and 8
abbrev pub used_before : Stretch
used_before = record {
  entries = reverse (sets_x 1001 8 ∷ uses_x 1002 8 ∷ []);
  before = reverse (offers_x 1001 1002 (Some (number_value 7)) ∷ joins 1002 1001 None 1 2 ∷ uses_x 1002 7 ∷ uses_x 1002 7 ∷ controls_x 1001 first_and_fourth ∷ []);
  coupling = coupling_of_x 2 2;
  giver = A;
}

-- the journal to the end of a stretch
abbrev pub to_the_end : Stretch → Entries
to_the_end stretch = stretch.entries ++ stretch.before
