-- How worked journals are written: with the oldest entry first.
use Rattle.std.specs.Prelude.{ℕ, ◌==◌, pos, List, [], ◌∷◌, reverse, codes, Option, if◌then◌else◌}
use Rattle.apl_arrays.specs.Array.{PlainArray, scalar}
use Rattle.sv_access.specs.Control.{four_elements}
use Rattle.sv_access.specs.declared.control.Control.{Control}
use Rattle.sv_access.specs.declared.verdict.Owners.{Owners}
use Rattle.sv_events.specs.Answer.{PlainAnswer, degree, value, held, abandoned, done}
use Rattle.sv_events.specs.Entry.{PlainEntry, uncoupled}
use Rattle.sv_events.specs.declared.entry.Pair.{Pair}
use Rattle.sv_events.specs.declared.event.Act.{Act}
use Rattle.sv_events.specs.declared.event.Act.TheVariants.{Offer, Set, Use, Leave}
use Rattle.sv_rules.specs.Entries.{Entries, next_place}

-- the two users of most journals
abbrev pub two_users : List ℕ
two_users = 1001 ∷ 1002 ∷ []

-- those of others
abbrev pub three_users : List ℕ
three_users = 1001 ∷ 1002 ∷ 1003 ∷ []

-- a run with one user
abbrev pub one_user : List ℕ
one_user = 1001 ∷ []

-- the number as a value
abbrev pub number_value : ℕ → PlainArray
number_value n = scalar (pos n)

-- a control of four bits
abbrev pub bits : ℕ → ℕ → ℕ → ℕ → Control
bits a b c d = four_elements (a == 1) (b == 1) (c == 1) (d == 1)

-- one pair
abbrev pub pair : ℕ → ℕ → List Pair
pair a b = record { a = a; b = b } ∷ []

-- an entry that couples one pair
abbrev pub joining : ℕ → Act → PlainAnswer → ℕ → ℕ → PlainEntry
joining party act answer a b = record { party = party; act = act; answer = answer; made = pair a b }

-- X
abbrev pub x : List ℕ
x = codes "X"

-- an offer of X as X
abbrev pub offer_x : ℕ → Option PlainArray → Act
offer_x to handed = Offer to x x handed

-- a set of X
abbrev pub set_x : ℕ → ℕ → PlainAnswer → PlainEntry
set_x party n answer = uncoupled party (Set x (number_value n)) answer

-- a use of X
abbrev pub use_x : ℕ → PlainAnswer → PlainEntry
use_x party answer = uncoupled party (Use x) answer

-- a leave
abbrev pub left : ℕ → PlainEntry
left party = uncoupled party Leave done

-- a value
abbrev pub answered_value : ℕ → PlainAnswer
answered_value n = value (number_value n)

-- a hold
abbrev pub holds : ℕ → Owners → PlainAnswer
holds element owners = held (record { element = element; owners = owners })

-- a hold that is given up
abbrev pub gives_up : ℕ → Owners → PlainAnswer
gives_up element owners = abandoned (record { element = element; owners = owners })

-- two users share X: the end differs
abbrev pub shared_x : Option PlainArray → Option PlainArray → List PlainEntry → Entries
shared_x first second entries =
    reverse (uncoupled 1001 (offer_x 1002 first) (degree 1) ∷ joining 1002 (offer_x 1001 second) (degree 2) 1 2 ∷ entries)

-- the journal with another answer at a place
abbrev pub with_answer : ℕ → PlainAnswer → Entries → Entries
with_answer place answer [] = []
with_answer place answer (e ∷ journal) =
    if place == next_place journal then record e { answer = answer } ∷ journal else e ∷ with_answer place answer journal

-- with another act
abbrev pub with_act : ℕ → Act → Entries → Entries
with_act place act [] = []
with_act place act (e ∷ journal) =
    if place == next_place journal then record e { act = act } ∷ journal else e ∷ with_act place act journal

-- with other pairs
abbrev pub with_made : ℕ → List Pair → Entries → Entries
with_made place made [] = []
with_made place made (e ∷ journal) =
    if place == next_place journal then record e { made = made } ∷ journal else e ∷ with_made place made journal
