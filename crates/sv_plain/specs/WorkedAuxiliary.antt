-- Worked journals of the text files and the clock, written with the oldest entry first.
use Rattle.std.specs.Prelude.{ℕ, List, [], ◌∷◌, reverse, codes, negsuc, length, None}
use Rattle.apl_arrays.specs.Array.{PlainArray, scalar, chars}
use Rattle.sv_access.specs.declared.verdict.Owners.TheVariants.{Both}
use Rattle.sv_events.specs.Answer.{degree, granted, value, vector, kept}
use Rattle.sv_events.specs.Entry.{PlainEntry, uncoupled}
use Rattle.sv_events.specs.declared.event.Act.TheVariants.{Offer, Retract, SetControl, Set, Use}
use Rattle.sv_rules.specs.Entries.{Entries}
use Rattle.sv_plain.specs.Worked.{number_value, bits, joining, x, offer_x, set_x, use_x, left, answered_value, holds}

-- characters as a value
abbrev pub text : List ℕ → PlainArray
text glyphs = record { shape = length glyphs ∷ []; items = chars glyphs }

-- the name of the counter-offer at place 2
abbrev pub s2 : List ℕ
s2 = codes "S2"

-- the clock sets S2
abbrev pub set_s2 : PlainArray → PlainEntry
set_s2 new = uncoupled 10 (Set s2 new) granted

-- 1001 offers X to an auxiliary, which counters and sets its control: the rest differs
abbrev pub countered : ℕ → List PlainEntry → Entries
countered aux entries =
    reverse
    (uncoupled 1001 (offer_x aux None) (degree 1) ∷ joining aux (Offer 1001 s2 x None) (degree 2) 1 2
    ∷ uncoupled 1001 (SetControl x (bits 1 1 1 1)) (vector (bits 1 1 1 1)) ∷ uncoupled aux (SetControl s2 (bits 1 1 1 1)) (vector (bits 1 1 1 1))
    ∷ entries)

-- a command is answered
abbrev pub text_files_answer : PlainArray → Entries
text_files_answer reply =
    countered 20
    (uncoupled 1001 (Set x (text (codes "READ GONE"))) granted ∷ uncoupled 20 (Use s2) (value (text (codes "READ GONE")))
    ∷ use_x 1001 (holds 3 Both) ∷ uncoupled 20 (Set s2 reply) granted ∷ use_x 1001 (value reply) ∷ left 1001 ∷ [])

-- a reading of the clock, none as there are no more, and none as 7 asks for nothing
abbrev pub clock_answers : Entries
clock_answers =
    countered 10
    (set_x 1001 0 granted ∷ uncoupled 10 (Use s2) (answered_value 0) ∷ use_x 1001 (holds 3 Both) ∷ set_s2 (number_value 100) ∷ use_x 1001 (answered_value 100)
    ∷ set_x 1001 0 granted ∷ uncoupled 10 (Use s2) (answered_value 0) ∷ use_x 1001 (holds 3 Both) ∷ set_s2 (scalar (negsuc 1))
    ∷ use_x 1001 (value (scalar (negsuc 1)))
    ∷ set_x 1001 7 granted ∷ uncoupled 10 (Use s2) (answered_value 7) ∷ use_x 1001 (holds 3 Both) ∷ set_s2 (scalar (negsuc 0))
    ∷ use_x 1001 (value (scalar (negsuc 0))) ∷ left 1001 ∷ [])

-- once its partner has left, the auxiliary takes its offer back, and is told a degree
abbrev pub counter_offer_taken_back : ℕ → Entries
counter_offer_taken_back told = countered 10 (left 1001 ∷ uncoupled 10 (Retract s2) (kept told None) ∷ [])

-- an auxiliary's control is set once
abbrev pub second_control : Entries
second_control = countered 20 (uncoupled 20 (SetControl s2 (bits 1 1 1 1)) (vector (bits 1 1 1 1)) ∷ [])

-- it uses a value that it has seen
abbrev pub use_of_a_seen_value : Entries
use_of_a_seen_value = countered 10 (set_x 1001 0 granted ∷ uncoupled 10 (Use s2) (answered_value 0) ∷ uncoupled 10 (Use s2) (answered_value 0) ∷ [])

-- it replies twice
abbrev pub second_reply : Entries
second_reply =
    countered 10
    (set_x 1001 0 granted ∷ uncoupled 10 (Use s2) (answered_value 0) ∷ uncoupled 10 (Set s2 (number_value 100)) granted ∷ uncoupled 10 (Set s2 (number_value 101)) granted ∷ [])

-- 20 answers the second offer, but the first, which is general and has the surrogate too, takes its counter-offer; so the
-- second is left without a partner
abbrev pub counter_couples_with_an_older_one : Entries
counter_couples_with_an_older_one =
    reverse
    (uncoupled 1001 (Offer 0 (codes "A") x None) (degree 1) ∷ uncoupled 1001 (Offer 20 (codes "B") x None) (degree 1)
    ∷ joining 20 (Offer 1001 (codes "S3") x None) (degree 2) 1 3
    ∷ uncoupled 20 (SetControl (codes "S3") (bits 1 1 1 1)) (vector (bits 1 1 1 1)) ∷ [])

-- the text files have one offer at a time, and the clock more
abbrev pub second_counter : ℕ → Entries
second_counter aux =
    reverse
    (uncoupled 1001 (Offer aux (codes "A") (codes "A") None) (degree 1) ∷ joining aux (Offer 1001 (codes "S2") (codes "A") None) (degree 2) 1 2
    ∷ uncoupled aux (SetControl (codes "S2") (bits 1 1 1 1)) (vector (bits 1 1 1 1)) ∷ uncoupled 1001 (Offer aux (codes "B") (codes "B") None) (degree 1)
    ∷ joining aux (Offer 1001 (codes "S5") (codes "B") None) (degree 2) 4 5 ∷ [])
