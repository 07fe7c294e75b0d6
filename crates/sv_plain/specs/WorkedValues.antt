-- Worked journals of values and names, written with the oldest entry first.
use Rattle.std.specs.Prelude.{ℕ, List, [], ◌∷◌, reverse, codes, Some, None}
use Rattle.sv_events.specs.Answer.{degree, granted, no_value, kept}
use Rattle.sv_events.specs.Entry.{uncoupled}
use Rattle.sv_events.specs.declared.event.Act.TheVariants.{Offer, Retract, Set, Use}
use Rattle.sv_rules.specs.Entries.{Entries}
use Rattle.sv_plain.specs.Worked.{number_value, joining, x, offer_x, set_x, use_x, left, answered_value, shared_x}

-- 1002 uses the value that 1001 sets
abbrev pub value_is_shared : Entries
value_is_shared = shared_x (Some (number_value 3)) None (set_x 1001 4 granted ∷ use_x 1002 (answered_value 4) ∷ left 1001 ∷ left 1002 ∷ [])

-- a use where there is no value
abbrev pub use_without_a_value : Entries
use_without_a_value = reverse (uncoupled 1001 (offer_x 1002 None) (degree 1) ∷ use_x 1001 no_value ∷ left 1001 ∷ [])

-- A and B
abbrev pub a : List ℕ
a = codes "A"

-- B
abbrev pub b : List ℕ
b = codes "B"

-- 1001's A and 1002's B are one variable, as both have the surrogate X
abbrev pub shared_by_surrogates : Entries
shared_by_surrogates =
    reverse
    (uncoupled 1001 (Offer 1002 a x (Some (number_value 1))) (degree 1) ∷ joining 1002 (Offer 1001 b x None) (degree 2) 1 2
    ∷ uncoupled 1002 (Use b) (answered_value 1) ∷ uncoupled 1001 (Set a (number_value 10)) granted ∷ uncoupled 1002 (Use b) (answered_value 10) ∷ left 1001 ∷ left 1002 ∷ [])

-- X is taken back and offered again
abbrev pub offered_again : Entries
offered_again =
    reverse
    (uncoupled 1001 (offer_x 1002 (Some (number_value 3))) (degree 1) ∷ uncoupled 1001 (Retract x) (kept 1 (Some (number_value 3)))
    ∷ uncoupled 1001 (offer_x 1002 (Some (number_value 3))) (degree 1) ∷ use_x 1001 (answered_value 3) ∷ left 1001 ∷ [])
