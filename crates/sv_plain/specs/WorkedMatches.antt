-- Worked journals of offers that match, and of how many there may be, written with the oldest entry first.
use Rattle.std.specs.Prelude.{ℕ, ◌/◌, ◌%◌, nat_lt, List, [], ◌∷◌, ◌++◌, reverse, map, codes, Some, None, if◌then◌else◌}
use Rattle.std.specs.List.{range_with_len}
use Rattle.apl_arrays.specs.Glyph.{digit}
use Rattle.sv_events.specs.Answer.{PlainAnswer, degree, done}
use Rattle.sv_events.specs.Entry.{PlainEntry, uncoupled}
use Rattle.sv_events.specs.declared.entry.Pair.{Pair}
use Rattle.sv_events.specs.declared.event.Act.{Act}
use Rattle.sv_events.specs.declared.event.Act.TheVariants.{Offer, Leave}
use Rattle.sv_rules.specs.Entries.{Entries}
use Rattle.sv_plain.specs.Worked.{number_value, joining, x, offer_x, left}

-- two users offer X to any
abbrev pub two_general_offers : Entries
two_general_offers = reverse (uncoupled 1001 (offer_x 0 None) (degree 1) ∷ uncoupled 1002 (offer_x 0 None) (degree 1) ∷ [])

-- 1001 and 1002 offer X to 1003, whose offer to any is coupled with the older one
abbrev pub two_open_matches : Entries
two_open_matches =
    reverse (uncoupled 1001 (offer_x 1003 None) (degree 1) ∷ uncoupled 1002 (offer_x 1003 None) (degree 1) ∷ joining 1003 (offer_x 0 None) (degree 2) 1 3 ∷ [])

-- an offer is made again while it is open, and while it is coupled
abbrev pub offered_twice : Entries
offered_twice =
    reverse
    (uncoupled 1001 (offer_x 1002 None) (degree 1) ∷ uncoupled 1001 (offer_x 1002 (Some (number_value 5))) (degree 1)
    ∷ joining 1002 (offer_x 1001 None) (degree 2) 1 3 ∷ uncoupled 1001 (offer_x 0 None) (degree 2) ∷ [])

-- 1002 leaves two couplings, with 1001 and with 1003, whose offers to any stand again: the older is coupled with the
-- offer that 1003 made to 1001, and then the other with the one that 1001 made to 1003
abbrev pub leave_of_two : List Pair → Entries
leave_of_two made =
    let y = codes "Y" in
    reverse
    (uncoupled 1001 (offer_x 0 None) (degree 1) ∷ joining 1002 (offer_x 1001 None) (degree 2) 1 2 ∷ uncoupled 1003 (Offer 0 y y None) (degree 1)
    ∷ joining 1002 (Offer 1003 y y None) (degree 2) 3 4 ∷ uncoupled 1003 (offer_x 1001 None) (degree 1)
    ∷ uncoupled 1001 (Offer 1003 (codes "Z") y None) (degree 1) ∷ record { party = 1002; act = Leave; answer = done; made = made } ∷ [])

-- 1002's leave reopens the offer of 1001 to any, which two offers of 1003 match
abbrev pub two_open_matches_left : Entries
two_open_matches_left =
    reverse
    (uncoupled 1001 (offer_x 0 None) (degree 1) ∷ joining 1002 (offer_x 1001 None) (degree 2) 1 2 ∷ uncoupled 1003 (offer_x 1001 None) (degree 1)
    ∷ uncoupled 1003 (Offer 1001 (codes "Y") x None) (degree 1) ∷ joining 1002 Leave done 1 3 ∷ [])

-- A and a number in decimal
abbrev pub numbered_name : ℕ → List ℕ
numbered_name n = codes "A" ++ (if nat_lt n 10 then digit n ∷ [] else digit (n / 10) ∷ digit (n % 10) ∷ [])

-- an offer of such a name to 1002
abbrev pub numbered_offer : ℕ → PlainAnswer → PlainEntry
numbered_offer n answer = uncoupled 1001 (Offer 1002 (numbered_name n) (numbered_name n) None) answer

-- 64 names are offered, and one more
abbrev pub one_more_offer : PlainAnswer → Entries
one_more_offer answer = reverse (map (λ n. numbered_offer n (degree 1)) (range_with_len 1 64) ++ numbered_offer 65 answer ∷ [])

-- the first 64 names, of which the last is answered otherwise
abbrev pub last_of_64 : PlainAnswer → Entries
last_of_64 answer = reverse (map (λ n. numbered_offer n (degree 1)) (range_with_len 1 63) ++ numbered_offer 64 answer ∷ [])

-- 1001 leaves, and then makes an entry
abbrev pub back_again : Act → PlainAnswer → Entries
back_again act answer = reverse (left 1001 ∷ uncoupled 1001 act answer ∷ [])
