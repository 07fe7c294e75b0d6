-- Worked outputs: transcripts and entries, and what is written of them.
use Rattle.std.specs.Prelude.{ℕ, ℤ, pos, negsuc, true, false, List, [], ◌∷◌, ◌++◌, codes, Some, None}
use Rattle.std.specs.List.{flat_map}
use Rattle.apl_arrays.specs.Array.{char_array, number_array, scalar}
use Rattle.apl_arrays.specs.Glyph.{bar, blank, delta, left_arrow, quad, quote, rho}
use Rattle.line_text.specs.Lines.{line_feed}
use Rattle.sv_access.specs.declared.verdict.Owners.TheVariants.{Mine, Partner, Both}
use Rattle.sv_access.specs.Control.{four_elements}
use Rattle.sv_events.specs.Answer.{PlainAnswer, degree, granted, value, no_value, held, abandoned, not_shared, offer_limit, full, vector, parties, names, kept, done}
use Rattle.sv_events.specs.Entry.{PlainEntry, uncoupled}
use Rattle.sv_events.specs.declared.event.Act.{Act}
use Rattle.sv_events.specs.declared.event.Act.TheVariants.{Offer, Retract, SetControl, AskControl, AskState, AskDegree, AskParties, AskNames, Set, Use, Leave}
use Rattle.sv_events.specs.declared.entry.Pair.{Pair}
use Rattle.sv_journal.specs.Output.{PlainTranscript}

-- two users share X: one hands in 3 and sets 4, the other uses it
abbrev pub plain_path_entries : List PlainEntry
plain_path_entries =
    uncoupled 1001 (Offer 1002 (codes "X") (codes "X") (Some (scalar (pos 3)))) (degree 1)
    ∷ record { party = 1002; act = Offer 1001 (codes "X") (codes "X") None; answer = degree 2; made = record { a = 1; b = 2 } ∷ [] }
    ∷ uncoupled 1001 (Set (codes "X") (scalar (pos 4))) granted
    ∷ uncoupled 1002 (Use (codes "X")) (value (scalar (pos 4)))
    ∷ uncoupled 1001 Leave done
    ∷ uncoupled 1002 Leave done
    ∷ []

-- the line X←n, where the arrow is one glyph
abbrev pub line_assigning : List ℕ → List ℕ → List ℕ
line_assigning arrow n = codes "      X" ++ (arrow ++ n)

-- the line that offers X to a party, where the quad is one glyph
abbrev pub offer_line : List ℕ → List ℕ → List ℕ
offer_line quad party = codes "      " ++ (party ++ (codes " " ++ (quad ++ codes "SVO 'X'")))

-- what the two users saw, in codes of glyphs
abbrev pub plain_path_transcripts : List PlainTranscript
plain_path_transcripts =
    record { user = 1001; lines = line_assigning (left_arrow ∷ []) (codes "3") ∷ offer_line (quad ∷ []) (codes "1002") ∷ codes "1" ∷ line_assigning (left_arrow ∷ []) (codes "4") ∷ [] }
    ∷ record { user = 1002; lines = offer_line (quad ∷ []) (codes "1001") ∷ codes "2" ∷ codes "      X" ∷ codes "4" ∷ [] }
    ∷ []

-- the arrow in UTF-8
abbrev pub arrow_utf8 : List ℕ
arrow_utf8 = 226 ∷ 134 ∷ 144 ∷ []

-- the quad in UTF-8
abbrev pub quad_utf8 : List ℕ
quad_utf8 = 226 ∷ 142 ∷ 149 ∷ []

-- the bytes that are written, line by line
abbrev pub plain_path_output : List ℕ
plain_path_output =
    flat_map (λ line. line ++ line_feed ∷ [])
    (codes "user 1001"
    ∷ (bar ∷ line_assigning arrow_utf8 (codes "3"))
    ∷ (bar ∷ offer_line quad_utf8 (codes "1002"))
    ∷ codes "|1"
    ∷ (bar ∷ line_assigning arrow_utf8 (codes "4"))
    ∷ codes "user 1002"
    ∷ (bar ∷ offer_line quad_utf8 (codes "1001"))
    ∷ codes "|2"
    ∷ codes "|      X"
    ∷ codes "|4"
    ∷ codes "journal"
    ∷ codes "1 1001 offer 1002 X X N()3 : degree 1"
    ∷ codes "2 1002 offer 1001 X X none : degree 2 + 1 2"
    ∷ codes "3 1001 set X N()4 : granted"
    ∷ codes "4 1002 use X : value N()4"
    ∷ codes "5 1001 leave : done"
    ∷ codes "6 1002 leave : done"
    ∷ codes "end"
    ∷ [])

-- an entry that makes pairs
abbrev pub making : ℕ → Act → PlainAnswer → List Pair → PlainEntry
making party act answer made = record { party = party; act = act; answer = answer; made = made }

-- entries of every kind of act, answer and value, few of which a journal could have
abbrev pub every_kind_entries : List PlainEntry
every_kind_entries =
    uncoupled 1001 (Offer 0 (codes "A") (delta ∷ codes "b_9") None) (degree 1)
    ∷ making 10 (Offer 1002 (codes "X") (codes "Y") (Some (number_array (2 ∷ 2 ∷ []) (pos 1 ∷ pos 2 ∷ pos 3 ∷ negsuc 3 ∷ [])))) (degree 2) (record { a = 1; b = 2 } ∷ [])
    ∷ uncoupled 1999 (Offer 20 (codes "aaaaaaaaaaaaaaaaaaaaaaaaaaaaaaa9") (codes "Z") (Some (char_array (5 ∷ []) (codes "HELLO")))) offer_limit
    ∷ uncoupled 1001 (Set (codes "A") (number_array (0 ∷ []) [])) granted
    ∷ uncoupled 1001 (Set (codes "A") (char_array (0 ∷ []) [])) not_shared
    ∷ uncoupled 1002 (Set (codes "Y") (char_array (4 ∷ []) (codes "IT'S"))) granted
    ∷ uncoupled 1002 (Set (codes "Y") (char_array [] (codes "'"))) granted
    ∷ uncoupled 1002 (Set (codes "Y") (char_array (2 ∷ 0 ∷ []) [])) granted
    ∷ uncoupled 1002 (Set (codes "Y") (number_array (1 ∷ 1 ∷ 1 ∷ 1 ∷ 1 ∷ 1 ∷ 1 ∷ 1 ∷ []) (pos 0 ∷ []))) granted
    ∷ uncoupled 1001 (Use (codes "A")) (value (number_array [] (negsuc 9223372036854775807 ∷ [])))
    ∷ uncoupled 1001 (Use (codes "A")) (value (number_array (1 ∷ []) (pos 9223372036854775807 ∷ [])))
    ∷ uncoupled 1001 (Use (codes "A")) (value (char_array (2 ∷ 2 ∷ []) (blank ∷ rho ∷ left_arrow ∷ quote ∷ [])))
    ∷ uncoupled 1001 (Use (codes "A")) no_value
    ∷ uncoupled 1002 (Use (codes "B")) not_shared
    ∷ making 4294967295 Leave done (record { a = 1; b = 3 } ∷ record { a = 10; b = 18446744073709551615 } ∷ [])
    ∷ uncoupled 0 Leave full
    ∷ uncoupled 1001 (Retract (codes "A")) (kept 0 None)
    ∷ uncoupled 1001 (Retract (codes "A")) (kept 2 (Some (number_array (0 ∷ []) [])))
    ∷ uncoupled 1001 (SetControl (codes "A") (four_elements true false false true)) (vector (four_elements true true true true))
    ∷ uncoupled 1001 (AskControl (codes "A")) (vector (four_elements false false false false))
    ∷ uncoupled 1001 (AskState (codes "A")) (vector (four_elements false false true true))
    ∷ uncoupled 1001 (AskDegree (codes "A")) (degree 2)
    ∷ uncoupled 10 AskParties (parties [])
    ∷ making 20 AskParties (parties (10 ∷ 1001 ∷ 4294967295 ∷ [])) (record { a = 1; b = 2 } ∷ [])
    ∷ uncoupled 1002 (AskNames 4294967295) (names [])
    ∷ uncoupled 1002 (AskNames 1001) (names (codes "A" ∷ (delta ∷ codes "b_9") ∷ []))
    ∷ uncoupled 1001 (Set (codes "A") (char_array (0 ∷ []) [])) (held (record { element = 1; owners = Mine }))
    ∷ making 1001 (Set (codes "A") (char_array (0 ∷ []) [])) (abandoned (record { element = 4; owners = Both })) (record { a = 1; b = 2 } ∷ [])
    ∷ uncoupled 1002 (Use (codes "A")) (held (record { element = 3; owners = Partner }))
    ∷ []

-- users who saw next to nothing
abbrev pub every_kind_transcripts : List PlainTranscript
every_kind_transcripts =
    record { user = 1001; lines = [] } ∷ record { user = 1002; lines = [] ∷ [] } ∷ record { user = 1999; lines = [] } ∷ []

-- ¯ in UTF-8
abbrev pub overbar_utf8 : List ℕ
overbar_utf8 = 194 ∷ 175 ∷ []

-- ∆ in UTF-8
abbrev pub delta_utf8 : List ℕ
delta_utf8 = 226 ∷ 136 ∷ 134 ∷ []

-- ⍴ in UTF-8
abbrev pub rho_utf8 : List ℕ
rho_utf8 = 226 ∷ 141 ∷ 180 ∷ []

-- the bytes that are written, line by line
abbrev pub every_kind_output : List ℕ
every_kind_output =
    flat_map (λ line. line ++ line_feed ∷ [])
    (codes "user 1001"
    ∷ codes "user 1002"
    ∷ codes "|"
    ∷ codes "user 1999"
    ∷ codes "journal"
    ∷ (codes "1 1001 offer 0 A " ++ (delta_utf8 ++ codes "b_9 none : degree 1"))
    ∷ (codes "2 10 offer 1002 X Y N(2 2)1 2 3 " ++ (overbar_utf8 ++ codes "4 : degree 2 + 1 2"))
    ∷ codes "3 1999 offer 20 aaaaaaaaaaaaaaaaaaaaaaaaaaaaaaa9 Z C(5)'HELLO' : limit"
    ∷ codes "4 1001 set A N(0) : granted"
    ∷ codes "5 1001 set A C(0)'' : notshared"
    ∷ codes "6 1002 set Y C(4)'IT''S' : granted"
    ∷ codes "7 1002 set Y C()'''' : granted"
    ∷ codes "8 1002 set Y C(2 0)'' : granted"
    ∷ codes "9 1002 set Y N(1 1 1 1 1 1 1 1)0 : granted"
    ∷ (codes "10 1001 use A : value N()" ++ (overbar_utf8 ++ codes "9223372036854775808"))
    ∷ codes "11 1001 use A : value N(1)9223372036854775807"
    ∷ (codes "12 1001 use A : value C(2 2)' " ++ (rho_utf8 ++ (arrow_utf8 ++ codes "'''")))
    ∷ codes "13 1001 use A : novalue"
    ∷ codes "14 1002 use B : notshared"
    ∷ codes "15 4294967295 leave : done + 1 3 + 10 18446744073709551615"
    ∷ codes "16 0 leave : full"
    ∷ codes "17 1001 retract A : kept 0 none"
    ∷ codes "18 1001 retract A : kept 2 N(0)"
    ∷ codes "19 1001 control A 1 0 0 1 : vector 1 1 1 1"
    ∷ codes "20 1001 askcontrol A : vector 0 0 0 0"
    ∷ codes "21 1001 askstate A : vector 0 0 1 1"
    ∷ codes "22 1001 askdegree A : degree 2"
    ∷ codes "23 10 askparties : parties"
    ∷ codes "24 20 askparties : parties 10 1001 4294967295 + 1 2"
    ∷ codes "25 1002 asknames 4294967295 : names"
    ∷ (codes "26 1002 asknames 1001 : names A " ++ (delta_utf8 ++ codes "b_9"))
    ∷ codes "27 1001 set A C(0)'' : held 1 mine"
    ∷ codes "28 1001 set A C(0)'' : abandoned 4 both + 1 2"
    ∷ codes "29 1002 use A : held 3 partner"
    ∷ codes "end"
    ∷ [])
