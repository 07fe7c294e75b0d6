-- Replies as they were worked by hand.
use Rattle.std.specs.Prelude.{ℕ, List, [], ◌∷◌, codes}
use Rattle.apl_arrays.specs.Array.{PlainArray}
use Rattle.auxiliaries.specs.Protocol.{code, line_answer}
use Rattle.aux_relay.specs.History.{Reply}

-- a party's text and its answer
abbrev pub replied : ℕ → List ℕ → PlainArray → Reply
replied party text answer = record { party = party; value = line_answer text; answer = answer }

-- 1001 sends A to 1002, 1003 sends B, 1001 sends C
abbrev pub three_sent : List Reply
three_sent = replied 1001 (codes "SEND 1002 C") (code 0) ∷ replied 1003 (codes "SEND 1002 B") (code 0) ∷ replied 1001 (codes "SEND 1002 A") (code 0) ∷ []

-- 1002 takes A of 1001
abbrev pub one_taken : List Reply
one_taken = replied 1002 (codes "TAKE 1001") (line_answer (codes "A")) ∷ three_sent

-- and then C
abbrev pub two_taken : List Reply
two_taken = replied 1002 (codes "TAKE 1001") (line_answer (codes "C")) ∷ one_taken
