-- A worked journal of a file that is copied, written with the oldest entry first.
use Rattle.std.specs.Prelude.{ℕ, List, [], ◌∷◌, ◌++◌, reverse, codes, None}
use Rattle.apl_arrays.specs.Array.{PlainArray, numbers}
use Rattle.sv_access.specs.declared.verdict.Owners.TheVariants.{Mine, Both}
use Rattle.sv_events.specs.Answer.{degree, granted, value, vector}
use Rattle.sv_events.specs.Entry.{PlainEntry, uncoupled}
use Rattle.sv_events.specs.declared.event.Act.TheVariants.{Offer, SetControl, Set, Use}
use Rattle.sv_rules.specs.Entries.{Entries}
use Rattle.sv_plain.specs.Worked.{number_value, bits, joining, left, holds}
use Rattle.sv_plain.specs.WorkedAuxiliary.{text}

-- the names: 1001 shares T with the text files, which call it S3, and M with 1002
abbrev pub t : List ℕ
t = codes "T"

-- what the text files call T
abbrev pub s3 : List ℕ
s3 = codes "S3"

-- M
abbrev pub m : List ℕ
m = codes "M"

-- no numbers, which say that the file has ended
abbrev pub past_the_last : PlainArray
past_the_last = record { shape = 0 ∷ []; items = numbers [] }

-- all accesses of a name are controlled
abbrev pub controls_all : ℕ → List ℕ → PlainEntry
controls_all party local = uncoupled party (SetControl local (bits 1 1 1 1)) (vector (bits 1 1 1 1))

-- a value is set, and one is used
abbrev pub sets : ℕ → List ℕ → PlainArray → PlainEntry
sets party local new = uncoupled party (Set local new) granted

-- a use that gives a value
abbrev pub uses : ℕ → List ℕ → PlainArray → PlainEntry
uses party local old = uncoupled party (Use local) (value old)

-- a use waits for a value
abbrev pub waits_for : ℕ → List ℕ → PlainEntry
waits_for party local = uncoupled party (Use local) (holds 3 Both)

-- 1001 asks for a line, and gets it
abbrev pub line_asked : PlainArray → List PlainEntry
line_asked line =
    uncoupled 20 (Use s3) (value (text (codes "NEXT"))) ∷ waits_for 1001 t ∷ sets 20 s3 line ∷ uses 1001 t line
    ∷ sets 1001 m line ∷ uses 1002 m line ∷ []

-- 1001 asks for another line while 1002 waits for it
abbrev pub another_line : PlainArray → List PlainEntry
another_line line = sets 1001 t (text (codes "NEXT")) ∷ waits_for 1002 m ∷ line_asked line

-- a file of two lines is copied to 1002
abbrev pub file_is_copied : Entries
file_is_copied =
    reverse
    (uncoupled 1001 (Offer 20 t t None) (degree 1) ∷ uncoupled 1002 (Offer 1001 m m None) (degree 1)
    ∷ joining 20 (Offer 1001 s3 t None) (degree 2) 1 3 ∷ controls_all 1001 t ∷ controls_all 1002 m ∷ controls_all 20 s3
    ∷ joining 1001 (Offer 1002 m m None) (degree 2) 2 7 ∷ uncoupled 1002 (Use m) (holds 3 Mine) ∷ controls_all 1001 m
    ∷ sets 1001 t (text (codes "READ NOTES")) ∷ uses 20 s3 (text (codes "READ NOTES")) ∷ waits_for 1001 t ∷ sets 20 s3 (number_value 0)
    ∷ uses 1001 t (number_value 0) ∷ sets 1001 t (text (codes "NEXT")) ∷ line_asked (text (codes "ONE")) ++ another_line (text (codes "TWO"))
    ++ another_line past_the_last ++ left 1001 ∷ left 1002 ∷ [])
