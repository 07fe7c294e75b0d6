-- Worked bytes.
use Rattle.std.specs.Prelude.{◌++◌, ◌∷◌, [], ℕ, List, Some, pos, codes, slice_set, take}
use Rattle.apl_arrays.specs.Array.{scalar}
use Rattle.apl_workspace.specs.Meaning.{NameTable}
use Rattle.apl_workspace.specs.Workspace.{PlainWorkspace}
use Rattle.apl_workspace.specs.declared.meaning.Meaning.TheVariants.{Value, Shared}
use Rattle.apl_workspace.specs.declared.remake.Remake.{Remake}

-- X is 3
abbrev pub three : NameTable
three = (codes "X", Value (scalar (pos 3))) ∷ []

-- X is offered to 1002
abbrev pub offer_to : ℕ → Remake
offer_to party = record { local = codes "X"; surrogate = codes "X"; to = party }

-- X is 3 alone
abbrev pub three_alone : PlainWorkspace
three_alone = record { globals = three; frames = []; offers = []; printed = 0 }

-- X is 3 and offered to 1002
abbrev pub three_offered : PlainWorkspace
three_offered = record { globals = (codes "X", Shared (Some (scalar (pos 3)))) ∷ []; frames = []; offers = offer_to 1002 ∷ []; printed = 0 }

-- version 1 of X is 3
abbrev pub first_bytes : List ℕ
first_bytes =
    0x41 ∷ 0x50 ∷ 0x4C ∷ 0x53 ∷ 0x01 ∷ 0x00 ∷ 0x00 ∷ 0x00 ∷ 0x01 ∷ 0x01 ∷ 0x01 ∷ 0x58
    ∷ 0x00 ∷ 0x00 ∷ 0x00 ∷ 0x00 ∷ 0x00 ∷ 0x00 ∷ 0x00 ∷ 0x00 ∷ 0x03 ∷ []

-- version 2 of it, up to the count of offers
abbrev pub second_objects : List ℕ
second_objects = slice_set first_bytes 4 0x02

-- version 1 of a variable X of numbers, up to its rank
abbrev pub up_to_rank : List ℕ
up_to_rank = take 12 first_bytes

-- version 1 of a character X, up to the character
abbrev pub up_to_character : List ℕ
up_to_character = slice_set (take 13 first_bytes) 9 0x02

-- version 1 of two objects X, of which the second ends behind its name
abbrev pub twice : List ℕ
twice = slice_set first_bytes 8 0x02 ++ (0x01 ∷ 0x01 ∷ 0x58 ∷ [])

-- an axis of 200
abbrev pub two_hundred : List ℕ
two_hundred = 0x00 ∷ 0x00 ∷ 0x00 ∷ 0xC8 ∷ []

-- an offer of X as X, without its party
abbrev pub offer_front : List ℕ
offer_front = 0x01 ∷ 0x01 ∷ 0x58 ∷ 0x01 ∷ 0x58 ∷ 0x00 ∷ 0x00 ∷ []

-- version 2 of X is 3, offered to 1002
abbrev pub offered_bytes : List ℕ
offered_bytes = second_objects ++ (offer_front ++ (0x03 ∷ 0xEA ∷ []))
