-- What a share keeps is what the plain story of its coupling says.
use Rattle.std.specs.Prelude.{◌≡◌, [], ◌∷◌, All, Option, Some, None, is_some, find, option_map}
use Rattle.std.specs.Option.{option_or}
use Rattle.apl_arrays.specs.Array.{PlainArray}
use Rattle.sv_access.specs.declared.access.Side.{Side}
use Rattle.sv_access.specs.declared.access.Side.TheVariants.{A}
use Rattle.sv_access.specs.declared.access.Kind.TheVariants.{Set, Use}
use Rattle.sv_access.specs.Access.{Access, same_side}
use Rattle.sv_access.specs.Story.{Story, last_value, state_of_story}
use Rattle.sv_kept.specs.Share.{PlainShare, IsShareOf, after_access, after_set, after_use, alone, giver, known_to, share_of, shared_value}

-- a set goes into the story
abbrev pub SetsGoOn : Type 0
SetsGoOn = (story : Story PlainArray) (share : PlainShare) (side : Side) (value : PlainArray) →
    IsShareOf story share → IsShareOf (record { side = side; kind = Set; value = value } ∷ story) (after_set share side value)

-- so does a use that got the value set last
abbrev pub UsesGoOn : Type 0
UsesGoOn = (story : Story PlainArray) (share : PlainShare) (side : Side) (value : PlainArray) →
    IsShareOf story share → shared_value share ≡ Some value → IsShareOf (record { side = side; kind = Use; value = value } ∷ story) (after_use share side value)

-- an access by this side
abbrev pub IsBy : Side → Story PlainArray → Type 0
IsBy side story = All (λ access. access.side ≡ side) story

-- the value that the giver knows
abbrev pub value_given : Option PlainArray → Option PlainArray → Option PlainArray
value_given (Some a) b = Some a
value_given None b = b

-- two offers that couple have the giver's story, which ends in what the giver knows
abbrev pub CouplingsBegin : Type 0
CouplingsBegin = (story : Story PlainArray) (a b : Option PlainArray) → IsBy (giver a) story → last_value story ≡ value_given a b → IsShareOf story (share_of a b)

-- an open offer's story is its party's alone, as side A, and its state is told by whether it has a value
abbrev pub OpenOffersAreAlone : Type 0
OpenOffersAreAlone = (story : Story PlainArray) → IsBy A story → state_of_story story ≡ alone (is_some (last_value story))

-- the share of two offers after the accesses since they coupled, the newest first, by what their parties knew then
abbrev pub share_since : Option PlainArray → Option PlainArray → Story PlainArray → PlainShare
share_since a b [] = share_of a b
share_since a b (access ∷ story) = after_access (share_since a b story) access.side access.kind access.value

-- the value of a side's last access, else what it knew before
abbrev pub known_since : Option PlainArray → Side → Story PlainArray → Option PlainArray
known_since before side story = option_or (option_map (λ access. access.value) (find (λ access. same_side access.side side) story)) before

-- each side of a share knows what it set or got last, else what it knew when the two coupled
abbrev pub SidesKnowTheirLast : Type 0
SidesKnowTheirLast = (a b : Option PlainArray) (story : Story PlainArray) (side : Side) →
    known_to (share_since a b story) side ≡ known_since (known_to (share_of a b) side) side story
