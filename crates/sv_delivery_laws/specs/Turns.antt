-- A side whose sets and uses take turns.
use Rattle.std.specs.Prelude.{Bool, true, ◌&&◌, ◌||◌, not, if◌then◌else◌, [], ◌∷◌}
use Rattle.sv_access.specs.declared.access.Side.{Side}
use Rattle.sv_access.specs.declared.access.Kind.{Kind}
use Rattle.sv_access.specs.declared.access.Kind.TheVariants.{Set, Use}
use Rattle.sv_access.specs.Access.{same_side, same_kind}
use Rattle.sv_access.specs.Story.{Story}

-- a set follows a use, and a use a set
abbrev pub other_kind : Kind → Kind
other_kind Set = Use
other_kind Use = Set

-- the kind whose turn it is with a side that began with this one, or is to begin
abbrev pub kind_in_turn : {V : Type 0} → Kind → Side → Story V → Kind
kind_in_turn first side [] = first
kind_in_turn first side (access ∷ story) = if same_side access.side side then other_kind access.kind else kind_in_turn first side story

-- the sets and uses of a side take turns, and it begins with this kind
abbrev pub takes_turns : {V : Type 0} → Kind → Side → Story V → Bool
takes_turns first side [] = true
takes_turns first side (access ∷ story) =
    (not (same_side access.side side) || same_kind access.kind (kind_in_turn first side story)) && takes_turns first side story
