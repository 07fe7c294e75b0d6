use Rattle.std.specs.Prelude.{Bool, true, false}
use Rattle.sv_access.specs.declared.access.Side.{Side}
use Rattle.sv_access.specs.declared.access.Side.TheVariants.{A, B}
use Rattle.sv_access.specs.declared.access.Kind.{Kind}
use Rattle.sv_access.specs.declared.access.Kind.TheVariants.{Set, Use}

-- the other side of a coupling
abbrev pub other_side : Side → Side
other_side A = B
other_side B = A

-- the two are one side
abbrev pub same_side : Side → Side → Bool
same_side A A = true
same_side A B = false
same_side B A = false
same_side B B = true

-- the two are one kind
abbrev pub same_kind : Kind → Kind → Bool
same_kind Set Set = true
same_kind Set Use = false
same_kind Use Set = false
same_kind Use Use = true

-- the access is a set, not a use
abbrev pub is_set : Kind → Bool
is_set Set = true
is_set Use = false

-- a granted access: by which side of a coupling, or of an open offer, a set or a use, and the value set or got
pub record Access (V : Type 0) : Type 0 where
  pub side : Side
  pub kind : Kind
  pub value : V
