-- Workspaces on which commands are worked.
use Rattle.std.specs.Prelude.{ℕ, pos, [], ◌∷◌, Option, codes}
use Rattle.apl_arrays.specs.Array.{PlainArray, scalar}
use Rattle.apl_workspace.specs.Workspace.{PlainWorkspace}
use Rattle.apl_workspace.specs.declared.meaning.Meaning.TheVariants.{Value, Shared}
use Rattle.apl_workspace.specs.declared.remake.Remake.{Remake}

-- X and Y with these values, and so many glyphs printed
abbrev pub of_two : ℕ → ℕ → ℕ → PlainWorkspace
of_two x y printed = record { globals = (codes "X", Value (scalar (pos x))) ∷ (codes "Y", Value (scalar (pos y))) ∷ []; frames = []; offers = []; printed = printed }

-- an offer of X to 1002
abbrev pub offer_of_x : Remake
offer_of_x = record { local = codes "X"; surrogate = codes "X"; to = 1002 }

-- X that is shared and has this copy, and Y with the value 4
abbrev pub of_a_share : Option PlainArray → PlainWorkspace
of_a_share copy = record { globals = (codes "X", Shared copy) ∷ (codes "Y", Value (scalar (pos 4))) ∷ []; frames = []; offers = offer_of_x ∷ []; printed = 0 }
