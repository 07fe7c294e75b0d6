use Rattle.std.specs.Prelude.{◌≡◌, ℤ, true, List, All}
use Rattle.apl_arrays.specs.Number.{fits}

-- each number of the list is in 64 bits
abbrev pub AllFit : List ℤ → Type 0
AllFit list = All (λ number. fits number ≡ true) list
