use Rattle.std.specs.Prelude.{List, [], ◌∷◌, ◌++◌, ℕ}
use Rattle.std.specs.List.{flat_map}

-- pieces one after another, with something between each two
abbrev pub separated_by : {A : Type 0} → List A → List (List A) → List A
separated_by between [] = []
separated_by between (first ∷ others) = first ++ flat_map (λ piece. between ++ piece) others

-- lines in groups, with one empty line between
abbrev pub with_empty_lines : List (List (List ℕ)) → List (List ℕ)
with_empty_lines groups = separated_by ([] ∷ []) groups
