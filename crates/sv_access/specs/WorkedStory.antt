use Rattle.std.specs.Prelude.{ℕ, true, List, [], ◌∷◌}
use Rattle.sv_access.specs.declared.access.Side.{Side}
use Rattle.sv_access.specs.declared.access.Side.TheVariants.{A, B}
use Rattle.sv_access.specs.declared.access.Kind.{Kind}
use Rattle.sv_access.specs.declared.access.Kind.TheVariants.{Set, Use}
use Rattle.sv_access.specs.declared.verdict.Verdict.{Verdict}
use Rattle.sv_access.specs.Control.{four_elements}
use Rattle.sv_access.specs.Story.{Story, verdict_of_story}

-- A's first set
abbrev pub once_set : Story ℕ
once_set = record { side = A; kind = Set; value = 1 } ∷ []

-- B sets over it, unseen as it is
abbrev pub set_over : Story ℕ
set_over = record { side = B; kind = Set; value = 9 } ∷ once_set

-- A uses what B set
abbrev pub seen_by_a : Story ℕ
seen_by_a = record { side = A; kind = Use; value = 9 } ∷ set_over

-- A sets again, and uses its own value
abbrev pub set_again : Story ℕ
set_again = record { side = A; kind = Use; value = 2 } ∷ record { side = A; kind = Set; value = 2 } ∷ seen_by_a

-- B uses it
abbrev pub seen_by_b : Story ℕ
seen_by_b = record { side = B; kind = Use; value = 2 } ∷ set_again

-- the verdicts under full control on a set by A, a set by B, a use by A and a use by B
abbrev pub four_verdicts : Story ℕ → List Verdict
four_verdicts story = verdict A Set ∷ verdict B Set ∷ verdict A Use ∷ verdict B Use ∷ []
  where
    verdict : Side → Kind → Verdict
    verdict = verdict_of_story (four_elements true true true true) story
