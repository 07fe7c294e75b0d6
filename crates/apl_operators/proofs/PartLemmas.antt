-- Items made by the parts of their places are the items made place by place.
use Rattle.std.proofs.Common.{ℕ, ◌<◌, sym, subst}
use Rattle.apl_items.specs.declared.shapes.Split.{Split}
use Rattle.apl_items.specs.Shapes.{along_of, inner_of, place_along}
use Rattle.apl_items.proofs.ShapeLemmas.{along_of_place, inner_of_place, outer_of_place}
use Rattle.apl_operators.specs.Parts.{AtParts}

-- what was told of parts is told of the place that they make
pub at_parts : {A : Type 0} (answers : ℕ → ℕ → ℕ → A → Type 0) (split : Split) (outer along inner : ℕ) (answer : A) → along < split.along → inner < split.inner
    → answers outer along inner answer → AtParts answers split (place_along split outer along inner) answer
at_parts answers split outer along inner answer q r told =
    let place : ℕ = place_along split outer along inner in
    subst (λ (o : ℕ). answers o (along_of split place) (inner_of split place) answer) (sym (outer_of_place split outer along inner q r))
    (subst (λ (k : ℕ). answers outer k (inner_of split place) answer) (sym (along_of_place split outer along inner q r))
    (subst (λ (i : ℕ). answers outer along i answer) (sym (inner_of_place split outer along inner r)) told))
