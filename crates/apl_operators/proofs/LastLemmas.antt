-- The last front of a line tells of all its fronts.
use Rattle.std.proofs.Common.{◌≡◌, ℕ, ℤ, zero, suc, ◌+◌, ◌-◌, ◌*◌, ◌/◌, ◌%◌, ◌<◌, List, Option, Some, None, length, slice_get, refl, sym, ap, ◌∙◌, arith}
use Rattle.std.proofs.lemmas.Nat.{div-mul-add, mod-mul-add, div_below, mod_below}
use Rattle.std.proofs.lemmas.Option.{none-some}
use Rattle.apl_items.specs.declared.shapes.Split.{Split}
use Rattle.apl_items.specs.Places.{HasItems, LacksItem}
use Rattle.apl_items.specs.Shapes.{along_of, inner_of, outer_of, place_along, split_count}
use Rattle.apl_items.proofs.AlongLemmas.{positive, regrouped}
use Rattle.apl_items.proofs.RowLemmas.{place_below}
use Rattle.apl_items.proofs.ShapeLemmas.{place_along_below, place_along_parts}
use Rattle.operator_rules.specs.Reduction.{front_of_line, joined}
use Rattle.apl_operators.specs.Running.{Runs, front_at, row_length}
use Rattle.apl_operators.proofs.RunLemmas.{front_on, one_before}

-- where an item is lacking, so is the next on its line
next_lacks : (by : ℤ → ℤ → Option ℤ) (list : List ℤ) (split : Split) (item : ℕ → Option ℤ) → Runs by list split item → (outer inner along : ℕ) → outer < split.outer → inner < split.inner
    → along + 1 < split.along → item (place_along split outer along inner) ≡ None → item (place_along split outer (along + 1) inner) ≡ None
next_lacks by list split item runs outer inner along p q r none =
    let at : ℕ = (along + 1) * split.inner + inner in
    let is : outer * row_length split + at ≡ place_along split outer (along + 1) inner = regrouped outer split.along split.inner (along + 1) inner at refl in
    let below : at < row_length split = place_below split.along split.inner (along + 1) inner r q in
    let more : (along + 1) * split.inner ≡ along * split.inner + split.inner = omega arith in
    let was : outer * row_length split + at - split.inner ≡ place_along split outer along inner = ap (λ (k : ℕ). k - split.inner) is ∙ one_before outer split.along split.inner along inner in
    ap item (sym is) ∙ runs.next outer at p (omega (arith, more)) below ∙ ap (λ (n : ℕ). joined by (item n) (slice_get list (outer * row_length split + at))) was
    ∙ ap (λ (o : Option ℤ). joined by o (slice_get list (outer * row_length split + at))) none

later_lacks : (by : ℤ → ℤ → Option ℤ) (list : List ℤ) (split : Split) (item : ℕ → Option ℤ) → Runs by list split item → (outer inner along more : ℕ) → outer < split.outer → inner < split.inner
    → along + more < split.along → item (place_along split outer along inner) ≡ None → item (place_along split outer (along + more) inner) ≡ None
later_lacks by list split item runs outer inner along zero p q r none =
    let same : along + zero ≡ along = omega arith in ap (λ (k : ℕ). item (place_along split outer k inner)) same ∙ none
later_lacks by list split item runs outer inner along (suc more) p q r none =
    let same : along + suc more ≡ (along + more) + 1 = omega arith in
    ap (λ (k : ℕ). item (place_along split outer k inner)) same
    ∙ next_lacks by list split item runs outer inner (along + more) p q (omega arith) (later_lacks by list split item runs outer inner along more p q (omega arith) none)

-- the parts of a place are within the split
pub parts_within : (split : Split) (place : ℕ) → place < split_count split → (outer_of split place < split.outer) × (along_of split place < split.along) × (inner_of split place < split.inner)
parts_within split place below =
    let inner_some : 0 < split.inner = positive (split.outer * split.along) split.inner place below in
    let rows : place / split.inner < split.outer * split.along = div_below place split.inner (split.outer * split.along) inner_some below in
    let along_some : 0 < split.along = positive split.outer split.along (place / split.inner) rows in
    (div_below (place / split.inner) split.along split.outer along_some rows, mod_below (place / split.inner) split.along along_some, mod_below place split.inner inner_some)

-- where the last of each line is there, all are
pub last_fronts_have : (by : ℤ → ℤ → Option ℤ) (list : List ℤ) (split : Split) → split_count split ≡ length list → Runs by list split (front_at by list split)
    → ((line : ℕ) → line < split.outer * split.inner → (t : ℤ) × (Some t ≡ front_of_line by list split (line / split.inner) (line % split.inner) (split.along - 1)))
    → HasItems (length list) (front_at by list split)
last_fronts_have by list split whole runs lasts place below = by_item (front_at by list split place) refl
  where
    by_item : (o : Option ℤ) → front_at by list split place ≡ o → (t : ℤ) × (front_at by list split place ≡ Some t)
    by_item (Some t) is = (t, is)
    by_item None is =
        let outer : ℕ = outer_of split place in
        let along : ℕ = along_of split place in
        let inner : ℕ = inner_of split place in
        let within = parts_within split place (omega (arith, below, whole)) in
        let more : along + (split.along - 1 - along) ≡ split.along - 1 = omega (arith, within.1) in
        let low : split.along - 1 < split.along = omega (arith, within.1) in
        let lacks : front_at by list split (place_along split outer (split.along - 1) inner) ≡ None =
        ap (λ (k : ℕ). front_at by list split (place_along split outer k inner)) (sym more)
        ∙ later_lacks by list split (front_at by list split) runs outer inner along (split.along - 1 - along) within.0 within.2 (omega (arith, more, low)) (ap (front_at by list split) (place_along_parts split place) ∙ is) in
        let line : ℕ = outer * split.inner + inner in
        let last = lasts line (place_below split.outer split.inner outer inner within.0 within.2) in
        let here : Some last.0 ≡ front_of_line by list split outer inner (split.along - 1) =
        last.1 ∙ ap (λ (o : ℕ). front_of_line by list split o (line % split.inner) (split.along - 1)) (div-mul-add outer split.inner inner within.2)
        ∙ ap (λ (i : ℕ). front_of_line by list split outer i (split.along - 1)) (mod-mul-add outer split.inner inner within.2) in
        absurd (none-some last.0 (sym lacks ∙ front_on by list split (place_along split outer (split.along - 1) inner) outer (split.along - 1) inner refl low within.2 ∙ sym here))

-- where the last of a line is lacking, one is
pub last_fronts_lack : (by : ℤ → ℤ → Option ℤ) (list : List ℤ) (split : Split) (line : ℕ) → split_count split ≡ length list → 0 < split.along → line < split.outer * split.inner
    → None ≡ front_of_line by list split (line / split.inner) (line % split.inner) (split.along - 1) → LacksItem (length list) (front_at by list split)
last_fronts_lack by list split line whole some below none =
    let inner_some : 0 < split.inner = positive split.outer split.inner line below in
    let outer_in : line / split.inner < split.outer = div_below line split.inner split.outer inner_some below in
    let inner_in : line % split.inner < split.inner = mod_below line split.inner inner_some in
    let low : split.along - 1 < split.along = omega arith in
    let place : ℕ = place_along split (line / split.inner) (split.along - 1) (line % split.inner) in (
      place,
      omega (arith, place_along_below split (line / split.inner) (split.along - 1) (line % split.inner) outer_in low inner_in, whole),
      front_on by list split place (line / split.inner) (split.along - 1) (line % split.inner) refl low inner_in ∙ sym none,
    )
