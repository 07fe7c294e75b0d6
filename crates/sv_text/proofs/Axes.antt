-- Reading axes, as a recursion does.
use Rattle.std.proofs.Common.{◌≡◌, ℕ, zero, suc, ◌-◌, ◌+◌, ◌*◌, ◌<◌, ◌≤◌, min, Bool, true, false, eqb, leb, ltb, List, [], ◌∷◌, ◌++◌, Ok, Err, refl, sym, ap, ◌∙◌, append_assoc, arith}
use Rattle.text_reader.specs.declared.unread.Unread.{Unread}
use Rattle.text_reader.specs.declared.unread.Unread.TheVariants.{Left, WantOfMemory}
use Rattle.text_reader.specs.Reading.{Reader, Reading, ◌>>=◌, Stops, read_behind}
use Rattle.text_reader.specs.NumberReading.{read_number}
use Rattle.sv_text.specs.ValueReading.{capped_product, greatest_axis, goes_on_behind, more_axes, read_axes}

-- the reading stops at an axis
pub axis_stops : (why : Unread) (most product greatest : ℕ) (front line : List ℕ) → 0 < most → greatest ≡ greatest_axis (eqb most 1) product → Stops why (read_number 0 greatest line) → Stops why (read_behind front (read_axes most product line))
unfolding read_axes
axis_stops WantOfMemory most product greatest front line some bound stop = tt
axis_stops (Left left) zero product greatest front line some bound stop = absurd (omega (arith, some))
axis_stops (Left left) (suc more) product greatest front line some bound stop =
    let here : read_number 0 (greatest_axis (eqb (suc more) 1) product) line ≡ Err left = ap (λ n. read_number 0 n line) (sym bound) ∙ stop in
    rw here refl

-- or behind one
pub behind_stops : (why : Unread) (most product greatest axis next : ℕ) (front line after : List ℕ) → 0 < most → greatest ≡ greatest_axis (eqb most 1) product → read_number 0 greatest line ≡ Ok (axis, after) → next ≡ min (product * axis) 16385 → Stops why (goes_on_behind (leb next 16384) (ltb 1 most) after) → Stops why (read_behind front (read_axes most product line))
unfolding read_axes
behind_stops WantOfMemory most product greatest axis next front line after some bound read count stop = tt
behind_stops (Left left) zero product greatest axis next front line after some bound read count stop = absurd (omega (arith, some))
behind_stops (Left left) (suc more) product greatest axis next front line after some bound read count stop =
    let here : read_number 0 (greatest_axis (eqb (suc more) 1) product) line ≡ Ok (axis, after) = ap (λ n. read_number 0 n line) (sym bound) ∙ read in
    let there : goes_on_behind (leb (min (product * axis) 16385) 16384) (ltb 1 (suc more)) after ≡ Err left = ap (λ n. goes_on_behind (leb n 16384) (ltb 1 (suc more)) after) (sym count) ∙ stop in
    rw (here, there) refl

regrouped : (front : List ℕ) (axis : ℕ) (read : Reading (List ℕ)) → read_behind front (read >>= λ others. Ok (axis ∷ others.0, others.1)) ≡ read_behind (front ++ axis ∷ []) read
regrouped front axis (Ok found) = ap (λ list. Ok (list, found.1)) (sym (append_assoc front (axis ∷ []) found.0))
regrouped front axis (Err left) = refl

-- what is told of an axis that may follow
answer : Bool → List ℕ → Reading Bool
answer follows rest = Ok (follows, rest)

-- more axes follow
pub goes_on_with : (most product greatest axis next : ℕ) (front line after rest : List ℕ) (follows : Bool) → 0 < most → greatest ≡ greatest_axis (eqb most 1) product → read_number 0 greatest line ≡ Ok (axis, after) → next ≡ min (product * axis) 16385 → goes_on_behind (leb next 16384) (ltb 1 most) after ≡ Ok (follows, rest) → follows ≡ true → read_behind front (read_axes most product line) ≡ read_behind (front ++ axis ∷ []) (read_axes (most - 1) next rest)
unfolding read_axes answer
goes_on_with zero product greatest axis next front line after rest follows some bound read count going on = absurd (omega (arith, some))
goes_on_with (suc more) product greatest axis next front line after rest follows some bound read count going on =
    let here : read_number 0 (greatest_axis (eqb (suc more) 1) product) line ≡ Ok (axis, after) = ap (λ n. read_number 0 n line) (sym bound) ∙ read in
    let there : goes_on_behind (leb (min (product * axis) 16385) 16384) (ltb 1 (suc more)) after ≡ Ok (true, rest) = ap (λ n. goes_on_behind (leb n 16384) (ltb 1 (suc more)) after) (sym count) ∙ (going ∙ ap (λ b. answer b rest) on) in
    let fewer : suc more - 1 ≡ more = omega arith in
    let one : read_behind front (read_axes (suc more) product line) ≡ read_behind (front ++ axis ∷ []) (read_axes more (min (product * axis) 16385) rest) = rw (here, there) (regrouped front axis (read_axes more (min (product * axis) 16385) rest)) in
    one ∙ (ap (λ n. read_behind (front ++ axis ∷ []) (read_axes more n rest)) (sym count) ∙ ap (λ k. read_behind (front ++ axis ∷ []) (read_axes k next rest)) (sym fewer))

-- the shape is closed
pub closes_behind : (most product greatest axis next : ℕ) (front line after rest : List ℕ) (follows : Bool) → 0 < most → greatest ≡ greatest_axis (eqb most 1) product → read_number 0 greatest line ≡ Ok (axis, after) → next ≡ min (product * axis) 16385 → goes_on_behind (leb next 16384) (ltb 1 most) after ≡ Ok (follows, rest) → follows ≡ false → read_behind front (read_axes most product line) ≡ Ok (front ++ axis ∷ [], rest)
unfolding read_axes answer
closes_behind zero product greatest axis next front line after rest follows some bound read count going on = absurd (omega (arith, some))
closes_behind (suc more) product greatest axis next front line after rest follows some bound read count going on =
    let here : read_number 0 (greatest_axis (eqb (suc more) 1) product) line ≡ Ok (axis, after) = ap (λ n. read_number 0 n line) (sym bound) ∙ read in
    let there : goes_on_behind (leb (min (product * axis) 16385) 16384) (ltb 1 (suc more)) after ≡ Ok (false, rest) = ap (λ n. goes_on_behind (leb n 16384) (ltb 1 (suc more)) after) (sym count) ∙ (going ∙ ap (λ b. answer b rest) on) in
    rw (here, there) refl
