-- The places that are named and the places that name them.
use Rattle.std.proofs.Common.{◌≡◌, ℕ, zero, suc, ◌+◌, ◌*◌, ◌<◌, ◌≤◌, ◌==◌, Bool, true, false, cond, List, [], ◌∷◌, Option, Some, None, option_map, length, drop, slice_get, get_or, refl, sym, ap, subst, ◌∙◌, arith}
use Rattle.std.specs.Option.{option_or}
use Rattle.std.specs.Prelude.{⊤}
use Rattle.std.proofs.lemmas.List.{drop_all, drop_more}
use Rattle.std.proofs.lemmas.Nat.{mul-le}
use Rattle.apl_arrays.specs.Array.{PlainArray, element_count}
use Rattle.apl_items.specs.Axes.{added, offset_at}
use Rattle.apl_items.specs.Shapes.{AreWithin, coordinates_of, place_of, stride_of}
use Rattle.apl_items.proofs.ShapeLemmas.{coordinates_are_within, coordinates_of_place, place_of_below, place_of_coordinates}
use Rattle.apl_selection.specs.Assignment.{last_place, place_naming}
use Rattle.apl_selection.specs.Indexing.{named_place}
use Rattle.apl_selection.specs.Picks.{strided}
use Rattle.apl_selection.specs.Subscripts.{named_counts, named_on, point_outside, sub_on}
use Rattle.apl_selection.proofs.AssignLemmas.{alike, last_below}
use Rattle.apl_selection.proofs.PickLemmas.{as_many_within, some_same}
use Rattle.apl_selection.proofs.IndexLemmas.{counts_at, counts_length, inside_each, named_inside}
use Rattle.apl_selection.proofs.FaultLemmas.{same_number}

-- a rule leads from each of some coordinates to the one beside it, axis by axis
abbrev pub Leads : (ℕ → ℕ → Option ℕ) → ℕ → List ℕ → List ℕ → Type 0
Leads from axis [] [] = ⊤
Leads from axis [] (c ∷ cs) = ⊥
Leads from axis (k ∷ ks) [] = ⊥
Leads from axis (k ∷ ks) (c ∷ cs) = (from axis k ≡ Some c) × Leads from (axis + 1) ks cs

both_some : (here after : Option ℕ) (total : ℕ) → added here after ≡ Some total → (a : ℕ) × (b : ℕ) × (here ≡ Some a) × (after ≡ Some b) × (a + b ≡ total)
both_some None after total e = absurd (cc)
both_some (Some a) None total e = absurd (cc)
both_some (Some a) (Some b) total e = (a, b, refl, refl, some_same (a + b) total e)

unscaled : (place : Option ℕ) (stride at : ℕ) → option_map (λ p. p * stride) place ≡ Some at → (p : ℕ) × (place ≡ Some p) × (p * stride ≡ at)
unscaled None stride at e = absurd (cc)
unscaled (Some p) stride at e = (p, refl, some_same (p * stride) at e)

-- an offset leads to coordinates, and its place is theirs
pub led : (source : List ℕ) (from : ℕ → ℕ → Option ℕ) (axis : ℕ) (ks : List ℕ) (at : ℕ) → length ks + axis ≡ length source → offset_at (strided source from) axis ks ≡ Some at
    → (cs : List ℕ) × Leads from axis ks cs × (place_of (drop axis source) cs ≡ at)
led source from axis [] at many e =
    ([], tt, ap (λ (xs : List ℕ). place_of xs []) (drop_all axis source (omega arith)) ∙ some_same 0 at e)
led source from axis (k ∷ ks) at many e =
    let parts = both_some (strided source from axis k) (offset_at (strided source from) (axis + 1) ks) at e in
    let first = unscaled (from axis k) (stride_of source axis) parts.0 parts.2 in
    let rest = led source from (axis + 1) ks parts.1 (omega arith) parts.3 in
    let c : ℕ = first.0 in
    let cs : List ℕ = rest.0 in (
      c ∷ cs,
      (first.1, rest.1),
      ap (λ (xs : List ℕ). place_of xs (c ∷ cs)) (drop_more source axis 0 (omega arith)) ∙ by_sum (c * stride_of source axis) parts.0 (place_of (drop (axis + 1) source) cs) parts.1 first.2 rest.2 parts.4,
    )
  where
    by_sum : (a b c d : ℕ) → a ≡ b → c ≡ d → b + d ≡ at → a + c ≡ at
    by_sum a b c d p q r = omega arith

-- and back
pub led_by : (source : List ℕ) (from : ℕ → ℕ → Option ℕ) (axis : ℕ) (ks cs : List ℕ) → length ks + axis ≡ length source → Leads from axis ks cs
    → offset_at (strided source from) axis ks ≡ Some (place_of (drop axis source) cs)
led_by source from axis [] [] many leads = sym (ap (λ (xs : List ℕ). Some (place_of xs [])) (drop_all axis source (omega arith)))
led_by source from axis [] (c ∷ cs) many leads = absurd leads
led_by source from axis (k ∷ ks) [] many leads = absurd leads
led_by source from axis (k ∷ ks) (c ∷ cs) many leads =
    let rest = led_by source from (axis + 1) ks cs (omega arith) leads.1 in
    ap (λ (o : Option ℕ). added (option_map (λ p. p * stride_of source axis) o) (offset_at (strided source from) (axis + 1) ks)) leads.0
    ∙ ap (added (Some (c * stride_of source axis))) rest
    ∙ sym (ap (λ (xs : List ℕ). Some (place_of xs (c ∷ cs))) (drop_more source axis 0 (omega arith)))

-- they are within the axes to which the rule leads
pub led_within : (source : List ℕ) (from : ℕ → ℕ → Option ℕ) (axis : ℕ) (ks cs : List ℕ) → length ks + axis ≡ length source
    → ((axis k c : ℕ) → axis < length source → from axis k ≡ Some c → c < get_or source axis 0) → Leads from axis ks cs → AreWithin (drop axis source) cs
led_within source from axis [] [] many inside leads = subst (λ (xs : List ℕ). AreWithin xs []) (sym (drop_all axis source (omega arith))) tt
led_within source from axis [] (c ∷ cs) many inside leads = absurd leads
led_within source from axis (k ∷ ks) [] many inside leads = absurd leads
led_within source from axis (k ∷ ks) (c ∷ cs) many inside leads =
    subst (λ (xs : List ℕ). AreWithin xs (c ∷ cs)) (sym (drop_more source axis 0 (omega arith)))
    (inside axis k c (omega arith) leads.0, led_within source from (axis + 1) ks cs (omega arith) inside leads.1)

-- ---- the last place of a number in a list is a place of it, and none is after it

pub last_is_there : (number : ℕ) (xs : List ℕ) (k : ℕ) → last_place number xs ≡ Some k → slice_get xs k ≡ Some number
last_is_there number [] k e = absurd (cc)
last_is_there number (y ∷ ys) k e = by_rest (last_place number ys) (y == number) refl (last_is_there number ys) e
  where
    by_rest : (rest : Option ℕ) (here : Bool) → (y == number) ≡ here → ((later : ℕ) → rest ≡ Some later → slice_get ys later ≡ Some number)
        → option_or (option_map (λ place. place + 1) rest) (cond here (Some 0) None) ≡ Some k → slice_get (y ∷ ys) k ≡ Some number
    by_rest None true t there e =
        let is = some_same 0 k e in subst (λ (n : ℕ). slice_get (y ∷ ys) n ≡ Some number) is (ap (λ (n : ℕ). Some n) (same_number y number t))
    by_rest None false t there e = absurd (cc)
    by_rest (Some later) here t there e =
        let is = some_same (later + 1) k e in let next : suc later ≡ k = omega arith in subst (λ (n : ℕ). slice_get (y ∷ ys) n ≡ Some number) next (there later refl)

pub none_is_after : (number : ℕ) (xs : List ℕ) (j : ℕ) → slice_get xs j ≡ Some number → (k : ℕ) × (last_place number xs ≡ Some k) × (j ≤ k)
none_is_after number [] j e = absurd (cc)
none_is_after number (y ∷ ys) zero e = by_rest (last_place number ys) refl
  where
    by_rest : (rest : Option ℕ) → last_place number ys ≡ rest → (k : ℕ) × (last_place number (y ∷ ys) ≡ Some k) × (zero ≤ k)
    by_rest None is = (
      0,
      ap (λ (o : Option ℕ). option_or (option_map (λ place. place + 1) o) (cond (y == number) (Some 0) None)) is
          ∙ ap (λ (b : Bool). option_or (option_map (λ place. place + 1) None) (cond b (Some 0) None)) (alike y number (some_same y number e)),
      omega arith,
    )
    by_rest (Some later) is = (later + 1, ap (λ (o : Option ℕ). option_or (option_map (λ place. place + 1) o) (cond (y == number) (Some 0) None)) is, omega arith)
none_is_after number (y ∷ ys) (suc j) e =
    let rest = none_is_after number ys j e in
    let later : ℕ = rest.0 in
    (later + 1, ap (λ (o : Option ℕ). option_or (option_map (λ place. place + 1) o) (cond (y == number) (Some 0) None)) rest.1, (let low = rest.2 in omega arith))

turned : (f g : ℕ → ℕ → Option ℕ) → ((axis k c : ℕ) → f axis k ≡ Some c → g axis c ≡ Some k) → (axis : ℕ) (ks cs : List ℕ) → Leads f axis ks cs → Leads g axis cs ks
turned f g back axis [] [] leads = tt
turned f g back axis [] (c ∷ cs) leads = absurd leads
turned f g back axis (k ∷ ks) [] leads = absurd leads
turned f g back axis (k ∷ ks) (c ∷ cs) leads = (back axis k c leads.0, turned f g back (axis + 1) ks cs leads.1)

-- ---- named and naming

-- the place of the selection that names a place does name it
pub naming_names : (shape : List ℕ) (subs : List (Option PlainArray)) (place at : ℕ) → place < element_count shape → place_naming shape subs place ≡ Some at → named_place shape subs at ≡ Some place
naming_names shape subs place at below e =
    let counts = named_counts shape subs in
    let last : ℕ → ℕ → Option ℕ = λ axis along. last_place along (named_on shape subs axis) in
    let get : ℕ → ℕ → Option ℕ = λ axis along. slice_get (named_on shape subs axis) along in
    let cs : List ℕ = coordinates_of shape place in
    let many = as_many_within shape cs (coordinates_are_within shape place below) in
    let rank = counts_length shape subs counts refl in
    let way = led counts last 0 cs at (omega arith) e in
    let ks : List ℕ = way.0 in
    let within : AreWithin counts ks = led_within counts last 0 cs ks (omega arith)
    (λ axis k c inside is. let low = last_below k (named_on shape subs axis) c is in omega (arith, low, counts_at shape subs counts axis refl (omega arith))) way.1 in
    let here : coordinates_of counts at ≡ ks = ap (coordinates_of counts) (sym way.2) ∙ coordinates_of_place counts ks within in
    let back = turned last get (λ axis k c is. last_is_there k (named_on shape subs axis) c is) 0 cs ks way.1 in
    ap (offset_at (strided shape get) 0) here ∙ led_by shape get 0 ks cs (omega (arith, as_many_within counts ks within)) back
    ∙ ap (λ (n : ℕ). Some n) (place_of_coordinates shape place below)

-- and it is a place of the selection
pub naming_below : (shape : List ℕ) (subs : List (Option PlainArray)) (place at : ℕ) → place < element_count shape → place_naming shape subs place ≡ Some at → at < element_count (named_counts shape subs)
naming_below shape subs place at below e =
    let counts = named_counts shape subs in
    let last : ℕ → ℕ → Option ℕ = λ axis along. last_place along (named_on shape subs axis) in
    let cs : List ℕ = coordinates_of shape place in
    let many = as_many_within shape cs (coordinates_are_within shape place below) in
    let rank = counts_length shape subs counts refl in
    let way = led counts last 0 cs at (omega arith) e in
    let ks : List ℕ = way.0 in
    let low = place_of_below counts ks (led_within counts last 0 cs ks (omega arith)
    (λ axis k c inside is. let low = last_below k (named_on shape subs axis) c is in omega (arith, low, counts_at shape subs counts axis refl (omega arith))) way.1) in
    let is = way.2 in omega arith

-- where a rule leads and another leads back, the second has a way that is no shorter at any axis
abbrev pub AreUpTo : List ℕ → List ℕ → Type 0
AreUpTo [] [] = ⊤
AreUpTo [] (y ∷ ys) = ⊥
AreUpTo (x ∷ xs) [] = ⊥
AreUpTo (x ∷ xs) (y ∷ ys) = (x ≤ y) × AreUpTo xs ys

later_way : (shape : List ℕ) (subs : List (Option PlainArray)) (axis : ℕ) (ks cs : List ℕ) → Leads (λ axis along. slice_get (named_on shape subs axis) along) axis ks cs
    → (js : List ℕ) × Leads (λ axis along. last_place along (named_on shape subs axis)) axis cs js × AreUpTo ks js
later_way shape subs axis [] [] leads = ([], tt, tt)
later_way shape subs axis [] (c ∷ cs) leads = absurd leads
later_way shape subs axis (k ∷ ks) [] leads = absurd leads
later_way shape subs axis (k ∷ ks) (c ∷ cs) leads =
    let first = none_is_after c (named_on shape subs axis) k leads.0 in
    let rest = later_way shape subs (axis + 1) ks cs leads.1 in
    let j : ℕ = first.0 in
    let js : List ℕ = rest.0 in
    (j ∷ js, (first.1, rest.1), (first.2, rest.2))

no_later : (counts ks js : List ℕ) → AreUpTo ks js → place_of counts ks ≤ place_of counts js
no_later [] ks js up = omega arith
no_later (axis ∷ counts) [] [] up = omega arith
no_later (axis ∷ counts) [] (j ∷ js) up = absurd up
no_later (axis ∷ counts) (k ∷ ks) [] up = absurd up
no_later (axis ∷ counts) (k ∷ ks) (j ∷ js) up =
    let rest = no_later counts ks js up.1 in let first = mul-le k (element_count counts) j (element_count counts) up.0 (omega arith) in omega arith

-- where a place of the selection names a place, the one that is taken for it is no earlier
pub named_is_taken : (shape : List ℕ) (subs : List (Option PlainArray)) (place at : ℕ) → at < element_count (named_counts shape subs) → point_outside shape subs ≡ false
    → named_place shape subs at ≡ Some place → (later : ℕ) × (place_naming shape subs place ≡ Some later) × (at ≤ later)
named_is_taken shape subs place at below none e =
    let counts = named_counts shape subs in
    let last : ℕ → ℕ → Option ℕ = λ axis along. last_place along (named_on shape subs axis) in
    let get : ℕ → ℕ → Option ℕ = λ axis along. slice_get (named_on shape subs axis) along in
    let ks : List ℕ = coordinates_of counts at in
    let many = as_many_within counts ks (coordinates_are_within counts at below) in
    let rank = counts_length shape subs counts refl in
    let way = led shape get 0 ks place (omega arith) e in
    let cs : List ℕ = way.0 in
    let within : AreWithin shape cs = led_within shape get 0 ks cs (omega arith)
    (λ axis k c inside is. named_inside (get_or shape axis 0) (sub_on subs axis) k c (inside_each shape subs axis none inside) is) way.1 in
    let here : coordinates_of shape place ≡ cs = ap (coordinates_of shape) (sym way.2) ∙ coordinates_of_place shape cs within in
    let later = later_way shape subs 0 ks cs way.1 in
    let js : List ℕ = later.0 in (
      place_of counts js,
      ap (offset_at (strided counts last) 0) here ∙ led_by counts last 0 cs js (omega (arith, as_many_within shape cs within)) later.1,
      (let up = no_later counts ks js later.2 in let same = place_of_coordinates counts at below in omega arith),
    )
