-- Sums and products that stay within 64 bits, by the weights of their numbers.
use Rattle.std.proofs.Common.{◌≡◌, ℕ, ℤ, zero, suc, ◌+◌, ◌-◌, ◌*◌, ◌^◌, ◌/◌, ◌%◌, ◌<◌, ◌≤◌, max, Bool, true, not, length, List, Option, Some, None, pos, negsuc, unsigned_abs, refl, sym, ap, subst, ◌∙◌, add-one, arith}
use Rattle.std.specs.Prelude.{◌+ℤ◌, ◌*ℤ◌, slice_index_or}
use borrow.Author.Differences.{down, product_is, same_in, up}
use Rattle.std.proofs.Math.Nat.{le_refl, mul_comm, le-mul_of_pos_right}
use Rattle.std.proofs.lemmas.Bool.{false≢true}
use Rattle.std.proofs.lemmas.Bool.Decides.{nat_tests}
use Rattle.std.proofs.lemmas.Int.{ints, unsigned_abs-mul}
use Rattle.std.proofs.lemmas.Nat.{div-mul-add, mod-mul-add, mul-le}
use Rattle.std.proofs.lemmas.Option.{none-some}
use Rattle.apl_verbs.specs.declared.verb.Dyad.{Dyad}
use Rattle.apl_verbs.specs.declared.verb.Dyad.TheVariants.{And, Maximum, Minimum, Or, Plus, Times}
use Rattle.apl_scalar.specs.Reading.{AllFit}
use Rattle.apl_scalar.specs.Table.{dyadic_item, item_where}
use Rattle.apl_items.specs.declared.shapes.Split.{Split}
use Rattle.apl_items.specs.Places.{lacks_item}
use Rattle.apl_items.specs.Shapes.{place_along, split_count}
use Rattle.apl_items.proofs.PlaceLemmas.{something_lacks}
use Rattle.operator_rules.specs.Reduction.{front_of_line, joined, number_on, reduction}
use Rattle.apl_operators.specs.Running.{Runs, factor_weight, front_at, is_grouped, term_weight, weight_on}
use Rattle.apl_operators.proofs.RunLemmas.{StepsOn, runs_by_steps, steps_by_groups}
use Rattle.apl_operators.proofs.FrontLemmas.{Fits, Groups, and_groups, maximum_groups, minimum_groups, or_groups, where_fits, where_is}
use Rattle.apl_items.proofs.RowLemmas.{place_below}

-- how a function of numbers is bounded by a function of their weights, none of which is below the low one
pub record Weighing (by : ℤ → ℤ → Option ℤ) (op : ℤ → ℤ → ℤ) (weights : ℕ → ℕ → ℕ) (low : ℕ) : Type 0 where
  pub is : (a b : ℤ) → by a b ≡ item_where true (op a b)
  pub grouped : (a b c : ℤ) → op (op a b) c ≡ op a (op b c)
  pub bound : (a b : ℤ) (u v : ℕ) → unsigned_abs a ≤ u → unsigned_abs b ≤ v → unsigned_abs (op a b) ≤ weights u v
  pub exact : (u v : ℕ) → op (pos u) (pos v) ≡ pos (weights u v)
  pub keeps : (u v : ℕ) → low ≤ u → low ≤ v → low ≤ weights u v
  pub further : (u v w : ℕ) → v ≤ w → weights u v ≤ weights u w
  pub left : (u v : ℕ) → low ≤ v → u ≤ weights u v
  pub right : (u v : ℕ) → low ≤ u → v ≤ weights u v

-- the weight of numbers from one on, and their value
abbrev pub total : (ℕ → ℕ → ℕ) → (ℕ → ℕ) → ℕ → ℕ → ℕ
total weights weight from zero = weight from
total weights weight from (suc more) = weights (weight from) (total weights weight (from + 1) more)

abbrev pub exactly : (ℤ → ℤ → ℤ) → (ℕ → ℤ) → ℕ → ℕ → ℤ
exactly op number from zero = number from
exactly op number from (suc more) = op (number from) (exactly op number (from + 1) more)

pub fits_below : (z : ℤ) (n : ℕ) → unsigned_abs z ≤ n → n < 2 ^ 63 → Fits z
fits_below (pos m) n h below = grind (arith, nat_tests)
fits_below (negsuc m) n h below = grind (arith, nat_tests)

fit_below : (n : ℕ) → Fits (pos n) → n < 2 ^ 63
fit_below n h = grind (arith, nat_tests)

-- numbers with their weights
pub record Weighed (number : ℕ → ℤ) (weight : ℕ → ℕ) (low : ℕ) : Type 0 where
  pub bounds : (k : ℕ) → unsigned_abs (number k) ≤ weight k
  pub lows : (k : ℕ) → low ≤ weight k

low_total : (by : ℤ → ℤ → Option ℤ) (op : ℤ → ℤ → ℤ) (weights : ℕ → ℕ → ℕ) (low : ℕ) → Weighing by op weights low → (number : ℕ → ℤ) (weight : ℕ → ℕ) → Weighed number weight low
    → (from more : ℕ) → low ≤ total weights weight from more
low_total by op weights low w number weight each from zero = each.lows from
low_total by op weights low w number weight each from (suc more) =
    w.keeps (weight from) (total weights weight (from + 1) more) (each.lows from) (low_total by op weights low w number weight each (from + 1) more)

-- numbers of a small weight have their exact reduction
pub exact_reduction : (by : ℤ → ℤ → Option ℤ) (op : ℤ → ℤ → ℤ) (weights : ℕ → ℕ → ℕ) (low : ℕ) → Weighing by op weights low → (number : ℕ → ℤ) (weight : ℕ → ℕ) → Weighed number weight low
    → (from more : ℕ) → total weights weight from more < 2 ^ 63
    → (reduction by (λ k. Some (number k)) from more ≡ Some (exactly op number from more)) × (unsigned_abs (exactly op number from more) ≤ total weights weight from more)
exact_reduction by op weights low w number weight each from zero small = (refl, each.bounds from)
exact_reduction by op weights low w number weight each from (suc more) small =
    let smaller = w.right (weight from) (total weights weight (from + 1) more) (each.lows from) in
    let rest = exact_reduction by op weights low w number weight each (from + 1) more (omega (arith, smaller, small)) in
    let bound = w.bound (number from) (exactly op number (from + 1) more) (weight from) (total weights weight (from + 1) more) (each.bounds from) rest.1 in (
      ap (λ (o : Option ℤ). joined by (Some (number from)) o) rest.0 ∙ w.is (number from) (exactly op number (from + 1) more)
          ∙ where_fits (op (number from) (exactly op number (from + 1) more)) (fits_below (op (number from) (exactly op number (from + 1) more)) (weights (weight from) (total weights weight (from + 1) more)) bound small),
      bound,
    )

-- the weight of a first number and that of the others, together
weights_joined : (by : ℤ → ℤ → Option ℤ) (op : ℤ → ℤ → ℤ) (weights : ℕ → ℕ → ℕ) (low : ℕ) → Weighing by op weights low → (first rest : ℕ) (u v : Option ℤ) (t : ℤ)
    → u ≡ item_where true (pos first) → ((b : ℤ) → v ≡ Some b → (b ≡ pos rest) × (rest < 2 ^ 63)) → joined by u v ≡ Some t
    → (t ≡ pos (weights first rest)) × (weights first rest < 2 ^ 63)
weights_joined by op weights low w first rest None v t is others e = absurd (none-some t e)
weights_joined by op weights low w first rest (Some a) None t is others e = absurd (none-some t e)
weights_joined by op weights low w first rest (Some a) (Some b) t is others e =
    let one = where_is true (pos first) a (sym is) in
    let all = others b refl in
    let value = where_is true (op a b) t (sym (w.is a b) ∙ e) in
    let sum : op a b ≡ pos (weights first rest) = ap (λ (z : ℤ). op z b) (sym one.0) ∙ ap (λ (z : ℤ). op (pos first) z) all.0 ∙ w.exact first rest in
    let same : t ≡ pos (weights first rest) = sym value.0 ∙ sum in
    (same, fit_below (weights first rest) (subst Fits same value.1))

-- where weights have a reduction, it is their total, and small
weight_reduction : (by : ℤ → ℤ → Option ℤ) (op : ℤ → ℤ → ℤ) (weights : ℕ → ℕ → ℕ) (low : ℕ) → Weighing by op weights low → (weight : ℕ → ℕ) (from more : ℕ) (t : ℤ)
    → reduction by (λ k. item_where true (pos (weight k))) from more ≡ Some t → (t ≡ pos (total weights weight from more)) × (total weights weight from more < 2 ^ 63)
weight_reduction by op weights low w weight from zero t e =
    let here = where_is true (pos (weight from)) t e in
    (sym here.0, fit_below (weight from) (subst Fits (sym here.0) here.1))
weight_reduction by op weights low w weight from (suc more) t e =
    weights_joined by op weights low w (weight from) (total weights weight (from + 1) more) (item_where true (pos (weight from))) (reduction by (λ k. item_where true (pos (weight k))) (from + 1) more) t refl
    (λ b is. weight_reduction by op weights low w weight (from + 1) more b is) e

-- fewer numbers weigh no more
fewer_weigh_less : (by : ℤ → ℤ → Option ℤ) (op : ℤ → ℤ → ℤ) (weights : ℕ → ℕ → ℕ) (low : ℕ) → Weighing by op weights low → (number : ℕ → ℤ) (weight : ℕ → ℕ) → Weighed number weight low
    → (from few more : ℕ) → total weights weight from few ≤ total weights weight from (few + more)
fewer_weigh_less by op weights low w number weight each from few zero = let same : few + 0 ≡ few = omega arith in rw same (le_refl (total weights weight from few))
fewer_weigh_less by op weights low w number weight each from zero (suc more) =
    let same : 0 + suc more ≡ suc more = omega arith in
    rw same (w.left (weight from) (total weights weight (from + 1) more) (low_total by op weights low w number weight each (from + 1) more))
fewer_weigh_less by op weights low w number weight each from (suc few) (suc more) =
    let same : suc few + suc more ≡ suc (few + suc more) = omega arith in
    rw same (w.further (weight from) (total weights weight (from + 1) few) (total weights weight (from + 1) (few + suc more)) (fewer_weigh_less by op weights low w number weight each (from + 1) few (suc more)))

exactly_more : (by : ℤ → ℤ → Option ℤ) (op : ℤ → ℤ → ℤ) (weights : ℕ → ℕ → ℕ) (low : ℕ) → Weighing by op weights low → (number : ℕ → ℤ) (from more : ℕ)
    → exactly op number from (suc more) ≡ op (exactly op number from more) (number (from + suc more))
exactly_more by op weights low w number from zero = let next : from + 1 ≡ from + suc zero = omega arith in ap (λ (k : ℕ). op (number from) (number k)) next
exactly_more by op weights low w number from (suc more) =
    let next : (from + 1) + suc more ≡ from + suc (suc more) = omega arith in
    ap (λ (rest : ℤ). op (number from) rest) (exactly_more by op weights low w number (from + 1) more)
    ∙ sym (w.grouped (number from) (exactly op number (from + 1) more) (number ((from + 1) + suc more)))
    ∙ ap (λ (k : ℕ). op (exactly op number from (suc more)) (number k)) next

-- where the weight of all is small, each front follows from the one before it
pub weighed_step : (by : ℤ → ℤ → Option ℤ) (op : ℤ → ℤ → ℤ) (weights : ℕ → ℕ → ℕ) (low : ℕ) → Weighing by op weights low → (number : ℕ → ℤ) (weight : ℕ → ℕ) → Weighed number weight low
    → (all : ℕ) → total weights weight 0 all < 2 ^ 63 → (along : ℕ) → along < all
    → reduction by (λ k. Some (number k)) 0 (suc along) ≡ joined by (reduction by (λ k. Some (number k)) 0 along) (Some (number (0 + suc along)))
weighed_step by op weights low w number weight each all small along inside =
    let less = fewer_weigh_less by op weights low w number weight each 0 (suc along) (all - suc along) in
    let whole : suc along + (all - suc along) ≡ all = omega arith in
    let less_than_all = subst (λ (n : ℕ). total weights weight 0 (suc along) ≤ total weights weight 0 n) whole less in
    let fewer = fewer_weigh_less by op weights low w number weight each 0 along 1 in
    let next : along + 1 ≡ suc along = omega arith in
    let less_than_next = subst (λ (n : ℕ). total weights weight 0 along ≤ total weights weight 0 n) next fewer in
    let here = exact_reduction by op weights low w number weight each 0 (suc along) (omega (arith, less_than_all, small)) in
    let before = exact_reduction by op weights low w number weight each 0 along (omega (arith, less_than_all, less_than_next, small)) in
    let value = exactly_more by op weights low w number 0 along in
    let fit = fits_below (exactly op number 0 (suc along)) (total weights weight 0 (suc along)) here.1 (omega (arith, less_than_all, small)) in
    here.0 ∙ sym
    (ap (λ (o : Option ℤ). joined by o (Some (number (0 + suc along)))) before.0
    ∙ w.is (exactly op number 0 along) (number (0 + suc along))
    ∙ ap (λ (z : ℤ). item_where true z) (sym value) ∙ where_fits (exactly op number 0 (suc along)) fit)

-- ---- sums and products

pub sums : Weighing (dyadic_item Plus) ◌+ℤ◌ ◌+◌ 0
sums = record {
  is = λ a b. refl;
  grouped = λ a b c. omega (arith, ints);
  bound = λ a b u v p q. sum_bound a b u v p q;
  exact = λ u v. refl;
  keeps = λ u v p q. omega arith;
  further = λ u v w h. omega arith;
  left = λ u v h. omega arith;
  right = λ u v h. omega arith;
}
  where
    sum_bound : (a b : ℤ) (u v : ℕ) → unsigned_abs a ≤ u → unsigned_abs b ≤ v → unsigned_abs (a +ℤ b) ≤ u + v
    sum_bound a b u v p q = grind (arith, ints)

times_grouped : (a b c : ℤ) → (a *ℤ b) *ℤ c ≡ a *ℤ (b *ℤ c)
times_grouped a b c =
    let front = product_is a b in
    let back = product_is b c in
    let left = product_is (a *ℤ b) c in
    let right = product_is a (b *ℤ c) in
    let ups : up ((a *ℤ b) *ℤ c) ≡ up (a *ℤ (b *ℤ c)) =
    omega (arith, left.0, right.0, ap (λ (n : ℕ). n * up c) front.0, ap (λ (n : ℕ). n * down c) front.1, ap (λ (n : ℕ). n * up a) back.0, ap (λ (n : ℕ). n * down a) back.1) in
    let downs : down ((a *ℤ b) *ℤ c) ≡ down (a *ℤ (b *ℤ c)) =
    omega (arith, left.1, right.1, ap (λ (n : ℕ). n * down c) front.0, ap (λ (n : ℕ). n * up c) front.1, ap (λ (n : ℕ). n * up a) back.1, ap (λ (n : ℕ). n * down a) back.0) in
    same_in ((a *ℤ b) *ℤ c) (a *ℤ (b *ℤ c)) (omega (arith, ups, downs))

pub products : Weighing (dyadic_item Times) ◌*ℤ◌ ◌*◌ 1
products = record {
  is = λ a b. refl;
  grouped = times_grouped;
  bound = λ a b u v p q. rw (unsigned_abs-mul a b) (mul-le (unsigned_abs a) (unsigned_abs b) u v p q);
  exact = λ u v. refl;
  keeps = λ u v p q. omega (arith, le-mul_of_pos_right {m = v} u q);
  further = λ u v w h. mul-le u v u w (omega arith) h;
  left = λ u v h. le-mul_of_pos_right {m = v} u h;
  right = λ u v h. let turned = mul_comm u v in omega (arith, turned, le-mul_of_pos_right {m = u} v h);
}

-- ---- on lines

-- the magnitudes of the numbers on a line together
abbrev pub magnitude_of_line : List ℤ → Split → ℕ → ℕ → ℕ
magnitude_of_line list split outer inner = total ◌+◌ (λ k. unsigned_abs (slice_index_or list (place_along split outer k inner) (pos 0))) 0 (split.along - 1)

pub steps_of_sums : (list : List ℤ) (split : Split) → ((outer inner : ℕ) → outer < split.outer → inner < split.inner → magnitude_of_line list split outer inner < 2 ^ 63)
    → StepsOn (dyadic_item Plus) list split
steps_of_sums list split small = record {
  step = λ outer inner along p q r.
      let number : ℕ → ℤ = λ k. slice_index_or list (place_along split outer k inner) (pos 0) in
      ap (λ (n : ℕ). front_of_line (dyadic_item Plus) list split outer inner n) (add-one along)
      ∙ weighed_step (dyadic_item Plus) ◌+ℤ◌ ◌+◌ 0 sums number (λ k. unsigned_abs (number k)) (record { bounds = λ k. le_refl (unsigned_abs (number k)); lows = λ k. omega arith }) (split.along - 1) (small outer inner p q) along (omega arith)
      ∙ ap (λ (k : ℕ). joined (dyadic_item Plus) (front_of_line (dyadic_item Plus) list split outer inner along) (number_on list split outer inner k)) (let there : 0 + suc along ≡ along + 1 = omega arith in there);
}

pub steps_of_products : (list : List ℤ) (split : Split) → ((outer inner : ℕ) → outer < split.outer → inner < split.inner → (t : ℤ) × (weight_on factor_weight (dyadic_item Times) list split outer inner ≡ Some t))
    → StepsOn (dyadic_item Times) list split
steps_of_products list split weigh = record {
  step = λ outer inner along p q r.
      let number : ℕ → ℤ = λ k. slice_index_or list (place_along split outer k inner) (pos 0) in
      let weighed = weigh outer inner p q in
      ap (λ (n : ℕ). front_of_line (dyadic_item Times) list split outer inner n) (add-one along)
      ∙ weighed_step (dyadic_item Times) ◌*ℤ◌ ◌*◌ 1 products number (λ k. max 1 (unsigned_abs (number k))) (record { bounds = λ k. omega arith; lows = λ k. omega arith }) (split.along - 1)
      (weight_reduction (dyadic_item Times) ◌*ℤ◌ ◌*◌ 1 products (λ k. max 1 (unsigned_abs (number k))) 0 (split.along - 1) weighed.0 weighed.1).1 along (omega arith)
      ∙ ap (λ (k : ℕ). joined (dyadic_item Times) (front_of_line (dyadic_item Times) list split outer inner along) (number_on list split outer inner k)) (let there : 0 + suc along ≡ along + 1 = omega arith in there);
}

-- ---- what a test of all lines shows

pub weights_exist : (weigh : ℤ → Option ℤ) (by : ℤ → ℤ → Option ℤ) (list : List ℤ) (split : Split)
    → not (lacks_item (split.outer * split.inner) (λ line. weight_on weigh by list split (line / split.inner) (line % split.inner))) ≡ true
    → (outer inner : ℕ) → outer < split.outer → inner < split.inner → (t : ℤ) × (weight_on weigh by list split outer inner ≡ Some t)
weights_exist weigh by list split e outer inner p q = by_option (weight_on weigh by list split outer inner) refl
  where
    rule : ℕ → Option ℤ
    rule line = weight_on weigh by list split (line / split.inner) (line % split.inner)

    by_option : (o : Option ℤ) → weight_on weigh by list split outer inner ≡ o → (t : ℤ) × (weight_on weigh by list split outer inner ≡ Some t)
    by_option (Some t) is = (t, is)
    by_option None is =
        let here : weight_on weigh by list split ((outer * split.inner + inner) / split.inner) ((outer * split.inner + inner) % split.inner) ≡ None =
        ap (λ (o : ℕ). weight_on weigh by list split o ((outer * split.inner + inner) % split.inner)) (div-mul-add outer split.inner inner q)
        ∙ ap (λ (i : ℕ). weight_on weigh by list split outer i) (mod-mul-add outer split.inner inner q) ∙ is in
        let lacks = something_lacks {T = ℤ} (split.outer * split.inner) (λ line. weight_on weigh by list split (line / split.inner) (line % split.inner))
        (outer * split.inner + inner, place_below split.outer split.inner outer inner p q, here) in
        absurd (false≢true (sym (ap not lacks) ∙ e))

grouped_functions : (f : Dyad) → is_grouped f ≡ true → Groups Fits (dyadic_item f)
grouped_functions Maximum e = maximum_groups
grouped_functions Minimum e = minimum_groups
grouped_functions And e = and_groups
grouped_functions Or e = or_groups
grouped_functions _ e = absurd (false≢true e)

pub runs_grouped : (f : Dyad) (list : List ℤ) (split : Split) → split_count split ≡ length list → 0 < split.along → AllFit list → is_grouped f ≡ true
    → Runs (dyadic_item f) list split (front_at (dyadic_item f) list split)
runs_grouped f list split whole some fit grouped =
    runs_by_steps (dyadic_item f) list split whole some (steps_by_groups (dyadic_item f) list split whole fit (grouped_functions f grouped))

pub runs_of_sums : (f : Dyad) (list : List ℤ) (split : Split) (result : Bool) → f ≡ Plus → split_count split ≡ length list → 0 < split.along
    → result ≡ not (lacks_item (split.outer * split.inner) (λ line. weight_on term_weight (dyadic_item Plus) list split (line / split.inner) (line % split.inner))) → result ≡ true
    → Runs (dyadic_item f) list split (front_at (dyadic_item f) list split)
runs_of_sums f list split result is whole some told true_is =
    subst (λ (g : Dyad). Runs (dyadic_item g) list split (front_at (dyadic_item g) list split)) (sym is)
    (runs_by_steps (dyadic_item Plus) list split whole some (steps_of_sums list split (λ outer inner p q.
    let weighed = weights_exist term_weight (dyadic_item Plus) list split (sym told ∙ true_is) outer inner p q in
    (weight_reduction (dyadic_item Plus) ◌+ℤ◌ ◌+◌ 0 sums (λ k. unsigned_abs (slice_index_or list (place_along split outer k inner) (pos 0))) 0 (split.along - 1) weighed.0 weighed.1).1)))

pub runs_of_products : (f : Dyad) (list : List ℤ) (split : Split) (result : Bool) → f ≡ Times → split_count split ≡ length list → 0 < split.along
    → result ≡ not (lacks_item (split.outer * split.inner) (λ line. weight_on factor_weight (dyadic_item Times) list split (line / split.inner) (line % split.inner))) → result ≡ true
    → Runs (dyadic_item f) list split (front_at (dyadic_item f) list split)
runs_of_products f list split result is whole some told true_is =
    subst (λ (g : Dyad). Runs (dyadic_item g) list split (front_at (dyadic_item g) list split)) (sym is)
    (runs_by_steps (dyadic_item Times) list split whole some (steps_of_products list split (weights_exist factor_weight (dyadic_item Times) list split (sym told ∙ true_is))))

pub some_along : (split : Split) → 0 < split_count split → 0 < split.along
some_along split some = positive split.outer split.along split.inner some
  where
    positive : (o a i : ℕ) → 0 < o * a * i → 0 < a
    positive o zero i h = absurd (omega arith)
    positive o (suc a) i h = omega arith
