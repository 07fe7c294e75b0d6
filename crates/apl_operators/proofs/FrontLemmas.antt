-- Where the reduction of a front follows from that of the front before it.
use Rattle.std.proofs.Common.{◌≡◌, ℕ, ℤ, zero, suc, ◌+◌, ◌&&◌, ◌||◌, ◌⊎◌, inl, inr, Bool, true, false, Option, Some, None, refl, sym, ap, subst, ◌∙◌, arith}
use Rattle.std.specs.Prelude.{cond, int_lt, pos, negsuc, if◌then◌else◌}
use Rattle.std.specs.Int.{int_max, int_min}
use Rattle.std.proofs.lemmas.Bool.{false≢true}
use Rattle.std.proofs.lemmas.Bool.Decides.{nat_tests}
use Rattle.std.proofs.lemmas.Int.{clamps, ints}
use Rattle.std.proofs.lemmas.Option.{none-some}
use Rattle.apl_verbs.specs.declared.verb.Dyad.TheVariants.{And, Maximum, Minimum, Or}
use Rattle.apl_arrays.specs.Number.{fits}
use Rattle.apl_scalar.specs.Table.{are_truths, dyadic_item, is_truth, item_where, logical}
use Rattle.operator_rules.specs.Reduction.{joined, reduction}

-- ---- functions that may be joined in any grouping

-- wherever numbers that hold a fact are joined, the grouping does not matter, and the result holds it too
pub record Groups (P : ℤ → Type 0) (by : ℤ → ℤ → Option ℤ) : Type 0 where
  pub closed : (a b c : ℤ) → P a → P b → by a b ≡ Some c → P c
  pub grouped : (a b c : ℤ) → P a → P b → P c → joined by (by a b) (Some c) ≡ joined by (Some a) (by b c)

abbrev Holds : (ℤ → Type 0) → Option ℤ → Type 0
Holds P o = (z : ℤ) → o ≡ Some z → P z

joined_holds : (P : ℤ → Type 0) (by : ℤ → ℤ → Option ℤ) → Groups P by → (u v : Option ℤ) → Holds P u → Holds P v → Holds P (joined by u v)
joined_holds P by groups None v p q z e = absurd (none-some z e)
joined_holds P by groups (Some a) None p q z e = absurd (none-some z e)
joined_holds P by groups (Some a) (Some b) p q z e = groups.closed a b z (p a refl) (q b refl) e

reduction_holds : (P : ℤ → Type 0) (by : ℤ → ℤ → Option ℤ) → Groups P by → (item : ℕ → Option ℤ) → ((k : ℕ) → Holds P (item k)) → (from more : ℕ) → Holds P (reduction by item from more)
reduction_holds P by groups item each from zero = each from
reduction_holds P by groups item each from (suc more) = joined_holds P by groups (item from) (reduction by item (from + 1) more) (each from) (reduction_holds P by groups item each (from + 1) more)

joined_grouped : (P : ℤ → Type 0) (by : ℤ → ℤ → Option ℤ) → Groups P by → (u v w : Option ℤ) → Holds P u → Holds P v → Holds P w
    → joined by (joined by u v) w ≡ joined by u (joined by v w)
joined_grouped P by groups None v w p q r = refl
joined_grouped P by groups (Some a) None w p q r = refl
joined_grouped P by groups (Some a) (Some b) None p q r = to_none (by a b)
  where
    to_none : (o : Option ℤ) → joined by o None ≡ None
    to_none None = refl
    to_none (Some z) = refl
joined_grouped P by groups (Some a) (Some b) (Some c) p q r = groups.grouped a b c (p a refl) (q b refl) (r c refl)

-- the reduction of one item more is joined from that of the items before it
pub one_more : (P : ℤ → Type 0) (by : ℤ → ℤ → Option ℤ) → Groups P by → (item : ℕ → Option ℤ) → ((k : ℕ) → Holds P (item k)) → (from more : ℕ)
    → reduction by item from (suc more) ≡ joined by (reduction by item from more) (item (from + suc more))
one_more P by groups item each from zero =
    let next : from + 1 ≡ from + suc zero = omega arith in
    ap (λ (k : ℕ). joined by (item from) (item k)) next
one_more P by groups item each from (suc more) =
    let next : (from + 1) + suc more ≡ from + suc (suc more) = omega arith in
    ap (λ (rest : Option ℤ). joined by (item from) rest) (one_more P by groups item each (from + 1) more)
    ∙ sym (joined_grouped P by groups (item from) (reduction by item (from + 1) more) (item ((from + 1) + suc more)) (each from) (reduction_holds P by groups item each (from + 1) more) (each ((from + 1) + suc more)))
    ∙ ap (λ (k : ℕ). joined by (reduction by item from (suc more)) (item k)) next

-- ---- the functions of which each grouping is one

abbrev pub Fits : ℤ → Type 0
Fits z = fits z ≡ true

and_right : (a b : Bool) → (a && b) ≡ true → b ≡ true
and_right true b e = e
and_right false b e = absurd (false≢true e)

-- what an item is where it has a value
pub where_is : (defined : Bool) (value c : ℤ) → item_where defined value ≡ Some c → (value ≡ c) × Fits c
where_is defined value c e = by_test (defined && fits value) refl e
  where
    by_test : (t : Bool) → (defined && fits value) ≡ t → (if t then Some value else None) ≡ Some c → (value ≡ c) × Fits c
    by_test true is here = let same : value ≡ c = cc in (same, ap fits (sym same) ∙ and_right defined (fits value) is)
    by_test false is here = absurd (none-some c here)

pub where_fits : (value : ℤ) → Fits value → item_where true value ≡ Some value
where_fits value e = rw e refl

-- the greater and the lesser of two numbers are one of them
pub greater_fits : (a b : ℤ) → Fits a → Fits b → Fits (int_max a b)
greater_fits a b p q = by_test (int_lt b a)
  where
    by_test : (t : Bool) → Fits (cond t a b)
    by_test true = p
    by_test false = q

pub lesser_fits : (a b : ℤ) → Fits a → Fits b → Fits (int_min a b)
lesser_fits a b p q = by_test (int_lt b a)
  where
    by_test : (t : Bool) → Fits (cond t b a)
    by_test true = q
    by_test false = p

max_grouped : (a b c : ℤ) → int_max (int_max a b) c ≡ int_max a (int_max b c)
max_grouped a b c = omega (arith, ints, clamps)

min_grouped : (a b c : ℤ) → int_min (int_min a b) c ≡ int_min a (int_min b c)
min_grouped a b c = omega (arith, ints, clamps)

-- a function that has a value wherever numbers fit, and may be grouped
total_groups : (by : ℤ → ℤ → Option ℤ) (op : ℤ → ℤ → ℤ) → ((a b : ℤ) → by a b ≡ item_where true (op a b)) → ((a b : ℤ) → Fits a → Fits b → Fits (op a b))
    → ((a b c : ℤ) → op (op a b) c ≡ op a (op b c)) → Groups Fits by
total_groups by op is kept grouped = record {
  closed = λ a b c p q e. (where_is true (op a b) c (sym (is a b) ∙ e)).1;
  grouped = λ a b c p q r.
      ap (λ (o : Option ℤ). joined by o (Some c)) (there a b p q) ∙ there (op a b) c (kept a b p q) r ∙ ap (λ (z : ℤ). Some z) (grouped a b c)
      ∙ sym (ap (λ (o : Option ℤ). joined by (Some a) o) (there b c q r) ∙ there a (op b c) p (kept b c q r));
}
  where
    there : (a b : ℤ) → Fits a → Fits b → by a b ≡ Some (op a b)
    there a b p q = is a b ∙ where_fits (op a b) (kept a b p q)

pub maximum_groups : Groups Fits (dyadic_item Maximum)
maximum_groups = total_groups (dyadic_item Maximum) int_max (λ a b. refl) greater_fits max_grouped

pub minimum_groups : Groups Fits (dyadic_item Minimum)
minimum_groups = total_groups (dyadic_item Minimum) int_min (λ a b. refl) lesser_fits min_grouped

-- ---- functions of truth values

truth_cases : (z : ℤ) → (z ≡ pos 0) ⊎ ((z ≡ pos 1) ⊎ (is_truth z ≡ false))
truth_cases (pos zero) = inl refl
truth_cases (pos (suc zero)) = inr (inl refl)
truth_cases (pos (suc (suc n))) = inr (inr (neither (suc (suc n)) (omega arith) (omega arith)))
  where
    neither : (m : ℕ) → (m ≡ 0 → ⊥) → (m ≡ 1 → ⊥) → is_truth (pos m) ≡ false
    neither m p q = grind (arith, nat_tests)
truth_cases (negsuc n) = inr (inr refl)

-- a function that has a value at truth values alone, and gives one
pub record IsLogical (by : ℤ → ℤ → Option ℤ) : Type 0 where
  pub left : (a b : ℤ) → is_truth a ≡ false → by a b ≡ None
  pub right : (a b : ℤ) → is_truth b ≡ false → by a b ≡ None
  pub grouped : (a b c : ℤ) → (a ≡ pos 0) ⊎ (a ≡ pos 1) → (b ≡ pos 0) ⊎ (b ≡ pos 1) → (c ≡ pos 0) ⊎ (c ≡ pos 1) → joined by (by a b) (Some c) ≡ joined by (Some a) (by b c)

none_after : (by : ℤ → ℤ → Option ℤ) → IsLogical by → (o : Option ℤ) (c : ℤ) → is_truth c ≡ false → joined by o (Some c) ≡ None
none_after by logical None c e = refl
none_after by logical (Some a) c e = logical.right a c e

none_before : (by : ℤ → ℤ → Option ℤ) → IsLogical by → (a : ℤ) (o : Option ℤ) → is_truth a ≡ false → joined by (Some a) o ≡ None
none_before by logical a None e = refl
none_before by logical a (Some b) e = logical.left a b e

logical_groups : (by : ℤ → ℤ → Option ℤ) → IsLogical by → ((a b c : ℤ) → by a b ≡ Some c → Fits c) → Groups Fits by
logical_groups by logical fit = record {
  closed = λ a b c p q e. fit a b c e;
  grouped = λ a b c p q r. by_cases a b c (truth_cases a) (truth_cases b) (truth_cases c);
}
  where
    Truth : ℤ → Type 0
    Truth z = (z ≡ pos 0) ⊎ ((z ≡ pos 1) ⊎ (is_truth z ≡ false))

    known : (a b c : ℤ) → (a ≡ pos 0) ⊎ (a ≡ pos 1) → Truth b → Truth c → joined by (by a b) (Some c) ≡ joined by (Some a) (by b c)
    known a b c x (inl q) (inl r) = logical.grouped a b c x (inl q) (inl r)
    known a b c x (inl q) (inr (inl r)) = logical.grouped a b c x (inl q) (inr r)
    known a b c x (inr (inl q)) (inl r) = logical.grouped a b c x (inr q) (inl r)
    known a b c x (inr (inl q)) (inr (inl r)) = logical.grouped a b c x (inr q) (inr r)
    known a b c x (inr (inr q)) r = ap (λ (o : Option ℤ). joined by o (Some c)) (logical.right a b q) ∙ sym (ap (λ (o : Option ℤ). joined by (Some a) o) (logical.left b c q))
    known a b c x q (inr (inr r)) = none_after by logical (by a b) c r ∙ sym (ap (λ (o : Option ℤ). joined by (Some a) o) (logical.right b c r))

    by_cases : (a b c : ℤ) → Truth a → Truth b → Truth c → joined by (by a b) (Some c) ≡ joined by (Some a) (by b c)
    by_cases a b c (inl p) q r = known a b c (inl p) q r
    by_cases a b c (inr (inl p)) q r = known a b c (inr p) q r
    by_cases a b c (inr (inr p)) q r = ap (λ (o : Option ℤ). joined by o (Some c)) (logical.left a b p) ∙ sym (none_before by logical a (by b c) p)

abbrev IsTruth : ℤ → Type 0
IsTruth z = (z ≡ pos 0) ⊎ (z ≡ pos 1)

-- a rule at 0 and 1, eight times
at_truths : (by : ℤ → ℤ → Option ℤ)
    → joined by (by (pos 0) (pos 0)) (Some (pos 0)) ≡ joined by (Some (pos 0)) (by (pos 0) (pos 0))
    → joined by (by (pos 0) (pos 0)) (Some (pos 1)) ≡ joined by (Some (pos 0)) (by (pos 0) (pos 1))
    → joined by (by (pos 0) (pos 1)) (Some (pos 0)) ≡ joined by (Some (pos 0)) (by (pos 1) (pos 0))
    → joined by (by (pos 0) (pos 1)) (Some (pos 1)) ≡ joined by (Some (pos 0)) (by (pos 1) (pos 1))
    → joined by (by (pos 1) (pos 0)) (Some (pos 0)) ≡ joined by (Some (pos 1)) (by (pos 0) (pos 0))
    → joined by (by (pos 1) (pos 0)) (Some (pos 1)) ≡ joined by (Some (pos 1)) (by (pos 0) (pos 1))
    → joined by (by (pos 1) (pos 1)) (Some (pos 0)) ≡ joined by (Some (pos 1)) (by (pos 1) (pos 0))
    → joined by (by (pos 1) (pos 1)) (Some (pos 1)) ≡ joined by (Some (pos 1)) (by (pos 1) (pos 1))
    → (a b c : ℤ) → IsTruth a → IsTruth b → IsTruth c → joined by (by a b) (Some c) ≡ joined by (Some a) (by b c)
at_truths by e0 e1 e2 e3 e4 e5 e6 e7 a b c p q r = with_a p
  where
    Same : ℤ → ℤ → ℤ → Type 0
    Same a b c = joined by (by a b) (Some c) ≡ joined by (Some a) (by b c)

    pick : (x y : ℤ) → Same x y (pos 0) → Same x y (pos 1) → IsTruth c → Same x y c
    pick x y zero_is one_is (inl e) = subst (λ (z : ℤ). Same x y z) (sym e) zero_is
    pick x y zero_is one_is (inr e) = subst (λ (z : ℤ). Same x y z) (sym e) one_is

    with_b : (x : ℤ) → Same x (pos 0) c → Same x (pos 1) c → IsTruth b → Same x b c
    with_b x zero_is one_is (inl e) = subst (λ (z : ℤ). Same x z c) (sym e) zero_is
    with_b x zero_is one_is (inr e) = subst (λ (z : ℤ). Same x z c) (sym e) one_is

    with_a : IsTruth a → Same a b c
    with_a (inl e) = subst (λ (z : ℤ). Same z b c) (sym e) (with_b (pos 0) (pick (pos 0) (pos 0) e0 e1 r) (pick (pos 0) (pos 1) e2 e3 r) q)
    with_a (inr e) = subst (λ (z : ℤ). Same z b c) (sym e) (with_b (pos 1) (pick (pos 1) (pos 0) e4 e5 r) (pick (pos 1) (pos 1) e6 e7 r) q)

and_false : (a : Bool) → (a && false) ≡ false
and_false true = refl
and_false false = refl

-- none where the test of the two numbers fails
no_item : (defined : Bool) (value : ℤ) → defined ≡ false → item_where defined value ≡ None
no_item defined value e = ap (λ (t : Bool). item_where t value) e

tests_fail : (a b : ℤ) → is_truth a ≡ false → are_truths a b ≡ false
tests_fail a b e = ap (λ (t : Bool). t && is_truth b) e

tests_fail_too : (a b : ℤ) → is_truth b ≡ false → are_truths a b ≡ false
tests_fail_too a b e = ap (λ (t : Bool). is_truth a && t) e ∙ and_false (is_truth a)

pub and_groups : Groups Fits (dyadic_item And)
and_groups =
    logical_groups (dyadic_item And)
    (record {
      left = λ a b e. no_item (are_truths a b) (logical (λ x y. x && y) a b) (tests_fail a b e);
      right = λ a b e. no_item (are_truths a b) (logical (λ x y. x && y) a b) (tests_fail_too a b e);
      grouped = at_truths (dyadic_item And) refl refl refl refl refl refl refl refl;
    })
    (λ a b c e. (where_is (are_truths a b) (logical (λ x y. x && y) a b) c e).1)

pub or_groups : Groups Fits (dyadic_item Or)
or_groups =
    logical_groups (dyadic_item Or)
    (record {
      left = λ a b e. no_item (are_truths a b) (logical (λ x y. x || y) a b) (tests_fail a b e);
      right = λ a b e. no_item (are_truths a b) (logical (λ x y. x || y) a b) (tests_fail_too a b e);
      grouped = at_truths (dyadic_item Or) refl refl refl refl refl refl refl refl;
    })
    (λ a b c e. (where_is (are_truths a b) (logical (λ x y. x || y) a b) c e).1)
