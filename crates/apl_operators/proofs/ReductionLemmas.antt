-- A reduction from the right, one item more.
use Rattle.std.proofs.Common.{◌≡◌, ℕ, zero, suc, ◌+◌, ◌-◌, ◌<◌, ◌≤◌, Option, Some, None, sym, ap, ◌∙◌, arith, add-one}
use Rattle.apl_items.specs.Places.{Follows}
use Rattle.operator_rules.specs.Reduction.{Joins, joined, reduction}

-- whatever a definition gives where calls follow it, so far from the right
abbrev pub Reduces : {T : Type 0} → (ℕ → Option T → Type 0) → (T → T → Option T → Type 0) → ℕ → ℕ → ℕ → Option T → Type 0
Reduces {T} items joins count from more value = (rule : ℕ → Option T) (by : T → T → Option T) → Follows items count rule → Joins joins by → value ≡ reduction by rule from more

joined_none : {T : Type 0} (by : T → T → Option T) (a : Option T) → joined by a None ≡ None
joined_none by None = cc
joined_none by (Some x) = cc

-- where there is no reduction from a place on, there is none from an earlier one
none_spreads : {T : Type 0} (by : T → T → Option T) (rule : ℕ → Option T) (before from more : ℕ) → reduction by rule (from + before) more ≡ None
    → reduction by rule from (before + more) ≡ None
none_spreads by rule zero from more e =
    let there : from + 0 ≡ from = omega arith in
    let count : 0 + more ≡ more = omega arith in
    ap (λ (n : ℕ). reduction by rule from n) count ∙ sym (ap (λ (n : ℕ). reduction by rule n more) there) ∙ e
none_spreads by rule (suc before) from more e =
    let there : (from + 1) + before ≡ from + suc before = omega arith in
    let count : suc before + more ≡ suc (before + more) = omega arith in
    let rest = none_spreads by rule before (from + 1) more (ap (λ (n : ℕ). reduction by rule n more) there ∙ e) in
    ap (λ (n : ℕ). reduction by rule from n) count ∙ ap (λ (r : Option _). joined by (rule from) r) rest ∙ joined_none by (rule from)

-- an item that is lacking leaves no reduction from its place on
lacking_here : {T : Type 0} (by : T → T → Option T) (rule : ℕ → Option T) (from more : ℕ) → rule from ≡ None → reduction by rule from more ≡ None
lacking_here by rule from zero e = e
lacking_here by rule from (suc more) e = ap (λ (a : Option _). joined by a (reduction by rule (from + 1) more)) e

all_from_0 : {T : Type 0} (by : T → T → Option T) (rule : ℕ → Option T) (from more total : ℕ) → from + more ≡ total → reduction by rule from more ≡ None
    → None ≡ reduction by rule 0 total
all_from_0 by rule from more total all e =
    let there : 0 + from ≡ from = omega arith in
    sym (sym (ap (λ (n : ℕ). reduction by rule 0 n) all) ∙ none_spreads by rule from 0 more (ap (λ (n : ℕ). reduction by rule n more) there ∙ e))

-- one item before the others
one_before : {T : Type 0} (by : T → T → Option T) (rule : ℕ → Option T) (from next more : ℕ) (a b : T) → rule from ≡ Some a
    → Some b ≡ reduction by rule next more → from + 1 ≡ next → by a b ≡ reduction by rule from (more + 1)
one_before by rule from next more a b at rest here =
    let r : Some b ≡ reduction by rule (from + 1) more = rest ∙ ap (λ (n : ℕ). reduction by rule n more) (sym here) in
    let both : joined by (Some a) (Some b) ≡ joined by (rule from) (reduction by rule (from + 1) more) =
    ap (λ (x : Option _). joined by x (Some b)) (sym at) ∙ ap (λ (y : Option _). joined by (rule from) y) r in
    both ∙ ap (λ (n : ℕ). reduction by rule from n) (sym (add-one more))

-- ---- for the loop

pub last_item : {T : Type 0} (items : ℕ → Option T → Type 0) (joins : T → T → Option T → Type 0) (more from : ℕ) (value : T)
    → items more (Some value) → from ≡ more → Reduces items joins (more + 1) from 0 (Some value)
last_item items joins more from value told here rule by follows joining =
    follows more (Some value) (omega arith) told ∙ ap rule (sym here)

pub item_before : {T : Type 0} (items : ℕ → Option T → Type 0) (joins : T → T → Option T → Type 0) (count to from next more : ℕ) (a b value : T)
    → Reduces items joins count next more (Some b) → from + 1 ≡ next → from < count → to ≡ from → items from (Some a) → joins a b (Some value)
    → Reduces items joins count to (more + 1) (Some value)
item_before items joins count to from next more a b value so_far here below same told joining rule by follows joined_as =
    joined_as a b (Some value) joining
    ∙ one_before by rule from next more a b (sym (follows from (Some a) below told)) (so_far rule by follows joined_as) here
    ∙ ap (λ (n : ℕ). reduction by rule n (more + 1)) (sym same)

pub item_lacks : {T : Type 0} (items : ℕ → Option T → Type 0) (joins : T → T → Option T → Type 0) (more from : ℕ)
    → from ≤ more → items from None → Reduces items joins (more + 1) 0 more None
item_lacks items joins more from below told rule by follows joining =
    all_from_0 by rule from (more - from) more (omega arith) (lacking_here by rule from (more - from) (sym (follows from None (omega arith) told)))

pub value_lacks : {T : Type 0} (items : ℕ → Option T → Type 0) (joins : T → T → Option T → Type 0) (total from next more : ℕ) (a b : T)
    → Reduces items joins (total + 1) next more (Some b) → from + 1 ≡ next → next + more ≡ total → items from (Some a) → joins a b None
    → Reduces items joins (total + 1) 0 total None
value_lacks items joins total from next more a b so_far here all told joining rule by follows joined_as =
    all_from_0 by rule from (more + 1) total (omega arith)
    (sym (one_before by rule from next more a b (sym (follows from (Some a) (omega arith) told)) (so_far rule by follows joined_as) here)
    ∙ sym (joined_as a b None joining))

pub all_items : {T : Type 0} (items : ℕ → Option T → Type 0) (joins : T → T → Option T → Type 0) (count from more total : ℕ) (value : Option T)
    → Reduces items joins count from more value → from ≡ 0 → more ≡ total → Reduces items joins count 0 total value
all_items items joins count from more total value so_far first all rule by follows joining =
    so_far rule by follows joining ∙ ap (λ (n : ℕ). reduction by rule n more) first ∙ ap (λ (n : ℕ). reduction by rule 0 n) all
