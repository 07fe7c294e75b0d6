-- What a change of a table does to its weight.
use Rattle.std.proofs.Common.{◌≡◌, ℕ, ◌+◌, ◌-◌, ◌<◌, ◌≤◌, Bool, cond, min, List, [], ◌∷◌, Ordering, Option, Some, None, refl, sym, ap, ◌∙◌, subst, ⊎_elim, arith, true, false}
use Rattle.std.specs.Prelude.{IfErr, IfSome, IsSome, Err, Result, is_some, nat_le, unwrap_or}
use Rattle.std.specs.Option.{option_map}
use Rattle.std.specs.Map.{keys_of, lookup, values_of}
use Rattle.std.specs.Ordering.{match_ordering}
use Rattle.std.specs.declared.cmp.Ordering.TheVariants.{Less, Equal, Greater}
use Rattle.std.specs.List.Sorted.{IsStrictlySortedBy}
use Rattle.std.proofs.lemmas.Bool.{cases_lt}
use Rattle.std.proofs.lemmas.Bool.Decides.{nat_tests}
use Rattle.std.proofs.lemmas.Cmp.{nat_list_cmp_total}
use Rattle.std.proofs.lemmas.List.Sums.{sum_by-cons}
use Rattle.std.proofs.lemmas.Map.Entries.{sum_by-insert_entry, sum_by-remove_entry}
use Rattle.apl_arrays.specs.Array.{PlainArray}
use Rattle.apl_arrays.specs.declared.report.Fail.{Fail}
use Rattle.apl_arrays.specs.declared.report.Fail.TheVariants.{WantOfMemory}
use Rattle.apl_workspace.specs.declared.meaning.Meaning.{Meaning}
use Rattle.apl_workspace.specs.declared.meaning.Meaning.TheVariants.{Nothing, Value, Function, Label, Shared}
use Rattle.apl_workspace.specs.Sorted.{sorted}
use Rattle.apl_arrays.specs.Name.{name_order, same_name}
use Rattle.apl_workspace.specs.Limits.{most_weight}
use Rattle.apl_workspace.specs.Meaning.{IsFullFor, NameTable, IsTable, IsWhole, shared_copy, meaning_in, meaning_weight, own_copy_in, table_weight, value_weight, weight_in, with_meaning, without_name}
use Rattle.apl_workspace.proofs.Ascending.{by_order_all, found, found_with, found_without, none_ascend, told_by_look_ups, with_ascends, without_ascends}
use Rattle.apl_workspace.proofs.InOrder.{Entries, looked_up}
use Rattle.apl_workspace.proofs.NameLaw.{own_name, equal_names}

-- one name more, or anew
pub weight_with : (names : NameTable) (name : List ℕ) (meaning : Meaning) → IsStrictlySortedBy name_order (keys_of names) → table_weight (with_meaning names name meaning) + weight_in names name ≡ table_weight names + meaning_weight meaning
weight_with names name meaning sorted =
    ap (λ test. table_weight (with_meaning names name meaning) + unwrap_or (option_map meaning_weight (lookup (test name) names)) 0) by_order_all
    ∙ sum_by-insert_entry meaning_weight nat_list_cmp_total names name meaning sorted

-- one name less
pub weight_without : (names : NameTable) (name : List ℕ) → table_weight (without_name names name) + weight_in names name ≡ table_weight names
weight_without names name = sum_by-remove_entry meaning_weight (same_name name) names

-- what is reckoned before a name is put into a table
pub record IsReckoned (names : NameTable) (name : List ℕ) (meaning : Meaning) (reckoned most : ℕ) : Type 0 where
  pub over : most < reckoned → most < table_weight (with_meaning names name meaning)
  pub fits : reckoned ≤ most → reckoned ≡ table_weight (with_meaning names name meaning)

pub put_is_reckoned : (entries names : NameTable) (name : List ℕ) (meaning : Meaning) (weight before after reckoned most : ℕ) → entries ≡ names → IsTable weight entries → most ≤ most_weight → before ≡ weight_in names name
    → after ≡ min (meaning_weight meaning) (most_weight + 1) → reckoned ≡ weight - before + after → IsReckoned names name meaning reckoned most
put_is_reckoned entries names name meaning weight before after reckoned most e table bound b a r =
    let same : weight ≡ table_weight names = table.counted ∙ ap table_weight e in
    let sorted = ordered entries names e table.ascending in
    let sum = weight_with names name meaning sorted in
    let less = weight_without names name in
    record { over = λ h. omega (arith, same, sum, less, b, a, r, bound, h); fits = λ h. omega (arith, same, sum, less, b, a, r, bound, h) }
  where
    ordered : (entries names : NameTable) → entries ≡ names → IsStrictlySortedBy name_order (keys_of entries) → IsStrictlySortedBy name_order (keys_of names)
    ordered entries names e s = rw (← e) s

-- what is reckoned for a name that is not there
pub new_is_reckoned : (entries names : NameTable) (name : List ℕ) (meaning : Meaning) (weight after reckoned most : ℕ) → entries ≡ names → IsTable weight entries → most ≤ most_weight → meaning_in names name ≡ None
    → after ≡ min (meaning_weight meaning) (most_weight + 1) → reckoned ≡ weight + after → IsReckoned names name meaning reckoned most
new_is_reckoned entries names name meaning weight after reckoned most e table bound none a r =
    put_is_reckoned entries names name meaning weight 0 after reckoned most e table bound (sym (ap (λ (o : Option Meaning). unwrap_or (option_map meaning_weight o) 0) none)) a (omega (arith, r))

-- a reckoned weight over the limit, for a table that keeps within it
pub never_over : (names : NameTable) (name : List ℕ) (meaning : Meaning) (reckoned most : ℕ) → IsReckoned names name meaning reckoned most → most < reckoned → table_weight (with_meaning names name meaning) ≤ most → false ≡ true
never_over names name meaning reckoned most h over fits = absurd (omega (arith, h.over over, fits))

-- what holds of each thing that is found holds of it beside a new one
whole_by : (b : Bool) (name other : List ℕ) (meaning : Meaning) (was : Option Meaning) → same_name name other ≡ b → IsWhole name meaning → IfSome was (IsWhole other) → IfSome (cond b (Some meaning) was) (IsWhole other)
whole_by true name other meaning was p whole before = subst (λ (n : List ℕ). IsWhole n meaning) (equal_names name other p) whole
whole_by false name other meaning was p whole before = before

whole_with : (names : NameTable) (name : List ℕ) (meaning : Meaning) → IsWhole name meaning → ((other : List ℕ) → IfSome (meaning_in names other) (IsWhole other)) → (other : List ℕ) → IfSome (meaning_in (with_meaning names name meaning) other) (IsWhole other)
whole_with names name meaning whole all other =
    subst (λ (o : Option Meaning). IfSome o (IsWhole other)) (sym (found_with names name meaning other)) (whole_by (same_name name other) name other meaning (meaning_in names other) refl whole (all other))

less_by : (b : Bool) (other : List ℕ) (was : Option Meaning) → IfSome was (IsWhole other) → IfSome (cond b None was) (IsWhole other)
less_by true other was before = tt
less_by false other was before = before

whole_without : (names : NameTable) (name : List ℕ) → IsStrictlySortedBy name_order (keys_of names) → ((other : List ℕ) → IfSome (meaning_in names other) (IsWhole other)) → (other : List ℕ) → IfSome (meaning_in (without_name names name) other) (IsWhole other)
whole_without names name ascend all other =
    subst (λ (o : Option Meaning). IfSome o (IsWhole other)) (sym (found_without names name other ascend)) (less_by (same_name name other) other (meaning_in names other) (all other))

-- the table with a name is one
pub is_table_with : (entries names made : NameTable) (name : List ℕ) (meaning : Meaning) (weight reckoned most : ℕ) → entries ≡ names → IsTable weight entries → IsWhole name meaning → IsReckoned names name meaning reckoned most → reckoned ≤ most → most ≤ most_weight
    → made ≡ with_meaning entries name meaning → IsTable reckoned made
is_table_with entries names made name meaning weight reckoned most e table whole h fits bound is =
    let counted : reckoned ≡ table_weight made = h.fits fits ∙ sym (ap table_weight (is ∙ ap (λ (n : NameTable). with_meaning n name meaning) e)) in
    record {
      counted = counted;
      within = omega (arith, fits, bound);
      ascending = subst (λ (n : NameTable). IsStrictlySortedBy name_order (keys_of n)) (sym is) (with_ascends entries name meaning table.ascending);
      whole = subst (λ (n : NameTable). (other : List ℕ) → IfSome (meaning_in n other) (IsWhole other)) (sym is) (whole_with entries name meaning whole table.whole);
    }

-- the table without a name is one
pub is_table_without : (entries names made : NameTable) (name : List ℕ) (weight before : ℕ) → entries ≡ names → IsTable weight entries → before ≡ weight_in names name → made ≡ without_name entries name → IsTable (weight - before) made
is_table_without entries names made name weight before e table b is =
    let less = weight_without names name in
    let same : weight ≡ table_weight names = table.counted ∙ ap table_weight e in
    let left : table_weight made ≡ table_weight (without_name names name) = ap table_weight (is ∙ ap (λ (n : NameTable). without_name n name) e) in
    record {
      counted = omega (arith, less, same, left, b);
      within = omega (arith, table.within);
      ascending = subst (λ (n : NameTable). IsStrictlySortedBy name_order (keys_of n)) (sym is) (without_ascends entries name table.ascending);
      whole = subst (λ (n : NameTable). (other : List ℕ) → IfSome (meaning_in n other) (IsWhole other)) (sym is) (whole_without entries name table.ascending table.whole);
    }

-- no entries are a table
pub is_empty_table : (entries : Entries) → entries ≡ [] → IsTable 0 (sorted entries)
is_empty_table entries is = subst (IsTable 0) (sym (ap sorted is)) (record { counted = refl; within = omega arith; ascending = none_ascend; whole = λ other. tt })

-- a table weighs no more without a name
pub erasing_is_lighter : (names : NameTable) (name : List ℕ) → table_weight (without_name names name) ≤ table_weight names
erasing_is_lighter names name = omega (arith, weight_without names name)

-- what a name weighs that was looked up
pub record Weighs (names : NameTable) (name : List ℕ) (weight : ℕ) : Type 0 where
  pub value : weight ≡ weight_in names name
  pub within : weight ≤ table_weight names

pub weighs : (entries : Entries) (names : NameTable) (name : List ℕ) (meaning : Meaning) (whole weight : ℕ) → sorted entries ≡ names → IsTable whole (sorted entries) → Some meaning ≡ found entries name
    → weight ≡ min (meaning_weight meaning) (most_weight + 1) → Weighs names name weight
weighs entries names name meaning whole weight e table is m =
    let there : Some meaning ≡ meaning_in names name = is ∙ looked_up entries name ∙ ap (λ (n : NameTable). meaning_in n name) e in
    let own : meaning_weight meaning ≡ weight_in names name = ap (λ (o : Option Meaning). unwrap_or (option_map meaning_weight o) 0) there in
    let same : whole ≡ table_weight names = table.counted ∙ ap table_weight e in
    let less = weight_without names name in
    record { value = omega (arith, own, same, less, m, table.within); within = omega (arith, own, same, less, m, table.within) }

-- what is reckoned for a name that was looked up
pub anew_is_reckoned : (entries : Entries) (names : NameTable) (name : List ℕ) (there meaning : Meaning) (weight before after reckoned most : ℕ) → sorted entries ≡ names → IsTable weight (sorted entries) → most ≤ most_weight
    → Some there ≡ found entries name → before ≡ min (meaning_weight there) (most_weight + 1) → after ≡ min (meaning_weight meaning) (most_weight + 1) → reckoned ≡ weight - before + after → IsReckoned names name meaning reckoned most
anew_is_reckoned entries names name there meaning weight before after reckoned most e table bound is b a r =
    put_is_reckoned (sorted entries) names name meaning weight before after reckoned most e table bound (weighs entries names name there weight before e table is b).value a r

-- the same keeps within the limit, where the table does
pub anew_is_within : (entries : Entries) (names : NameTable) (name : List ℕ) (there meaning : Meaning) (weight before after reckoned : ℕ) → sorted entries ≡ names → IsTable weight (sorted entries) → Some there ≡ found entries name
    → before ≡ min (meaning_weight there) (most_weight + 1) → after ≡ min (meaning_weight meaning) (most_weight + 1) → reckoned ≡ weight - before + after → table_weight (with_meaning names name meaning) ≤ most_weight → reckoned ≤ most_weight
anew_is_within entries names name there meaning weight before after reckoned e table is b a r fits =
    let own = (weighs entries names name there weight before e table is b).value in
    let same : weight ≡ table_weight names = table.counted ∙ ap table_weight e in
    let sum = weight_with names name meaning (subst (λ (n : NameTable). IsStrictlySortedBy name_order (keys_of n)) e table.ascending) in
    let less = weight_without names name in
    omega (arith, same, sum, less, own, a, r, fits)

-- a table weighs at most as much more as what is put in
pub at_most_heavier : (names : NameTable) (name : List ℕ) (meaning : Meaning) → table_weight (with_meaning names name meaning) ≤ table_weight names + meaning_weight meaning
at_most_heavier [] name meaning = omega (arith, sum_by-cons meaning_weight meaning [])
at_most_heavier (e ∷ es) name meaning = by (name_order name e.0) (at_most_heavier es name meaning)
  where
    by : (r : Ordering) → table_weight (with_meaning es name meaning) ≤ table_weight es + meaning_weight meaning
        → table_weight (match_ordering r ((name, meaning) ∷ e ∷ es) ((e.0, meaning) ∷ es) (e ∷ with_meaning es name meaning)) ≤ table_weight (e ∷ es) + meaning_weight meaning
    by Less later = omega (arith, sum_by-cons meaning_weight meaning (values_of (e ∷ es)))
    by Equal later = omega (arith, sum_by-cons meaning_weight meaning (values_of es), sum_by-cons meaning_weight e.1 (values_of es))
    by Greater later = omega (arith, later, sum_by-cons meaning_weight e.1 (values_of es), sum_by-cons meaning_weight e.1 (values_of (with_meaning es name meaning)))

-- ---- a name that stands for one thing after another

twice_by : (b : Bool) (second first : Meaning) (was : Option Meaning) → cond b (Some second) (cond b (Some first) was) ≡ cond b (Some second) was
twice_by true second first was = refl
twice_by false second first was = refl

pub put_twice : (names : NameTable) (name : List ℕ) (first second : Meaning) → IsStrictlySortedBy name_order (keys_of names) → with_meaning (with_meaning names name first) name second ≡ with_meaning names name second
put_twice names name first second s =
    let once = with_ascends names name first s in
    told_by_look_ups (with_meaning (with_meaning names name first) name second) (with_meaning names name second) (with_ascends (with_meaning names name first) name second once) (with_ascends names name second s)
    (λ other.
    found_with (with_meaning names name first) name second other ∙ ap (λ (o : Option Meaning). cond (same_name name other) (Some second) o) (found_with names name first other)
    ∙ twice_by (same_name name other) second first (meaning_in names other) ∙ sym (found_with names name second other))

gone_by : (b : Bool) (first : Meaning) (was : Option Meaning) → cond b None (cond b (Some first) was) ≡ cond b None was
gone_by true first was = refl
gone_by false first was = refl

pub put_and_taken : (names : NameTable) (name : List ℕ) (first : Meaning) → IsStrictlySortedBy name_order (keys_of names) → without_name (with_meaning names name first) name ≡ without_name names name
put_and_taken names name first s =
    let once = with_ascends names name first s in
    told_by_look_ups (without_name (with_meaning names name first) name) (without_name names name) (without_ascends (with_meaning names name first) name once) (without_ascends names name s)
    (λ other.
    found_without (with_meaning names name first) name other once ∙ ap (λ (o : Option Meaning). cond (same_name name other) None o) (found_with names name first other)
    ∙ gone_by (same_name name other) first (meaning_in names other) ∙ sym (found_without names name other s))

-- what is left of a shared name that keeps its own copy
pub record KeepsCopy (names : NameTable) (name : List ℕ) : Type 0 where
  pub bounded : table_weight names ≤ most_weight
  pub emptied : table_weight (with_meaning names name Nothing) ≤ table_weight names
  pub still_there : IsSome (meaning_in (with_meaning names name Nothing) name)
  pub taken : without_name (with_meaning names name Nothing) name ≡ without_name names name
  pub lighter : table_weight (without_name names name) ≤ table_weight names
  pub put : (copy : PlainArray) → with_meaning (with_meaning names name Nothing) name (Value copy) ≡ with_meaning names name (Value copy)
  pub as_heavy : (copy : PlainArray) → own_copy_in names name ≡ Some copy → table_weight (with_meaning names name (Value copy)) ≤ table_weight names

copy_weighs : (o : Option Meaning) (copy : PlainArray) → shared_copy (unwrap_or o Nothing) ≡ Some copy → unwrap_or (option_map meaning_weight o) 0 ≡ value_weight copy
copy_weighs None copy e = absurd cc
copy_weighs (Some Nothing) copy e = absurd cc
copy_weighs (Some (Value value)) copy e = absurd cc
copy_weighs (Some (Function function)) copy e = absurd cc
copy_weighs (Some (Label line)) copy e = absurd cc
copy_weighs (Some (Shared None)) copy e = absurd cc
copy_weighs (Some (Shared (Some value))) copy e = ap (λ (o : Option PlainArray). unwrap_or (option_map value_weight o) 0) e

pub keeps_copy : (entries names : NameTable) (name : List ℕ) (weight : ℕ) → entries ≡ names → IsTable weight entries → KeepsCopy names name
keeps_copy entries names name weight e table =
    let s = subst (λ (n : NameTable). IsStrictlySortedBy name_order (keys_of n)) e table.ascending in
    let same : weight ≡ table_weight names = table.counted ∙ ap table_weight e in
    record {
      bounded = omega (arith, same, table.within);
      emptied = omega (arith, at_most_heavier names name Nothing);
      still_there = ap is_some (found_with names name Nothing name ∙ ap (λ b. cond b (Some Nothing) (meaning_in names name)) (own_name name));
      taken = put_and_taken names name Nothing s;
      lighter = erasing_is_lighter names name;
      put = λ copy. put_twice names name Nothing (Value copy) s;
      as_heavy = λ copy own. omega (arith, weight_with names name (Value copy) s, copy_weighs (meaning_in names name) copy own);
    }

-- ---- whether a table keeps within a weight

over_all : (a b : ℕ) → b < a → nat_le a b ≡ false
over_all a b e = grind (arith, nat_tests)

-- two numbers that are over a bound alike
pub over_alike : (a b m : ℕ) → (m < a → m < b) → (a ≤ m → a ≡ b) → nat_le a m ≡ nat_le b m
over_alike a b m over fits = ⊎_elim (λ lt. over_all a m lt ∙ sym (over_all b m (over lt))) (λ le. ap (λ (n : ℕ). nat_le n m) (fits le)) (cases_lt m a)

-- the weight that is reckoned tells whether the table fits
pub reckoned_fits : (names : NameTable) (name : List ℕ) (meaning : Meaning) (reckoned most : ℕ) → IsReckoned names name meaning reckoned most → nat_le reckoned most ≡ nat_le (table_weight (with_meaning names name meaning)) most
reckoned_fits names name meaning reckoned most h = over_alike reckoned (table_weight (with_meaning names name meaning)) most h.over h.fits

-- where memory ran out, the table with the name would keep within the limit
pub wanted_within : {T : Type 0} (r : Result T Fail) (why : Fail) (names : NameTable) (most : ℕ) → r ≡ Err why → why ≡ WantOfMemory → table_weight names ≤ most → IfErr r (λ fail. IsFullFor most names fail)
wanted_within {T} r why names most is same fits =
    subst (λ (x : Result T Fail). IfErr x (λ fail. IsFullFor most names fail)) (sym is) (subst (λ (fail : Fail). IsFullFor most names fail) (sym same) fits)
