-- Entries place by place.
use Rattle.std.proofs.Common.{◌≡◌, ℕ, zero, suc, ◌+◌, ◌<◌, Bool, true, false, cond, List, [], ◌∷◌, ◌++◌, Some, length, drop, take, filter, refl, sym, ap, ◌∙◌, arith}
use Rattle.std.specs.Prelude.{slice_get, if◌then◌else◌}
use Rattle.std.specs.Map.{keys_of}
use Rattle.apl_workspace.specs.declared.meaning.Meaning.{Meaning}
use Rattle.apl_workspace.proofs.InOrder.{Entries}

-- a list cut at a place
pub record IsCut {A : Type 0} (items : List A) (at : ℕ) : Type 0 where
  pub item : A
  pub here : slice_get items at ≡ Some item
  pub behind : drop at items ≡ item ∷ drop (at + 1) items
  pub before : take (at + 1) items ≡ take at items ++ item ∷ []

pub cut : {A : Type 0} (items : List A) (at : ℕ) → at < length items → IsCut items at
cut [] at lt = absurd (omega arith)
cut (x ∷ xs) zero lt = record { item = x; here = refl; behind = refl; before = refl }
cut (x ∷ xs) (suc at) lt =
    let later = cut xs at (omega arith) in
    let next : suc at + 1 ≡ suc (at + 1) = omega arith in
    record {
      item = later.item;
      here = later.here;
      behind = later.behind ∙ ap (λ (k : ℕ). later.item ∷ drop k (x ∷ xs)) (sym next);
      before = ap (λ (k : ℕ). take k (x ∷ xs)) next ∙ ap (λ rest. x ∷ rest) later.before;
    }

filter_push : {A : Type 0} (test : A → Bool) (front : List A) (last : A) → filter test (front ++ last ∷ []) ≡ cond (test last) (filter test front ++ last ∷ []) (filter test front)
filter_push test [] last = refl
filter_push test (x ∷ xs) last = by (test x) (test last) (filter_push test xs last)
  where
    by : (b d : Bool) → filter test (xs ++ last ∷ []) ≡ cond d (filter test xs ++ last ∷ []) (filter test xs)
        → cond b (x ∷ filter test (xs ++ last ∷ [])) (filter test (xs ++ last ∷ [])) ≡ cond d (cond b (x ∷ filter test xs) (filter test xs) ++ last ∷ []) (cond b (x ∷ filter test xs) (filter test xs))
    by true true later = ap (λ rest. x ∷ rest) later
    by true false later = ap (λ rest. x ∷ rest) later
    by false true later = later
    by false false later = later

keys_push : (front : Entries) (last : List ℕ × Meaning) → keys_of (front ++ last ∷ []) ≡ keys_of front ++ last.0 ∷ []
keys_push [] last = refl
keys_push (x ∷ xs) last = ap (λ rest. x.0 ∷ rest) (keys_push xs last)

pushed_by : (b : Bool) (front : Entries) (item : List ℕ × Meaning) (old : List (List ℕ)) → old ≡ keys_of front → cond b (old ++ item.0 ∷ []) old ≡ keys_of (cond b (front ++ item ∷ []) front)
pushed_by true front item old e = ap (λ names. names ++ item.0 ∷ []) e ∙ sym (keys_push front item)
pushed_by false front item old e = e

-- an entry more was looked at
pub collected_on : (test : Meaning → Bool) (entries : Entries) (old new : List (List ℕ)) (at : ℕ) → at < length entries
    → ((entry : List ℕ × Meaning) → slice_get entries at ≡ Some entry → new ≡ (if test entry.1 then old ++ entry.0 ∷ [] else old))
    → old ≡ keys_of (filter (λ entry. test entry.1) (take at entries)) → new ≡ keys_of (filter (λ entry. test entry.1) (take (at + 1) entries))
collected_on test entries old new at lt push so =
    let here = cut entries at lt in
    let asked : List ℕ × Meaning → Bool = λ entry. test entry.1 in
    push here.item here.here ∙ pushed_by (test here.item.1) (filter asked (take at entries)) here.item old so ∙ sym (ap keys_of (ap (filter asked) here.before ∙ filter_push asked (take at entries) here.item))
