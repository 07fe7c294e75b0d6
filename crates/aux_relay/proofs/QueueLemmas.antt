-- Queues that are looked up and the number of their texts, after a change of one.
use Rattle.std.proofs.Common.{◌≡◌, ◌∙◌, ℕ, ◌+◌, ◌≤◌, Bool, true, false, cond, ◌&&◌, eqb, ltb, List, [], ◌∷◌, ◌++◌, length, take, Option, Some, None, refl, sym, ap, ap₂, subst, arith, length-append}
use Rattle.std.specs.BTreeMap.{insert_entry, is_at}
use Rattle.std.specs.List.{All, sum_by}
use Rattle.std.specs.Map.{lookup, remove_entry, set_value, values_of}
use Rattle.std.specs.Option.{option_map, unwrap_or}
use Rattle.std.specs.Ordering.{is_eq, match_ordering, nat_cmp, ordering_then}
use Rattle.std.specs.declared.cmp.Ordering.{Ordering}
use Rattle.std.specs.declared.cmp.Ordering.TheVariants.{Less, Equal, Greater}
use Rattle.std.proofs.lemmas.Bool.{and_parts, eqb-true, ltb-false}
use Rattle.std.proofs.lemmas.Bool.Decides.{nat_tests}
use Rattle.std.proofs.lemmas.List.Elements.{All-head, All-tail}
use Rattle.std.proofs.lemmas.List.Sums.{sum_by-cons}
use Rattle.std.proofs.lemmas.Map.Entries.{sum_by-remove_entry, sum_by-set_value}
use Rattle.apl_arrays.specs.Limits.{most_elements}
use Rattle.apl_arrays.specs.List.{first_of, others_of}
use Rattle.aux_relay.specs.Changes.{queue_order}
use Rattle.aux_relay.specs.Queues.{Queues, queue_at, same_queue, text_count}

-- two keys tie in their order where they are the same
both_tie : (first second : Ordering) → is_eq (ordering_then first second) ≡ (is_eq first && is_eq second)
both_tie Less second = refl
both_tie Equal second = refl
both_tie Greater second = refl

numbers_tie : (one other : ℕ) → is_eq (nat_cmp one other) ≡ eqb one other
numbers_tie one other = grind (arith, nat_tests)

pub keys_tie : (one other : ℕ × ℕ) → is_at (queue_order one) other ≡ same_queue one other
keys_tie one other =
    both_tie (nat_cmp one.0 other.0) (nat_cmp one.1 other.1)
    ∙ ap₂ (λ (b c : Bool). b && c) (numbers_tie one.0 other.0) (numbers_tie one.1 other.1)

pub queue_is : (one other : ℕ × ℕ) → same_queue one other ≡ true → one ≡ other
queue_is one other same =
    let parts = and_parts (eqb one.0 other.0) (eqb one.1 other.1) same in
    ap₂ (λ (to from : ℕ). (to, from)) (eqb-true one.0 other.0 parts.0) (eqb-true one.1 other.1 parts.1)

-- tests that agree find the same
lookup_alike : {X : Type 0} (test other : ℕ × ℕ → Bool) → ((key : ℕ × ℕ) → test key ≡ other key) → (entries : List ((ℕ × ℕ) × X)) → lookup test entries ≡ lookup other entries
lookup_alike test other alike [] = refl
lookup_alike {X} test other alike (entry ∷ entries) =
    ap₂ (λ (b : Bool) (rest : Option X). cond b (Some entry.1) rest) (alike entry.0) (lookup_alike test other alike entries)

pub found_at : (key : ℕ × ℕ) (queues : Queues) → lookup (is_at (queue_order key)) queues ≡ lookup (same_queue key) queues
found_at key queues = lookup_alike (is_at (queue_order key)) (same_queue key) (keys_tie key) queues

-- the queue that a look-up finds
pub queue_found : (key : ℕ × ℕ) (queues : Queues) (found : Option (List (List ℕ))) → lookup (is_at (queue_order key)) queues ≡ found → queue_at queues key ≡ unwrap_or found []
queue_found key queues found is = ap (λ (queue : Option (List (List ℕ))). unwrap_or queue []) (sym (found_at key queues) ∙ is)

-- one queue becomes another, and all others are as before
pub becomes : (change : List (List ℕ) → List (List ℕ)) (key : ℕ × ℕ) (old new : Queues) (before after : List (List ℕ)) → queue_at old key ≡ before → after ≡ change before
    → ((other : ℕ × ℕ) → lookup (is_at (queue_order other)) new ≡ cond (is_at (queue_order key) other) (Some after) (lookup (is_at (queue_order other)) old))
    → (other : ℕ × ℕ) → queue_at new other ≡ cond (same_queue key other) (change (queue_at old other)) (queue_at old other)
becomes change key old new before after there is updates other =
    ap (λ (queue : Option (List (List ℕ))). unwrap_or queue []) (sym (found_at other new) ∙ updates other ∙ ap₂ (λ (b : Bool) (rest : Option (List (List ℕ))). cond b (Some after) rest) (keys_tie key other) (found_at other old))
    ∙ by (same_queue key other) refl
  where
    by : (b : Bool) → same_queue key other ≡ b → unwrap_or (cond b (Some after) (lookup (same_queue other) old)) [] ≡ cond b (change (queue_at old other)) (queue_at old other)
    by true same = is ∙ ap change (sym there ∙ ap (queue_at old) (queue_is key other same))
    by false apart = refl

-- a queue without a text goes, and all texts are as before
pub empty_goes : (key : ℕ × ℕ) (old new : Queues) → queue_at old key ≡ []
    → ((other : ℕ × ℕ) → lookup (is_at (queue_order other)) new ≡ cond (is_at (queue_order key) other) None (lookup (is_at (queue_order other)) old))
    → (other : ℕ × ℕ) → queue_at new other ≡ queue_at old other
empty_goes key old new empty updates other =
    ap (λ (queue : Option (List (List ℕ))). unwrap_or queue []) (sym (found_at other new) ∙ updates other ∙ ap₂ (λ (b : Bool) (rest : Option (List (List ℕ))). cond b None rest) (keys_tie key other) (found_at other old))
    ∙ by (same_queue key other) refl
  where
    by : (b : Bool) → same_queue key other ≡ b → unwrap_or (cond b None (lookup (same_queue other) old)) [] ≡ queue_at old other
    by true same = sym empty ∙ ap (queue_at old) (queue_is key other same)
    by false apart = refl

-- how many texts there are after a change of one queue
pub count_pushed : (test : ℕ × ℕ → Bool) (old new : Queues) (before after : List (List ℕ)) (text : List ℕ) → lookup test old ≡ Some before → after ≡ before ++ text ∷ [] → new ≡ set_value test old after → text_count new ≡ text_count old + 1
count_pushed test old new before after text there more is =
    let sums = sum_by-set_value (λ (texts : List (List ℕ)). length texts) test old before after there in
    let one : length after ≡ length before + 1 = ap length more ∙ length-append before (text ∷ []) in
    let whole : text_count (set_value test old after) ≡ text_count old + 1 = omega (arith, sums, one) in
    ap text_count is ∙ whole

first_and_others : (texts : List (List ℕ)) → length texts ≡ length (others_of texts) + length (take 1 texts)
first_and_others [] = refl
first_and_others (text ∷ texts) = omega arith

pub count_popped : (test : ℕ × ℕ → Bool) (old new : Queues) (before after : List (List ℕ)) → lookup test old ≡ Some before → after ≡ others_of before → new ≡ set_value test old after → text_count new + length (take 1 before) ≡ text_count old
count_popped test old new before after there fewer is =
    let sums = sum_by-set_value (λ (texts : List (List ℕ)). length texts) test old before after there in
    let one : length before ≡ length after + length (take 1 before) = first_and_others before ∙ ap (λ (texts : List (List ℕ)). length texts + length (take 1 before)) (sym fewer) in
    let whole : text_count (set_value test old after) + length (take 1 before) ≡ text_count old = omega (arith, sums, one) in
    ap (λ (queues : Queues). text_count queues + length (take 1 before)) is ∙ whole

pub count_inserted : (key : ℕ × ℕ) (old : Queues) (queue : List (List ℕ)) → lookup (is_at (queue_order key)) old ≡ None → text_count (insert_entry queue_order old key queue) ≡ text_count old + length queue
count_inserted key [] queue none = refl
count_inserted key (entry ∷ old) queue none = by (queue_order key entry.0) none (λ rest. count_inserted key old queue rest)
  where
    by : (order : Ordering) → cond (is_eq order) (Some entry.1) (lookup (is_at (queue_order key)) old) ≡ None
        → (lookup (is_at (queue_order key)) old ≡ None → text_count (insert_entry queue_order old key queue) ≡ text_count old + length queue)
        → text_count (match_ordering order ((key, queue) ∷ entry ∷ old) ((entry.0, queue) ∷ old) (entry ∷ insert_entry queue_order old key queue)) ≡ text_count (entry ∷ old) + length queue
    by Less none rest = omega (arith, sum_by-cons (λ (texts : List (List ℕ)). length texts) queue (values_of (entry ∷ old)))
    by Equal none rest = absurd (cc)
    by Greater none rest =
        omega (arith, rest none, sum_by-cons (λ (texts : List (List ℕ)). length texts) entry.1 (values_of old), sum_by-cons (λ (texts : List (List ℕ)). length texts) entry.1 (values_of (insert_entry queue_order old key queue)))

pub count_removed : (test : ℕ × ℕ → Bool) (old new : Queues) (queue : List (List ℕ)) → lookup test old ≡ Some queue → length queue ≡ 0 → new ≡ remove_entry test old → text_count new ≡ text_count old
count_removed test old new queue there empty is =
    let sums = sum_by-remove_entry (λ (texts : List (List ℕ)). length texts) test old in
    let none : unwrap_or (option_map (λ (texts : List (List ℕ)). length texts) (lookup test old)) 0 ≡ 0 = ap (λ (found : Option (List (List ℕ))). unwrap_or (option_map (λ (texts : List (List ℕ)). length texts) found) 0) there ∙ empty in
    let whole : text_count (remove_entry test old) ≡ text_count old = omega (arith, sums, none) in
    ap text_count is ∙ whole

-- a queue that is told to have no text has none
pub no_texts : (texts : List (List ℕ)) → ltb 0 (length texts) ≡ false → texts ≡ []
no_texts [] none = refl
no_texts (text ∷ texts) none = absurd (omega (arith, ltb-false 0 (length (text ∷ texts)) none))

-- the first of texts
pub one_first : (texts : List (List ℕ)) (text : List ℕ) → Some text ≡ first_of texts → length (take 1 texts) ≡ 1
one_first [] text first = absurd (cc)
one_first (next ∷ texts) text first = refl

pub first_is_short : (texts : List (List ℕ)) (text : List ℕ) (most : ℕ) → All (λ t. length t ≤ most) texts → Some text ≡ first_of texts → length text ≤ most
first_is_short [] text most short first = absurd (cc)
first_is_short (next ∷ texts) text most short first =
    let same : text ≡ next = cc in
    omega (arith, ap length same, All-head (λ (t : List ℕ). length t ≤ most) next texts short)

-- texts without the first are short where all are
pub others_are_short : (texts : List (List ℕ)) (most : ℕ) → All (λ t. length t ≤ most) texts → All (λ t. length t ≤ most) (others_of texts)
others_are_short [] most short = short
others_are_short (text ∷ texts) most short = All-tail (λ (t : List ℕ). length t ≤ most) text texts short

pub dropped_are_short : (key : ℕ × ℕ) (old new : Queues) → ((queue : ℕ × ℕ) → queue_at new queue ≡ cond (same_queue key queue) (others_of (queue_at old queue)) (queue_at old queue))
    → ((queue : ℕ × ℕ) → All (λ text. length text ≤ most_elements) (queue_at old queue)) → (queue : ℕ × ℕ) → All (λ text. length text ≤ most_elements) (queue_at new queue)
dropped_are_short key old new drops short queue =
    subst (All (λ (text : List ℕ). length text ≤ most_elements)) (sym (drops queue)) (by (same_queue key queue))
  where
    by : (b : Bool) → All (λ text. length text ≤ most_elements) (cond b (others_of (queue_at old queue)) (queue_at old queue))
    by true = others_are_short (queue_at old queue) most_elements (short queue)
    by false = short queue
