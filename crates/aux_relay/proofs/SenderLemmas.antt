-- The senders of a receiver: they ascend, each has a text, and they are no more than texts are held.
use Rattle.std.proofs.Common.{◌≡◌, ◌∙◌, ℕ, ◌+◌, ◌<◌, ◌≤◌, ℤ, pos, Bool, true, false, not, cond, ◌&&◌, ◌||◌, eqb, ltb, List, [], ◌∷◌, length, map, Option, Some, None, refl, sym, ap, ap₂, subst, arith}
use Rattle.std.specs.BTreeMap.{is_at}
use Rattle.std.specs.BTreeMap.Range.{entries_between, range_contains}
use Rattle.std.specs.Cmp.{nat_cmp_is, nat_eq_equiv}
use Rattle.std.specs.List.{AllByRecursion, filter, list_any}
use Rattle.std.specs.List.Sorted.{IsStrictlyIncreasing, IsStrictlySortedBy}
use Rattle.std.specs.Map.{keys_of, lookup, values_of}
use Rattle.std.specs.Option.{unwrap_or}
use Rattle.std.specs.Ordering.{is_eq, nat_cmp, ordering_then}
use Rattle.std.specs.Prelude.{Contains}
use Rattle.std.specs.declared.cmp.Ordering.{Ordering}
use Rattle.std.specs.declared.cmp.Ordering.TheVariants.{Less, Equal}
use Rattle.std.specs.declared.ops.Bound.TheVariants.{Excluded, Included}
use Rattle.std.proofs.lemmas.Bool.{eqb-true, lt-ltb, ltb-true}
use Rattle.std.proofs.lemmas.Bool.Decides.{nat_tests}
use Rattle.std.proofs.lemmas.List.Sums.{sum_by-cons}
use Rattle.std.proofs.lemmas.Map.{NonePasses, lookup-none}
use Rattle.std.proofs.lemmas.Map.Keys.{IsStrictlyIncreasing-from_sorted}
use Rattle.std.proofs.lemmas.Map.Views.{Contains-from_any, list_any-from_Contains}
use Rattle.aux_relay.specs.Changes.{queue_order, senders_in}
use Rattle.aux_relay.specs.Queues.{Queues, queue_at, same_queue, text_count}
use Rattle.aux_relay.proofs.QueueLemmas.{keys_tie, queue_is}

-- a queue is a receiver's and holds a text
abbrev is_waiting : ℕ → (ℕ × ℕ) × List (List ℕ) → Bool
is_waiting to queue = eqb to queue.0.0 && ltb 0 (length queue.1)

-- the numbers of the senders
abbrev pub sender_numbers : ℕ → Queues → List ℕ
sender_numbers to queues = map (λ queue. queue.0.1) (filter (is_waiting to) queues)

pub senders_are_numbers : (to : ℕ) (queues : Queues) → senders_in to queues ≡ map pos (sender_numbers to queues)
senders_are_numbers to [] = refl
senders_are_numbers to (queue ∷ queues) = by (is_waiting to queue) (senders_are_numbers to queues)
  where
    by : (b : Bool) → senders_in to queues ≡ map pos (sender_numbers to queues)
        → map (λ (q : (ℕ × ℕ) × List (List ℕ)). pos q.0.1) (cond b (queue ∷ filter (is_waiting to) queues) (filter (is_waiting to) queues)) ≡ map pos (map (λ (q : (ℕ × ℕ) × List (List ℕ)). q.0.1) (cond b (queue ∷ filter (is_waiting to) queues) (filter (is_waiting to) queues)))
    by true rest = ap (λ numbers. pos queue.0.1 ∷ numbers) rest
    by false rest = rest

-- of one receiver the senders alone are compared
one_receiver : (to other from next : ℕ) → eqb to other ≡ true → queue_order (to, from) (other, next) ≡ Less → nat_cmp from next ≡ Less
one_receiver to other from next same below =
    let equal : nat_cmp to other ≡ Equal = sym (nat_cmp_is to other Equal (eqb-true to other same)) in
    ap (λ (order : Ordering). ordering_then order (nat_cmp from next)) (sym equal) ∙ below

-- what is below all keys of a receiver is below its senders
below_senders : (to from : ℕ) (queues : Queues) → AllByRecursion (λ key. queue_order (to, from) key ≡ Less) (keys_of queues) → AllByRecursion (λ next. nat_cmp from next ≡ Less) (sender_numbers to queues)
below_senders to from [] all = tt
below_senders to from (queue ∷ queues) all = by (eqb to queue.0.0) refl (ltb 0 (length queue.1)) (below_senders to from queues all.1)
  where
    by : (b : Bool) → eqb to queue.0.0 ≡ b → (c : Bool) → AllByRecursion (λ next. nat_cmp from next ≡ Less) (sender_numbers to queues)
        → AllByRecursion (λ next. nat_cmp from next ≡ Less) (map (λ (q : (ℕ × ℕ) × List (List ℕ)). q.0.1) (cond (b && c) (queue ∷ filter (is_waiting to) queues) (filter (is_waiting to) queues)))
    by false apart c rest = rest
    by true same false rest = rest
    by true same true rest = (one_receiver to queue.0.0 from queue.0.1 same all.0, rest)

above_own : (to receiver from : ℕ) (queues : Queues) → eqb to receiver ≡ true → AllByRecursion (λ key. queue_order (receiver, from) key ≡ Less) (keys_of queues) → AllByRecursion (λ next. nat_cmp from next ≡ Less) (sender_numbers to queues)
above_own to receiver from queues same all =
    below_senders to from queues (subst (λ (r : ℕ). AllByRecursion (λ key. queue_order (r, from) key ≡ Less) (keys_of queues)) (sym (eqb-true to receiver same)) all)

sorted_choice : (b c : Bool) (queue : (ℕ × ℕ) × List (List ℕ)) (rest : Queues) → (b ≡ true → AllByRecursion (λ next. nat_cmp queue.0.1 next ≡ Less) (map (λ q. q.0.1) rest)) → IsStrictlySortedBy nat_cmp (map (λ q. q.0.1) rest)
    → IsStrictlySortedBy nat_cmp (map (λ q. q.0.1) (cond (b && c) (queue ∷ rest) rest))
unfolding IsStrictlySortedBy
sorted_choice false c queue rest above sorted = sorted
sorted_choice true false queue rest above sorted = sorted
sorted_choice true true queue rest above sorted = (above refl, sorted)

pub senders_sorted : (to : ℕ) (queues : Queues) → IsStrictlySortedBy queue_order (keys_of queues) → IsStrictlySortedBy nat_cmp (sender_numbers to queues)
unfolding IsStrictlySortedBy
senders_sorted to [] sorted = tt
senders_sorted to (queue ∷ queues) sorted =
    sorted_choice (eqb to queue.0.0) (ltb 0 (length queue.1)) queue (filter (is_waiting to) queues) (λ same. above_own to queue.0.0 queue.0.1 queues same sorted.0) (senders_sorted to queues sorted.1)

pub senders_ascend : (to : ℕ) (queues : Queues) → IsStrictlySortedBy queue_order (keys_of queues) → IsStrictlyIncreasing (sender_numbers to queues)
senders_ascend to queues sorted = IsStrictlyIncreasing-from_sorted (sender_numbers to queues) (senders_sorted to queues sorted)

-- no queue behind the first is the same
none_behind : (key : ℕ × ℕ) (queues : Queues) → AllByRecursion (λ next. queue_order key next ≡ Less) (keys_of queues) → NonePasses (same_queue key) queues
none_behind key [] all = tt
none_behind key (queue ∷ queues) all =
    (sym (keys_tie key queue.0) ∙ ap is_eq all.0, none_behind key queues all.1)

-- a party is a sender where its queue holds a text
sender_choice : (to from : ℕ) (queue : (ℕ × ℕ) × List (List ℕ)) (queues : Queues) → AllByRecursion (λ key. queue_order queue.0 key ≡ Less) (keys_of queues)
    → list_any (eqb from) (sender_numbers to queues) ≡ ltb 0 (length (queue_at queues (to, from)))
    → list_any (eqb from) (sender_numbers to (queue ∷ queues)) ≡ ltb 0 (length (queue_at (queue ∷ queues) (to, from)))
sender_choice to from queue queues below rest = by (eqb to queue.0.0) refl (eqb from queue.0.1) refl (ltb 0 (length queue.1)) refl
  where
    gone : eqb to queue.0.0 ≡ true → eqb from queue.0.1 ≡ true → list_any (eqb from) (sender_numbers to queues) ≡ false
    gone receiver sender =
        let key : (to, from) ≡ queue.0 = ap₂ (λ (t f : ℕ). (t, f)) (eqb-true to queue.0.0 receiver) (eqb-true from queue.0.1 sender) in
        let none : lookup (same_queue (to, from)) queues ≡ None = lookup-none (same_queue (to, from)) queues (none_behind (to, from) queues (subst (λ (k : ℕ × ℕ). AllByRecursion (λ next. queue_order k next ≡ Less) (keys_of queues)) (sym key) below)) in
        rest ∙ ap (λ (found : Option (List (List ℕ))). ltb 0 (length (unwrap_or found []))) none

    by : (b : Bool) → eqb to queue.0.0 ≡ b → (c : Bool) → eqb from queue.0.1 ≡ c → (d : Bool) → ltb 0 (length queue.1) ≡ d
        → list_any (eqb from) (map (λ (q : (ℕ × ℕ) × List (List ℕ)). q.0.1) (cond (b && d) (queue ∷ filter (is_waiting to) queues) (filter (is_waiting to) queues))) ≡ ltb 0 (length (unwrap_or (cond (b && c) (Some queue.1) (lookup (same_queue (to, from)) queues)) []))
    by false receiver c sender d some = rest
    by true receiver true sender false none = gone receiver sender ∙ sym none
    by true receiver true sender true some = ap (λ (b : Bool). b || list_any (eqb from) (sender_numbers to queues)) sender ∙ sym some
    by true receiver false sender false none = rest
    by true receiver false sender true some = ap (λ (b : Bool). b || list_any (eqb from) (sender_numbers to queues)) sender ∙ rest

pub is_sender : (to from : ℕ) (queues : Queues) → IsStrictlySortedBy queue_order (keys_of queues) → list_any (eqb from) (sender_numbers to queues) ≡ ltb 0 (length (queue_at queues (to, from)))
unfolding IsStrictlySortedBy
is_sender to from [] sorted = refl
is_sender to from (queue ∷ queues) sorted = sender_choice to from queue queues sorted.0 (is_sender to from queues sorted.1)

pub sender_has_text : (to from : ℕ) (queues : Queues) → IsStrictlySortedBy queue_order (keys_of queues) → Contains (sender_numbers to queues) from → 0 < length (queue_at queues (to, from))
sender_has_text to from queues sorted there =
    ltb-true 0 (length (queue_at queues (to, from))) (sym (is_sender to from queues sorted) ∙ list_any-from_Contains nat_eq_equiv from (sender_numbers to queues) there)

pub text_has_sender : (to from : ℕ) (queues : Queues) → IsStrictlySortedBy queue_order (keys_of queues) → 0 < length (queue_at queues (to, from)) → Contains (sender_numbers to queues) from
text_has_sender to from queues sorted some =
    Contains-from_any eqb-true from (sender_numbers to queues) (is_sender to from queues sorted ∙ lt-ltb 0 (length (queue_at queues (to, from))) some)

-- each sender has a text
pub senders_fit : (to : ℕ) (queues : Queues) → length (senders_in to queues) ≤ text_count queues
senders_fit to [] = omega arith
senders_fit to (queue ∷ queues) = by (eqb to queue.0.0) (ltb 0 (length queue.1)) refl (senders_fit to queues)
  where
    whole : text_count (queue ∷ queues) ≡ length queue.1 + text_count queues
    whole = sum_by-cons (λ (texts : List (List ℕ)). length texts) queue.1 (values_of queues)

    by : (b c : Bool) → ltb 0 (length queue.1) ≡ c → length (senders_in to queues) ≤ text_count queues
        → length (map (λ (q : (ℕ × ℕ) × List (List ℕ)). pos q.0.1) (cond (b && c) (queue ∷ filter (is_waiting to) queues) (filter (is_waiting to) queues))) ≤ text_count (queue ∷ queues)
    by false c some rest = omega (arith, whole, rest)
    by true false none rest = omega (arith, whole, rest)
    by true true some rest = omega (arith, whole, rest, ltb-true 0 (length queue.1) some)

-- the queues of a receiver stand between its least key and the next receiver's
receiver_range : (to : ℕ) (key : ℕ × ℕ) → range_contains queue_order (Included (to, 0)) (Excluded (to + 1, 0)) key ≡ eqb to key.0
receiver_range to key = grind (arith, nat_tests)

-- the senders of the queues that hold a text
abbrev pub holders : Queues → List ℤ
holders queues = map (λ queue. pos queue.0.1) (filter (λ queue. ltb 0 (length queue.1)) queues)

pub holders_in_range : (to : ℕ) (queues : Queues) → holders (entries_between queue_order (Included (to, 0)) (Excluded (to + 1, 0)) queues) ≡ senders_in to queues
holders_in_range to [] = refl
holders_in_range to (queue ∷ queues) =
    ap (λ (b : Bool). holders (cond b (queue ∷ entries_between queue_order (Included (to, 0)) (Excluded (to + 1, 0)) queues) (entries_between queue_order (Included (to, 0)) (Excluded (to + 1, 0)) queues))) (receiver_range to queue.0)
    ∙ by (eqb to queue.0.0) (ltb 0 (length queue.1)) refl (holders_in_range to queues)
  where
    between : Queues
    between = entries_between queue_order (Included (to, 0)) (Excluded (to + 1, 0)) queues

    by : (b c : Bool) → ltb 0 (length queue.1) ≡ c → holders between ≡ senders_in to queues
        → holders (cond b (queue ∷ between) between) ≡ map (λ (q : (ℕ × ℕ) × List (List ℕ)). pos q.0.1) (cond (b && c) (queue ∷ filter (is_waiting to) queues) (filter (is_waiting to) queues))
    by false c some rest = rest
    by true true some rest = ap (λ (d : Bool). map (λ (q : (ℕ × ℕ) × List (List ℕ)). pos q.0.1) (cond d (queue ∷ filter (λ (q : (ℕ × ℕ) × List (List ℕ)). ltb 0 (length q.1)) between) (filter (λ (q : (ℕ × ℕ) × List (List ℕ)). ltb 0 (length q.1)) between))) some ∙ ap (λ (numbers : List ℤ). pos queue.0.1 ∷ numbers) rest
    by true false none rest = ap (λ (d : Bool). map (λ (q : (ℕ × ℕ) × List (List ℕ)). pos q.0.1) (cond d (queue ∷ filter (λ (q : (ℕ × ℕ) × List (List ℕ)). ltb 0 (length q.1)) between) (filter (λ (q : (ℕ × ℕ) × List (List ℕ)). ltb 0 (length q.1)) between))) none ∙ rest
