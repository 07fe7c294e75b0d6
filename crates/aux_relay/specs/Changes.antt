-- What requests do to queues.
use Rattle.std.specs.Prelude.{◌≡◌, ◌+◌, ◌++◌, ◌==◌, ◌&&◌, ℕ, ℤ, pos, List, [], ◌∷◌, filter, length, map, nat_lt, take, if◌then◌else◌}
use Rattle.std.specs.Bool.{MatchBool}
use Rattle.std.specs.List.Sorted.{IsStrictlySortedBy}
use Rattle.std.specs.Map.{keys_of}
use Rattle.std.specs.Ordering.{nat_cmp, ordering_then}
use Rattle.std.specs.declared.cmp.Ordering.{Ordering}
use Rattle.apl_arrays.specs.Array.{PlainArray, number_array}
use Rattle.apl_arrays.specs.List.{first_of, others_of}
use Rattle.auxiliaries.specs.Protocol.{code}
use Rattle.aux_relay.specs.Request.{Request, send, take_from, waiting, other}
use Rattle.aux_relay.specs.History.{most_texts, text_answer}
use Rattle.aux_relay.specs.Queues.{Queues, queue_at, same_queue, text_count}

-- in order: by receiver, then by sender
abbrev pub queue_order : ℕ × ℕ → ℕ × ℕ → Ordering
queue_order a b = ordering_then (nat_cmp a.0 b.0) (nat_cmp a.1 b.1)

-- the senders of the queues of a receiver that hold a text
abbrev pub senders_in : ℕ → Queues → List ℤ
senders_in to queues = map (λ queue. pos queue.0.1) (filter (λ queue. to == queue.0.0 && nat_lt 0 (length queue.1)) queues)

-- a text goes last in a queue
pub record AddsLast (old : Queues) (key : ℕ × ℕ) (text : List ℕ) (new : Queues) : Type 0 where
  pub queues : (queue : ℕ × ℕ) → queue_at new queue ≡ (if same_queue key queue then queue_at old queue ++ text ∷ [] else queue_at old queue)
  pub count : text_count new ≡ text_count old + 1

-- the first text of a queue goes, where there is one
pub record Drops (old : Queues) (key : ℕ × ℕ) (new : Queues) : Type 0 where
  pub queues : (queue : ℕ × ℕ) → queue_at new queue ≡ (if same_queue key queue then others_of (queue_at old queue) else queue_at old queue)
  pub count : text_count new + length (take 1 (queue_at old key)) ≡ text_count old

-- each queue has its texts, though one that holds nothing may be gone
pub record KeepTexts (old new : Queues) : Type 0 where
  pub queues : (queue : ℕ × ℕ) → queue_at new queue ≡ queue_at old queue
  pub count : text_count new ≡ text_count old

-- a text is sent: it goes last in its queue, unless as many texts are held as may be
abbrev pub Sends : Queues → ℕ × ℕ → List ℕ → PlainArray → Queues → Type 0
Sends old key text answer new = MatchBool (text_count old == most_texts) ((answer ≡ code 4) × (new ≡ old)) ((answer ≡ code 0) × AddsLast old key text new)

-- the first text of a queue is taken
abbrev pub TakesText : Queues → ℕ × ℕ → PlainArray → Queues → Type 0
TakesText old key answer new = (answer ≡ text_answer (first_of (queue_at old key))) × Drops old key new

-- the senders of a receiver are told, in the order of the queues
pub record TellsSenders (old : Queues) (to : ℕ) (answer : PlainArray) (new : Queues) : Type 0 where
  pub told : answer ≡ number_array (length (senders_in to old) ∷ []) (senders_in to old)
  pub ordered : IsStrictlySortedBy queue_order (keys_of old)
  pub kept : new ≡ old

-- what a party's request does
abbrev pub DoesRequest : Request → ℕ → Queues → PlainArray → Queues → Type 0
DoesRequest (send to text) party old answer new = Sends old (to, party) text answer new
DoesRequest (take_from from) party old answer new = TakesText old (party, from) answer new
DoesRequest waiting party old answer new = TellsSenders old party answer new
DoesRequest other party old answer new = (answer ≡ code 2) × (new ≡ old)
