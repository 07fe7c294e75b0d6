-- What the relay holds: queues of texts, each by the party that it is for and the party that it is of.
use Rattle.std.specs.Prelude.{◌≡◌, ◌+◌, ◌≤◌, ◌++◌, ◌==◌, ◌&&◌, ℕ, Bool, List, [], ◌∷◌, All, length, unwrap_or}
use Rattle.std.specs.List.{count_by, sum_by}
use Rattle.std.specs.Map.{lookup, values_of}
use Rattle.apl_arrays.specs.Array.{PlainArray}
use Rattle.apl_arrays.specs.Limits.{most_elements}
use Rattle.auxiliaries.specs.Run.{Event, began, answered}
use Rattle.aux_relay.specs.Request.{request_of}
use Rattle.aux_relay.specs.History.{Reply, IsAnswerTo, texts_given, texts_taken, is_given, is_taken, most_texts}

-- queues by receiver and sender
abbrev pub Queues : Type 0
Queues = List ((ℕ × ℕ) × List (List ℕ))

-- the same receiver and the same sender
abbrev pub same_queue : ℕ × ℕ → ℕ × ℕ → Bool
same_queue one other = one.0 == other.0 && one.1 == other.1

-- the texts in a queue; where there is no queue there are none
abbrev pub queue_at : Queues → ℕ × ℕ → List (List ℕ)
queue_at queues key = unwrap_or (lookup (same_queue key) queues) []

-- how many texts all queues together hold
abbrev pub text_count : Queues → ℕ
text_count queues = sum_by (λ texts. length texts) (values_of queues)

-- the queues hold what was given and not taken
pub record AreUntaken (queues : Queues) (replies : List Reply) : Type 0 where
  pub texts : (from to : ℕ) → texts_given from to replies ≡ texts_taken from to replies ++ queue_at queues (to, from)
  pub count : count_by is_given replies ≡ count_by is_taken replies + text_count queues

-- a reply of the relay: whatever was asked and answered before, where the queues hold what is left of it, the answer is the relay's, and then they hold what is left with this reply
abbrev pub Relays : Queues → ℕ → PlainArray → PlainArray → Queues → Type 0
Relays old party value answer new = (replies : List Reply) → AreUntaken old replies
    → IsAnswerTo (request_of value) party answer replies × AreUntaken new (record { party = party; value = value; answer = answer } ∷ replies)

-- the replies among what happens to a replier
abbrev pub replies_among : List Event → List Reply
replies_among [] = []
replies_among (began party ∷ earlier) = replies_among earlier
replies_among (answered party value answer ∷ earlier) = record { party = party; value = value; answer = answer } ∷ replies_among earlier

-- the relay counts its texts, holds no more than it may, and each of them can be an answer
pub record AreKept (held : ℕ) (queues : Queues) : Type 0 where
  pub count : held ≡ text_count queues
  pub most : held ≤ most_texts
  pub short : (key : ℕ × ℕ) → All (λ text. length text ≤ most_elements) (queue_at queues key)
