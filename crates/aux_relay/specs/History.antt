-- The relay by all that it was asked and answered: lists of replies, the newest first.
use Rattle.std.specs.Prelude.{◌≡◌, ◌<◌, ◌-◌, ◌++◌, ◌==◌, ◌&&◌, ◌↔◌, ℕ, pos, Bool, true, false, List, [], ◌∷◌, Option, None, Some, Contains, length, map, drop, if◌then◌else◌}
use Rattle.std.specs.List.{count_by}
use Rattle.std.specs.List.Sorted.{IsStrictlyIncreasing}
use Rattle.apl_arrays.specs.Array.{PlainArray, PlainItems, numbers, chars, is_chars, number_array, same_array}
use Rattle.apl_arrays.specs.List.{first_of}
use Rattle.auxiliaries.specs.Protocol.{code, line_answer, no_line}
use Rattle.aux_relay.specs.Request.{Request, send, take_from, waiting, other, request_of}

-- a reply: the party whose value was answered, the value, and the answer
pub record Reply : Type 0 where
  pub party : ℕ
  pub value : PlainArray
  pub answer : PlainArray

-- the most texts that are held at a time: 10,000
abbrev pub most_texts : ℕ
most_texts = 10000

-- whether an answer is 0
abbrev pub is_done : PlainArray → Bool
is_done answer = same_array answer (code 0)

-- the text that a request sends to a party
abbrev pub text_to : ℕ → Request → List (List ℕ)
text_to to (send user text) = if user == to then text ∷ [] else []
text_to to (take_from user) = []
text_to to waiting = []
text_to to other = []

-- whether a request sends
abbrev pub is_send : Request → Bool
is_send (send user text) = true
is_send (take_from user) = false
is_send waiting = false
is_send other = false

-- whether a request takes
abbrev pub is_take : Request → Bool
is_take (send user text) = false
is_take (take_from user) = true
is_take waiting = false
is_take other = false

-- whether a request takes from a party
abbrev pub takes_from : ℕ → Request → Bool
takes_from from (send user text) = false
takes_from from (take_from user) = user == from
takes_from from waiting = false
takes_from from other = false

-- the text that an answer has
abbrev pub text_in : PlainItems → List (List ℕ)
text_in (numbers list) = []
text_in (chars text) = text ∷ []

-- the text that a reply gave from one party to another: that of a SEND which was answered 0
abbrev pub given_by : ℕ → ℕ → Reply → List (List ℕ)
given_by from to reply = if reply.party == from && is_done reply.answer then text_to to (request_of reply.value) else []

-- the text from one party that another took by a reply: the one with which a TAKE was answered
abbrev pub taken_by : ℕ → ℕ → Reply → List (List ℕ)
taken_by from to reply = if reply.party == to && takes_from from (request_of reply.value) then text_in reply.answer.items else []

-- the texts that one party gave to another, in order
abbrev pub texts_given : ℕ → ℕ → List Reply → List (List ℕ)
texts_given from to [] = []
texts_given from to (reply ∷ earlier) = texts_given from to earlier ++ given_by from to reply

-- the texts from one party that another took, in order
abbrev pub texts_taken : ℕ → ℕ → List Reply → List (List ℕ)
texts_taken from to [] = []
texts_taken from to (reply ∷ earlier) = texts_taken from to earlier ++ taken_by from to reply

-- whether a reply gave a text, and whether one was taken by it
abbrev pub is_given : Reply → Bool
is_given reply = is_done reply.answer && is_send (request_of reply.value)

-- whether a reply gave a text that was asked for
abbrev pub is_taken : Reply → Bool
is_taken reply = is_chars reply.answer.items && is_take (request_of reply.value)

-- how many texts are left: those that were given, without those that were taken
abbrev pub untaken_count : List Reply → ℕ
untaken_count replies = count_by is_given replies - count_by is_taken replies

-- the text after those already taken, where one is left
abbrev pub next_text : ℕ → ℕ → List Reply → Option (List ℕ)
next_text from to replies = first_of (drop (length (texts_taken from to replies)) (texts_given from to replies))

-- a text as an answer, or the empty numeric vector where there is none
abbrev pub text_answer : Option (List ℕ) → PlainArray
text_answer None = no_line
text_answer (Some text) = line_answer text

-- the parties, ascending, of which fewer texts were taken than given
pub record AreSenders (to : ℕ) (parties : List ℕ) (replies : List Reply) : Type 0 where
  pub ascending : IsStrictlyIncreasing parties
  pub each : (from : ℕ) → Contains parties from ↔ (length (texts_taken from to replies) < length (texts_given from to replies))

-- parties as an answer: a numeric vector
abbrev pub parties_answer : List ℕ → PlainArray
parties_answer parties = number_array (length parties ∷ []) (map pos parties)

-- the answer to a party's request behind replies: SEND is answered 4 exactly where as many texts are left as may wait, and what is no request is answered 2
abbrev pub IsAnswerTo : Request → ℕ → PlainArray → List Reply → Type 0
IsAnswerTo (send to text) party answer replies = answer ≡ (if untaken_count replies == most_texts then code 4 else code 0)
IsAnswerTo (take_from from) party answer replies = answer ≡ text_answer (next_text from party replies)
IsAnswerTo waiting party answer replies = (parties : List ℕ) × AreSenders party parties replies × (answer ≡ parties_answer parties)
IsAnswerTo other party answer replies = answer ≡ code 2

-- each reply is the relay's behind those before it
abbrev pub AreRelayed : List Reply → Type 0
AreRelayed [] = Unit {0}
AreRelayed (reply ∷ earlier) = IsAnswerTo (request_of reply.value) reply.party reply.answer earlier × AreRelayed earlier
