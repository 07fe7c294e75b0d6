-- The requests of the relay.
use Rattle.std.specs.Prelude.{◌==◌, ◌≤◌, ℕ, List, [], ◌∷◌, Option, None, Some, length, codes, if◌then◌else◌}
use Rattle.apl_arrays.specs.Array.{PlainArray, PlainItems, numbers, chars}
use Rattle.apl_arrays.specs.Parties.{is_user_number}
use Rattle.auxiliaries.specs.Request.{behind_word}
use Rattle.aux_words.specs.Fields.{cut_at_blank}
use Rattle.aux_words.specs.Number.{number_of}

-- what a request asks for: that a text goes to a user, the next text of a user, or who has sent texts
pub data Request : Type 0 where
  send : ℕ → List ℕ → Request
  take_from : ℕ → Request
  waiting : Request
  other : Request

-- a number that is a user's
abbrev pub user_number : Option ℕ → Option ℕ
user_number None = None
user_number (Some number) = if is_user_number number then Some number else None

-- the user whose number these glyphs are
abbrev pub user_in : List ℕ → Option ℕ
user_in line = user_number (number_of line)

-- the request that sends a text to a user
abbrev pub send_to : Option ℕ → List ℕ → Request
send_to None text = other
send_to (Some user) text = send user text

-- what stands behind SEND: a user's number, a blank, and the text, which is all that follows
abbrev pub send_of : Option (List ℕ × List ℕ) → Request
send_of None = other
send_of (Some fields) = send_to (user_in fields.0) fields.1

-- a request to send: a user's number, a blank, and the text
abbrev pub send_in : List ℕ → Request
send_in line = send_of (cut_at_blank line)

-- what stands behind TAKE: a user's number
abbrev pub take_request : Option ℕ → Request
take_request None = other
take_request (Some user) = take_from user

-- a request to take what a user sent
abbrev pub take_in : List ℕ → Request
take_in line = take_request (user_in line)

-- nothing stands behind WAITING
abbrev pub waiting_in : List ℕ → Request
waiting_in [] = waiting
waiting_in (glyph ∷ line) = other

-- a request by what stands behind its word, else another
abbrev pub by_word : Option (List ℕ) → (List ℕ → Request) → Request → Request
by_word None request otherwise = otherwise
by_word (Some rest) request otherwise = request rest

-- the request of these glyphs
abbrev pub request_in : List ℕ → Request
request_in line = by_word (behind_word (codes "SEND ") line) send_in (by_word (behind_word (codes "TAKE ") line) take_in (by_word (behind_word (codes "WAITING") line) waiting_in other))

-- glyphs are a request where they are a vector
abbrev pub request_by_rank : ℕ → PlainItems → Request
request_by_rank rank (numbers list) = other
request_by_rank rank (chars glyphs) = if rank == 1 then request_in glyphs else other

-- the request of a value: a character vector may be one, every other value is none
abbrev pub request_of : PlainArray → Request
request_of value = request_by_rank (length value.shape) value.items

-- a text that is sent has at most so many glyphs
abbrev pub HasTextUpTo : ℕ → Request → Type 0
HasTextUpTo most (send user text) = length text ≤ most
HasTextUpTo most (take_from user) = Unit {0}
HasTextUpTo most waiting = Unit {0}
HasTextUpTo most other = Unit {0}
