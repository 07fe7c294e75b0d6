-- The requests of component files.
use Rattle.std.specs.Prelude.{◌==◌, ℕ, List, [], ◌∷◌, Option, None, Some, length, codes, if◌then◌else◌}
use Rattle.apl_arrays.specs.Array.{PlainArray, PlainItems, numbers, chars}
use Rattle.auxiliaries.specs.Request.{behind_word}
use Rattle.aux_words.specs.Fields.{cut_at_blank}
use Rattle.aux_words.specs.Number.{number_of}

-- what a request asks for: how many components a file has, one of them by its number, the array that is held, or that an array is added to a file or comes in the place of a component
pub data Request : Type 0 where
  count : List ℕ → Request
  get : List ℕ → ℕ → Request
  next : Request
  append : List ℕ → Request
  replace : List ℕ → ℕ → Request
  other : Request

-- a request with a number, where there is one
abbrev pub request_with_number : (ℕ → Request) → Option ℕ → Request
request_with_number request None = other
request_with_number request (Some number) = request number

-- a request of a name and a number, with a blank between
abbrev pub of_fields : (List ℕ → ℕ → Request) → Option (List ℕ × List ℕ) → Request
of_fields request None = other
of_fields request (Some fields) = request_with_number (request fields.0) (number_of fields.1)

-- a request whose name and number stand with a blank between
abbrev pub numbered_request : (List ℕ → ℕ → Request) → List ℕ → Request
numbered_request request line = of_fields request (cut_at_blank line)

-- nothing stands behind NEXT
abbrev pub next_in : List ℕ → Request
next_in [] = next
next_in (glyph ∷ line) = other

-- a request by what stands behind its word, else another
abbrev pub by_word : Option (List ℕ) → (List ℕ → Request) → Request → Request
by_word None request otherwise = otherwise
by_word (Some rest) request otherwise = request rest

-- the requests that change a file
abbrev pub change_in : List ℕ → Request
change_in line = by_word (behind_word (codes "APPEND ") line) append (by_word (behind_word (codes "REPLACE ") line) (numbered_request replace) other)

-- the request of these glyphs
abbrev pub request_in : List ℕ → Request
request_in line = by_word (behind_word (codes "COUNT ") line) count (by_word (behind_word (codes "GET ") line) (numbered_request get) (by_word (behind_word (codes "NEXT") line) next_in (change_in line)))

-- glyphs are a request where they are a vector
abbrev pub request_by_rank : ℕ → PlainItems → Request
request_by_rank rank (numbers list) = other
request_by_rank rank (chars glyphs) = if rank == 1 then request_in glyphs else other

-- the request of a value: a character vector may be one, every other value is none
abbrev pub request_of : PlainArray → Request
request_of value = request_by_rank (length value.shape) value.items
