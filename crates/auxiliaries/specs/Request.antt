-- The requests of the text auxiliary.
use Rattle.std.specs.Prelude.{◌==◌, ℕ, List, [], ◌∷◌, Option, None, Some, length, codes, if◌then◌else◌}
use Rattle.apl_arrays.specs.Array.{PlainArray, PlainItems, numbers, chars}

-- what a request asks for: a name and a text are what stands behind the word and its blank
pub data Request : Type 0 where
  read : List ℕ → Request
  next : Request
  write : List ℕ → Request
  put : List ℕ → Request
  done : Request
  other : Request

-- what stands behind a word at the front
abbrev pub behind_word : List ℕ → List ℕ → Option (List ℕ)
behind_word [] glyphs = Some glyphs
behind_word (byte ∷ word) [] = None
behind_word (byte ∷ word) (glyph ∷ glyphs) = if glyph == byte then behind_word word glyphs else None

-- a request by what stands behind its word, else another
abbrev pub by_word : Option (List ℕ) → (List ℕ → Request) → Request → Request
by_word (Some rest) request otherwise = request rest
by_word None request otherwise = otherwise

-- a request that is its word alone, else another
abbrev pub bare_word : Option (List ℕ) → Request → Request → Request
bare_word (Some []) request otherwise = request
bare_word (Some (glyph ∷ glyphs)) request otherwise = otherwise
bare_word None request otherwise = otherwise

-- the request that is one word, if it is one
abbrev pub bare_request : List ℕ → Request
bare_request glyphs = bare_word (behind_word (codes "NEXT") glyphs) next (bare_word (behind_word (codes "DONE") glyphs) done other)

-- the request of these glyphs
abbrev pub request_in : List ℕ → Request
request_in glyphs = by_word (behind_word (codes "READ ") glyphs) read (by_word (behind_word (codes "WRITE ") glyphs) write (by_word (behind_word (codes "PUT ") glyphs) put (bare_request glyphs)))

-- glyphs are a request where they are a vector
abbrev pub request_by_rank : ℕ → PlainItems → Request
request_by_rank rank (numbers list) = other
request_by_rank rank (chars glyphs) = if rank == 1 then request_in glyphs else other

-- the request of a value: a character vector may be one, every other value is none
abbrev pub request_of : PlainArray → Request
request_of value = request_by_rank (length value.shape) value.items
