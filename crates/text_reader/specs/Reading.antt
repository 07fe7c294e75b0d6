-- Reading from left to right: a value and what follows it, or how many glyphs are left where nothing goes on so.
use Rattle.std.specs.Prelude.{◌≡◌, ◌+◌, ◌++◌, ◌==◌, ◌∷◌, [], ℕ, Bool, true, false, zero, suc, List, Option, Some, None, Result, Ok, Err, length, min, take, drop, if◌then◌else◌}
use Rattle.std.specs.List.{prefix_len}
use Rattle.apl_arrays.specs.File.{is_file_name}
use Rattle.apl_arrays.specs.Limits.{most_name_glyphs}
use Rattle.apl_arrays.specs.Name.{goes_on, is_name}
use Rattle.text_reader.specs.declared.unread.Unread.{Unread}
use Rattle.text_reader.specs.declared.unread.Unread.TheVariants.{Left, WantOfMemory}

-- what is read, or how many glyphs are left where the reading stops
abbrev pub Reading : Type 0 → Type 0
Reading V = Result (V × List ℕ) ℕ

-- what reads a value from the front of a line
abbrev pub Reader : Type 0 → Type 0
Reader V = List ℕ → Reading V

infixl 10 ◌>>=◌
-- one reading after another
abbrev pub ◌>>=◌ : {A B : Type 0} → Result A ℕ → (A → Result B ℕ) → Result B ℕ
(Ok x) >>= f = f x
(Err left) >>= f = Err left

-- what stops a reading that is not want of memory
abbrev pub Stops : {Y : Type 0} → Unread → Result Y ℕ → Type 0
Stops WantOfMemory read = Unit {0}
Stops (Left left) read = read ≡ Err left

-- a reading stops since no text goes on as the line does, and not for want of memory
abbrev pub IsLeft : Unread → Type 0
IsLeft (Left left) = Unit {0}
IsLeft WantOfMemory = ⊥

-- what a call found, as plain data, is what is read, unless memory ran out
abbrev pub Gives : {X Y : Type 0} → (X → Y) → Result X Unread → Result Y ℕ → Type 0
Gives view (Ok x) read = read ≡ Ok (view x)
Gives view (Err why) read = Stops why read

-- a list that is read, with others in front of it
abbrev pub read_behind : {V : Type 0} → List V → Reading (List V) → Reading (List V)
read_behind front read = read >>= λ found. Ok (front ++ found.0, found.1)

-- what is read, made into something else
abbrev pub as_read : {A B : Type 0} → (A → B) → Reading A → Reading B
as_read make read = read >>= λ found. Ok (make found.0, found.1)

-- any line
abbrev pub always : List ℕ → Bool
always line = true

-- so long as a list goes on, at most so many of its items
unfoldable pub read_list : {A : Type 0} → (List ℕ → Bool) → Reader A → ℕ → Reader (List A)
read_list goes_on item zero line = Ok ([], line)
read_list goes_on item (suc most) line =
    if goes_on line then (do
      first ← item line
      read_behind (first.0 ∷ []) (read_list goes_on item most first.1))
    else Ok ([], line)

-- one thing more, where the list goes on
abbrev pub read_step : {A : Type 0} → (List ℕ → Bool) → Reader A → List A → Reader (List A)
read_step goes_on item front line =
    if goes_on line then (item line >>= λ found. Ok (front ++ found.0 ∷ [], found.1)) else Ok (front, line)

-- this glyph stands at the front
abbrev pub begins_with : ℕ → List ℕ → Bool
begins_with glyph [] = false
begins_with glyph (first ∷ rest) = first == glyph

-- what stands behind a fixed text
abbrev pub read_literal : List ℕ → List ℕ → Result (List ℕ) ℕ
read_literal [] line = Ok line
read_literal (glyph ∷ text) [] = Err 0
read_literal (glyph ∷ text) (first ∷ rest) = if first == glyph then read_literal text rest else Err (length (first ∷ rest))

-- how many glyphs of a fixed text stand at the front, from its first on
abbrev pub shared_length : List ℕ → List ℕ → ℕ
shared_length [] line = 0
shared_length (glyph ∷ text) [] = 0
shared_length (glyph ∷ text) (first ∷ rest) = if first == glyph then 1 + shared_length text rest else 0

-- how many glyphs a name at the front may have
abbrev pub name_span : List ℕ → ℕ
name_span line = min (prefix_len goes_on line) most_name_glyphs

-- a name, as long as it may be
abbrev pub read_name : Reader (List ℕ)
read_name line =
    if is_name (take (name_span line) line) then Ok (take (name_span line) line, drop (name_span line) line)
    else Err (length line)

-- the name of a file, which all that is left has to be
abbrev pub read_file_name : Reader (List ℕ)
read_file_name line = if is_file_name line then Ok (line, []) else Err (length line)
