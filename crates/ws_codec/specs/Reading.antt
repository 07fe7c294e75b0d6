-- Reading from left to right: a value and what follows it, or the first field that breaks a rule.
use Rattle.std.specs.Prelude.{◌≡◌, ◌++◌, ◌∷◌, [], ℕ, Bool, true, false, zero, suc, List, Option, Some, None, Result, Ok, Err}
use Rattle.ws_codec.specs.declared.saved.SavedRule.{SavedRule}
use Rattle.ws_codec.specs.declared.unread.Flaw.{Flaw}
use Rattle.ws_codec.specs.declared.unread.Unread.{Unread}
use Rattle.ws_codec.specs.declared.unread.Unread.TheVariants.{Flawed, WantOfMemory}

-- what is read and what follows it, or the rule that is broken and how many bytes are left where that is reported
abbrev pub Reading : Type 0 → Type 0
Reading V = Result (V × List ℕ) Flaw

-- what reads a value from the front of bytes
abbrev pub Reader : Type 0 → Type 0
Reader V = List ℕ → Reading V

infixl 10 ◌>>=◌
-- one reading after another
abbrev pub ◌>>=◌ : {A B : Type 0} → Result A Flaw → (A → Result B Flaw) → Result B Flaw
(Ok x) >>= f = f x
(Err flaw) >>= f = Err flaw

-- a rule that a test keeps; else it is broken where so many bytes are left
unfoldable pub keeps : Bool → SavedRule → ℕ → Result (Unit {0}) Flaw
keeps true rule left = Ok tt
keeps false rule left = Err (record { rule = rule; left = left })

-- a thing that is there; else a rule is broken where so many bytes are left
unfoldable pub required : {A : Type 0} → Option A → SavedRule → ℕ → Result A Flaw
required (Some x) rule left = Ok x
required None rule left = Err (record { rule = rule; left = left })

-- so many steps, each of which goes on with what the one before it made
unfoldable pub repeated : {S : Type 0} → (S → Reader S) → ℕ → S → Reader S
repeated step zero made rest = Ok (made, rest)
repeated step (suc count) made rest = do
  next ← step made rest
  repeated step count next.0 next.1

-- a thing that is read, behind others
abbrev pub read_more : {A : Type 0} → List A → Reading A → Reading (List A)
read_more front read = read >>= λ found. Ok (front ++ found.0 ∷ [], found.1)

-- what stops a reading that is not want of memory
abbrev pub Stops : {Y : Type 0} → Unread → Result Y Flaw → Type 0
Stops WantOfMemory read = Unit {0}
Stops (Flawed flaw) read = read ≡ Err flaw

-- what a call found, as plain data, is what is read, unless memory ran out
abbrev pub Gives : {X Y : Type 0} → (X → Y) → Result X Unread → Result Y Flaw → Type 0
Gives view (Ok x) read = read ≡ Ok (view x)
Gives view (Err why) read = Stops why read
