-- What reading and writing to the end does to bytes, where these are told.
use Rattle.std.specs.Prelude.{◌≡◌, ℕ, ◌<◌, ◌≤◌, List, [], length, take, drop, IfSome, IsSomeAnd, Some}
use Rattle.std.specs.declared.option.Option.{Option}
use Rattle.std.specs.Io.KnownBytes.{Appends}

-- the bytes left are told, and are no more than this
abbrev pub AreAtMost : Option (List ℕ) → ℕ → Type 0
AreAtMost left most = IsSomeAnd left (λ bytes. length bytes ≤ most)

-- these are all the bytes that were left, and none is left now
abbrev pub ReadsAll : Option (List ℕ) → Option (List ℕ) → List ℕ → Type 0
ReadsAll before now bytes = IfSome before (λ left. (bytes ≡ left) × (now ≡ Some []))

-- so many bytes were taken: at least so many bytes were left, and the first so many are gone
abbrev pub TakesExactly : Option (List ℕ) → Option (List ℕ) → ℕ → Type 0
TakesExactly before now count = IfSome before (λ left. (count ≤ length left) × (now ≡ Some (drop count left)))

-- no more bytes than this were taken
abbrev pub TakesAtMost : Option (List ℕ) → Option (List ℕ) → ℕ → Type 0
TakesAtMost before now most = (count : ℕ) × (count ≤ most) × TakesExactly before now count

-- a front part of these bytes, perhaps none, not all, went last
abbrev pub AppendsPrefix : Option (List ℕ) → Option (List ℕ) → List ℕ → Type 0
AppendsPrefix before now bytes = (count : ℕ) × (count < length bytes) × Appends before now (take count bytes)
