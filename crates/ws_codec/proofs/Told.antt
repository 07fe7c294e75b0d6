-- What is told of a reading that succeeds.
use Rattle.std.proofs.Common.{◌≡◌, ℕ, Bool, true, false, List, Option, Some, None, Result, Ok, Err, refl, ap}
use Rattle.ws_codec.specs.Reading.{Reading, ◌>>=◌, keeps, required}
use Rattle.ws_codec.specs.declared.saved.SavedRule.{SavedRule}
use Rattle.ws_codec.specs.declared.unread.Flaw.{Flaw}

-- a thing that was read, and what follows it
abbrev pub tell : {A : Type 0} → A → List ℕ → Reading A
tell x rest = Ok (x, rest)

first_or : {A : Type 0} → A → Reading A → A
first_or other (Ok found) = found.0
first_or other (Err flaw) = other

behind_or : {A : Type 0} → List ℕ → Reading A → List ℕ
behind_or other (Ok found) = found.1
behind_or other (Err flaw) = other

pub same_first : {A : Type 0} (x : A) (rest : List ℕ) (y : A) (left : List ℕ) → tell x rest ≡ tell y left → x ≡ y
unfolding first_or
same_first x rest y left e = ap (first_or x) e

pub same_behind : {A : Type 0} (x : A) (rest : List ℕ) (y : A) (left : List ℕ) → tell x rest ≡ tell y left → rest ≡ left
unfolding behind_or
same_behind x rest y left e = ap (behind_or rest) e

-- what was read first, and then, where both were
pub bind_ok : {A B : Type 0} (read : Result A Flaw) (f : A → Result B Flaw) (y : B) → (read >>= f) ≡ Ok y → (x : A) × (read ≡ Ok x) × (f x ≡ Ok y)
bind_ok (Ok x) f y e = (x, refl, e)
bind_ok (Err flaw) f y e = absurd (let none : ⊥ = cc in none)

-- a test that was passed on the way
pub after_keeps : {B : Type 0} (test : Bool) (rule : SavedRule) (left : ℕ) (f : Unit {0} → Result B Flaw) (y : B) → (keeps test rule left >>= f) ≡ Ok y → (test ≡ true) × (f tt ≡ Ok y)
unfolding keeps
after_keeps true rule left f y e = (refl, e)
after_keeps false rule left f y e = absurd (let none : ⊥ = cc in none)

-- a thing that was there on the way
pub after_known : {A B : Type 0} (there : Option A) (rule : SavedRule) (left : ℕ) (f : A → Result B Flaw) (y : B) → (required there rule left >>= f) ≡ Ok y → (x : A) × (there ≡ Some x) × (f x ≡ Ok y)
unfolding required
after_known (Some x) rule left f y e = (x, refl, e)
after_known None rule left f y e = absurd (let none : ⊥ = cc in none)
