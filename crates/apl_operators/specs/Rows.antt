use Rattle.std.specs.Prelude.{◌≡◌, ℕ, ℤ, Bool, true, false, Option, Some, None}
use Rattle.apl_verbs.specs.declared.verb.Dyad.{Dyad}
use Rattle.apl_verbs.specs.declared.verb.Dyad.TheVariants.{Maximum, Minimum, Residue, Less, NotGreater, Equal, NotLess, Greater, NotEqual}
use Rattle.apl_arrays.specs.Array.{PlainItems, numbers, chars}
use Rattle.apl_arrays.specs.Number.{fits}
use Rattle.apl_scalar.specs.Table.{pair_item, takes_chars}
use Rattle.operator_rules.specs.Reduction.{item_in}

-- the function has a value of 64 bits at all pairs of numbers of 64 bits
abbrev pub refuses_none : Dyad → Bool
refuses_none Maximum = true
refuses_none Minimum = true
refuses_none Residue = true
refuses_none Less = true
refuses_none NotGreater = true
refuses_none Equal = true
refuses_none NotLess = true
refuses_none Greater = true
refuses_none NotEqual = true
refuses_none _ = false

-- the function has a value at each item of the one with each of the other, by their kinds
abbrev pub takes_all : Dyad → PlainItems → PlainItems → Bool
takes_all f (numbers a) (numbers b) = refuses_none f
takes_all f (numbers a) (chars b) = takes_chars f
takes_all f (chars a) (numbers b) = takes_chars f
takes_all f (chars a) (chars b) = takes_chars f

-- there is a number, and it has 64 bits
abbrev pub is_number_of_64_bits : Option ℤ → Bool
is_number_of_64_bits None = false
is_number_of_64_bits (Some number) = fits number

-- the function has a value of 64 bits at each item of the one with each of the other
abbrev pub TakesAll : Dyad → PlainItems → PlainItems → Type 0
TakesAll f a b = (x y : ℕ) → is_number_of_64_bits (pair_item f (item_in a x) (item_in b y)) ≡ true
