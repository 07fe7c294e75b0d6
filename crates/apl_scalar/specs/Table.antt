use Rattle.std.specs.Prelude.{◌-◌, ◌^◌, ◌&&◌, ◌||◌, ◌==◌, ℤ, pos, negsuc, ◌+ℤ◌, ◌-ℤ◌, ◌*ℤ◌, neg_ℤ, unsigned_abs, int_lt, int_le, int_div, int_rem, Bool, true, false, not, Option, Some, None, if◌then◌else◌}
use Rattle.std.specs.Int.{int_min, int_max, int_pow, int_signum, is_negative}
use Rattle.std.specs.Ordering.{int_eq}
use Rattle.apl_verbs.specs.declared.verb.Monad.{Monad}
use Rattle.apl_verbs.specs.declared.verb.Monad.TheVariants.{Identity, Ceiling, Floor, Negative, Sign, Magnitude, Reciprocal, Factorial, Not}
use Rattle.apl_verbs.specs.declared.verb.Dyad.{Dyad}
use Rattle.apl_verbs.specs.declared.verb.Dyad.TheVariants.{Plus, Minus, Times, Divide, Maximum, Minimum, Residue, Power, Binomial, And, Or, Nand, Nor, Less, NotGreater, Equal, NotLess, Greater, NotEqual}
use Rattle.apl_arrays.specs.declared.items.Item.{Item}
use Rattle.apl_arrays.specs.declared.items.Item.TheVariants.{Number, Char}
use Rattle.apl_arrays.specs.Number.{fits, is_one}
use Rattle.apl_scalar.specs.Counting.{factorial, ways, residue}

-- the least of these numbers
abbrev pub least : ℤ
least = negsuc (2 ^ 63 - 1)

-- the greatest of them
abbrev pub greatest : ℤ
greatest = pos (2 ^ 63 - 1)

-- 1 for true, 0 for false
abbrev pub truth : Bool → ℤ
truth b = if b then pos 1 else pos 0

-- the number is 0 or 1
abbrev pub is_truth : ℤ → Bool
is_truth z = int_eq z (pos 0) || is_one z

-- the value, where the function is defined and the value fits, else DOMAIN
abbrev pub item_where : Bool → ℤ → Option ℤ
item_where defined value = if defined && fits value then Some value else None

-- ---- monadic

-- a row: the value, and where the function is defined
pub record MonadRow : Type 0 where
  pub value : ℤ → ℤ
  pub defined : ℤ → Bool

-- the row of a value and of where the function is defined
abbrev pub monad_row : (ℤ → ℤ) → (ℤ → Bool) → MonadRow
monad_row value defined = record { value = value; defined = defined }

-- defined at each number
abbrev pub anywhere : ℤ → Bool
anywhere _ = true

-- the table of the monadic functions
abbrev pub row_of_monad : Monad → MonadRow
row_of_monad Identity = monad_row (λ b. b) anywhere
row_of_monad Ceiling = monad_row (λ b. b) anywhere
row_of_monad Floor = monad_row (λ b. b) anywhere
row_of_monad Negative = monad_row neg_ℤ anywhere
row_of_monad Sign = monad_row int_signum anywhere
row_of_monad Magnitude = monad_row (λ b. pos (unsigned_abs b)) anywhere
row_of_monad Reciprocal = monad_row (λ b. b) (λ b. unsigned_abs b == 1)
row_of_monad Factorial = monad_row (λ b. pos (factorial (unsigned_abs b))) (λ b. not (is_negative b))
row_of_monad Not = monad_row (λ b. truth (not (is_one b))) is_truth

-- the item of a monadic function, or none, which is DOMAIN
abbrev pub monadic_item : Monad → ℤ → Option ℤ
monadic_item f b = item_where ((row_of_monad f).defined b) ((row_of_monad f).value b)

-- ---- dyadic

-- a row: the value, where the function is defined, and the identity, if there is one
pub record DyadRow : Type 0 where
  pub value : ℤ → ℤ → ℤ
  pub defined : ℤ → ℤ → Bool
  pub identity : Option ℤ

-- the row of a value, of where the function is defined, and of an identity, if there is one
abbrev pub dyad_row : (ℤ → ℤ → ℤ) → (ℤ → ℤ → Bool) → Option ℤ → DyadRow
dyad_row value defined identity = record { value = value; defined = defined; identity = identity }

-- defined at each pair of numbers
abbrev pub everywhere : ℤ → ℤ → Bool
everywhere _ _ = true

-- a divided by b, toward 0, and 1 where b is 0
abbrev pub quotient : ℤ → ℤ → ℤ
quotient a b = if int_eq b (pos 0) then pos 1 else int_div a b

-- b divides a, or both are 0
abbrev pub is_exact : ℤ → ℤ → Bool
is_exact a b = if int_eq b (pos 0) then int_eq a (pos 0) else int_eq (int_rem a b) (pos 0)

-- the product of |b| factors a, 1 where b is 0
abbrev pub power : ℤ → ℤ → ℤ
power a b = int_pow a (unsigned_abs b)

-- the exponent is not negative
abbrev pub is_power : ℤ → ℤ → Bool
is_power a b = not (is_negative b)

-- the ways to take a things of b
abbrev pub binomial : ℤ → ℤ → ℤ
binomial a b = pos (ways (unsigned_abs a) (unsigned_abs b))

-- neither is negative
abbrev pub are_counts : ℤ → ℤ → Bool
are_counts a b = not (is_negative a) && not (is_negative b)

-- a function of truth values
abbrev pub logical : (Bool → Bool → Bool) → ℤ → ℤ → ℤ
logical f a b = truth (f (is_one a) (is_one b))

-- each is 0 or 1
abbrev pub are_truths : ℤ → ℤ → Bool
are_truths a b = is_truth a && is_truth b

-- whether two numbers compare so
abbrev pub comparison : (ℤ → ℤ → Bool) → ℤ → ℤ → ℤ
comparison test a b = truth (test a b)

-- the table of the dyadic functions
abbrev pub row_of_dyad : Dyad → DyadRow
row_of_dyad Plus = dyad_row ◌+ℤ◌ everywhere (Some (pos 0))
row_of_dyad Minus = dyad_row ◌-ℤ◌ everywhere (Some (pos 0))
row_of_dyad Times = dyad_row ◌*ℤ◌ everywhere (Some (pos 1))
row_of_dyad Divide = dyad_row quotient is_exact (Some (pos 1))
row_of_dyad Maximum = dyad_row int_max everywhere (Some least)
row_of_dyad Minimum = dyad_row int_min everywhere (Some greatest)
row_of_dyad Residue = dyad_row residue everywhere (Some (pos 0))
row_of_dyad Power = dyad_row power is_power (Some (pos 1))
row_of_dyad Binomial = dyad_row binomial are_counts (Some (pos 1))
row_of_dyad And = dyad_row (logical (λ a b. a && b)) are_truths (Some (pos 1))
row_of_dyad Or = dyad_row (logical (λ a b. a || b)) are_truths (Some (pos 0))
row_of_dyad Nand = dyad_row (logical (λ a b. not (a && b))) are_truths None
row_of_dyad Nor = dyad_row (logical (λ a b. not (a || b))) are_truths None
row_of_dyad Less = dyad_row (comparison int_lt) everywhere (Some (pos 0))
row_of_dyad NotGreater = dyad_row (comparison int_le) everywhere (Some (pos 1))
row_of_dyad Equal = dyad_row (comparison int_eq) everywhere (Some (pos 1))
row_of_dyad NotLess = dyad_row (comparison (λ a b. int_le b a)) everywhere (Some (pos 1))
row_of_dyad Greater = dyad_row (comparison (λ a b. int_lt b a)) everywhere (Some (pos 0))
row_of_dyad NotEqual = dyad_row (comparison (λ a b. not (int_eq a b))) everywhere (Some (pos 0))

-- the item of a dyadic function at two numbers, or none, which is DOMAIN
abbrev pub dyadic_item : Dyad → ℤ → ℤ → Option ℤ
dyadic_item f a b = item_where ((row_of_dyad f).defined a b) ((row_of_dyad f).value a b)

-- the item at a character and another item, which are the same or not: only = and ≠ have one
abbrev pub item_of_chars : Dyad → Bool → Option ℤ
item_of_chars Equal same = Some (truth same)
item_of_chars NotEqual same = Some (truth (not same))
item_of_chars _ same = None

-- the item of a dyadic function at two items: a character and a number are never the same
abbrev pub pair_item : Dyad → Item → Item → Option ℤ
pair_item f (Number a) (Number b) = dyadic_item f a b
pair_item f (Char a) (Char b) = item_of_chars f (a == b)
pair_item f (Number a) (Char b) = item_of_chars f false
pair_item f (Char a) (Number b) = item_of_chars f false

-- whether a function takes characters: = and ≠ alone
abbrev pub takes_chars : Dyad → Bool
takes_chars Equal = true
takes_chars NotEqual = true
takes_chars _ = false
