-- Counts, and what is asked for by what is said.
use Rattle.std.proofs.Common.{◌≡◌, ◌≤◌, ◌<◌, ◌^◌, ◌∷◌, ◌∙◌, ℕ, zero, suc, Bool, true, false, List, [], Option, Some, None, is_some, get_or, slice_get, length, decimal, refl, sym, ap, subst, arith}
use Rattle.std.proofs.lemmas.Bool.{false≢true}
use Rattle.std.proofs.lemmas.Fmt.{decimal-digits_value, decimal_digit, decimal_injective, decimal_nonempty, first_decimal}
use Rattle.std.proofs.lemmas.Option.{none-some}
use Rattle.std.proofs.lemmas.Str.Parse.{numerals_by_value, tells_digits, without_leading_plus_none}
use Rattle.std.specs.Str.Parse.{AllDigits, IsNumeral, digits_value, without_leading_plus}
use Rattle.aplsv_words.specs.Meaning.{Asked, AsksFor, CountsAs, IsCount, Means, NoCount, NothingCounts, Said, Say, Text, two_of}
use Rattle.aplsv_words.proofs.Parses.{said_once}

-- ---- counts

module _ (most : ℕ) (small : most < 2 ^ 64) where
  fits_in : (n : ℕ) → n ≤ most → n < 2 ^ 64
  fits_in n few = omega (arith, few, small)

  -- no count is without digits
  empty_counts_not : NoCount most []
  empty_counts_not n count =
      let some : 0 < length (decimal n) = decimal_nonempty n (fits_in n count.few) in
      let same : 0 ≡ length (decimal n) = ap length count.digits in
      omega (arith, some, same)

  pub nothing_there : (text : Text) → slice_get text 0 ≡ None → NoCount most text
  nothing_there [] none = empty_counts_not
  nothing_there (byte ∷ text) none = absurd (none-some byte (sym none))

  -- nor begins with a sign or a zero
  pub low_counts_not : (text : Text) → get_or text 0 0 ≤ 48 → NoCount most text
  low_counts_not text low n count =
      let first : 48 < get_or (decimal n) 0 0 = first_decimal n count.some (fits_in n count.few) in
      let same : get_or text 0 0 ≡ get_or (decimal n) 0 0 = ap (λ (t : Text). get_or t 0 0) count.digits in
      omega (arith, first, low, same)

  -- what is read of digits that begin with none of them is their count, if it is neither none nor too much
  pub read_counts : (text : Text) (n : ℕ) → 48 < get_or text 0 0 → IsNumeral 10 (without_leading_plus text) → n ≡ digits_value 10 (without_leading_plus text) → n ≤ most → IsCount most text n
  read_counts text n first numeral read few =
      let bare : without_leading_plus text ≡ text = without_leading_plus_none text (λ plus. omega (arith, first, plus)) in
      let digits : IsNumeral 10 text = subst (IsNumeral 10) bare numeral in
      let value : n ≡ digits_value 10 text = read ∙ ap (digits_value 10) bare in
      let spelled : decimal (digits_value 10 text) ≡ text = decimal-digits_value (numerals_by_value (AllDigits 10) tells_digits) text digits.1 digits.0 (λ zero. absurd (omega (arith, first, zero))) (omega (arith, value, few, small)) in
      let is : text ≡ decimal n = sym (ap decimal value ∙ spelled) in
      record { digits = is; some = filled is; few = few }
    where
      filled : text ≡ decimal n → 1 ≤ n
      filled is = by n refl where
        by : (m : ℕ) → n ≡ m → 1 ≤ n
        by zero none =
            let same : get_or text 0 0 ≡ 48 = ap (λ (t : Text). get_or t 0 0) (is ∙ (ap decimal none ∙ decimal_digit 0 (omega arith))) in
            absurd (omega (arith, first, same))
        by (suc m) more = omega (arith, more)

  -- a text has one count
  count_once : (text : Text) (n m : ℕ) → IsCount most text n → IsCount most text m → n ≡ m
  count_once text n m one other = decimal_injective n m (fits_in n one.few) (fits_in m other.few) (sym one.digits ∙ other.digits)

  -- and another count is none
  pub other_counts_not : (text : Text) (n : ℕ) → n < 2 ^ 64 → most < n → text ≡ decimal n → NoCount most text
  other_counts_not text n fits many is m count =
      let same : n ≡ m = decimal_injective n m fits (fits_in m count.few) (sym is ∙ count.digits) in
      omega (arith, many, same, count.few)

  pub counted_once : (written : Option Text) (one other : Option ℕ) → CountsAs most written one → CountsAs most written other → one ≡ other
  counted_once None None None a b = refl
  counted_once None None (Some m) a b = absurd b
  counted_once None (Some n) other a b = absurd a
  counted_once (Some text) None other a b = absurd a
  counted_once (Some text) (Some n) None a b = absurd b
  counted_once (Some text) (Some n) (Some m) a b = ap (λ (k : ℕ). Some k) (count_once text n m a b)

-- where a text is no count, nothing is asked for by it
pub no_count_counts : (most : ℕ) (text : Text) → NoCount most text → NothingCounts most (Some text)
no_count_counts most text none None counts = counts
no_count_counts most text none (Some n) counts = none n counts

-- a count that is written is one
pub counts_some : (most : ℕ) (text : Text) (count : Option ℕ) → CountsAs most (Some text) count → is_some count ≡ true
counts_some most text None counts = absurd counts
counts_some most text (Some n) counts = refl

-- ---- what is asked for

abbrev asks_with : Bool → Option ℕ → Option Text → Option Text → Bool → Option ℕ → Bool → Bool → Asked
asks_with replay workers library text clock load components relay =
    record { replay = replay; workers = workers; library = library; text = text; clock = clock; load = load; components = components; relay = relay }

-- what is said asks for one thing
pub asked_once : (said : Said) (one other : Asked) → AsksFor said one → AsksFor said other → one ≡ other
asked_once said one other a b =
    let replay : one.replay ≡ other.replay = a.replay ∙ sym b.replay in
    let workers : one.workers ≡ other.workers = counted_once 34 (omega arith) said.workers one.workers other.workers a.workers b.workers in
    let library : one.library ≡ other.library = a.library ∙ sym b.library in
    let text : one.text ≡ other.text = a.text ∙ sym b.text in
    let clock : one.clock ≡ other.clock = a.clock ∙ sym b.clock in
    let load : one.load ≡ other.load = counted_once 100000 (omega arith) said.load one.load other.load a.load b.load in
    let components : one.components ≡ other.components = a.components ∙ sym b.components in
    let relay : one.relay ≡ other.relay = a.relay ∙ sym b.relay in
    λ i. asks_with (replay i) (workers i) (library i) (text i) (clock i) (load i) (components i) (relay i)

-- words have one meaning
pub means_once : (words : List Text) (asked other : Asked) → Means words asked → Means words other → asked ≡ other
means_once words asked other one another =
    let same : one.said ≡ another.said = said_once words one.said another.said one.say another.say in
    asked_once another.said asked other (subst (λ (said : Said). AsksFor said asked) same one.asks) another.asks

-- two that hold are two of three
first_two : (a b c : Bool) → a ≡ true → b ≡ true → two_of a b c ≡ true
first_two false b c x y = absurd (false≢true x)
first_two true false c x y = absurd (false≢true y)
first_two true true c x y = refl

outer_two : (a b c : Bool) → a ≡ true → c ≡ true → two_of a b c ≡ true
outer_two false b c x y = absurd (false≢true x)
outer_two true b false x y = absurd (false≢true y)
outer_two true false true x y = refl
outer_two true true true x y = refl

last_two : (a b c : Bool) → b ≡ true → c ≡ true → two_of a b c ≡ true
last_two a false c x y = absurd (false≢true x)
last_two a true false x y = absurd (false≢true y)
last_two false true true x y = refl
last_two true true true x y = refl

module _ (words : List Text) (said : Said) (say : Say words said) (asked : Asked) (means : Means words asked) where
  same_said : means.said ≡ said
  same_said = said_once words means.said said means.say say

  -- what words mean is what they say asks for
  pub means_is_asked : AsksFor said asked
  means_is_asked = subst (λ (some : Said). AsksFor some asked) same_said means.asks

  asks_workers : (text : Text) → said.workers ≡ Some text → is_some asked.workers ≡ true
  asks_workers text workers = counts_some 34 text asked.workers (subst (λ (o : Option Text). CountsAs 34 o asked.workers) workers means_is_asked.workers)

  asks_load : (text : Text) → said.load ≡ Some text → is_some asked.load ≡ true
  asks_load text load = counts_some 100000 text asked.load (subst (λ (o : Option Text). CountsAs 100000 o asked.load) load means_is_asked.load)

  -- no two of a replay, workers and a load are asked for together
  pub replay_without_load : (text : Text) → said.replay ≡ true → said.load ≡ Some text → ⊥
  replay_without_load text replay load =
      false≢true (sym means_is_asked.single ∙ outer_two asked.replay (is_some asked.workers) (is_some asked.load) (means_is_asked.replay ∙ replay) (asks_load text load))

  pub replay_without_workers : (text : Text) → said.replay ≡ true → said.workers ≡ Some text → ⊥
  replay_without_workers text replay workers =
      false≢true (sym means_is_asked.single ∙ first_two asked.replay (is_some asked.workers) (is_some asked.load) (means_is_asked.replay ∙ replay) (asks_workers text workers))

  pub workers_without_load : (text other : Text) → said.workers ≡ Some text → said.load ≡ Some other → ⊥
  workers_without_load text other workers load =
      false≢true (sym means_is_asked.single ∙ last_two asked.replay (is_some asked.workers) (is_some asked.load) (asks_workers text workers) (asks_load other load))

  -- nor is anything asked for by what is no count
  pub no_load_by : (text : Text) → said.load ≡ Some text → NoCount 100000 text → ⊥
  no_load_by text load none = no_count_counts 100000 text none asked.load (subst (λ (o : Option Text). CountsAs 100000 o asked.load) load means_is_asked.load)

  pub no_workers_by : (text : Text) → said.workers ≡ Some text → NoCount 34 text → ⊥
  no_workers_by text workers none = no_count_counts 34 text none asked.workers (subst (λ (o : Option Text). CountsAs 34 o asked.workers) workers means_is_asked.workers)
