-- Reading a number of a range: it goes on exactly as long as a number of the range begins with its digits.
use Rattle.std.proofs.Common.{◌≡◌, ℕ, zero, suc, ◌+◌, ◌-◌, ◌*◌, ◌/◌, ◌%◌, ◌<◌, ◌≤◌, ◌^◌, max, Bool, true, false, ◌&&◌, ◌||◌, cond, leb, ltb, eqb, List, [], ◌∷◌, ◌++◌, Option, Some, None, Ok, Err, length, get_or, ◌⊎◌, inl, inr, refl, sym, ap, ◌∙◌, subst, append-nil, append_assoc, arith, lit<}
use Rattle.std.proofs.lemmas.Bool.{false≢true, cases_Bool}
use Rattle.std.proofs.lemmas.Bool.Decides.{nat_tests}
use Rattle.std.proofs.lemmas.List.Folds.{list_all-append}
use Rattle.std.proofs.lemmas.Fmt.{decimal_digit, decimal_step, decimal_step_wide, decimal_is_IsNumeral_wide, decimal_nonempty, first_decimal}
use Rattle.std.specs.Fmt.{decimal}
use Rattle.std.specs.List.{list_all}
use Rattle.std.specs.Str.Parse.{digits_value}
use Rattle.apl_arrays.specs.Glyph.{is_digit, digit_value}
use Rattle.apl_arrays.specs.Run.{begins}
use Rattle.line_text.proofs.Decimals.{digits_are_digits}
use Rattle.line_text.proofs.SameNumbers.{begins_count, same_count}
use Rattle.line_text.proofs.Spans.{both}
use Rattle.apl_arrays.specs.List.{first_of}
use Rattle.text_reader.specs.Reading.{Reader, Reading}
use Rattle.text_reader.specs.NumberReading.{reaches, with_digit, number_ends, reading_on, read_digits, read_number_behind, read_number, most_digits}
use Rattle.text_reader.proofs.Readers.{SameFirst, Found, Stopped, Reads, IsReader, same_end}

-- a number of the range
pub record InRange (low high n : ℕ) : Type 0 where
  pub least : low ≤ n
  pub most : n ≤ high

-- what follows does not go on with a digit
abbrev pub NoDigit : List ℕ → Type 0
NoDigit behind = begins is_digit behind ≡ false

-- the digits of one number begin with those of another one
pub record Heads (value n : ℕ) : Type 0 where
  pub others : List ℕ
  pub whole : decimal n ≡ decimal value ++ others

-- some number of the range begins so
pub record Reached (value low high : ℕ) : Type 0 where
  pub number : ℕ
  pub within : InRange low high number
  pub heads : Heads value number

same_wide : (m n : ℕ) → m < 10 ^ 64 → n < 10 ^ 64 → decimal m ≡ decimal n → m ≡ n
same_wide m n p q e = sym (decimal_is_IsNumeral_wide m p).1 ∙ (ap (digits_value 10) e ∙ (decimal_is_IsNumeral_wide n q).1)

some_digits : (n : ℕ) → n < 10 ^ 64 → 0 < length (decimal n)
some_digits n h = (decimal_is_IsNumeral_wide n h).0.0

-- the last glyph of a text that begins so, where it is no part of the beginning
without_last : (xs ys others : List ℕ) (d : ℕ) → 0 < length others → xs ++ d ∷ [] ≡ ys ++ others → (less : List ℕ) × (xs ≡ ys ++ less)
without_last xs [] others d more e = (xs, refl)
without_last [] (y ∷ ys) [] d more e = absurd (omega arith)
without_last [] (y ∷ []) (o ∷ others) d more e = absurd (let never : ⊥ = cc in never)
without_last [] (y ∷ z ∷ ys) (o ∷ others) d more e = absurd (let never : ⊥ = cc in never)
without_last (x ∷ xs) (y ∷ ys) others d more e =
    let heads : x ≡ y = cc in
    let tails : xs ++ d ∷ [] ≡ ys ++ others = cc in
    let inner = without_last xs ys others d more tails in
    (inner.0, cc (heads, inner.1))

one_glyph : (x : ℕ) (ys others : List ℕ) → 0 < length ys → 0 < length others → x ∷ [] ≡ ys ++ others → ⊥
one_glyph x [] others some more e = omega arith
one_glyph x (y ∷ ys) [] some more e = omega arith
one_glyph x (y ∷ []) (o ∷ others) some more e = cc
one_glyph x (y ∷ z ∷ ys) (o ∷ others) some more e = cc

-- digits behind others: the number has two at least, and begins so without its last one too
shorter : (value n : ℕ) (others : List ℕ) → value < 10 ^ 64 → n < 10 ^ 64 → 0 < length others → decimal n ≡ decimal value ++ others → (10 ≤ n) × Heads value (n / 10)
shorter value n others small fits more e =
    let large : 10 ≤ n = elim (cases_Bool (leb 10 n)) [
      | inl h ↦ grind (arith, nat_tests, h)
      | inr h ↦ absurd (one_glyph (48 + n) (decimal value) others (some_digits value small) more (sym (decimal_digit n (grind (arith, nat_tests, h))) ∙ e))
    ] in
    let less = without_last (decimal (n / 10)) (decimal value) others (48 + n % 10) more (sym (decimal_step_wide n large fits) ∙ e) in
    (large, record { others = less.0; whole = less.1 })

no_others : (value n : ℕ) → value < 10 ^ 64 → n < 10 ^ 64 → decimal n ≡ decimal value ++ [] → n ≡ value
no_others value n small fits e = same_wide n value fits small (e ∙ append-nil (decimal value))

-- a number that begins so is no less
pub head_is_least : (k value n : ℕ) → n < 10 ^ k → k ≤ 64 → value < 10 ^ 64 → n < 10 ^ 64 → (others : List ℕ) → decimal n ≡ decimal value ++ others → value ≤ n
head_is_least k value n below few small fits [] e = omega (arith, no_others value n small fits e)
head_is_least zero value n below few small fits (o ∷ others) e =
    absurd (omega (arith, (shorter value n (o ∷ others) small fits (omega arith) e).0))
head_is_least (suc k) value n below few small fits (o ∷ others) e =
    let less = shorter value n (o ∷ others) small fits (omega arith) e in
    let inner = head_is_least k value (n / 10) (omega arith) (omega arith) small (omega arith) less.1.others less.1.whole in
    omega (arith, inner)

true_parts : (a b : Bool) → (a && b) ≡ true → (a ≡ true) × (b ≡ true)
true_parts true b e = (refl, e)
true_parts false b e = absurd (false≢true e)

either_true : (a b : Bool) → (a || b) ≡ true → (a ≡ true) ⊎ (b ≡ true)
either_true true b e = inl refl
either_true false b e = inr e

reaches_most : (k value low high : ℕ) → reaches k value low high ≡ true → value ≤ high
reaches_most zero value low high e = absurd (false≢true e)
reaches_most (suc k) value low high e =
    let most : leb value high ≡ true = (true_parts (leb value high) (leb low value || reaches k value (max low 10 / 10) (high / 10)) e).0 in
    grind (arith, nat_tests, most)

-- a digit more
extended : (value low high : ℕ) → 10 ≤ high → low ≤ high → high < 2 ^ 64 → Reached value (max low 10 / 10) (high / 10) → Reached value low high
extended value low high tens range fits r =
    let least : max low 10 / 10 ≤ r.number = r.within.least in
    let most : r.number ≤ high / 10 = r.within.most in
    let n : ℕ = max (max low 10) (10 * r.number) in
    let cut : n / 10 ≡ r.number = omega (arith, least, most) in
    let below : n ≤ high = omega (arith, least, most) in
    let above : low ≤ n = omega arith in
    let long : 10 ≤ n = omega arith in
    record {
      number = n;
      within = record { least = above; most = below };
      heads = record {
        others = r.heads.others ++ (48 + n % 10) ∷ [];
        whole = decimal_step n long (omega arith) ∙ (ap (λ x. decimal x ++ (48 + n % 10) ∷ []) cut ∙ (ap (λ t. t ++ (48 + n % 10) ∷ []) r.heads.whole ∙ append_assoc (decimal value) r.heads.others ((48 + n % 10) ∷ [])));
      };
    }

-- where it is said to, a number of the range begins so
pub reached : (k value low high : ℕ) → 0 < value → low ≤ high → high < 2 ^ 64 → reaches k value low high ≡ true → Reached value low high
reached zero value low high some range fits e = absurd (false≢true e)
reached (suc k) value low high some range fits e =
    let parts = true_parts (leb value high) (leb low value || reaches k value (max low 10 / 10) (high / 10)) e in
    let first : leb value high ≡ true = parts.0 in
    let most : value ≤ high = grind (arith, nat_tests, first) in
    elim (either_true (leb low value) (reaches k value (max low 10 / 10) (high / 10)) parts.1) [
      | inl h ↦ record { number = value; within = record { least = grind (arith, nat_tests, h); most = most }; heads = record { others = []; whole = sym (append-nil (decimal value)) } }
      | inr h ↦
          let fewer : value ≤ high / 10 = reaches_most k value (max low 10 / 10) (high / 10) h in
          let tens : 10 ≤ high = omega (arith, fewer, some) in
          extended value low high tens range fits (reached k value (max low 10 / 10) (high / 10) some (omega (arith, tens, range)) (omega (arith, fits)) h)
    ]

and_is : (a b : Bool) → a ≡ true → b ≡ true → (a && b) ≡ true
and_is true b p q = q
and_is false b p q = p

or_first : (a b : Bool) → a ≡ true → (a || b) ≡ true
or_first true b p = refl
or_first false b p = absurd (false≢true p)

or_second : (a b : Bool) → b ≡ true → (a || b) ≡ true
or_second true b p = refl
or_second false b p = p

-- and it is said wherever a number of the range begins so
pub reached_is_said : (k value low high n : ℕ) → 0 < value → value < 10 ^ 64 → high < 2 ^ 64 → n < 10 ^ k → k ≤ 64 → InRange low high n → (others : List ℕ) → decimal n ≡ decimal value ++ others → reaches k value low high ≡ true
reached_is_said zero value low high n some small fits below few within others heads =
    absurd (omega (arith, some, below, head_is_least 0 value n below few small (omega (arith, fits, within.most)) others heads))
reached_is_said (suc k) value low high n some small fits below few within [] heads =
    let same : n ≡ value = no_others value n small (omega (arith, fits, within.most)) heads in
    let most : value ≤ high = omega (arith, within.most) in
    let least : low ≤ value = omega (arith, within.least) in
    and_is (leb value high) (leb low value || reaches k value (max low 10 / 10) (high / 10)) (grind (arith, nat_tests, most)) (or_first (leb low value) (reaches k value (max low 10 / 10) (high / 10)) (grind (arith, nat_tests, least)))
reached_is_said (suc k) value low high n some small fits below few within (o ∷ others) heads =
    let wide : n < 10 ^ 64 = omega (arith, fits, within.most) in
    let least : value ≤ n = head_is_least (suc k) value n below few small wide (o ∷ others) heads in
    let most : value ≤ high = omega (arith, within.most) in
    let less = shorter value n (o ∷ others) small wide (omega arith) heads in
    let inner = reached_is_said k value (max low 10 / 10) (high / 10) (n / 10) some small (omega (arith, fits)) (omega (arith, below)) (omega (arith, few)) (record { least = omega (arith, within.least, less.0); most = omega (arith, within.most) }) less.1.others less.1.whole in
    and_is (leb value high) (leb low value || reaches k value (max low 10 / 10) (high / 10)) (grind (arith, nat_tests, most)) (or_second (leb low value) (reaches k value (max low 10 / 10) (high / 10)) inner)

-- a digit and its value, or no digit
pub record IsDigit (glyph : ℕ) : Type 0 where
  pub value : ℕ
  pub small : value < 10
  pub is : glyph ≡ 48 + value
  pub told : digit_value glyph ≡ Some value

pub record IsNoDigit (glyph : ℕ) : Type 0 where
  pub is : is_digit glyph ≡ false
  pub told : digit_value glyph ≡ None

pub digit_or_not : (glyph : ℕ) → IsDigit glyph ⊎ IsNoDigit glyph
digit_or_not glyph =
    elim (cases_Bool (is_digit glyph)) [
      | inl h ↦ inl (record { value = glyph - 48; small = grind (arith, nat_tests, h); is = grind (arith, nat_tests, h); told = ap (λ b. cond b (Some (glyph - 48)) None) h })
      | inr h ↦ inr (record { is = h; told = ap (λ b. cond b (Some (glyph - 48)) None) h })
    ]

-- a text whose glyphs pass, up to where none passes, and another one that begins with these
pub begins_within : (p : ℕ → Bool) (xs ys behind z : List ℕ) → list_all p ys ≡ true → begins p behind ≡ false → xs ++ behind ≡ ys ++ z → (more : List ℕ) × (xs ≡ ys ++ more)
begins_within p xs [] behind z all stop e = (xs, refl)
begins_within p [] (y ∷ ys) behind z all stop e =
    absurd (false≢true (sym stop ∙ (ap (begins p) e ∙ (both (p y) (list_all p ys) all).0)))
begins_within p (x ∷ xs) (y ∷ ys) behind z all stop e =
    let heads : x ≡ y = cc in
    let tails : xs ++ behind ≡ ys ++ z = cc in
    let inner = begins_within p xs ys behind z (both (p y) (list_all p ys) all).1 stop tails in
    (inner.0, cc (heads, inner.1))

-- one digit more
one_more : (value digit : ℕ) → 0 < value → value < 2 ^ 64 → digit < 10 → decimal (value * 10 + digit) ≡ decimal value ++ (48 + digit) ∷ []
one_more value digit some fits small =
    let cut : (value * 10 + digit) / 10 ≡ value = omega arith in
    let last : (value * 10 + digit) % 10 ≡ digit = omega arith in
    decimal_step_wide (value * 10 + digit) (omega arith) (omega arith) ∙ (ap (λ x. decimal x ++ (48 + (value * 10 + digit) % 10) ∷ []) cut ∙ ap (λ x. decimal value ++ (48 + x) ∷ []) last)

digits_more : (value digit : ℕ) → 0 < value → value < 2 ^ 64 → digit < 10 → list_all is_digit (decimal value ++ (48 + digit) ∷ []) ≡ true
digits_more value digit some fits small =
    let last : is_digit (48 + digit) ≡ true = grind (arith, nat_tests, small) in
    list_all-append is_digit (decimal value) ((48 + digit) ∷ []) ∙ (ap (λ b. b && (is_digit (48 + digit) && true)) (digits_are_digits value fits) ∙ ap (λ b. b && true) last)

-- what stands behind a number

pub begins_same : (p : ℕ → Bool) (one other : List ℕ) → SameFirst one other → begins p one ≡ begins p other
begins_same p [] [] e = refl
begins_same p (x ∷ xs) (y ∷ ys) e = ap p (let same : x ≡ y = cc in same)
begins_same p [] (y ∷ ys) e = absurd (let never : ⊥ = cc in never)
begins_same p (x ∷ xs) [] e = absurd (let never : ⊥ = cc in never)

-- no other number begins so where no digit goes on
same_here : (low high value : ℕ) → high < 2 ^ 64 → value ≤ high → (line : List ℕ) → NoDigit line → (w : ℕ) (behind z : List ℕ) → InRange low high w → NoDigit behind → decimal w ++ behind ≡ decimal value ++ z → SameFirst z line → w ≡ value
same_here low high value fits most line stop w behind z within nothing e agree =
    (same_count w value behind z (omega (arith, within.most)) (omega arith) nothing (begins_same is_digit z line agree ∙ stop) e).0

-- nor where a digit goes on with which no number of the range does
none_longer : (low high value : ℕ) → high < 2 ^ 64 → 0 < value → value ≤ high → (x : ℕ) (xs : List ℕ) (d : IsDigit x) → reaches most_digits (value * 10 + d.value) low high ≡ false → (w : ℕ) (behind z : List ℕ) → InRange low high w → NoDigit behind → decimal w ++ behind ≡ decimal value ++ z → SameFirst z (x ∷ xs) → ⊥
none_longer low high value fits some most x xs d never w behind [] within nothing e agree = let none : ⊥ = cc in none
none_longer low high value fits some most x xs d never w behind (y ∷ z) within nothing e agree =
    let head : y ≡ 48 + d.value = (let same : y ≡ x = cc in same) ∙ d.is in
    let whole : decimal w ++ behind ≡ (decimal value ++ (48 + d.value) ∷ []) ++ z = e ∙ (ap (λ g. decimal value ++ g ∷ z) head ∙ sym (append_assoc (decimal value) ((48 + d.value) ∷ []) z)) in
    let more = begins_within is_digit (decimal w) (decimal value ++ (48 + d.value) ∷ []) behind z (digits_more value d.value some (omega arith) d.small) nothing whole in
    let heads : decimal w ≡ decimal (value * 10 + d.value) ++ more.0 = more.1 ∙ ap (λ t. t ++ more.0) (sym (one_more value d.value some (omega arith) d.small)) in
    let said = reached_is_said most_digits (value * 10 + d.value) low high w (omega arith) (omega (arith, d.small)) fits (omega (arith, within.most)) (omega arith) within more.0 heads in
    false≢true (sym never ∙ said)

-- a number that ends here
ended_read : (low high value : ℕ) → value ≤ high → Reached value low high → (line : List ℕ) → ((w : ℕ) (behind z : List ℕ) → InRange low high w → NoDigit behind → decimal w ++ behind ≡ decimal value ++ z → SameFirst z line → w ≡ value) → (b : Bool) → leb low value ≡ b → Reads decimal (InRange low high) NoDigit SameFirst (decimal value ++ line) (cond b (Ok (value, line)) (Err (length line)))
ended_read low high value most r line only true h = record {
  fits = record { least = grind (arith, nat_tests, h); most = most };
  whole = refl;
  only = only;
}
ended_read low high value most r line only false h = record {
  part = decimal value;
  rest = line;
  whole = refl;
  left_is = refl;
  value = r.number;
  more = r.heads.others;
  fits = r.within;
  goes_on = r.heads.whole;
  none = λ w behind z within nothing e agree.
      let same : w ≡ value = only w behind z within nothing e agree in
      let less : value < low = grind (arith, nat_tests, h) in
      omega (arith, same, less, within.least);
}

digit_read : (low high value : ℕ) → high < 2 ^ 64 → 0 < value → value ≤ high → Reached value low high → low ≤ high → (x : ℕ) (xs : List ℕ) (d : IsDigit x) → ((longer : ℕ) → 0 < longer → longer ≤ high → Reached longer low high → Reads decimal (InRange low high) NoDigit SameFirst (decimal longer ++ xs) (read_digits low high longer xs)) → (b : Bool) → reaches most_digits (value * 10 + d.value) low high ≡ b → Reads decimal (InRange low high) NoDigit SameFirst (decimal value ++ x ∷ xs) (reading_on (cond b (Some (value * 10 + d.value)) None) (λ longer. read_digits low high longer xs) (number_ends low value (x ∷ xs)))
digit_read low high value fits some most r range x xs d next true h =
    let longer : ℕ = value * 10 + d.value in
    let line : decimal longer ++ xs ≡ decimal value ++ x ∷ xs = ap (λ t. t ++ xs) (one_more value d.value some (omega arith) d.small) ∙ (append_assoc (decimal value) ((48 + d.value) ∷ []) xs ∙ ap (λ g. decimal value ++ g ∷ xs) (sym d.is)) in
    subst (λ t. Reads decimal (InRange low high) NoDigit SameFirst t (read_digits low high longer xs)) line (next longer (omega arith) (reaches_most most_digits longer low high h) (reached most_digits longer low high (omega arith) range fits h))
digit_read low high value fits some most r range x xs d next false h =
    ended_read low high value most r (x ∷ xs) (λ w behind z within nothing e agree. absurd (none_longer low high value fits some most x xs d h w behind z within nothing e agree)) (leb low value) refl

-- the digits of a number go on
digits_read : (low high value : ℕ) → high < 2 ^ 64 → low ≤ high → 0 < value → value ≤ high → Reached value low high → (line : List ℕ) → Reads decimal (InRange low high) NoDigit SameFirst (decimal value ++ line) (read_digits low high value line)
digits_read low high value fits range some most r [] =
    ended_read low high value most r [] (same_here low high value fits most [] refl) (leb low value) refl
digits_read low high value fits range some most r (x ∷ xs) =
    elim (digit_or_not x) [
      | inl d ↦
          subst (λ told. Reads decimal (InRange low high) NoDigit SameFirst (decimal value ++ x ∷ xs) (reading_on (with_digit low high value told) (λ longer. read_digits low high longer xs) (number_ends low value (x ∷ xs)))) (sym d.told)
          (digit_read low high value fits some most r range x xs d (λ longer p q s. digits_read low high longer fits range p q s xs) (reaches most_digits (value * 10 + d.value) low high) refl)
      | inr n ↦
          subst (λ told. Reads decimal (InRange low high) NoDigit SameFirst (decimal value ++ x ∷ xs) (reading_on (with_digit low high value told) (λ longer. read_digits low high longer xs) (number_ends low value (x ∷ xs)))) (sym n.told)
          (ended_read low high value most r (x ∷ xs) (same_here low high value fits most (x ∷ xs) n.is) (leb low value) refl)
    ]

-- no number of the range begins as the line does
stops_first : (low high : ℕ) → low ≤ high → (line : List ℕ) → ((w : ℕ) (behind z : List ℕ) → InRange low high w → NoDigit behind → decimal w ++ behind ≡ z → SameFirst z line → ⊥) → Stopped decimal (InRange low high) NoDigit line (length line)
stops_first low high range line none = record {
  part = [];
  rest = line;
  whole = refl;
  left_is = refl;
  value = low;
  more = decimal low;
  fits = record { least = omega arith; most = range };
  goes_on = refl;
  none = none;
}

-- a number begins with a digit
number_begins : (low high : ℕ) → high < 2 ^ 64 → (w : ℕ) (behind z line : List ℕ) → InRange low high w → decimal w ++ behind ≡ z → SameFirst z line → begins is_digit line ≡ true
number_begins low high fits w behind z line within e agree =
    sym (begins_same is_digit z line agree) ∙ (ap (begins is_digit) (sym e) ∙ begins_count w behind (omega (arith, fits, within.most)))

first_glyph : (x : ℕ) (text behind rest : List ℕ) → 0 < length text → SameFirst (text ++ behind) (x ∷ rest) → get_or text 0 0 ≡ x
first_glyph x [] behind rest some e = absurd (omega arith)
first_glyph x (y ∷ text) behind rest some e = cc

-- 0 begins no other number
only_nought : (low high : ℕ) → high < 2 ^ 64 → (w : ℕ) (behind z rest : List ℕ) → InRange low high w → decimal w ++ behind ≡ z → SameFirst z (48 ∷ rest) → w ≡ 0
only_nought low high fits w behind z rest within e agree =
    let small : w < 2 ^ 64 = omega (arith, fits, within.most) in
    let first : get_or (decimal w) 0 0 ≡ 48 = first_glyph 48 (decimal w) behind rest (decimal_nonempty w small) (ap first_of e ∙ agree) in
    elim (cases_Bool (eqb w 0)) [
      | inl h ↦ grind (arith, nat_tests, h)
      | inr h ↦ absurd (let some : 0 < w = grind (arith, nat_tests, h) in omega (arith, first, first_decimal w some small))
    ]

nought_read : (low high : ℕ) → high < 2 ^ 64 → low ≤ high → (rest : List ℕ) → (b : Bool) → eqb low 0 ≡ b → Reads decimal (InRange low high) NoDigit SameFirst (48 ∷ rest) (cond b (Ok (0, rest)) (Err (length (48 ∷ rest))))
nought_read low high fits range rest true h = record {
  fits = record { least = grind (arith, nat_tests, h); most = omega arith };
  whole = ap (λ t. t ++ rest) (sym (decimal_digit 0 (omega arith)));
  only = λ w behind z within nothing e agree. only_nought low high fits w behind (decimal 0 ++ z) z within e (ap (λ t. first_of (t ++ z)) (decimal_digit 0 (omega arith)));
}
nought_read low high fits range rest false h =
    stops_first low high range (48 ∷ rest) (λ w behind z within nothing e agree.
    let some : 0 < low = grind (arith, nat_tests, h) in
    omega (arith, some, within.least, only_nought low high fits w behind z rest within e agree))

digit_glyph : (value : ℕ) → value < 10 → is_digit (48 + value) ≡ true
digit_glyph value small = grind (arith, nat_tests, small)

-- a first digit with which no number of the range begins
none_begins : (low high value : ℕ) → high < 2 ^ 64 → 0 < value → value < 10 → (rest : List ℕ) → reaches most_digits value low high ≡ false → (w : ℕ) (behind z : List ℕ) → InRange low high w → NoDigit behind → decimal w ++ behind ≡ z → SameFirst z ((48 + value) ∷ rest) → ⊥
none_begins low high value fits some small rest never w behind [] within nothing e agree = let none : ⊥ = cc in none
none_begins low high value fits some small rest never w behind (y ∷ z) within nothing e agree =
    let head : y ≡ 48 + value = cc in
    let digit : is_digit (48 + value) ≡ true = digit_glyph value small in
    let whole : decimal w ++ behind ≡ ((48 + value) ∷ []) ++ z = e ∙ ap (λ g. g ∷ z) head in
    let more = begins_within is_digit (decimal w) ((48 + value) ∷ []) behind z (ap (λ b. b && true) digit) nothing whole in
    let heads : decimal w ≡ decimal value ++ more.0 = more.1 ∙ ap (λ t. t ++ more.0) (sym (decimal_digit value small)) in
    false≢true (sym never ∙ reached_is_said most_digits value low high w some (omega arith) fits (omega (arith, within.most)) (omega arith) within more.0 heads)

first_read : (low high value : ℕ) → high < 2 ^ 64 → low ≤ high → 0 < value → value < 10 → (rest : List ℕ) → (b : Bool) → reaches most_digits value low high ≡ b → Reads decimal (InRange low high) NoDigit SameFirst ((48 + value) ∷ rest) (cond b (read_digits low high value rest) (Err (length ((48 + value) ∷ rest))))
first_read low high value fits range some small rest true h =
    subst (λ t. Reads decimal (InRange low high) NoDigit SameFirst (t ++ rest) (read_digits low high value rest)) (decimal_digit value small)
    (digits_read low high value fits range some (reaches_most most_digits value low high h) (reached most_digits value low high some range fits h) rest)
first_read low high value fits range some small rest false h =
    stops_first low high range ((48 + value) ∷ rest) (none_begins low high value fits some small rest h)

behind_read : (low high value : ℕ) → high < 2 ^ 64 → low ≤ high → value < 10 → (rest : List ℕ) → Reads decimal (InRange low high) NoDigit SameFirst ((48 + value) ∷ rest) (read_number_behind low high (Some value) rest (length ((48 + value) ∷ rest)))
behind_read low high zero fits range small rest = nought_read low high fits range rest (eqb low 0) refl
behind_read low high (suc before) fits range small rest =
    first_read low high (suc before) fits range (omega arith) small rest (reaches most_digits (suc before) low high) refl

-- a number of a range is read, whatever the line is
pub number_reads : (low high : ℕ) → high < 2 ^ 64 → low ≤ high → (line : List ℕ) → Reads decimal (InRange low high) NoDigit SameFirst line (read_number low high line)
number_reads low high fits range [] =
    stops_first low high range [] (λ w behind z within nothing e agree. false≢true (number_begins low high fits w behind z [] within e agree))
number_reads low high fits range (x ∷ rest) =
    elim (digit_or_not x) [
      | inl d ↦
          subst (λ told. Reads decimal (InRange low high) NoDigit SameFirst (x ∷ rest) (read_number_behind low high told rest (length (x ∷ rest)))) (sym d.told)
          (subst (λ g. Reads decimal (InRange low high) NoDigit SameFirst (g ∷ rest) (read_number_behind low high (Some d.value) rest (length (g ∷ rest)))) (sym d.is)
          (behind_read low high d.value fits range d.small rest))
      | inr n ↦
          subst (λ told. Reads decimal (InRange low high) NoDigit SameFirst (x ∷ rest) (read_number_behind low high told rest (length (x ∷ rest)))) (sym n.told)
          (stops_first low high range (x ∷ rest) (λ w behind z within nothing e agree. false≢true (sym n.is ∙ number_begins low high fits w behind z (x ∷ rest) within e agree)))
    ]

-- a number of the range is read
pub reads_number : (low high : ℕ) → high < 2 ^ 64 → low ≤ high → IsReader decimal (InRange low high) NoDigit SameFirst (read_number low high)
reads_number low high fits range line a = number_reads low high fits range line
