-- Numbers of any length, by their digits.
use Rattle.std.proofs.Common.{◌≡◌, ℕ, ◌+◌, ◌-◌, ◌*◌, ◌<◌, min, Bool, true, false, not, ◌&&◌, eqb, cond, List, [], ◌∷◌, ◌++◌, length, take, drop, get_or, Option, Some, None, Ok, Err, refl, sym, ap, ◌∙◌, arith}
use Rattle.std.specs.List.{list_all}
use Rattle.std.proofs.lemmas.Bool.{false≢true}
use Rattle.std.proofs.lemmas.List.{take_more}
use Rattle.std.proofs.lemmas.List.Folds.{list_all-append, list_all_at}
use Rattle.apl_arrays.specs.Glyph.{is_digit, digit, digit_value}
use Rattle.apl_arrays.specs.Run.{begins}
use Rattle.apl_arrays.proofs.Runs.{run_splits, run_stops, take_run, drop_run}
use Rattle.line_text.proofs.Spans.{both}
use Rattle.text_reader.specs.Numeral.{is_numeral, value_from, number_of_digits, capped, numeral, digit_span, read_counted, read_count}
use Rattle.text_reader.proofs.Told.{first_told, second_told}

-- one digit more

pub value_push : (number : ℕ) (digits : List ℕ) (last : ℕ) → value_from number (digits ++ last ∷ []) ≡ value_from number digits * 10 + (last - 48)
value_push number [] last = refl
value_push number (first ∷ rest) last = value_push (number * 10 + (first - 48)) rest last

pub capped_push : (number one : ℕ) → min (min (min number 18446744073709551615 * 10) 18446744073709551615 + one) 18446744073709551615 ≡ min (number * 10 + one) 18446744073709551615
capped_push number one = omega arith

-- a number is of digits
pub numeral_digits : (word : List ℕ) → is_numeral word ≡ true → list_all is_digit word ≡ true
numeral_digits [] e = absurd (false≢true e)
numeral_digits (only ∷ []) e = ap (λ b. b && true) e
numeral_digits (first ∷ next ∷ rest) e = (both (not (eqb first (digit 0))) (list_all is_digit (first ∷ next ∷ rest)) e).1

-- whether a word is a number

chosen : (b : Bool) (x y : ℕ) → cond b (Some x) None ≡ Some y → (b ≡ true) × (y ≡ x)
chosen true x y e = (refl, cc)
chosen false x y e = absurd cc

unchosen : (b : Bool) (x : ℕ) → cond b (Some x) None ≡ None → b ≡ false
unchosen true x e = absurd cc
unchosen false x e = refl

pub numeral_is : (word : List ℕ) (number : ℕ) → numeral word ≡ Some number → (is_numeral word ≡ true) × (number ≡ capped (number_of_digits word))
numeral_is word number e = chosen (is_numeral word) (capped (number_of_digits word)) number e

pub numeral_known : (word : List ℕ) → is_numeral word ≡ true → numeral word ≡ Some (capped (number_of_digits word))
numeral_known word is = ap (λ b. cond b (Some (capped (number_of_digits word))) None) is

-- ---- digits that were read

-- so many digits were read, and this is their number
pub record DigitsTo (digits : List ℕ) (count value : ℕ) : Type 0 where
  pub are : list_all is_digit (take count digits) ≡ true
  pub number : value ≡ capped (number_of_digits (take count digits))

pub no_digits_yet : (digits : List ℕ) (value : ℕ) → value ≡ 0 → DigitsTo digits 0 value
no_digits_yet digits value e = record { are = refl; number = e }

pub one_digit_more : (digits : List ℕ) (at value byte one next d : ℕ) → DigitsTo digits at value → at < length digits → byte ≡ get_or digits at d → digit_value byte ≡ Some one
    → next ≡ min (min (value * 10) 18446744073709551615 + one) 18446744073709551615 → DigitsTo digits (at + 1) next
one_digit_more digits at value byte one next d so_far within read is sum =
    let digit_is = chosen (is_digit byte) (byte - 48) one is in
    let longer : take (at + 1) digits ≡ take at digits ++ byte ∷ [] = take_more digits at d within ∙ ap (λ last. take at digits ++ last ∷ []) (sym read) in
    let pushed : number_of_digits (take (at + 1) digits) ≡ number_of_digits (take at digits) * 10 + one =
    ap number_of_digits longer ∙ (value_push 0 (take at digits) byte ∙ ap (λ n. number_of_digits (take at digits) * 10 + n) (sym digit_is.1)) in
    record {
      are = ap (list_all is_digit) longer ∙ (list_all-append is_digit (take at digits) (byte ∷ []) ∙ rw (so_far.are, digit_is.0) refl);
      number = sum ∙ (ap (λ n. min (min (n * 10) 18446744073709551615 + one) 18446744073709551615) so_far.number ∙ (capped_push (number_of_digits (take at digits)) one ∙ ap capped (sym pushed)));
    }

pub no_digit_there : (digits : List ℕ) (at byte d : ℕ) → at < length digits → byte ≡ get_or digits at d → digit_value byte ≡ None → list_all is_digit digits ≡ false
no_digit_there digits at byte d within read is = list_all_at is_digit digits at d within (ap is_digit (sym read) ∙ unchosen (is_digit byte) (byte - 48) is)

-- ---- a number at the front

-- the digits of a number that was read, and what follows them
pub record CountFound (line : List ℕ) (number : ℕ) (rest : List ℕ) : Type 0 where
  pub word : List ℕ
  pub are : is_numeral word ≡ true
  pub number_is : number ≡ capped (number_of_digits word)
  pub whole : line ≡ word ++ rest
  pub apart : begins is_digit rest ≡ false

-- a number, and what follows it, as they are told
counted_ok : (found : Option ℕ) (after : List ℕ) (left number : ℕ) (rest : List ℕ) → read_counted found after left ≡ Ok (number, rest) → (found ≡ Some number) × (after ≡ rest)
counted_ok None after left number rest e = absurd (let none : ⊥ = cc in none)
counted_ok (Some one) after left number rest e =
    (ap Some (first_told one after number rest e), second_told one after number rest e)

-- what is read is a number
pub count_found : (line : List ℕ) (number : ℕ) (rest : List ℕ) → read_count line ≡ Ok (number, rest) → CountFound line number rest
count_found line number rest e =
    let told = counted_ok (numeral (take (digit_span line) line)) (drop (digit_span line) line) (length line) number rest e in
    let one = numeral_is (take (digit_span line) line) number told.0 in
    record {
      word = take (digit_span line) line;
      are = one.0;
      number_is = one.1;
      whole = run_splits is_digit line ∙ ap (λ (after : List ℕ). take (digit_span line) line ++ after) told.1;
      apart = ap (begins is_digit) (sym told.1) ∙ run_stops is_digit line;
    }

-- and a number is read, where no digit follows it
pub count_reads : (word rest : List ℕ) → is_numeral word ≡ true → begins is_digit rest ≡ false → read_count (word ++ rest) ≡ Ok (capped (number_of_digits word), rest)
count_reads word rest is stop =
    let line : List ℕ = word ++ rest in
    let digits : list_all is_digit word ≡ true = numeral_digits word is in
    ap (λ (w : List ℕ). read_counted (numeral w) (drop (digit_span line) line) (length line)) (take_run is_digit word rest digits stop)
    ∙ (ap (λ (after : List ℕ). read_counted (numeral word) after (length line)) (drop_run is_digit word rest digits stop)
    ∙ ap (λ (found : Option ℕ). read_counted found rest (length line)) (numeral_known word is))
