-- A constant of numbers is computed exactly where the grammar has one.
use Rattle.std.proofs.Common.{◌≡◌, ℕ, zero, suc, ◌+◌, ◌-◌, ◌<◌, ℤ, Bool, true, false, List, [], ◌∷◌, ◌++◌, Option, Some, None, length, take, drop, refl, sym, ap, subst, ◌∙◌, append_assoc, arith}
use Rattle.std.specs.List.{prefix_len, list_all}
use Rattle.std.proofs.Math.Seq.{drop-append_seam}
use Rattle.std.proofs.lemmas.Bool.{and_parts}
use Rattle.std.proofs.lemmas.Bool.Decides.{nat_tests}
use Rattle.std.proofs.lemmas.List.{length-append}
use Rattle.std.proofs.lemmas.List.Folds.{length-prefix_len}
use Rattle.apl_arrays.specs.Glyph as named
use Rattle.apl_arrays.specs.Glyph.{is_blank, is_digit}
use Rattle.line_scanner.specs.Number.{number, next_number, next_numbers, numbers_then, number_with_more, constant}
use Rattle.apl_arrays.specs.Run.{begins}
use Rattle.line_scanner.specs.Grammar.{AreBlank, AreDigits, overbar_if, NumberNext, AreNext, IsNumericConstant, NoNumberNext}
use Rattle.apl_arrays.proofs.Runs.{run_passes, run_splits, drop_run, run_is, begins_both, begins_front}
use Rattle.line_scanner.proofs.Numbers.{nothing_next, next_numbers_some, next_numbers_none}
use Rattle.line_scanner.proofs.NumberLaw.{NumberTaken, number_sound, number_complete}
use Rattle.std.proofs.lemmas.Option.{none-some}
use Rattle.line_scanner.proofs.Found.{behind_some}

-- a number taken behind blanks
pub record NextTaken (line : List ℕ) (value : ℤ) (taken : ℕ) : Type 0 where
  pub blanks : List ℕ
  pub are_blank : AreBlank blanks
  pub beyond : List ℕ
  pub whole : line ≡ blanks ++ beyond
  pub inner : ℕ
  pub first : NumberTaken beyond value inner
  pub len : taken ≡ length blanks + inner

pub next_sound : (line : List ℕ) (found : ℤ × ℕ) → next_number line ≡ Some found → NextTaken line found.0 found.1
unfolding next_number
next_sound line found e =
    let count = prefix_len is_blank line in
    let p = behind_some count (number (drop count line)) found e in
    let len : length (take count line) ≡ count = length-prefix_len is_blank line in
    record {
      blanks = take count line;
      are_blank = run_passes is_blank line;
      beyond = drop count line;
      whole = run_splits is_blank line;
      inner = p.0.1;
      first = subst (λ (z : ℤ). NumberTaken (drop count line) z p.0.1) p.2 (number_sound (drop count line) p.0 p.1);
      len = omega (arith, p.3, len);
    }

overbar_not_blank : is_blank named.overbar ≡ false
overbar_not_blank = refl

digit_not_blank : (g : ℕ) → is_digit g ≡ true → is_blank g ≡ false
digit_not_blank g e = grind (arith, nat_tests)

-- a number does not begin with a blank
not_blank : (number others : List ℕ) (negative : Bool) (digits : List ℕ) → number ≡ overbar_if negative ++ digits → AreDigits digits → begins is_blank (number ++ others) ≡ false
not_blank number others true digits e are = ap (λ (xs : List ℕ). begins is_blank (xs ++ others)) e
not_blank number others false [] e are = absurd (omega (arith, are.some))
not_blank number others false (d ∷ digits) e are =
    let parts = and_parts (is_digit d) (list_all is_digit digits) are.all in
    ap (λ (xs : List ℕ). begins is_blank (xs ++ others)) e ∙ digit_not_blank d parts.0

-- what comes next by the grammar is computed
pub next_complete : (line : List ℕ) (value : ℤ) (others : List ℕ) (h : NumberNext line value others) → next_number line ≡ Some (value, length h.blanks + length h.first.number)
unfolding next_number
next_complete line value others h =
    let n = h.first.is_number in
    let front : begins is_blank h.behind ≡ false = ap (begins is_blank) h.first.whole ∙ not_blank h.first.number others n.negative n.digits n.spelled n.are_digits in
    let count : prefix_len is_blank line ≡ length h.blanks = ap (prefix_len is_blank) h.whole ∙ run_is is_blank h.blanks h.behind h.are_blank front in
    let rest : drop (prefix_len is_blank line) line ≡ h.behind = ap (λ (xs : List ℕ). drop (prefix_len is_blank xs) xs) h.whole ∙ drop_run is_blank h.blanks h.behind h.are_blank front in
    rw (rest, count, number_complete h.behind value others h.first) refl

-- where none is computed the grammar has none
pub next_none : (line : List ℕ) → next_number line ≡ None → (value : ℤ) (others : List ℕ) → NumberNext line value others → ⊥
next_none line e value others h = none-some (value, length h.blanks + length h.first.number) (sym e ∙ next_complete line value others h)

-- and the other way round
next_absent : (line : List ℕ) (found : Option (ℤ × ℕ)) → next_number line ≡ found → ((value : ℤ) (others : List ℕ) → NumberNext line value others → ⊥) → found ≡ None
next_absent line None e absent = refl
next_absent line (Some found) e absent =
    let h = next_sound line found e in
    absurd (absent found.0 h.first.rest (record {
      blanks = h.blanks;
      behind = h.beyond;
      whole = h.whole;
      are_blank = h.are_blank;
      first = record { number = h.first.number; whole = h.first.whole; is_number = h.first.is_number; ends = h.first.ends };
    }))

pub no_next : (line : List ℕ) → ((value : ℤ) (others : List ℕ) → NumberNext line value others → ⊥) → next_number line ≡ None
no_next line absent = next_absent line (next_number line) refl absent

-- numbers taken one after the other
pub record NumbersTaken (line : List ℕ) (values : List ℤ) (taken : ℕ) : Type 0 where
  pub text : List ℕ
  pub rest : List ℕ
  pub whole : line ≡ text ++ rest
  pub are_next : AreNext values text
  pub ends : begins is_digit line ≡ false → NoNumberNext rest
  pub len : taken ≡ length text

no_numbers : (line : List ℕ) → next_number line ≡ None → NumbersTaken line [] 0
no_numbers line e = record { text = []; rest = line; whole = refl; are_next = refl; ends = λ no_digit. record { no_digit = no_digit; no_number = next_none line e }; len = refl }

-- a number and those behind it
one_more : (line : List ℕ) (value : ℤ) (n : ℕ) (values : List ℤ) (m : ℕ) (h : NextTaken line value n) → NumbersTaken h.first.rest values m → NumbersTaken line (value ∷ values) (n + m)
one_more line value n values m h t =
    let number = h.first.number in
    let shape : line ≡ h.blanks ++ (number ++ (t.text ++ t.rest)) = h.whole ∙ ap (λ (xs : List ℕ). h.blanks ++ xs) (h.first.whole ∙ ap (λ (xs : List ℕ). number ++ xs) t.whole) in
    let ends : begins is_digit t.text ≡ false = begins_front is_digit t.text t.rest (ap (begins is_digit) (sym t.whole) ∙ h.first.ends) in
    record {
      text = h.blanks ++ (number ++ t.text);
      rest = t.rest;
      whole = shape ∙ ap (λ (xs : List ℕ). h.blanks ++ xs) (sym (append_assoc number t.text t.rest)) ∙ sym (append_assoc h.blanks (number ++ t.text) t.rest);
      are_next = (
        t.text,
        record {
          blanks = h.blanks;
          behind = number ++ t.text;
          whole = refl;
          are_blank = h.are_blank;
          first = record { number = number; whole = refl; is_number = h.first.is_number; ends = ends };
        },
        t.are_next,
      );
      ends = λ _. t.ends h.first.ends;
      len = omega (arith, h.len, h.first.len, t.len, length-append h.blanks (number ++ t.text), length-append number t.text);
    }

numbers_by : (line : List ℕ) (rest : List ℕ) (first : ℕ) (found : Option (ℤ × ℕ)) → line ≡ first ∷ rest → next_number line ≡ found
    → ((passed : ℕ) → NumbersTaken (drop passed rest) (next_numbers passed rest).0 (next_numbers passed rest).1)
    → NumbersTaken line (numbers_then found (λ passed. next_numbers passed rest)).0 (numbers_then found (λ passed. next_numbers passed rest)).1
numbers_by line rest first None shape e beyond = no_numbers line e
numbers_by line rest first (Some found) shape e beyond =
    let h = next_sound line found e in
    let split : first ∷ rest ≡ (h.blanks ++ h.first.number) ++ h.first.rest = sym shape ∙ h.whole ∙ ap (λ (xs : List ℕ). h.blanks ++ xs) h.first.whole ∙ sym (append_assoc h.blanks h.first.number h.first.rest) in
    let len : length (h.blanks ++ h.first.number) ≡ suc (found.1 - 1) = omega (arith, length-append h.blanks h.first.number, h.len, h.first.len, h.first.some) in
    let behind : drop (found.1 - 1) rest ≡ h.first.rest = ap (λ (n : ℕ). drop n (first ∷ rest)) (sym len) ∙ ap (drop (length (h.blanks ++ h.first.number))) split ∙ drop-append_seam (h.blanks ++ h.first.number) h.first.rest in
    let more = next_numbers (found.1 - 1) rest in
    one_more line found.0 found.1 more.0 more.1 h (subst (λ (xs : List ℕ). NumbersTaken xs more.0 more.1) behind (beyond (found.1 - 1)))

-- what is computed are numbers
pub numbers_sound : (passed : ℕ) (line : List ℕ) → NumbersTaken (drop passed line) (next_numbers passed line).0 (next_numbers passed line).1
unfolding next_numbers
numbers_sound zero [] = no_numbers [] nothing_next
numbers_sound (suc passed) [] = no_numbers [] nothing_next
numbers_sound (suc passed) (first ∷ rest) = numbers_sound passed rest
numbers_sound zero (first ∷ rest) = numbers_by (first ∷ rest) rest first (next_number (first ∷ rest)) refl refl (λ passed. numbers_sound passed rest)

-- a constant taken from the front of a line
pub record ConstantTaken (line : List ℕ) (values : List ℤ) (taken : ℕ) : Type 0 where
  pub text : List ℕ
  pub rest : List ℕ
  pub whole : line ≡ text ++ rest
  pub is_constant : IsNumericConstant values text
  pub ends : NoNumberNext rest
  pub len : taken ≡ length text
  pub some : 0 < taken

constant_by : (line : List ℕ) (value : ℤ) (n : ℕ) (values : List ℤ) (m : ℕ) (h : NumberTaken line value n) → NumbersTaken h.rest values m → ConstantTaken line (value ∷ values) (n + m)
constant_by line value n values m h t =
    let ends : begins is_digit t.text ≡ false = begins_front is_digit t.text t.rest (ap (begins is_digit) (sym t.whole) ∙ h.ends) in
    record {
      text = h.number ++ t.text;
      rest = t.rest;
      whole = h.whole ∙ ap (λ (xs : List ℕ). h.number ++ xs) t.whole ∙ sym (append_assoc h.number t.text t.rest);
      is_constant = (t.text, record { number = h.number; whole = refl; is_number = h.is_number; ends = ends }, t.are_next);
      ends = t.ends h.ends;
      len = omega (arith, h.len, t.len, length-append h.number t.text);
      some = omega (arith, h.some);
    }

-- what is computed is a constant
pub constant_sound : (line : List ℕ) (first : ℤ × ℕ) → number line ≡ Some first → ConstantTaken line (number_with_more first (next_numbers first.1 line)).0 (number_with_more first (next_numbers first.1 line)).1
constant_sound line first e =
    let h = number_sound line first e in
    let more = next_numbers first.1 line in
    let rest : drop first.1 line ≡ h.rest = ap (λ (n : ℕ). drop n line) h.len ∙ ap (drop (length h.number)) h.whole ∙ drop-append_seam h.number h.rest in
    constant_by line first.0 first.1 more.0 more.1 h (subst (λ (xs : List ℕ). NumbersTaken xs more.0 more.1) rest (numbers_sound first.1 line))

-- ---- the other way round

passes_on : (passed : ℕ) (line : List ℕ) → next_numbers passed line ≡ next_numbers 0 (drop passed line)
unfolding next_numbers
passes_on zero line = refl
passes_on (suc passed) [] = refl
passes_on (suc passed) (first ∷ rest) = passes_on passed rest

-- after a number of a line come the numbers of what is behind it
numbers_behind : (front rest : List ℕ) (n : ℕ) → n ≡ length front → next_numbers n (front ++ rest) ≡ next_numbers 0 rest
numbers_behind front rest n e = passes_on n (front ++ rest) ∙ ap (next_numbers 0) (ap (λ (k : ℕ). drop k (front ++ rest)) e ∙ drop-append_seam front rest)

pub numbers_complete : (values : List ℤ) (text rest : List ℕ) → AreNext values text → NoNumberNext rest → next_numbers 0 (text ++ rest) ≡ (values, length text)
numbers_complete [] text rest e none =
    rw e (next_numbers_none 0 rest (no_next rest none.no_number))
numbers_complete (value ∷ values) text rest (others, h, next) none =
    let number = h.first.number in
    let n = length h.blanks + length number in
    let ends : begins is_digit (others ++ rest) ≡ false = begins_both is_digit others rest h.first.ends none.no_digit in
    let split : text ≡ (h.blanks ++ number) ++ others = h.whole ∙ ap (λ (xs : List ℕ). h.blanks ++ xs) h.first.whole ∙ sym (append_assoc h.blanks number others) in
    let whole : text ++ rest ≡ (h.blanks ++ number) ++ (others ++ rest) = ap (λ (xs : List ℕ). xs ++ rest) split ∙ append_assoc (h.blanks ++ number) others rest in
    let here : NumberNext (text ++ rest) value (others ++ rest) = record {
      blanks = h.blanks;
      behind = number ++ (others ++ rest);
      whole = whole ∙ append_assoc h.blanks number (others ++ rest);
      are_blank = h.are_blank;
      first = record { number = number; whole = refl; is_number = h.first.is_number; ends = ends };
    } in
    let found = next_complete (text ++ rest) value (others ++ rest) here in
    let digits = h.first.is_number.are_digits.some in
    let some : 0 < n = omega (arith, digits, ap length h.first.is_number.spelled, length-append (overbar_if h.first.is_number.negative) h.first.is_number.digits) in
    let len : n ≡ length (h.blanks ++ number) = omega (arith, length-append h.blanks number) in
    let behind : next_numbers (0 + n) (text ++ rest) ≡ (values, length others) = ap (λ (k : ℕ). next_numbers k (text ++ rest)) (omega arith) ∙ ap (next_numbers n) whole ∙ numbers_behind (h.blanks ++ number) (others ++ rest) n len ∙ numbers_complete values others rest next none in
    let total : n + length others ≡ length text = omega (arith, len, ap length split, length-append (h.blanks ++ number) others) in
    next_numbers_some 0 (text ++ rest) (value, n) found some ∙ ap (number_with_more (value, n)) behind ∙ ap (λ (k : ℕ). (value ∷ values, k)) total

pub constant_complete : (values : List ℤ) (text rest : List ℕ) → IsNumericConstant values text → NoNumberNext rest → constant (text ++ rest) ≡ Some (values, length text)
constant_complete [] text rest e none = absurd e
constant_complete (value ∷ values) text rest (others, h, next) none =
    let ends : begins is_digit (others ++ rest) ≡ false = begins_both is_digit others rest h.ends none.no_digit in
    let whole : text ++ rest ≡ h.number ++ (others ++ rest) = ap (λ (xs : List ℕ). xs ++ rest) h.whole ∙ append_assoc h.number others rest in
    let found : number (text ++ rest) ≡ Some (value, length h.number) = number_complete (text ++ rest) value (others ++ rest) (record { number = h.number; whole = whole; is_number = h.is_number; ends = ends }) in
    let more : next_numbers (length h.number) (text ++ rest) ≡ (values, length others) = ap (next_numbers (length h.number)) whole ∙ numbers_behind h.number (others ++ rest) (length h.number) refl ∙ numbers_complete values others rest next none in
    let total : length h.number + length others ≡ length text = omega (arith, ap length h.whole, length-append h.number others) in
    rw (found, more, total) refl
