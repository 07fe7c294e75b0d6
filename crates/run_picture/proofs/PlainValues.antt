-- Values of attributes end where they do.
use Rattle.std.proofs.Common.{◌≡◌, ◌≢◌, ◌+◌, ◌/◌, ◌%◌, ◌<◌, ℕ, suc, zero, Bool, true, false, cond, not, ◌&&◌, eqb, List, [], ◌∷◌, ◌++◌, refl, ap, ◌∙◌, arith}
use Rattle.std.proofs.lemmas.Bool.{eqb-false, and_parts, and_from, lt-ltb, not-true}
use Rattle.std.proofs.lemmas.Bool.Decides.{nat_tests}
use Rattle.std.proofs.lemmas.List.Elements.{All-nil, All-cons}
use Rattle.std.proofs.lemmas.List.Folds.{list_all-append}
use Rattle.std.specs.Fmt.{decimal, digits, digits_onto, digit_glyph}
use Rattle.std.specs.List.{All, list_all}
use Rattle.run_picture.specs.Tag.{IsPlainValue, size_of, word_of}

-- neither a quote nor what begins a tag or the name of a glyph
abbrev pub is_value_code : ℕ → Bool
is_value_code code = not (eqb code 34) && (not (eqb code 60) && not (eqb code 38))

-- each code of a text is one of a value
abbrev pub is_value : List ℕ → Bool
is_value text = list_all is_value_code text

abbrev IsValueCode : ℕ → Type 0
IsValueCode code = (code ≢ 34) × (code ≢ 60) × (code ≢ 38)

value_code : (code : ℕ) → is_value_code code ≡ true → IsValueCode code
value_code code e =
    let first = and_parts (not (eqb code 34)) (not (eqb code 60) && not (eqb code 38)) e in
    let others = and_parts (not (eqb code 60)) (not (eqb code 38)) first.1 in
    (eqb-false code 34 (not-true (eqb code 34) first.0), eqb-false code 60 (not-true (eqb code 60) others.0), eqb-false code 38 (not-true (eqb code 38) others.1))

value_codes : (text : List ℕ) → is_value text ≡ true → All IsValueCode text
value_codes [] e = All-nil IsValueCode
value_codes (code ∷ text) e =
    let parts = and_parts (is_value_code code) (is_value text) e in
    All-cons IsValueCode code text (value_code code parts.0) (value_codes text parts.1)

pub plain_word : (name value : List ℕ) → is_value value ≡ true → IsPlainValue (word_of name value)
plain_word name value e = value_codes value e

-- digits

digit : (n : ℕ) → is_value_code (digit_glyph false (n % 10)) ≡ true
digit n =
    let small : n % 10 < 10 = omega arith in
    ap (λ (b : Bool). is_value_code (cond b (48 + n % 10) (87 + n % 10))) (lt-ltb (n % 10) 10 small) ∙ grind (arith, nat_tests)

onto_if : (k n : ℕ) (acc : List ℕ) (b : Bool) → is_value acc ≡ true → ((more : List ℕ) → is_value more ≡ true → is_value (digits_onto k 10 false (n / 10) more) ≡ true) → is_value (cond b acc (digits_onto k 10 false (n / 10) acc)) ≡ true
onto_if k n acc true e others = e
onto_if k n acc false e others = others acc e

onto : (k n : ℕ) (acc : List ℕ) → is_value acc ≡ true → is_value (digits_onto k 10 false n acc) ≡ true
onto zero n acc e = e
onto (suc k) n acc e =
    onto_if k n (digit_glyph false (n % 10) ∷ acc) (eqb (n / 10) 0) (and_from (is_value_code (digit_glyph false (n % 10))) (is_value acc) (digit n) e) (onto k (n / 10))

pub digits_are_values : (n : ℕ) → is_value (decimal n) ≡ true
unfolding digits
digits_are_values n = onto 64 n [] refl

pub plain_size : (name : List ℕ) (n : ℕ) → IsPlainValue (size_of name n)
plain_size name n = plain_word name (decimal n) (digits_are_values n)

pub joined : (text more : List ℕ) → is_value text ≡ true → is_value more ≡ true → is_value (text ++ more) ≡ true
joined text more a b =
    list_all-append is_value_code text more ∙ and_from (is_value text) (is_value more) a b
