-- The texts of numbers are read in one way.
use Rattle.std.proofs.Common.{◌≡◌, ℕ, ℤ, pos, negsuc, suc, ◌<◌, ◌^◌, Bool, true, false, not, ◌&&◌, ◌||◌, eqb, FitsSigned, w64, List, [], ◌∷◌, ◌++◌, map, length, refl, sym, ap, ◌∙◌, append-nil, append_assoc, arith}
use Rattle.std.proofs.lemmas.Bool.{false≢true}
use Rattle.std.proofs.lemmas.Fmt.{decimal_injective, decimal_nonempty}
use Rattle.std.specs.Fmt.{decimal}
use Rattle.std.specs.List.{list_all, flat_map, AllByRecursion}
use Rattle.apl_arrays.specs.Glyph.{is_digit, overbar}
use Rattle.apl_arrays.specs.Run.{begins}
use Rattle.line_text.specs.Number.{number_text}
use Rattle.line_text.specs.Spaced.{spaced}
use Rattle.line_text.proofs.Decimals.{digits_are_digits}
use Rattle.line_text.proofs.Spaced.{spaced_is}
use Rattle.line_text.proofs.Spans.{same_span, Reads, follows_all, same_list}

-- a digit, or the sign of a negative number
abbrev pub starts_number : ℕ → Bool
starts_number glyph = is_digit glyph || eqb glyph overbar

begins_more : (p : ℕ → Bool) (xs rest : List ℕ) → list_all p xs ≡ true → 0 < length xs → begins p (xs ++ rest) ≡ true
begins_more p [] rest a more = absurd (omega arith)
begins_more p (x ∷ xs) rest a more = grind (arith, a)

pub begins_count : (n : ℕ) (rest : List ℕ) → n < 2 ^ 64 → begins is_digit (decimal n ++ rest) ≡ true
begins_count n rest fits = begins_more is_digit (decimal n) rest (digits_are_digits n fits) (decimal_nonempty n fits)

pub same_count : (m n : ℕ) (rest left : List ℕ) → m < 2 ^ 64 → n < 2 ^ 64 → begins is_digit rest ≡ false → begins is_digit left ≡ false → decimal m ++ rest ≡ decimal n ++ left → (m ≡ n) × (rest ≡ left)
same_count m n rest left a b stop halt e =
    let same = same_span is_digit (decimal m) (decimal n) rest left (digits_are_digits m a) (digits_are_digits n b) stop halt e in
    (decimal_injective m n a b same.0, same.1)

-- a number of 64 bits
abbrev pub Fits64 : ℤ → Type 0
Fits64 number = FitsSigned w64 number

pub same_number : (y z : ℤ) (rest left : List ℕ) → Fits64 y → Fits64 z → begins is_digit rest ≡ false → begins is_digit left ≡ false → number_text y ++ rest ≡ number_text z ++ left → (y ≡ z) × (rest ≡ left)
same_number (pos m) (pos n) rest left a b stop halt e =
    let same = same_count m n rest left (omega arith) (omega arith) stop halt e in
    (ap pos same.0, same.1)
same_number (pos m) (negsuc n) rest left a b stop halt e =
    absurd (false≢true (sym (ap (begins is_digit) e) ∙ begins_count m rest (omega arith)))
same_number (negsuc m) (pos n) rest left a b stop halt e =
    absurd (false≢true (ap (begins is_digit) e ∙ begins_count n left (omega arith)))
same_number (negsuc m) (negsuc n) rest left a b stop halt e =
    let after : decimal (suc m) ++ rest ≡ decimal (suc n) ++ left = cc in
    let same = same_count (suc m) (suc n) rest left (omega arith) (omega arith) stop halt after in
    (ap negsuc (let equal : m ≡ n = omega (arith, same.0) in equal), same.1)

starts_digit : (text : List ℕ) → begins is_digit text ≡ true → begins starts_number text ≡ true
starts_digit [] e = absurd (false≢true e)
starts_digit (c ∷ cs) e = ap (λ b. b || eqb c overbar) e

pub begins_number : (z : ℤ) (rest : List ℕ) → Fits64 z → begins starts_number (number_text z ++ rest) ≡ true
begins_number (pos n) rest fits = starts_digit (decimal n ++ rest) (begins_count n rest (omega arith))
begins_number (negsuc n) rest fits = refl

-- no number goes on here: neither at once nor after one blank
abbrev pub ends_numbers : List ℕ → Bool
ends_numbers [] = true
ends_numbers (c ∷ cs) = not (starts_number c) && not (eqb c 32 && begins starts_number cs)

first_fails : (a b more : Bool) → (not (a || b) && more) ≡ true → a ≡ false
first_fails true b more e = absurd (false≢true e)
first_fails false b more e = refl

front_fails : (a more : Bool) → (not a && more) ≡ true → a ≡ false
front_fails true more e = absurd (false≢true e)
front_fails false more e = refl

no_number_here : (text : List ℕ) → ends_numbers text ≡ true → begins starts_number text ≡ false
no_number_here [] e = refl
no_number_here (c ∷ cs) e = front_fails (starts_number c) (not (eqb c 32 && begins starts_number cs)) e

pub no_digit_here : (text : List ℕ) → ends_numbers text ≡ true → begins is_digit text ≡ false
no_digit_here [] e = refl
no_digit_here (c ∷ cs) e =
    first_fails (is_digit c) (eqb c overbar) (not (eqb c 32 && begins starts_number cs)) e

-- the texts of such things begin as numbers do, and are read in one way where no digit follows
pub record LikeNumbers {A : Type 0} (f : A → List ℕ) (ok : A → Type 0) : Type 0 where
  pub starts : (x : A) (rest : List ℕ) → ok x → begins starts_number (f x ++ rest) ≡ true
  pub split : (x y : A) (rest left : List ℕ) → ok x → ok y → begins is_digit rest ≡ false → begins is_digit left ≡ false → f x ++ rest ≡ f y ++ left → (x ≡ y) × (rest ≡ left)

abbrev EndsNumbers : List ℕ → Type 0
EndsNumbers text = ends_numbers text ≡ true

abbrev EndsDigits : List ℕ → Type 0
EndsDigits text = begins is_digit text ≡ false

not_after_blank : (more : List ℕ) → begins starts_number more ≡ true → ends_numbers (32 ∷ more) ≡ false
not_after_blank more e = ap not e

each_after_blank : {A : Type 0} (f : A → List ℕ) (ok : A → Type 0) → LikeNumbers f ok → Reads (λ y. 32 ∷ f y) ok EndsNumbers EndsDigits
each_after_blank f ok like = record {
  unlike = λ x rest left a stop e. false≢true (sym (not_after_blank (f x ++ rest) (like.starts x rest a)) ∙ (ap ends_numbers e ∙ stop));
  split = λ x y rest left a b stop halt e. like.split x y rest left a b stop halt (let after : f x ++ rest ≡ f y ++ left = cc in after);
  last = no_digit_here;
  next = λ x rest a. refl;
}

spaced_then : {A : Type 0} (f : A → List ℕ) (x : A) (xs : List A) (rest : List ℕ) → spaced (map f (x ∷ xs)) ++ rest ≡ f x ++ (flat_map (λ y. 32 ∷ f y) xs ++ rest)
spaced_then f x xs rest =
    ap (λ text. text ++ rest) (spaced_is f x xs) ∙ append_assoc (f x) (flat_map (λ y. 32 ∷ f y) xs) rest

-- numbers with one blank between each two, up to where no number goes on, are read in one way
pub same_spaced : {A : Type 0} (f : A → List ℕ) (ok : A → Type 0) → LikeNumbers f ok → (xs ys : List A) (rest left : List ℕ) → AllByRecursion ok xs → AllByRecursion ok ys → EndsNumbers rest → EndsNumbers left → spaced (map f xs) ++ rest ≡ spaced (map f ys) ++ left → (xs ≡ ys) × (rest ≡ left)
same_spaced f ok like [] [] rest left a b stop halt e = (refl, e)
same_spaced f ok like [] (y ∷ ys) rest left a b stop halt e =
    absurd (false≢true (sym (no_number_here rest stop) ∙ (ap (begins starts_number) (e ∙ spaced_then f y ys left) ∙ like.starts y (flat_map (λ z. 32 ∷ f z) ys ++ left) b.0)))
same_spaced f ok like (x ∷ xs) [] rest left a b stop halt e =
    absurd (false≢true (sym (no_number_here left halt) ∙ (ap (begins starts_number) (sym e ∙ spaced_then f x xs rest) ∙ like.starts x (flat_map (λ z. 32 ∷ f z) xs ++ rest) a.0)))
same_spaced f ok like (x ∷ xs) (y ∷ ys) rest left a b stop halt e =
    let each = each_after_blank f ok like in
    let front = follows_all (λ z. 32 ∷ f z) ok EndsNumbers EndsDigits each xs rest a.1 stop in
    let other = follows_all (λ z. 32 ∷ f z) ok EndsNumbers EndsDigits each ys left b.1 halt in
    let heads = like.split x y (flat_map (λ z. 32 ∷ f z) xs ++ rest) (flat_map (λ z. 32 ∷ f z) ys ++ left) a.0 b.0 front other (sym (spaced_then f x xs rest) ∙ (e ∙ spaced_then f y ys left)) in
    let tails = same_list (λ z. 32 ∷ f z) ok EndsNumbers EndsDigits each xs ys rest left a.1 b.1 stop halt heads.1 in
    (cc (heads.0, tails.0), tails.1)

-- counts of 64 bits, and numbers

abbrev pub Count64 : ℕ → Type 0
Count64 n = n < 2 ^ 64

pub counts_are_like_numbers : LikeNumbers decimal Count64
counts_are_like_numbers = record {
  starts = λ n rest a. starts_digit (decimal n ++ rest) (begins_count n rest a);
  split = same_count;
}

pub numbers_are_like_numbers : LikeNumbers number_text Fits64
numbers_are_like_numbers = record { starts = begins_number; split = same_number }

-- the text of a number tells it
pub number_told : (y z : ℤ) → Fits64 y → Fits64 z → number_text y ≡ number_text z → y ≡ z
number_told y z a b e =
    (same_number y z [] [] a b refl refl (append-nil (number_text y) ∙ (e ∙ sym (append-nil (number_text z))))).0
