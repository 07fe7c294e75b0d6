-- Reading a list of so many things.
use Rattle.std.proofs.Common.{◌≡◌, ℕ, zero, suc, ◌+◌, ◌<◌, ◌≤◌, List, [], ◌∷◌, ◌++◌, Ok, Err, length, refl, sym, ap, ◌∙◌, subst, append_assoc, arith}
use Rattle.std.specs.List.{flat_map, AllByRecursion}
use Rattle.text_reader.specs.Reading.{Reader, Reading, ◌>>=◌, always, as_read, read_list, read_behind}
use Rattle.text_reader.proofs.Readers.{SameFirst, Found, Reads, IsReader, AreGlyphs, reformed, then_read, made, no_further}

-- so many things, each of which is ok
pub record AreSoMany {A : Type 0} (ok : A → Type 0) (count : ℕ) (list : List A) : Type 0 where
  pub each : AllByRecursion ok list
  pub many : length list ≡ count

unfoldable pub head_or : {A : Type 0} → A → List A → A
head_or x [] = x
head_or x (y ∷ ys) = y

unfoldable pub rest_of : {A : Type 0} → List A → List A
rest_of [] = []
rest_of (y ∷ ys) = ys

unfoldable pub copies : {A : Type 0} → ℕ → A → List A
copies zero x = []
copies (suc n) x = x ∷ copies n x

pub copies_fit : {A : Type 0} (ok : A → Type 0) (n : ℕ) (x : A) → ok x → AreSoMany ok n (copies n x)
unfolding copies
copies_fit ok zero x fits = record { each = tt; many = refl }
copies_fit ok (suc n) x fits =
    let inner = copies_fit ok n x fits in
    record { each = (fits, inner.each); many = ap suc inner.many }

pub no_more : {A : Type 0} (ok : A → Type 0) (list : List A) → AreSoMany ok 0 list → list ≡ []
no_more ok [] h = refl
no_more ok (x ∷ xs) h = absurd (omega (arith, h.many))

pub rest_fits : {A : Type 0} (ok : A → Type 0) (n : ℕ) (list : List A) → AreSoMany ok (suc n) list → AreSoMany ok n (rest_of list)
unfolding rest_of
rest_fits ok n [] h = absurd (omega (arith, h.many))
rest_fits ok n (x ∷ xs) h = record { each = h.each.1; many = omega (arith, h.many) }

pub head_fits : {A : Type 0} (ok : A → Type 0) (n : ℕ) (none : A) (list : List A) → AreSoMany ok (suc n) list → ok (head_or none list)
unfolding head_or
head_fits ok n none [] h = absurd (omega (arith, h.many))
head_fits ok n none (x ∷ xs) h = h.each.0

pub head_and_rest : {A : Type 0} (ok : A → Type 0) (n : ℕ) (none : A) (list : List A) → AreSoMany ok (suc n) list → head_or none list ∷ rest_of list ≡ list
unfolding head_or rest_of
head_and_rest ok n none [] h = absurd (omega (arith, h.many))
head_and_rest ok n none (x ∷ xs) h = refl

-- what stands behind the first thing may follow it
pub follows_first : {A : Type 0} (text : A → List ℕ) (ok : A → Type 0) (follows after : List ℕ → Type 0) → ((x : A) (behind : List ℕ) → ok x → follows (text x ++ behind)) → ((behind : List ℕ) → after behind → follows behind) → (list : List A) (behind : List ℕ) → AllByRecursion ok list → after behind → follows (flat_map text list ++ behind)
follows_first text ok follows after next last [] behind a follow = last behind follow
follows_first text ok follows after next last (x ∷ xs) behind a follow =
    subst follows (sym (append_assoc (text x) (flat_map text xs) behind)) (next x (flat_map text xs ++ behind) a.0)

-- what is read behind a first thing makes a list with it
pub with_first : {A : Type 0} (text : A → List ℕ) (ok : A → Type 0) (after : List ℕ → Type 0) (n : ℕ) (none x : A) (reader : Reader (List A)) → ok x → IsReader (flat_map text) (AreSoMany ok n) after SameFirst reader → IsReader (λ e. flat_map text (rest_of e)) (λ e. (head_or none e ≡ x) × AreSoMany ok (suc n) e) after SameFirst (λ line. read_behind (x ∷ []) (reader line))
unfolding head_or rest_of
with_first text ok after n none x reader fits is =
    made (flat_map text) (AreSoMany ok n) after SameFirst reader (λ ys. x ∷ ys) rest_of (λ e. (head_or none e ≡ x) × AreSoMany ok (suc n) e) is
    (λ e h. rest_fits ok n e h.1)
    (λ e h. ap (λ y. y ∷ rest_of e) (sym h.0) ∙ head_and_rest ok n none e h.1)
    (λ ys h. (refl, record { each = (fits, h.each); many = ap suc h.many }))
    (λ ys h. refl)

-- a first thing, and a list behind it
pub list_of_first : {A : Type 0} (text next : A → List ℕ) (ok : A → Type 0) (follows after : List ℕ → Type 0) (item : Reader A) (none : A) → ok none → IsReader text ok follows SameFirst item → ((x : A) (behind : List ℕ) → ok x → follows (next x ++ behind)) → ((behind : List ℕ) → after behind → follows behind) → (n : ℕ) (others : Reader (List A)) → IsReader (flat_map next) (AreSoMany ok n) after SameFirst others → IsReader (λ e. text (head_or none e) ++ flat_map next (rest_of e)) (AreSoMany ok (suc n)) after SameFirst (λ line. item line >>= λ found. read_behind (found.0 ∷ []) (others found.1))
unfolding head_or rest_of copies
list_of_first text next ok follows after item none some is goes_on last n others inner =
    then_read text ok follows (head_or none) (λ e. flat_map next (rest_of e)) (AreSoMany ok (suc n)) after SameFirst item (λ x line. read_behind (x ∷ []) (others line)) no_further is
    (λ x fits. with_first next ok after n none x others fits inner)
    (λ e h. head_fits ok n none e h)
    (λ e behind h follow. follows_first next ok follows after goes_on last (rest_of e) behind (rest_fits ok n e h).each follow)
    (λ x fits. (x ∷ copies n none, refl, record { each = (fits, (copies_fit ok n none some).each); many = ap suc (copies_fit ok n none some).many }))

spelled_together : {A : Type 0} (text : A → List ℕ) (ok : A → Type 0) (n : ℕ) (none : A) (list : List A) → AreSoMany ok (suc n) list → text (head_or none list) ++ flat_map text (rest_of list) ≡ flat_map text list
unfolding head_or rest_of
spelled_together text ok n none [] h = absurd (omega (arith, h.many))
spelled_together text ok n none (x ∷ xs) h = refl

-- so many things are read one after another
pub reads_list : {A : Type 0} (text : A → List ℕ) (ok : A → Type 0) (follows after : List ℕ → Type 0) (item : Reader A) (none : A) → ok none → IsReader text ok follows SameFirst item → ((x : A) (behind : List ℕ) → ok x → follows (text x ++ behind)) → ((behind : List ℕ) → after behind → follows behind) → (n : ℕ) → IsReader (flat_map text) (AreSoMany ok n) after SameFirst (read_list always item n)
unfolding read_list
reads_list text ok follows after item none some is next last zero line a = record {
  fits = record { each = tt; many = refl };
  whole = refl;
  only = λ w behind z fit follow e agree. no_more ok w fit;
}
reads_list text ok follows after item none some is next last (suc n) line a =
    let inner = reads_list text ok follows after item none some is next last n in
    let both = list_of_first text text ok follows after item none some is next last n (read_list always item n) inner in
    reformed (λ e. text (head_or none e) ++ flat_map text (rest_of e)) (flat_map text) (AreSoMany ok (suc n)) (AreSoMany ok (suc n)) after after SameFirst (λ line. item line >>= λ found. read_behind (found.0 ∷ []) (read_list always item n found.1)) (λ e h. h) (λ e h. h) (spelled_together text ok n none) (λ behind h. h) both line a
