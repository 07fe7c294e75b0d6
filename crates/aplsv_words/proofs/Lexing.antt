-- How the words of settings look.
use Rattle.std.proofs.Common.{◌≡◌, ◌⊎◌, ◌&&◌, ◌==◌, ◌++◌, ℕ, Bool, true, false, not, cond, List, [], ◌∷◌, length, nat_lt, Option, Some, None, refl, ap, ap₂, ◌∙◌, inl, inr, arith, subst}
use Rattle.std.specs.List.{list_all, list_any}
use Rattle.std.specs.Option.{option_and_then, option_map_or}
use Rattle.std.specs.Str.{bytes_eq}
use Rattle.std.proofs.lemmas.Bool.{and_parts, eqb-true, false≢true, ne_eqb, not-true, or_from, true≢false}
use Rattle.clap.specs.Lexer.{long_of, long_of_rest, name_and_value, short_of, short_of_rest, strip_byte}
use Rattle.clap.proofs.LexerLemmas.{name_and_value-at, name_and_value-without}
use Rattle.aplsv_words.specs.Table.{Word}
use Rattle.aplsv_words.specs.Meaning.{BeginsWith, Setting, Spell, Text, begins_with_hyphen, hyphened, is_known, as_one_word, word_of}
use Rattle.aplsv_words.specs.Stray.{is_stray, lacks_name}
use Rattle.aplsv_words.proofs.Settings.{found_name, known_word}
use Rattle.aplsv_words.proofs.Texts.{IsCut, cut, found_holds, lacks}

-- two hyphens alone
abbrev pub bare : Text
bare = 45 ∷ 45 ∷ []

-- a name that `=` can end
abbrev pub is_name : Text → Bool
is_name name = nat_lt 0 (length name) && not (list_any (λ x. x == 61) name)

-- the word is read as this name and this value
pub record IsLong (word name : Text) (value : Option Text) : Type 0 where
  pub longer : bytes_eq word bare ≡ false
  pub long : long_of word ≡ Some (name, value)

-- the word is no name behind hyphens
pub record IsPlain (word : Text) : Type 0 where
  pub longer : bytes_eq word bare ≡ false
  pub long : long_of word ≡ None
  pub short : short_of word ≡ None

lacks_equals : (name : Text) → is_name name ≡ true → list_any (λ x. x == 61) name ≡ false
lacks_equals name fit = not-true (list_any (λ x. x == 61) name) (and_parts (nat_lt 0 (length name)) (not (list_any (λ x. x == 61) name)) fit).1

pub alone_is_long : (name : Text) → is_name name ≡ true → IsLong (hyphened name) name None
alone_is_long [] fit = absurd (false≢true fit)
alone_is_long (x ∷ xs) fit = record { longer = refl; long = ap (λ (p : Text × Option Text). Some p) (name_and_value-without (x ∷ xs) (lacks 61 (x ∷ xs) (lacks_equals (x ∷ xs) fit))) }

pub joined_is_long : (name value : Text) → is_name name ≡ true → IsLong (as_one_word name value) name (Some value)
joined_is_long [] value fit = absurd (false≢true fit)
joined_is_long (x ∷ xs) value fit = record { longer = refl; long = ap (λ (p : Text × Option Text). Some p) (name_and_value-at (x ∷ xs) value (lacks 61 (x ∷ xs) (lacks_equals (x ∷ xs) fit))) }

pub unhyphened_is_plain : (word : Text) → begins_with_hyphen word ≡ false → IsPlain word
unhyphened_is_plain [] none = record { longer = refl; long = refl; short = refl }
unhyphened_is_plain (x ∷ xs) none = record {
  longer = ap (λ (b : Bool). b && bytes_eq xs (45 ∷ [])) none;
  long = ap (λ (b : Bool). option_and_then long_of_rest (option_and_then (strip_byte 45) (cond b (Some xs) None))) none;
  short = ap (λ (b : Bool). option_and_then short_of_rest (cond b (Some xs) None)) none;
}

-- a name in its word, with a value or without
abbrev pub written : Text → Option Text → Text
written name None = hyphened name
written name (Some value) = as_one_word name value

-- a word that is no stray one has no hyphen at its front, or is a name in its word
abbrev pub IsRead : Text → Type 0
IsRead word = (name : Text) × (value : Option Text) × IsLong word name value × (word ≡ written name value)

named : (word : Text) (x : ℕ) (xs : Text) → word ≡ hyphened (x ∷ xs) → IsRead word
named word x xs is = by (cut (x ∷ xs)) where
  longer : bytes_eq word bare ≡ false
  longer = ap (λ (t : Text). bytes_eq t bare) is

  long : (name : Text) (value : Option Text) → name_and_value (x ∷ xs) ≡ (name, value) → long_of word ≡ Some (name, value)
  long name value e = ap long_of is ∙ ap (λ (p : Text × Option Text). Some p) e

  by : (list_any (λ y. y == 61) (x ∷ xs) ≡ false) ⊎ IsCut (x ∷ xs) → IsRead word
  by (inl none) = (x ∷ xs, None, record { longer = longer; long = long (x ∷ xs) None (name_and_value-without (x ∷ xs) (lacks 61 (x ∷ xs) none)) }, is)
  by (inr split) = (
    split.0,
    Some split.1,
    record { longer = longer; long = long split.0 (Some split.1) (ap name_and_value split.2 ∙ name_and_value-at split.0 split.1 (lacks 61 split.0 split.3)) },
    is ∙ ap hyphened split.2,
  )

behind_two : (a b : ℕ) (rest : Text) → (a == 45) ≡ true → (b == 45) ≡ true → (length rest == 0) ≡ false → IsRead (a ∷ b ∷ rest)
behind_two a b [] first second filled = absurd (true≢false filled)
behind_two a b (x ∷ xs) first second filled =
    named (a ∷ b ∷ x ∷ xs) x xs (ap₂ (λ (n m : ℕ). n ∷ m ∷ x ∷ xs) (eqb-true a 45 first) (eqb-true b 45 second))

behind_one : (a : ℕ) (rest : Text) → (a == 45) ≡ true → lacks_name rest ≡ false → IsRead (a ∷ rest)
behind_one a [] first named = absurd (true≢false named)
behind_one a (b ∷ rest) first named = by (b == 45) refl named where
  by : (hyphen : Bool) → (b == 45) ≡ hyphen → option_map_or (λ name. length name == 0) (cond hyphen (Some rest) None) true ≡ false → IsRead (a ∷ b ∷ rest)
  by true second filled = behind_two a b rest first second filled
  by false second filled = absurd (true≢false filled)

pub word_is_read : (word : Text) → is_stray word ≡ false → (begins_with_hyphen word ≡ false) ⊎ IsRead word
word_is_read [] fit = inl refl
word_is_read (a ∷ rest) fit = by (a == 45) refl fit where
  by : (hyphen : Bool) → (a == 45) ≡ hyphen → option_map_or lacks_name (cond hyphen (Some rest) None) false ≡ false → (begins_with_hyphen (a ∷ rest) ≡ false) ⊎ IsRead (a ∷ rest)
  by true first named = inr (behind_one a rest first named)
  by false first named = inl first

-- ---- no word of settings is a stray one

hyphened_strays_not : (name : Text) → is_name name ≡ true → is_stray (hyphened name) ≡ false
hyphened_strays_not [] fit = absurd (false≢true fit)
hyphened_strays_not (x ∷ xs) fit = ne_eqb (length (x ∷ xs)) 0 (λ e. absurd (omega (arith, e)))

joined_strays_not : (name value : Text) → is_name name ≡ true → is_stray (as_one_word name value) ≡ false
joined_strays_not [] value fit = absurd (false≢true fit)
joined_strays_not (x ∷ xs) value fit = ne_eqb (length (x ∷ (xs ++ 61 ∷ value))) 0 (λ e. absurd (omega (arith, e)))

unhyphened_strays_not : (word : Text) → begins_with_hyphen word ≡ false → is_stray word ≡ false
unhyphened_strays_not [] none = refl
unhyphened_strays_not (x ∷ xs) none = ap (λ (b : Bool). option_map_or lacks_name (cond b (Some xs) None) false) none

module _ (words : List Word) (names : list_all (λ word. is_name word.name) words ≡ true) where
  -- the names of the table can be ended by `=`
  pub fit_name : (name : Text) (word : Word) → word_of words name ≡ Some word → is_name name ≡ true
  fit_name name word found =
      subst (λ (t : Text). is_name t ≡ true) (found_name words name word found) (found_holds (λ w. bytes_eq w.name name) (λ w. is_name w.name) words word found names)

  no_stray : (word : Text) (left : List Text) → is_stray word ≡ false → list_any is_stray left ≡ false → list_any is_stray (word ∷ left) ≡ false
  no_stray word left here later = or_from (is_stray word) (list_any is_stray left) here later

  first_strays_not : (name : Text) (value : Option Text) (texts left : List Text) → BeginsWith name value texts left → is_name name ≡ true → list_any is_stray left ≡ false → list_any is_stray texts ≡ false
  first_strays_not name None texts left is fit later = ap (list_any is_stray) is ∙ no_stray (hyphened name) left (hyphened_strays_not name fit) later
  first_strays_not name (Some value) texts left (inl is) fit later = ap (list_any is_stray) is ∙ no_stray (as_one_word name value) left (joined_strays_not name value fit) later
  first_strays_not name (Some value) texts left (inr is) fit later =
      ap (list_any is_stray) is.1 ∙ no_stray (hyphened name) (value ∷ left) (hyphened_strays_not name fit) (no_stray value left (unhyphened_strays_not value is.0) later)

  -- no word of known settings is a stray one
  pub spelled_strays_not : (settings : List Setting) (texts : List Text) → list_all (is_known words) settings ≡ true → Spell settings texts → list_any is_stray texts ≡ false
  spelled_strays_not [] texts known is = ap (list_any is_stray) is
  spelled_strays_not (s ∷ settings) texts known spelled =
      let parts = and_parts (is_known words s) (list_all (is_known words) settings) known in
      let found = known_word words s parts.0 in
      first_strays_not s.name s.value texts spelled.0 spelled.1 (fit_name s.name found.0 found.1) (spelled_strays_not settings spelled.0 parts.1 spelled.2)
