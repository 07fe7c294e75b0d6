-- Rows that are made of names, one after another.
use Rattle.std.proofs.Common.{◌≡◌, ℕ, suc, ◌+◌, ◌<◌, Bool, true, false, List, [], ◌∷◌, ◌++◌, length, take, get_or, sym, ap, ◌∙◌, refl, arith}
use Rattle.std.specs.Prelude.{◌==◌, ℤ, pos, Option, Some, None, if◌then◌else◌, map, option_map, option_to_list}
use Rattle.std.specs.List.{filter_map, range_with_len, zip}
use Rattle.std.proofs.lemmas.Bool.{eqb-true}
use Rattle.std.proofs.lemmas.List.{length-map, map-append}
use Rattle.apl_arrays.specs.Array.{PlainArray}
use Rattle.apl_items.specs.Extension.{number_at, place_in}
use Rattle.apl_items.specs.Places.{places}
use Rattle.apl_meaning.specs.Deeds as plain
use Rattle.apl_meaning.specs.Naming as plain_names
use Rattle.apl_meaning.specs.Naming.{naming_count, naming_in, rows_of}
use Rattle.apl_values.specs.declared.naming.Naming.{Naming}
use Rattle.apl_values.specs.declared.rows.NameRow.{NameRow}
use Rattle.apl_values.specs.Rows.{PlainNameRow, plain_naming, plain_name_row}
use Rattle.apl_values.proofs.NamingSteps.{namings_more}

lone : (found : Option Naming) → map plain_naming (option_to_list found) ≡ option_to_list (option_map plain_naming found)
lone None = refl
lone (Some names) = refl

-- a row was read, and its names stand behind the others where it holds names
pub namings_on : (n : PlainArray) (row : ℕ) (before after : List Naming) (found : Option Naming) → row < naming_count n → map plain_naming before ≡ filter_map naming_in (take row (rows_of n)) → option_map plain_naming found ≡ naming_in (get_or (rows_of n) row [])
    → after ≡ before ++ option_to_list found → map plain_naming after ≡ filter_map naming_in (take (row + 1) (rows_of n))
namings_on n row before after found lt so_far here is =
    ap (map plain_naming) is
    ∙ map-append plain_naming before (option_to_list found)
    ∙ ap (λ (list : List plain_names.Naming). list ++ map plain_naming (option_to_list found)) so_far
    ∙ ap (λ (list : List plain_names.Naming). filter_map naming_in (take row (rows_of n)) ++ list) (lone found ∙ ap option_to_list here)
    ∙ sym (namings_more n row lt)

zipped_from : {A B : Type 0} (f : ℕ → B) (first : ℕ) (names : List A) (a : A) → zip (names ++ a ∷ []) (map f (range_with_len first (length (names ++ a ∷ [])))) ≡ zip names (map f (range_with_len first (length names))) ++ (a, f (first + length names)) ∷ []
zipped_from f first [] a = ap (λ (k : ℕ). (a, f k) ∷ []) (let same : first ≡ first + 0 = omega arith in same)
zipped_from f first (n ∷ names) a =
    ap (λ rest. (n, f first) ∷ rest)
    (zipped_from f (first + 1) names a
    ∙ ap (λ (k : ℕ). zip names (map f (range_with_len (first + 1) (length names))) ++ (a, f k) ∷ []) (let same : (first + 1) + length names ≡ first + suc (length names) = omega arith in same))

zipped_more : {A B : Type 0} (f : ℕ → B) (names : List A) (a : A) → zip (names ++ a ∷ []) (map f (places (length (names ++ a ∷ [])))) ≡ zip names (map f (places (length names))) ++ (a, f (length names)) ∷ []
zipped_more f names a = zipped_from f 0 names a ∙ ap (λ (k : ℕ). zip names (map f (range_with_len 0 (length names))) ++ (a, f k) ∷ []) (let same : 0 + length names ≡ length names = omega arith in same)

-- a row more is made of one name more, by its place
pub made_more : (deed : ℕ → plain.Deed) (before : List Naming) (names : Naming) (rows after : List NameRow) (row : NameRow) → map plain_name_row rows ≡ zip (map plain_naming before) (map deed (places (length (map plain_naming before))))
    → after ≡ rows ++ row ∷ [] → plain_name_row row ≡ (plain_naming names, deed (length before))
    → map plain_name_row after ≡ zip (map plain_naming (before ++ names ∷ [])) (map deed (places (length (map plain_naming (before ++ names ∷ [])))))
made_more deed before names rows after row so_far is made =
    let done : List plain_names.Naming = map plain_naming before in
    let zipped : List PlainNameRow = zip done (map deed (places (length done))) in
    ap (map plain_name_row) is
    ∙ map-append plain_name_row rows (row ∷ [])
    ∙ ap (λ (list : List PlainNameRow). list ++ plain_name_row row ∷ []) so_far
    ∙ ap (λ (one : PlainNameRow). zipped ++ one ∷ []) made
    ∙ ap (λ (k : ℕ). zipped ++ (plain_naming names, deed k) ∷ []) (sym (length-map before plain_naming))
    ∙ sym (zipped_more deed done (plain_naming names))
    ∙ ap (λ (list : List plain_names.Naming). zip list (map deed (places (length list)))) (sym (map-append plain_naming before (names ∷ [])))

-- ---- a number for each row, or one for all

pub number_lone : (numbers : List ℤ) (row : ℕ) → length numbers ≡ 1 → number_at numbers row ≡ get_or numbers 0 (pos 0)
number_lone numbers row one = ap (λ (n : ℕ). get_or numbers (place_in n row) (pos 0)) one

pub number_own : (numbers : List ℤ) (row : ℕ) → (length numbers ≡ 1 → ⊥) → number_at numbers row ≡ get_or numbers row (pos 0)
number_own numbers row many = by (length numbers == 1) refl
  where
    by : (b : Bool) → (length numbers == 1) ≡ b → get_or numbers (if b then 0 else row) (pos 0) ≡ get_or numbers row (pos 0)
    by true e = absurd (many (eqb-true (length numbers) 1 e))
    by false e = refl
