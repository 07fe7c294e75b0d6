-- Reading a name: it goes on as long as a name may.
use Rattle.std.proofs.Common.{◌≡◌, ℕ, zero, suc, ◌+◌, ◌-◌, ◌<◌, ◌≤◌, min, Bool, true, false, cond, leb, ◌&&◌, List, [], ◌∷◌, ◌++◌, Some, Ok, Err, length, take, drop, ◌⊎◌, inl, inr, refl, sym, ap, ◌∙◌, subst, append-nil, append_assoc, arith, length-append}
use Rattle.std.proofs.lemmas.Bool.{false≢true, and_parts, and_from, cases_Bool}
use Rattle.std.proofs.lemmas.Bool.Decides.{nat_tests}
use Rattle.std.proofs.lemmas.List.{take-append-drop, length-take}
use Rattle.std.proofs.lemmas.List.Folds.{list_all-append}
use Rattle.std.specs.List.{list_all, prefix_len}
use Rattle.apl_arrays.specs.Glyph.{is_letter}
use Rattle.apl_arrays.specs.Name.{IsName, goes_on, is_name}
use Rattle.apl_arrays.specs.Run.{begins}
use Rattle.apl_arrays.proofs.Names.{letter_goes_on, name_parts, name_goes_on}
use Rattle.apl_arrays.proofs.Runs.{run_passes, run_stops, run_fits}
use Rattle.apl_arrays.specs.List.{first_of}
use Rattle.text_reader.specs.Reading.{name_span, read_name}
use Rattle.text_reader.proofs.Readers.{SameFirst, Found, Stopped, Reads, IsReader, cancelled}
use Rattle.text_reader.proofs.NumberForms.{begins_same, begins_within}

-- what follows does not go on as a name does
abbrev pub NoName : List ℕ → Type 0
NoName behind = begins goes_on behind ≡ false

abbrev pub itself : List ℕ → List ℕ
itself name = name

-- where all of a longer front pass, all of a shorter one do
all_front : (p : ℕ → Bool) (n k : ℕ) (xs : List ℕ) → n ≤ k → list_all p (take k xs) ≡ true → list_all p (take n xs) ≡ true
all_front p zero k xs fewer all = refl
all_front p (suc n) zero xs fewer all = absurd (omega arith)
all_front p (suc n) (suc k) [] fewer all = refl
all_front p (suc n) (suc k) (x ∷ xs) fewer all =
    let parts = and_parts (p x) (list_all p (take k xs)) all in
    and_from (p x) (list_all p (take n xs)) parts.0 (all_front p n k xs (omega arith) parts.1)

front_goes_on : (line : List ℕ) → list_all goes_on (take (name_span line) line) ≡ true
front_goes_on line =
    all_front goes_on (name_span line) (prefix_len goes_on line) line (omega arith) (run_passes goes_on line)

-- no name is longer
name_is_short : (name : List ℕ) → IsName name → length name ≤ 32
name_is_short [] h = omega arith
name_is_short (first ∷ others) h =
    let parts = and_parts (is_letter first && leb (length others) 31) (list_all goes_on others) h in
    let short : leb (length others) 31 ≡ true = (and_parts (is_letter first) (leb (length others) 31) parts.0).1 in
    grind (arith, nat_tests, short)

-- another name that begins so goes on where the line does not, or is too long
longer_name : (line w : List ℕ) (g : ℕ) (more behind z : List ℕ) → IsName w → w ≡ take (name_span line) line ++ g ∷ more → z ≡ g ∷ (more ++ behind) → SameFirst z (drop (name_span line) line) → ⊥
longer_name line w g more behind z right whole next agree =
    let all : list_all goes_on (take (name_span line) line ++ g ∷ more) ≡ true = ap (list_all goes_on) (sym whole) ∙ name_goes_on w right in
    let parts = and_parts (list_all goes_on (take (name_span line) line)) (goes_on g && list_all goes_on more) (sym (list_all-append goes_on (take (name_span line) line) (g ∷ more)) ∙ all) in
    let here : goes_on g ≡ true = (and_parts (goes_on g) (list_all goes_on more) parts.1).0 in
    let going : begins goes_on (drop (name_span line) line) ≡ true = sym (begins_same goes_on z (drop (name_span line) line) agree) ∙ (ap (begins goes_on) next ∙ here) in
    elim (cases_Bool (leb (prefix_len goes_on line) 32)) [
      | inl h ↦
          let short : prefix_len goes_on line ≤ 32 = grind (arith, nat_tests, h) in
          let all_of_it : name_span line ≡ prefix_len goes_on line = omega (arith, short) in
          false≢true (sym (run_stops goes_on line) ∙ (ap (λ n. begins goes_on (drop n line)) (sym all_of_it) ∙ going))
      | inr h ↦
          let long : 32 < prefix_len goes_on line = grind (arith, nat_tests, h) in
          let full : name_span line ≡ 32 = omega (arith, long) in
          let count : length (take (name_span line) line) ≡ 32 = omega (arith, full, long, length-take (name_span line) line, run_fits goes_on line) in
          omega (arith, name_is_short w right, ap length whole, length-append (take (name_span line) line) (g ∷ more), count)
    ]

only_name : (line w : List ℕ) (behind z : List ℕ) → IsName w → NoName behind → w ++ behind ≡ take (name_span line) line ++ z → SameFirst z (drop (name_span line) line) → (more : List ℕ) → w ≡ take (name_span line) line ++ more → w ≡ take (name_span line) line
only_name line w behind z right nothing e agree [] whole = whole ∙ append-nil (take (name_span line) line)
only_name line w behind z right nothing e agree (g ∷ more) whole =
    let inner : (g ∷ more) ++ behind ≡ z =
    cancelled (take (name_span line) line) ((g ∷ more) ++ behind) z (sym (append_assoc (take (name_span line) line) (g ∷ more) behind) ∙ (ap (λ t. t ++ behind) (sym whole) ∙ e)) in
    absurd (longer_name line w g more behind z right whole (sym inner) agree)

-- a line that begins as a name does has a name at its front
front_is_name : (g : ℕ) (rest : List ℕ) → is_letter g ≡ true → is_name (take (name_span (g ∷ rest)) (g ∷ rest)) ≡ true
front_is_name g rest letter =
    let going : goes_on g ≡ true = letter_goes_on g letter in
    let run : prefix_len goes_on (g ∷ rest) ≡ 1 + prefix_len goes_on rest = ap (λ b. cond b (1 + prefix_len goes_on rest) 0) going in
    let n : ℕ = name_span (g ∷ rest) - 1 in
    let span : name_span (g ∷ rest) ≡ suc n = omega (arith, run) in
    let short : length (take n rest) ≤ 31 = omega (arith, length-take n rest) in
    let all : list_all goes_on (g ∷ take n rest) ≡ true = ap (λ k. list_all goes_on (take k (g ∷ rest))) (sym span) ∙ front_goes_on (g ∷ rest) in
    ap (λ k. is_name (take k (g ∷ rest))) span
    ∙ and_from (is_letter g && leb (length (take n rest)) 31) (list_all goes_on (take n rest)) (and_from (is_letter g) (leb (length (take n rest)) 31) letter (grind (arith, nat_tests, short))) (and_parts (goes_on g) (list_all goes_on (take n rest)) all).1

no_name_begins : (line : List ℕ) → is_name (take (name_span line) line) ≡ false → (w behind z : List ℕ) → IsName w → w ++ behind ≡ z → SameFirst z line → ⊥
no_name_begins line never [] behind z right e agree = false≢true right
no_name_begins [] never (g ∷ w) behind z right e agree = let none : ⊥ = cc (ap first_of e, agree) in none
no_name_begins (x ∷ rest) never (g ∷ w) behind z right e agree =
    let same : g ≡ x = cc (ap first_of e, agree) in
    let letter : is_letter x ≡ true = ap is_letter (sym same) ∙ (name_parts g w right).0 in
    false≢true (sym never ∙ front_is_name x rest letter)

name_read : (line : List ℕ) (b : Bool) → is_name (take (name_span line) line) ≡ b → Reads itself IsName NoName SameFirst line (cond b (Ok (take (name_span line) line, drop (name_span line) line)) (Err (length line)))
name_read line true h = record {
  fits = h;
  whole = sym (take-append-drop (name_span line) line);
  only = λ w behind z right nothing e agree.
      let more = begins_within goes_on w (take (name_span line) line) behind z (front_goes_on line) nothing e in
      only_name line w behind z right nothing e agree more.0 more.1;
}
name_read line false h = record {
  part = [];
  rest = line;
  whole = refl;
  left_is = refl;
  value = 65 ∷ [];
  more = 65 ∷ [];
  fits = refl;
  goes_on = refl;
  none = λ w behind z right nothing e agree. no_name_begins line h w behind z right e agree;
}

-- a name is read
pub reads_name : IsReader itself IsName NoName SameFirst read_name
reads_name line a = name_read line (is_name (take (name_span line) line)) refl
