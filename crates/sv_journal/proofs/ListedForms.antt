-- Reading lists up to pairs or the end of a line.
use Rattle.std.proofs.Common.{◌≡◌, ℕ, ◌+◌, ◌-◌, Bool, true, false, not, ◌&&◌, eqb, List, [], ◌∷◌, ◌++◌, Some, length, ◌⊎◌, inl, inr, refl, sym, ap, ◌∙◌, subst, arith}
use Rattle.std.proofs.lemmas.Bool.{false≢true, and_parts, cases_Bool}
use Rattle.std.proofs.lemmas.Bool.Decides.{nat_tests}
use Rattle.std.specs.Fmt.{decimal}
use Rattle.std.specs.List.{flat_map, AllByRecursion}
use Rattle.apl_arrays.specs.Glyph.{is_digit, is_letter}
use Rattle.apl_arrays.specs.Name.{IsName}
use Rattle.apl_arrays.specs.Run.{begins}
use Rattle.line_text.proofs.SameNumbers.{begins_count}
use Rattle.apl_arrays.specs.List.{first_of, others_of}
use Rattle.text_reader.specs.Reading.{Reader, begins_with}
use Rattle.text_reader.proofs.NameForms.{NoName}
use Rattle.text_reader.proofs.NumberForms.{NoDigit}
use Rattle.text_reader.proofs.Readers.{SameFirst, Stopped, IsReader, same_behind}
use Rattle.sv_journal.specs.ActReading.{read_local, read_party}
use Rattle.sv_journal.specs.AnswerReading.{list_goes_on, read_parties, read_names}
use Rattle.sv_journal.specs.IsEntry.{IsPartyNumber}
use Rattle.sv_journal.proofs.FieldForms.{Ends, party_text, local_text, reads_party, reads_local, a_name}
use Rattle.sv_journal.proofs.SameEntries.{begins_letter}
use Rattle.sv_journal.proofs.WhileForms.{GoesOn, reads_all}

-- pairs or the end follow an answer
abbrev pub PairsBehind : List ℕ → Type 0
PairsBehind behind = (behind ≡ []) ⊎ ((more : List ℕ) × (behind ≡ 32 ∷ 43 ∷ more))

-- two lines go on with the same glyph, and behind a blank with the same one again
pub record Farther (one other : List ℕ) : Type 0 where
  pub first : SameFirst one other
  pub second : begins_with 32 other ≡ true → SameFirst (others_of one) (others_of other)

pub no_farther : (one other : List ℕ) → Farther one other → SameFirst one other
no_farther one other h = h.first

pub same_farther : (rest : List ℕ) → Farther rest rest
same_farther rest = record { first = refl; second = λ h. refl }

pub ends_pairs : (behind : List ℕ) → PairsBehind behind → Ends behind
ends_pairs behind (inl e) = subst Ends (sym e) (record { digits = refl; names = refl })
ends_pairs behind (inr h) = subst Ends (sym h.1) (record { digits = refl; names = refl })

begins_with_same : (glyph : ℕ) (one other : List ℕ) → SameFirst one other → begins_with glyph one ≡ begins_with glyph other
begins_with_same glyph [] [] e = refl
begins_with_same glyph [] (y ∷ ys) e = absurd (let none : ⊥ = cc in none)
begins_with_same glyph (x ∷ xs) [] e = absurd (let none : ⊥ = cc in none)
begins_with_same glyph (x ∷ xs) (y ∷ ys) e = ap (λ g. eqb g glyph) (let same : x ≡ y = cc in same)

pub blank_first : (line : List ℕ) → begins_with 32 line ≡ true → first_of line ≡ Some 32
blank_first [] e = absurd (false≢true e)
blank_first (x ∷ xs) e = ap Some (let same : x ≡ 32 = grind (arith, nat_tests, e) in same)

-- what begins so begins with no +
no_plus : (p : ℕ → Bool) → p 43 ≡ false → (line : List ℕ) → begins p line ≡ true → begins_with 43 line ≡ false
no_plus p never [] e = refl
no_plus p never (x ∷ xs) e =
    elim (cases_Bool (eqb x 43)) [
      | inl h ↦ absurd (false≢true (sym never ∙ (ap p (let same : 43 ≡ x = grind (arith, nat_tests, h) in same) ∙ e)))
      | inr h ↦ h
    ]

-- a list whose things stand behind blanks
record Spaced {A : Type 0} (text : A → List ℕ) (ok : A → Type 0) (follows : List ℕ → Type 0) (item : Reader A) : Type 0 where
  reads : IsReader (λ x. 32 ∷ text x) ok follows SameFirst item
  begin : ℕ → Bool
  plus : begin 43 ≡ false
  begun : (x : A) (more : List ℕ) → ok x → begins begin (text x ++ more) ≡ true
  blank : (more : List ℕ) → follows (32 ∷ more)
  last : (behind : List ℕ) → PairsBehind behind → follows behind
  one : A
  fits : ok one

unlike_pairs : {A : Type 0} (text : A → List ℕ) (ok : A → Type 0) (follows : List ℕ → Type 0) (item : Reader A) → Spaced text ok follows item → (behind more : List ℕ) (x : A) → PairsBehind behind → ok x → behind ≡ (32 ∷ text x) ++ more → ⊥
unlike_pairs text ok follows item s behind more x (inl e) h same = let none : ⊥ = cc in none
unlike_pairs text ok follows item s behind more x (inr p) h same =
    let inner : 43 ∷ p.0 ≡ text x ++ more = cc (p.1, same) in
    false≢true (sym s.plus ∙ (ap (begins s.begin) inner ∙ s.begun x more h))

ends_spaced : {A : Type 0} (text : A → List ℕ) (ok : A → Type 0) (follows : List ℕ → Type 0) (item : Reader A) → Spaced text ok follows item → (line more z : List ℕ) (x : A) → list_goes_on line ≡ false → ok x → (32 ∷ text x) ++ more ≡ z → Farther z line → ⊥
ends_spaced text ok follows item s line more z x never h e agree =
    let blank : begins_with 32 line ≡ true = sym (begins_with_same 32 z line agree.first) ∙ ap (begins_with 32) (sym e) in
    let plus : begins_with 43 (others_of line) ≡ false = sym (begins_with_same 43 (others_of z) (others_of line) (agree.second blank)) ∙ (ap (λ t. begins_with 43 (others_of t)) (sym e) ∙ no_plus s.begin s.plus (text x ++ more) (s.begun x more h)) in
    let going : list_goes_on line ≡ true = ap (λ b. b && not (begins_with 43 (others_of line))) blank ∙ ap (λ b. true && not b) plus in
    false≢true (sym never ∙ going)

none_in : (first : List ℕ) (line part rest : List ℕ) → list_goes_on line ≡ true → line ≡ part ++ rest → ((z : List ℕ) → 32 ∷ first ≡ part ++ z → SameFirst z rest → ⊥) → (behind z : List ℕ) → PairsBehind behind → behind ≡ part ++ z → SameFirst z rest → ⊥
none_in first line [] rest going whole never behind z follow e same =
    let blank : begins_with 32 line ≡ true = (and_parts (begins_with 32 line) (not (begins_with 43 (others_of line))) going).0 in
    never (32 ∷ first) refl (sym (ap first_of (sym whole) ∙ blank_first line blank))
none_in first line (c ∷ part) rest going whole never behind z (inl none) e same = let empty : ⊥ = cc in empty
none_in first line (c ∷ part) rest going whole never behind z (inr p) e same =
    let inner : 43 ∷ p.0 ≡ part ++ z = cc (p.1, e) in
    let plus : begins_with 43 (part ++ rest) ≡ true = sym (begins_with_same 43 (part ++ z) (part ++ rest) (same_behind part z rest same)) ∙ ap (begins_with 43) (sym inner) in
    let second : begins_with 43 (others_of line) ≡ true = ap (λ t. begins_with 43 (others_of t)) whole ∙ plus in
    let other : not (begins_with 43 (others_of line)) ≡ true = (and_parts (begins_with 32 line) (not (begins_with 43 (others_of line))) going).1 in
    false≢true (sym (ap not second) ∙ other)

none_spaced : {A : Type 0} (text : A → List ℕ) (ok : A → Type 0) (follows : List ℕ → Type 0) (item : Reader A) → Spaced text ok follows item → (line : List ℕ) (left : ℕ) (behind z : List ℕ) → list_goes_on line ≡ true → (h : Stopped (λ x. 32 ∷ text x) ok follows line left) → PairsBehind behind → behind ≡ h.part ++ z → SameFirst z h.rest → ⊥
none_spaced text ok follows item s line left behind z going h follow e same =
    none_in (text s.one ++ []) line h.part h.rest going h.whole (λ y whole agree. h.none s.one [] y s.fits (s.last [] (inl refl)) whole agree) behind z follow e same

spaced_goes_on : {A : Type 0} (text : A → List ℕ) (ok : A → Type 0) (follows : List ℕ → Type 0) (item : Reader A) → Spaced text ok follows item → GoesOn (λ x. 32 ∷ text x) ok follows PairsBehind Farther list_goes_on item
spaced_goes_on text ok follows item s = record {
  reads = s.reads;
  some = λ x h. omega arith;
  next = λ x behind h. s.blank (text x ++ behind);
  last = s.last;
  unlike = unlike_pairs text ok follows item s;
  ends = ends_spaced text ok follows item s;
  none = none_spaced text ok follows item s;
  nothing = refl;
  ahead = no_farther;
}

party_list : Spaced decimal IsPartyNumber NoDigit read_party
party_list = record {
  reads = reads_party;
  begin = is_digit;
  plus = refl;
  begun = λ n more h. begins_count n more (omega (arith, h));
  blank = λ more. refl;
  last = λ behind h. (ends_pairs behind h).digits;
  one = 0;
  fits = omega arith;
}

name_list : Spaced (λ name. name) IsName NoName read_local
name_list = record {
  reads = reads_local;
  begin = is_letter;
  plus = refl;
  begun = λ name more h. begins_letter name more h;
  blank = λ more. refl;
  last = λ behind h. (ends_pairs behind h).names;
  one = 65 ∷ [];
  fits = a_name;
}

pub reads_parties : IsReader (flat_map party_text) (AllByRecursion IsPartyNumber) PairsBehind Farther read_parties
reads_parties line a =
    (reads_all party_text IsPartyNumber NoDigit PairsBehind Farther list_goes_on read_party (spaced_goes_on decimal IsPartyNumber NoDigit read_party party_list) (length line) line a (omega arith)).reads

pub reads_names : IsReader (flat_map local_text) (AllByRecursion IsName) PairsBehind Farther read_names
reads_names line a =
    (reads_all local_text IsName NoName PairsBehind Farther list_goes_on read_local (spaced_goes_on (λ name. name) IsName NoName read_local name_list) (length line) line a (omega arith)).reads
