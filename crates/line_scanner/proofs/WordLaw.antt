-- A name and a system name are computed exactly where the grammar has them.
use Rattle.std.proofs.Common.{◌≡◌, ℕ, ◌<◌, Bool, true, false, cond, eqb, leb, ◌&&◌, List, [], ◌∷◌, ◌++◌, Option, Some, None, length, drop, refl, sym, ap, ◌∙◌}
use Rattle.std.specs.Prelude.{find}
use Rattle.std.specs.List.{list_all, starts_with, take_while}
use Rattle.std.proofs.lemmas.Bool.{and_from, leb-false, lt-leb, both_ways}
use Rattle.std.proofs.lemmas.List.Sums.{take_while-cons}
use Rattle.apl_arrays.specs.Glyph.{is_letter}
use Rattle.apl_arrays.specs.Name.{goes_on, is_name}
use Rattle.apl_arrays.proofs.Names.{letter_goes_on}
use Rattle.apl_arrays.specs.declared.system.SystemName.{SystemName}
use Rattle.apl_arrays.specs.declared.system.SystemName.TheVariants.{Svo, Svc, Svr, Svq, Svs}
use Rattle.line_scanner.specs.Scanning.{system_name}
use Rattle.std.proofs.lemmas.Option.{same_Some, none-some}
use Rattle.apl_arrays.specs.System.{system_names, system_text}
use Rattle.std.proofs.lemmas.Bool.Decides.{Decides-eqb}
use Rattle.std.proofs.lemmas.Slice.Eq.{starts_is}

-- ---- names

-- the run of a letter
pub run_of_letter : (first : ℕ) (rest : List ℕ) → is_letter first ≡ true → take_while goes_on (first ∷ rest) ≡ first ∷ take_while goes_on rest
run_of_letter first rest e = take_while-cons goes_on first rest ∙ ap (λ (b : Bool). cond b (first ∷ take_while goes_on rest) []) (letter_goes_on first e)

-- a run of a letter that is no name is longer than 32
pub long_run : (first : ℕ) (others : List ℕ) → is_letter first ≡ true → list_all goes_on others ≡ true → is_name (first ∷ others) ≡ false → 31 < length others
long_run first others letter all e = leb-false (length others) 31 (long_by (is_letter first) (leb (length others) 31) (list_all goes_on others) letter all e)
  where
    long_by : (a b c : Bool) → a ≡ true → c ≡ true → (a && b && c) ≡ false → b ≡ false
    long_by a true c p q e = absurd (both_ways (a && true && c) e (and_from (a && true) c (and_from a true p refl) q))
    long_by a false c p q e = refl

-- what is longer than 32 is no name
pub too_long : (first : ℕ) (others : List ℕ) → 31 < length others → is_name (first ∷ others) ≡ false
too_long first others long = long_by (is_letter first) (leb (length others) 31) (list_all goes_on others) (lt-leb (length others) 31 long)
  where
    long_by : (a b c : Bool) → b ≡ false → (a && b && c) ≡ false
    long_by true true c e = absurd cc
    long_by true false c e = refl
    long_by false b c e = refl

-- ---- system names

found_by : (test : SystemName → Bool) (name which : SystemName) (others : Option SystemName) (b : Bool) → test name ≡ b → (others ≡ Some which → test which ≡ true) → cond b (Some name) others ≡ Some which → test which ≡ true
found_by test name which others true passes later e = ap test (sym (same_Some name which e)) ∙ passes
found_by test name which others false fails later e = later e

found_passes : (test : SystemName → Bool) (names : List SystemName) (which : SystemName) → find test names ≡ Some which → test which ≡ true
found_passes test [] which e = absurd (none-some which e)
found_passes test (name ∷ names) which e = found_by test name which (find test names) (test name) refl (found_passes test names which) e

-- what is computed is a system name
pub system_sound : (line : List ℕ) (which : SystemName) → system_name line ≡ Some which → (more : List ℕ) × (line ≡ system_text which ++ more)
system_sound line which e =
    let starts : SystemName → Bool = λ name. starts_with eqb line (system_text name) in
    (drop (length (system_text which)) line, (starts_is Decides-eqb line (system_text which) (starts which) refl).0 (found_passes starts system_names which e))

-- and each system name is computed
pub system_complete : (which : SystemName) (more : List ℕ) → system_name (system_text which ++ more) ≡ Some which
system_complete Svo more = refl
system_complete Svc more = refl
system_complete Svr more = refl
system_complete Svq more = refl
system_complete Svs more = refl

pub system_none : (line : List ℕ) → system_name line ≡ None → (which : SystemName) (others : List ℕ) → line ≡ system_text which ++ others → ⊥
system_none line e which others same = none-some which (sym e ∙ ap system_name same ∙ system_complete which others)

absent_by : (line : List ℕ) (found : Option SystemName) → system_name line ≡ found → ((which : SystemName) (others : List ℕ) → line ≡ system_text which ++ others → ⊥) → found ≡ None
absent_by line None e absent = refl
absent_by line (Some which) e absent = let h = system_sound line which e in absurd (absent which h.0 h.1)

-- where the grammar has no system name none is computed
pub no_system : (line : List ℕ) → ((which : SystemName) (others : List ℕ) → line ≡ system_text which ++ others → ⊥) → system_name line ≡ None
no_system line absent = absent_by line (system_name line) refl absent
