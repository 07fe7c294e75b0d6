-- The label of a line, as it is computed and as it stands in the line.
use Rattle.std.proofs.Common.{◌≡◌, ℕ, Bool, true, false, cond, ◌&&◌, List, [], ◌∷◌, ◌++◌, Option, Some, None, length, take, drop, refl, sym, ap, ◌∙◌}
use Rattle.std.specs.List.{list_all, prefix_len}
use Rattle.std.proofs.Math.Seq.{drop-append_seam}
use Rattle.std.proofs.lemmas.Bool.{false≢true, and_parts}
use Rattle.std.proofs.lemmas.Bool.Decides.{Decides-eqb}
use Rattle.std.proofs.lemmas.Option.{same_Some}
use Rattle.apl_arrays.specs.Glyph.{blank, colon, is_blank, is_letter}
use Rattle.apl_arrays.specs.Name.{IsName, goes_on, longest_name}
use Rattle.apl_arrays.specs.Run.{begins}
use Rattle.apl_arrays.proofs.Names.{longest_is_found, found_is_longest}
use Rattle.apl_arrays.proofs.Runs.{drop_run, run_passes, run_splits}
use Rattle.apl_workspace.specs.Blanks.{without_blanks}
use Rattle.apl_workspace.specs.Label.{HasLabel, is_colon, label_in, label_of}

-- ---- what is computed stands in the line

colon_first : (glyphs : List ℕ) → begins is_colon glyphs ≡ true → (rest : List ℕ) × (glyphs ≡ colon ∷ rest)
colon_first [] e = absurd (false≢true e)
colon_first (first ∷ rest) e = (rest, ap (λ (g : ℕ). g ∷ rest) ((Decides-eqb first colon).0 e))

labelled_by : (b : Bool) (found : List ℕ × ℕ) (label : List ℕ) → cond b (Some found.0) None ≡ Some label → (b ≡ true) × (found.0 ≡ label)
labelled_by true found label e = (refl, same_Some found.0 label e)
labelled_by false found label e = absurd cc

-- what is left of a label that was found
record IsFoundAs (found : Option (List ℕ × ℕ)) (glyphs label : List ℕ) : Type 0 where
  count : ℕ
  is : found ≡ Some (label, count)
  stops : begins is_colon (without_blanks (drop count glyphs)) ≡ true

found_as : (found : Option (List ℕ × ℕ)) (glyphs label : List ℕ) → label_in found glyphs ≡ Some label → IsFoundAs found glyphs label
found_as None glyphs label e = absurd cc
found_as (Some found) glyphs label e =
    let parts = labelled_by (begins is_colon (without_blanks (drop found.1 glyphs))) found label e in
    record { count = found.1; is = ap (λ (name : List ℕ). Some (name, found.1)) parts.1; stops = parts.0 }

pub label_stands : (line label : List ℕ) → label_of line ≡ Some label → HasLabel line label
label_stands line label e =
    let glyphs = without_blanks line in
    let as_found = found_as (longest_name glyphs) glyphs label e in
    let ends = found_is_longest glyphs label as_found.count as_found.is in
    let tail = drop as_found.count glyphs in
    let first = colon_first (without_blanks tail) as_found.stops in
    record {
      before = take (prefix_len is_blank line) line;
      after = take (prefix_len is_blank tail) tail;
      rest = first.0;
      whole = run_splits is_blank line
          ∙ ap (λ back. take (prefix_len is_blank line) line ++ back)
          (ends.1.whole ∙ ap (λ back. label ++ back) (run_splits is_blank tail ∙ ap (λ back. take (prefix_len is_blank tail) tail ++ back) first.1));
      is_name = ends.1.is_name;
      blank_before = run_passes is_blank line;
      blank_after = run_passes is_blank tail;
    }

-- ---- what stands in the line is computed

-- a glyph with which a name begins or goes on is no blank, and no colon
no_blank_by : (first : ℕ) (b : Bool) → is_blank first ≡ b → is_letter first ≡ true → is_blank first ≡ false
no_blank_by first true e letter = absurd (false≢true (sym (ap is_letter ((Decides-eqb first blank).0 e)) ∙ letter))
no_blank_by first false e letter = e

name_is_no_blank : (name rest : List ℕ) → IsName name → begins is_blank (name ++ rest) ≡ false
name_is_no_blank [] rest h = absurd (false≢true h)
name_is_no_blank (first ∷ more) rest h = no_blank_by first (is_blank first) refl (and_parts (is_letter first) _ (and_parts (is_letter first && _) _ h).0).0

-- behind blanks and at a colon a name does not go on
stops_name : (after rest : List ℕ) → list_all is_blank after ≡ true → begins goes_on (after ++ colon ∷ rest) ≡ false
stops_name [] rest h = refl
stops_name (first ∷ after) rest h = ap goes_on ((Decides-eqb first blank).0 (and_parts (is_blank first) (list_all is_blank after) h).0)

pub label_found : (line label : List ℕ) → HasLabel line label → label_of line ≡ Some label
label_found line label h =
    let tail = h.after ++ colon ∷ h.rest in
    let glyphs : without_blanks line ≡ label ++ tail = ap without_blanks h.whole ∙ drop_run is_blank h.before (label ++ tail) h.blank_before (name_is_no_blank label tail h.is_name) in
    let longest : longest_name (label ++ tail) ≡ Some (label, length label) =
    longest_is_found (label ++ tail) label tail (record { whole = refl; is_name = h.is_name; ends = stops_name h.after h.rest h.blank_after }) in
    let behind : begins is_colon (without_blanks (drop (length label) (label ++ tail))) ≡ true =
    ap (λ (g : List ℕ). begins is_colon (without_blanks g)) (drop-append_seam label tail) ∙ ap (begins is_colon) (drop_run is_blank h.after (colon ∷ h.rest) h.blank_after refl) in
    ap (λ (g : List ℕ). label_in (longest_name g) g) glyphs ∙ ap (λ (o : Option (List ℕ × ℕ)). label_in o (label ++ tail)) longest ∙ ap (λ b. cond b (Some label) None) behind
