-- The lines of a file, one after another.
use Rattle.std.proofs.Common.{◌≡◌, ◌≢◌, ◌∙◌, ⊎_elim, ◌<◌, ◌≤◌, ℕ, suc, List, [], ◌∷◌, ◌++◌, cond, length, refl, sym, ap, subst, map, arith, append-nil, zero, All, drop, get_or}
use Rattle.std.specs.List.{AllZip}
use Rattle.std.proofs.lemmas.Bool.Decides.{eqb_tells}
use Rattle.std.proofs.lemmas.List.Elements.{All-head, All-tail}
use Rattle.apl_arrays.specs.Glyph.{Spells}
use Rattle.apl_arrays.specs.List.{Listed, glyphs_in}
use Rattle.line_text.specs.Lines.{line_feed, HasNoFeed}
use Rattle.auxiliaries.specs.File.{lines_in, with_byte, IsFileLine, IsText, IsNoText, most_file_bytes, most_file_line_glyphs}

-- a byte that is no line feed goes on with its line
goes_on : (byte : ℕ) (bytes : List ℕ) → byte ≢ line_feed → lines_in (byte ∷ bytes) ≡ with_byte byte (lines_in bytes)
goes_on byte bytes none = ⊎_elim (λ feed. absurd (none feed.1)) (λ other. ap (λ ends. cond ends ([] ∷ lines_in bytes) (with_byte byte (lines_in bytes))) other.0) (eqb_tells byte line_feed)

-- a line that a line feed ends
pub ended : (line behind : List ℕ) → HasNoFeed line → lines_in (line ++ line_feed ∷ behind) ≡ line ∷ lines_in behind
ended [] behind none = refl
ended (byte ∷ line) behind none =
    let more : List ℕ = line ++ line_feed ∷ behind in
    goes_on byte more (All-head (λ byte. byte ≢ line_feed) byte line none)
    ∙ ap (λ lines. with_byte byte lines) (ended line behind (All-tail (λ byte. byte ≢ line_feed) byte line none))

-- a last line without a line feed
pub unended : (line : List ℕ) → 0 < length line → HasNoFeed line → lines_in line ≡ line ∷ []
unended [] some none = absurd (omega (arith, some))
unended (byte ∷ []) some none = goes_on byte [] (All-head (λ byte. byte ≢ line_feed) byte [] none)
unended (byte ∷ next ∷ line) some none =
    goes_on byte (next ∷ line) (All-head (λ byte. byte ≢ line_feed) byte (next ∷ line) none)
    ∙ ap (λ lines. with_byte byte lines) (unended (next ∷ line) (omega arith) (All-tail (λ byte. byte ≢ line_feed) byte (next ∷ line) none))

-- one more line that is spelt, and so all lines so far
pub one_more : (bytes rest line behind : List ℕ) (lines : List (Listed ℕ)) (next : Listed ℕ) → lines_in rest ≡ line ∷ lines_in behind → IsFileLine line next.items
    → ((more : List (List ℕ)) → AllZip IsFileLine (lines_in rest) more → AllZip IsFileLine (lines_in bytes) (map glyphs_in lines ++ more))
    → (more : List (List ℕ)) → AllZip IsFileLine (lines_in behind) more → AllZip IsFileLine (lines_in bytes) (map glyphs_in (lines ++ next ∷ []) ++ more)
one_more bytes rest line behind lines next split is far more each =
    let P : List (List ℕ) → Type 0 = λ all. AllZip IsFileLine (lines_in bytes) all in
    let Q : List (List ℕ) → Type 0 = λ all. AllZip IsFileLine all (next.items ∷ more) in
    subst P (joined lines next more) (far (next.items ∷ more) (subst Q (sym split) (is, each)))
  where
    joined : (lines : List (Listed ℕ)) (next : Listed ℕ) (more : List (List ℕ)) → map glyphs_in lines ++ (next.items ∷ more) ≡ map glyphs_in (lines ++ next ∷ []) ++ more
    joined [] next more = refl
    joined (first ∷ lines) next more = ap (λ all. first.items ∷ all) (joined lines next more)

-- the lines behind the first
behind_first : (line : List ℕ) (rest more : List (List ℕ)) → AllZip IsFileLine (line ∷ rest) more → (others : List (List ℕ)) × AllZip IsFileLine rest others
behind_first line rest [] each = absurd each
behind_first line rest (first ∷ more) each = (more, each.1)

-- what spells all lines spells those behind the first
pub others : (bytes rest line behind : List ℕ) → lines_in rest ≡ line ∷ lines_in behind → ((lines : List (List ℕ)) → AllZip IsFileLine (lines_in bytes) lines → (more : List (List ℕ)) × AllZip IsFileLine (lines_in rest) more)
    → (lines : List (List ℕ)) → AllZip IsFileLine (lines_in bytes) lines → (more : List (List ℕ)) × AllZip IsFileLine (lines_in behind) more
others bytes rest line behind split far lines each =
    let found = far lines each in
    let Q : List (List ℕ) → Type 0 = λ all. AllZip IsFileLine all found.0 in
    behind_first line (lines_in behind) found.0 (subst Q split found.1)

-- nothing spells the first line
unspelt : (line : List ℕ) (rest more : List (List ℕ)) → ((glyphs : List ℕ) → ¬ IsFileLine line glyphs) → AllZip IsFileLine (line ∷ rest) more → ⊥
unspelt line rest [] none each = each
unspelt line rest (first ∷ more) none each = none first each.0

-- a line that nothing spells
pub no_line : (bytes rest line behind : List ℕ) → lines_in rest ≡ line ∷ lines_in behind → ((lines : List (List ℕ)) → AllZip IsFileLine (lines_in bytes) lines → (more : List (List ℕ)) × AllZip IsFileLine (lines_in rest) more)
    → ((glyphs : List ℕ) → ¬ IsFileLine line glyphs) → IsNoText bytes
no_line bytes rest line behind split far none lines text =
    let found = far lines text.each in
    let Q : List (List ℕ) → Type 0 = λ all. AllZip IsFileLine all found.0 in
    unspelt line (lines_in behind) found.0 none (subst Q split found.1)

-- at the end all lines are spelt
pub all_lines : (bytes rest : List ℕ) (lines : List (Listed ℕ)) → length rest ≡ 0 → length bytes ≤ most_file_bytes
    → ((more : List (List ℕ)) → AllZip IsFileLine (lines_in rest) more → AllZip IsFileLine (lines_in bytes) (map glyphs_in lines ++ more)) → IsText bytes (map glyphs_in lines)
all_lines bytes [] lines none small far =
    let P : List (List ℕ) → Type 0 = λ all. AllZip IsFileLine (lines_in bytes) all in
    record { small = small; each = subst P (append-nil (map glyphs_in lines)) (far [] tt) }
all_lines bytes (byte ∷ rest) lines none small far = absurd (omega (arith, none))

-- the lines of a text are short
pub short_lines : (bytes : List ℕ) (lines : List (List ℕ)) → IsText bytes lines → All (λ line. length line ≤ most_file_line_glyphs) lines
short_lines bytes lines text = each (lines_in bytes) lines text.each
  where
    each : (spelt lines : List (List ℕ)) → AllZip IsFileLine spelt lines → (k : ℕ) (d : List ℕ) → k < length lines → length (get_or lines k d) ≤ most_file_line_glyphs
    each spelt [] zips k d below = absurd (omega (arith, below))
    each [] (line ∷ lines) zips k d below = absurd zips
    each (bytes ∷ spelt) (line ∷ lines) zips zero d below = zips.0.short
    each (bytes ∷ spelt) (line ∷ lines) zips (suc k) d below = each spelt lines zips.1 k d (omega (arith, below))

-- the lines behind the first are short where all are
pub short_behind : (lines : List (Listed ℕ)) → All (λ l. length l ≤ most_file_line_glyphs) (map glyphs_in lines) → All (λ l. length l ≤ most_file_line_glyphs) (map glyphs_in (drop 1 lines))
short_behind [] all k d below = all k d below
short_behind (line ∷ lines) all k d below = all (suc k) d (omega (arith, below))

-- lines that spell the same bytes are the same
pub same_lines : ((bytes line other : List ℕ) → Spells bytes line → Spells bytes other → line ≡ other) → (spelt lines other : List (List ℕ)) → AllZip IsFileLine spelt lines → AllZip IsFileLine spelt other → lines ≡ other
same_lines one [] [] [] a b = refl
same_lines one [] [] (line ∷ other) a b = absurd b
same_lines one [] (line ∷ lines) other a b = absurd a
same_lines one (bytes ∷ spelt) [] other a b = absurd a
same_lines one (bytes ∷ spelt) (line ∷ lines) [] a b = absurd b
same_lines one (bytes ∷ spelt) (line ∷ lines) (first ∷ other) a b =
    ap (λ l. l ∷ lines) (one bytes line first a.0.spelt b.0.spelt) ∙ ap (λ ls. first ∷ ls) (same_lines one spelt lines other a.1 b.1)
