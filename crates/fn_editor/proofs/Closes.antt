-- Where a line closes.
use Rattle.std.proofs.Common.{◌≡◌, ℕ, ◌+◌, ◌<◌, Bool, true, false, cond, eqb, ◌&&◌, List, [], ◌∷◌, ◌++◌, Option, Some, None, length, take, drop, get_or, refl, sym, ap, subst, ◌∙◌, add-one}
use Rattle.std.proofs.Math.Seq.{drop-cons}
use Rattle.std.proofs.lemmas.Bool.{and_parts, eqb-true}
use Rattle.std.proofs.lemmas.List.{take-append-drop}
use Rattle.std.proofs.lemmas.List.Folds.{list_all-append}
use Rattle.apl_arrays.specs.Glyph.{blank, del, is_blank}
use Rattle.fn_editor.specs.Closing.{IsBeforeClose, before_close, before_close_at, is_blank_text}

both_false : (a b : Bool) → b ≡ false → a && b ≡ false
both_false true b e = e
both_false false b e = refl

-- nothing stands before, where this is the ∇
abbrev front_if : Bool → Option (List ℕ)
front_if b = cond b (Some []) None

-- blanks close nothing
blanks_stay : (blanks : List ℕ) → is_blank_text blanks ≡ true → before_close blanks ≡ None
blanks_stay [] e = refl
blanks_stay (glyph ∷ blanks) e =
    let parts = and_parts (is_blank glyph) (is_blank_text blanks) e in
    let other : eqb glyph del ≡ false = ap (λ (g : ℕ). eqb g del) (eqb-true glyph blank parts.0) in
    ap (before_close_at glyph blanks) (blanks_stay blanks parts.1) ∙ ap (λ (b : Bool). front_if (b && is_blank_text blanks)) other

-- a ∇ with blanks behind it closes
pub close_found : (front blanks : List ℕ) → is_blank_text blanks ≡ true → before_close (front ++ del ∷ blanks) ≡ Some front
close_found [] blanks e = ap (before_close_at del blanks) (blanks_stay blanks e) ∙ ap front_if e
close_found (glyph ∷ front) blanks e = ap (before_close_at glyph (front ++ del ∷ blanks)) (close_found front blanks e)

not_blank : (front : List ℕ) (glyph : ℕ) (blanks : List ℕ) → is_blank glyph ≡ false → is_blank_text (front ++ glyph ∷ blanks) ≡ false
not_blank front glyph blanks e =
    list_all-append is_blank front (glyph ∷ blanks) ∙ both_false (is_blank_text front) (is_blank glyph && is_blank_text blanks) (ap (λ (b : Bool). b && is_blank_text blanks) e)

-- another glyph with blanks behind it does not
other_found : (front : List ℕ) (glyph : ℕ) (blanks : List ℕ) → eqb glyph del ≡ false → is_blank glyph ≡ false → is_blank_text blanks ≡ true → before_close (front ++ glyph ∷ blanks) ≡ None
other_found [] glyph blanks other e all = ap (before_close_at glyph blanks) (blanks_stay blanks all) ∙ ap (λ (b : Bool). front_if (b && is_blank_text blanks)) other
other_found (first ∷ front) glyph blanks other e all =
    ap (before_close_at first (front ++ glyph ∷ blanks)) (other_found front glyph blanks other e all)
    ∙ ap front_if (both_false (eqb first del) (is_blank_text (front ++ glyph ∷ blanks)) (not_blank front glyph blanks e))

-- ---- at a place

split_at : (line : List ℕ) (end : ℕ) → end < length line → line ≡ take end line ++ get_or line end 0 ∷ drop (end + 1) line
split_at line end within = sym (take-append-drop end line) ∙ ap (λ (rest : List ℕ). take end line ++ rest) (drop-cons line end 0 within ∙ ap (λ (n : ℕ). get_or line end 0 ∷ drop n line) (sym (add-one end)))

pub close_at : (line : List ℕ) (end : ℕ) → end < length line → get_or line end 0 ≡ del → is_blank_text (drop (end + 1) line) ≡ true → before_close line ≡ Some (take end line)
close_at line end within is all =
    ap before_close (split_at line end within ∙ ap (λ (glyph : ℕ). take end line ++ glyph ∷ drop (end + 1) line) is) ∙ close_found (take end line) (drop (end + 1) line) all

pub no_close_at : (line : List ℕ) (end : ℕ) → end < length line → eqb (get_or line end 0) del ≡ false → is_blank (get_or line end 0) ≡ false → is_blank_text (drop (end + 1) line) ≡ true → before_close line ≡ None
no_close_at line end within other e all =
    ap before_close (split_at line end within) ∙ other_found (take end line) (get_or line end 0) (drop (end + 1) line) other e all

pub no_close : (line : List ℕ) → is_blank_text (drop 0 line) ≡ true → before_close line ≡ None
no_close line all = blanks_stay line all

pub blanks_more : (line : List ℕ) (end : ℕ) → end < length line → is_blank (get_or line end 0) ≡ true → is_blank_text (drop (end + 1) line) ≡ true → is_blank_text (drop end line) ≡ true
blanks_more line end within e all =
    ap is_blank_text (drop-cons line end 0 within ∙ ap (λ (n : ℕ). get_or line end 0 ∷ drop n line) (sym (add-one end)))
    ∙ ap (λ (b : Bool). b && is_blank_text (drop (end + 1) line)) e ∙ all

-- ---- the law

nothing : (front : List ℕ) → None ≡ Some front → ⊥
nothing front e = cc

inside : (first second : List ℕ) → Some first ≡ Some second → first ≡ second
inside first second e = cc

ends_here : (first : ℕ) (rest front : List ℕ) (a b : Bool) → eqb first del ≡ a → is_blank_text rest ≡ b → front_if (a && b) ≡ Some front → IsBeforeClose (first ∷ rest) front
ends_here first rest front true true e f h =
    subst (λ (x : List ℕ). IsBeforeClose (first ∷ rest) x) (inside [] front h) (record { blanks = rest; whole = ap (λ (glyph : ℕ). glyph ∷ rest) (eqb-true first del e); are_blank = f })
ends_here first rest front true false e f h = absurd (nothing front h)
ends_here first rest front false b e f h = absurd (nothing front h)

ends_behind : (first : ℕ) (rest front : List ℕ) (found : Option (List ℕ)) → before_close rest ≡ found → before_close_at first rest found ≡ Some front → ((more : List ℕ) → before_close rest ≡ Some more → IsBeforeClose rest more) → IsBeforeClose (first ∷ rest) front
ends_behind first rest front (Some more) is e step =
    let h = step more is in
    subst (λ (x : List ℕ). IsBeforeClose (first ∷ rest) x) (inside (first ∷ more) front e) (record { blanks = h.blanks; whole = ap (λ (all : List ℕ). first ∷ all) h.whole; are_blank = h.are_blank })
ends_behind first rest front None is e step = ends_here first rest front (eqb first del) (is_blank_text rest) refl refl e

pub is_before_close : (line front : List ℕ) → before_close line ≡ Some front → IsBeforeClose line front
is_before_close [] front e = absurd (nothing front e)
is_before_close (first ∷ rest) front e = ends_behind first rest front (before_close rest) refl e (λ more. is_before_close rest more)

pub closes_there : (line front : List ℕ) → IsBeforeClose line front → before_close line ≡ Some front
closes_there line front h = ap before_close h.whole ∙ close_found front h.blanks h.are_blank
