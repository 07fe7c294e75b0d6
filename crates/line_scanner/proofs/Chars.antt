-- The characters of a constant, one glyph after the other.
use Rattle.std.proofs.Common.{◌≡◌, ℕ, suc, ◌+◌, ◌<◌, ◌≤◌, Bool, true, false, cond, List, [], ◌∷◌, ◌++◌, Option, Some, None, length, drop, get_or, refl, sym, ap, ◌∙◌, append_assoc, add-one, drop-cons, arith}
use Rattle.std.proofs.lemmas.List.{append-nil, drop_all}
use Rattle.std.specs.Bool.{beq}
use Rattle.line_scanner.specs.Role.{is_quote}
use Rattle.line_scanner.specs.Number.{found_after}
use Rattle.line_scanner.specs.Scanning.{with_char, chars_by, chars_from}

-- characters that were read, up to a place, before those that are found from it on
abbrev pub onto : List ℕ → ℕ → Option (List ℕ × ℕ) → Option (List ℕ × ℕ)
onto read at None = None
onto read at (Some found) = Some (read ++ found.0, at + found.1)

-- one glyph further
chars_step : (closing : Bool) (line : List ℕ) (at glyph : ℕ) → at < length line → glyph ≡ get_or line at glyph
    → chars_from closing (drop at line) ≡ chars_by closing (is_quote glyph) glyph (λ next. chars_from next (drop (at + 1) line))
unfolding chars_from
chars_step closing line at glyph lt e =
    let split : drop at line ≡ glyph ∷ drop (at + 1) line = rw (add-one, drop-cons line at glyph) (ap (λ (g : ℕ). g ∷ drop (suc at) line) (sym e)) in
    rw split refl

onto-with_char : (read : List ℕ) (at glyph : ℕ) (found : Option (List ℕ × ℕ)) → onto (read ++ glyph ∷ []) (at + 1) found ≡ onto read at (with_char glyph found)
onto-with_char read at glyph None = refl
onto-with_char read at glyph (Some found) =
    let glyphs : at + 1 + found.1 ≡ at + (1 + found.1) = omega arith in
    rw (append_assoc read (glyph ∷ []) found.0, glyphs) refl

onto-found_after : (read : List ℕ) (at : ℕ) (found : Option (List ℕ × ℕ)) → onto read (at + 1) found ≡ onto read at (found_after 1 found)
onto-found_after read at None = refl
onto-found_after read at (Some found) = let glyphs : at + 1 + found.1 ≡ at + (1 + found.1) = omega arith in rw glyphs refl

-- what the glyph at a place gives, by whether it is a quote
read_at : (closing quote : Bool) (line read : List ℕ) (at glyph : ℕ) (all : Option (List ℕ × ℕ)) → at < length line → glyph ≡ get_or line at glyph → is_quote glyph ≡ quote
    → onto read at (chars_from closing (drop at line)) ≡ all → onto read at (chars_by closing quote glyph (λ next. chars_from next (drop (at + 1) line))) ≡ all
read_at closing quote line read at glyph all lt e is so_far =
    sym (ap (onto read at) (chars_step closing line at glyph lt e ∙ ap (λ (b : Bool). chars_by closing b glyph (λ next. chars_from next (drop (at + 1) line))) is)) ∙ so_far

-- a character
pub reads_char : (closing quote now : Bool) (line read more : List ℕ) (at glyph : ℕ) (all : Option (List ℕ × ℕ)) → at < length line → glyph ≡ get_or line at glyph → quote ≡ is_quote glyph → beq closing quote ≡ true → more ≡ read ++ glyph ∷ [] → now ≡ false
    → onto read at (chars_from closing (drop at line)) ≡ all → onto more (at + 1) (chars_from now (drop (at + 1) line)) ≡ all
reads_char true true now line read more at glyph all lt e is same pushed q so_far =
    rw (pushed, q, onto-with_char read at glyph (chars_from false (drop (at + 1) line))) (read_at true true line read at glyph all lt e (sym is) so_far)
reads_char false false now line read more at glyph all lt e is same pushed q so_far =
    rw (pushed, q, onto-with_char read at glyph (chars_from false (drop (at + 1) line))) (read_at false false line read at glyph all lt e (sym is) so_far)
reads_char true false now line read more at glyph all lt e is same pushed q so_far = absurd cc
reads_char false true now line read more at glyph all lt e is same pushed q so_far = absurd cc

-- a quote that may close
pub reads_quote : (closing quote now : Bool) (line read same : List ℕ) (at glyph : ℕ) (all : Option (List ℕ × ℕ)) → at < length line → glyph ≡ get_or line at glyph → quote ≡ is_quote glyph → beq closing quote ≡ false → closing ≡ false → same ≡ read → now ≡ true
    → onto read at (chars_from closing (drop at line)) ≡ all → onto same (at + 1) (chars_from now (drop (at + 1) line)) ≡ all
reads_quote true quote now line read same at glyph all lt e is differs was p q so_far = absurd cc
reads_quote false false now line read same at glyph all lt e is differs was p q so_far = absurd cc
reads_quote false true now line read same at glyph all lt e is differs was p q so_far =
    rw (p, q, onto-found_after read at (chars_from true (drop (at + 1) line))) (read_at false true line read at glyph all lt e (sym is) so_far)

-- a quote that closed
pub reads_close : (closing quote : Bool) (line read : List ℕ) (at glyph : ℕ) (all : Option (List ℕ × ℕ)) → at < length line → glyph ≡ get_or line at glyph → quote ≡ is_quote glyph → beq closing quote ≡ false → closing ≡ true
    → onto read at (chars_from closing (drop at line)) ≡ all → Some (read, at) ≡ all
reads_close false quote line read at glyph all lt e is differs was so_far = absurd cc
reads_close true true line read at glyph all lt e is differs was so_far = absurd cc
reads_close true false line read at glyph all lt e is differs was so_far =
    let step : onto read at (Some ([], 0)) ≡ all = read_at true false line read at glyph all lt e (sym is) so_far in
    let glyphs : at + 0 ≡ at = omega arith in
    ap (λ (x : List ℕ). Some (x, at)) (sym (append-nil read)) ∙ ap (λ (n : ℕ). Some (read ++ [], n)) (sym glyphs) ∙ step

-- what the end of the line gives
read_end : (closing : Bool) (line read : List ℕ) (at : ℕ) (all : Option (List ℕ × ℕ)) → length line ≤ at → onto read at (chars_from closing (drop at line)) ≡ all → onto read at (cond closing (Some ([], 0)) None) ≡ all
unfolding chars_from
read_end closing line read at all past so_far = sym (ap (λ (x : List ℕ). onto read at (chars_from closing x)) (drop_all at line past)) ∙ so_far

-- a quote at the end of the line closed
pub reads_closed_end : (closing : Bool) (line read : List ℕ) (at : ℕ) (all : Option (List ℕ × ℕ)) → length line ≤ at → at ≤ length line → closing ≡ true
    → onto read at (chars_from closing (drop at line)) ≡ all → Some (read, length line) ≡ all
reads_closed_end false line read at all past fits was so_far = absurd cc
reads_closed_end true line read at all past fits was so_far =
    let glyphs : at + 0 ≡ length line = omega arith in
    ap (λ (x : List ℕ). Some (x, length line)) (sym (append-nil read)) ∙ ap (λ (n : ℕ). Some (read ++ [], n)) (sym glyphs) ∙ read_end true line read at all past so_far

-- no quote closed
pub reads_open_end : (closing : Bool) (line read : List ℕ) (at : ℕ) (all : Option (List ℕ × ℕ)) → length line ≤ at → closing ≡ false
    → onto read at (chars_from closing (drop at line)) ≡ all → None ≡ all
reads_open_end true line read at all past was so_far = absurd cc
reads_open_end false line read at all past was so_far = read_end false line read at all past so_far
