-- A text reads back as itself.
use Rattle.std.proofs.Common.{◌≡◌, ◌≢◌, ℕ, Bool, true, false, cond, eqb, List, [], ◌∷◌, ◌++◌, codes, refl, sym, ap, ◌∙◌}
use Rattle.std.specs.Prelude.{None, Some}
use Rattle.std.specs.List.{All, list_all}
use Rattle.std.proofs.lemmas.Bool.{eqb-true, eqb-false}
use Rattle.std.proofs.lemmas.List.Elements.{All-nil, All-cons, All-append, All-from_recursion}
use Rattle.apl_arrays.specs.Glyph.{less}
use Rattle.run_picture.specs.Escape.{escape, escaped, read_back, read_behind}

one_back_as : (glyph : ℕ) (rest : List ℕ) (a l g : Bool) → eqb glyph 38 ≡ a → eqb glyph 60 ≡ l → eqb glyph 62 ≡ g → read_behind None (cond a (codes "&amp;") (cond l (codes "&lt;") (cond g (codes "&gt;") (glyph ∷ []))) ++ rest) ≡ glyph ∷ read_behind None rest
one_back_as glyph rest true l g amp lt gt = ap (λ (n : ℕ). n ∷ read_behind None rest) (sym (eqb-true glyph 38 amp))
one_back_as glyph rest false true g amp lt gt = ap (λ (n : ℕ). n ∷ read_behind None rest) (sym (eqb-true glyph 60 lt))
one_back_as glyph rest false false true amp lt gt = ap (λ (n : ℕ). n ∷ read_behind None rest) (sym (eqb-true glyph 62 gt))
one_back_as glyph rest false false false amp lt gt =
    ap (λ (b : Bool). cond b (read_behind (Some []) rest) (glyph ∷ read_behind None rest)) amp

-- a glyph reads back in front of more
one_back : (glyph : ℕ) (rest : List ℕ) → read_behind None (escape glyph ++ rest) ≡ glyph ∷ read_behind None rest
one_back glyph rest = one_back_as glyph rest (eqb glyph 38) (eqb glyph 60) (eqb glyph 62) refl refl refl

pub reads_back : (text : List ℕ) → read_back (escaped text) ≡ text
reads_back [] = refl
reads_back (glyph ∷ text) = one_back glyph (escaped text) ∙ ap (λ (rest : List ℕ). glyph ∷ rest) (reads_back text)

-- no tag begins in it

abbrev IsNoSign : ℕ → Type 0
IsNoSign code = code ≢ less

unlike : (n m : ℕ) → eqb n m ≡ false → n ≢ m
unlike n m e = eqb-false n m e

one_signless_as : (glyph : ℕ) (a l g : Bool) → eqb glyph 60 ≡ l → All IsNoSign (cond a (codes "&amp;") (cond l (codes "&lt;") (cond g (codes "&gt;") (glyph ∷ []))))
one_signless_as glyph true l g lt =
    All-from_recursion IsNoSign (codes "&amp;") (unlike 38 60 refl, (unlike 97 60 refl, (unlike 109 60 refl, (unlike 112 60 refl, (unlike 59 60 refl, tt)))))
one_signless_as glyph false true g lt =
    All-from_recursion IsNoSign (codes "&lt;") (unlike 38 60 refl, (unlike 108 60 refl, (unlike 116 60 refl, (unlike 59 60 refl, tt))))
one_signless_as glyph false false true lt =
    All-from_recursion IsNoSign (codes "&gt;") (unlike 38 60 refl, (unlike 103 60 refl, (unlike 116 60 refl, (unlike 59 60 refl, tt))))
one_signless_as glyph false false false lt = All-from_recursion IsNoSign (glyph ∷ []) (unlike glyph 60 lt, tt)

pub signless : (text : List ℕ) → All IsNoSign (escaped text)
signless [] = All-nil IsNoSign
signless (glyph ∷ text) =
    All-append IsNoSign (escape glyph) (escaped text) (one_signless_as glyph (eqb glyph 38) (eqb glyph 60) (eqb glyph 62) refl) (signless text)
