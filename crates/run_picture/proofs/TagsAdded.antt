-- Tags that are added one after another, and lines that are made of texts.
use Rattle.std.proofs.Common.{◌≡◌, ℕ, List, [], ◌∷◌, ◌++◌, Result, append_assoc, ap, refl, subst, ◌∙◌}
use Rattle.std.specs.Result.{OnOk}
use Rattle.line_text.specs.Lines.{line_text}
use Rattle.run_picture.specs.Figure.{words}
use Rattle.run_picture.specs.Tag.{Tag, markup, tag_text}
use Rattle.run_picture.proofs.TagLines.{one_tag, told_so}

-- a tag's line that is written as one word
pub word_tag : (bytes next : List ℕ) (tag : Tag) → next ≡ bytes ++ line_text (tag_text tag) → next ≡ bytes ++ markup (tag ∷ [])
word_tag bytes next tag first = one_tag bytes next (tag_text tag) tag refl first

pub word_told : {T E : Type 0} (told : Result T E) (bytes next : List ℕ) (tag : Tag) → OnOk told (next ≡ bytes ++ line_text (tag_text tag)) → OnOk told (next ≡ bytes ++ markup (tag ∷ []))
word_told told bytes next tag first = told_so told bytes next (tag_text tag) tag refl first

-- words of a text that is another one by name alone
pub same_words : {T E : Type 0} (told : Result T E) (bytes next name text other : List ℕ) (x y : ℕ) → text ≡ other → OnOk told (next ≡ bytes ++ markup (words name x y text ∷ [])) → OnOk told (next ≡ bytes ++ markup (words name x y other ∷ []))
same_words told bytes next name text other x y is first = subst (λ (list : List ℕ). OnOk told (next ≡ bytes ++ markup (words name x y list ∷ []))) is first

pub words_as : (bytes next name text other : List ℕ) (x y : ℕ) → text ≡ other → next ≡ bytes ++ markup (words name x y text ∷ []) → next ≡ bytes ++ markup (words name x y other ∷ [])
words_as bytes next name text other x y is first = subst (λ (list : List ℕ). next ≡ bytes ++ markup (words name x y list ∷ [])) is first

-- a text, and then another
pub joined : (first next last text more : List ℕ) → next ≡ first ++ text → last ≡ next ++ more → last ≡ first ++ (text ++ more)
joined first next last text more one other = other ∙ (ap (λ (list : List ℕ). list ++ more) one ∙ append_assoc first text more)
