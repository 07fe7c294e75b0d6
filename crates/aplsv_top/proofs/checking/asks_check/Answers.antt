use Rattle.std.proofs.Common.{◌≡◌, ◌≤◌, ◌<◌, ◌∙◌, ℕ, String, List, [], ◌∷◌, length, map, string_bytes, codes, get_or, ap, sym, arith}
use Rattle.std.proofs.lemmas.Bool.Decides.{Decides-at}
use Rattle.std.proofs.lemmas.Slice.Eq.{bytes_eq-Decides}
use Rattle.std.specs.Bool.{Decides}
use Rattle.aplsv_top.proofs.checking.asks_check.Goals as goal

-- the bytes of one word
one_word : {Z : Type 0} (words : List (String Z)) (word : String Z) → word ≡ get_or words 0 word → 1 ≤ length words → length words < 2 → map string_bytes words ≡ string_bytes word ∷ []
one_word [] word is some few = absurd (omega (arith, some))
one_word (first ∷ []) word is some few = ap (λ b. string_bytes b ∷ []) (sym is)
one_word (first ∷ second ∷ rest) word is some few = absurd (omega (arith, few))

one_of_them : (bytes other : List ℕ) → bytes ∷ [] ≡ other ∷ [] → bytes ≡ other
one_of_them bytes other same = cc

pub returns-in-len1 : goal.returns-in-len1
returns-in-len1 c =
    let same = one_word c.args.words.now c.word-item.result c.word-item.is c.in-len1.len_at_least c.in-len1.len_below in
    let is : Decides c.eq.result (c.as_str.result.now ≡ codes "--check") = Decides-at c.eq.result _ c.eq.ensures (bytes_eq-Decides c.as_str.result.now (codes "--check")) in
    (λ yes. same ∙ ap (λ (bytes : List ℕ). bytes ∷ []) (sym c.as_str.ensures.value ∙ is.0 yes), λ asked. is.1 (c.as_str.ensures.value ∙ one_of_them (string_bytes c.word-item.result) (codes "--check") (sym same ∙ asked)))
