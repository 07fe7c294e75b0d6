use Rattle.std.proofs.Common.{◌≡◌, ◌∷◌, [], ◌++◌, List, length, refl, sym, ap, ◌∙◌, append_assoc, append-nil, arith}
use Rattle.std.specs.Vec.Iter.{into_iter_items}
use Rattle.aplsv.proofs.all_words.Goals as goal

nothing_left : {X : Type 0} (list : List X) → length list ≡ 0 → list ≡ []
nothing_left [] none = refl
nothing_left (item ∷ list) none = absurd (omega arith)

pub loop-word-preserved : goal.loop-word-preserved
loop-word-preserved c =
    let at = c.loop-word in
    let word = c.in-Some.word in
    let taken : into_iter_items at.word-iterator ≡ word ∷ into_iter_items c.next.new.self = c.in-Some.ensures.steps.0 in (
      ap (λ words. words ++ into_iter_items c.next.new.self) c.in_ok-push.ensures.items ∙ append_assoc at.words.items (word ∷ []) (into_iter_items c.next.new.self) ∙ rw (← taken) at.invariant.0,
      λ counts.
          let was = at.invariant.1 counts in
          let gone = c.in-Some.ensures.steps.1 in
          let shorter = ap length taken in
          omega arith,
    )

pub returns : goal.returns
returns c = λ counts.
    let at = c.loop-word in
    let none = c.in-None.ensures.steps in
    let empty : into_iter_items at.word-iterator ≡ [] = nothing_left _ (sym (at.invariant.1 counts) ∙ none.0) in
    sym (append-nil at.words.items) ∙ rw empty at at.invariant.0
