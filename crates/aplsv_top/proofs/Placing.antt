-- Elements that are changed one after another, as shelves that are told their place.
use Rattle.std.proofs.Common.{◌≡◌, ◌∙◌, ℕ, ◌+◌, ◌<◌, List, [], ◌∷◌, ◌++◌, length, map, take, drop, set, get_or, sym, ap, ap₂, arith}
use Rattle.std.proofs.lemmas.List.{drop_more, map-append, take_more, take_more_set}

module _ {A B : Type 0} (seen : A → B) (change : B → B) where
  -- one more is changed, where those in front of it were, and it was as before
  pub one_more_changed : (now before : List A) (at : ℕ) (new old : A) → at < length now → length now ≡ length before → map seen (take at now) ≡ map (λ a. change (seen a)) (take at before) → drop at now ≡ drop at before
      → seen new ≡ change (seen (get_or now at old)) → map seen (take (at + 1) (set now at new)) ≡ map (λ a. change (seen a)) (take (at + 1) before)
  one_more_changed now before at new old few many front others changes =
      let also : at < length before = omega (arith, few, many) in
      let both : get_or now at old ∷ drop (at + 1) now ≡ get_or before at old ∷ drop (at + 1) before = sym (drop_more now at old few) ∙ (others ∙ drop_more before at old also) in
      let same : get_or now at old ≡ get_or before at old = cc in
      ap (map seen) (take_more_set now at new few)
      ∙ map-append seen (take at now) (new ∷ [])
      ∙ ap₂ (λ (l m : List B). l ++ m) front (ap (λ (b : B). b ∷ []) (changes ∙ ap (λ (a : A). change (seen a)) same))
      ∙ sym (map-append (λ (a : A). change (seen a)) (take at before) (get_or before at old ∷ []))
      ∙ ap (map (λ (a : A). change (seen a))) (sym (take_more before at old also))
