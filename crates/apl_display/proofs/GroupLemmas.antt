-- Lines and groups of lines, one more at a time.
use Rattle.std.proofs.Common.{◌≡◌, ℕ, ◌+◌, List, [], ◌∷◌, ◌++◌, map, sym, ap, ◌∙◌, arith, append_assoc}
use Rattle.std.proofs.lemmas.List.FromFn.{map-range_with_len_more, length-map-range_with_len}
use Rattle.std.specs.List.{range_with_len}
use Rattle.apl_display.proofs.RowLemmas.{gap, joined_push}
use Rattle.apl_display.specs.Joined.{separated_by}

pub one_line_more : {A : Type 0} (f : ℕ → A) (n : ℕ) (first before after : List A) (line : A) → before ≡ first ++ map f (range_with_len 0 n) → after ≡ before ++ line ∷ [] → line ≡ f n → after ≡ first ++ map f (range_with_len 0 (n + 1))
one_line_more f n first before after line so_far added is =
    added ∙ (ap (λ xs. xs ++ line ∷ []) so_far ∙ (append_assoc first (map f (range_with_len 0 n)) (line ∷ [])
    ∙ ap (λ end. first ++ end) (ap (λ x. map f (range_with_len 0 n) ++ x ∷ []) is ∙ sym (map-range_with_len_more f 0 n n (omega arith)))))

-- one group more, with what stands between
pub joined_more_at : {A : Type 0} (between : List A) (f : ℕ → List A) (n : ℕ) → separated_by between (map f (range_with_len 0 (n + 1))) ≡ separated_by between (map f (range_with_len 0 n)) ++ (gap between n ++ f n)
joined_more_at between f n =
    ap (separated_by between) (map-range_with_len_more f 0 n n (omega arith))
    ∙ (joined_push between (map f (range_with_len 0 n)) (f n)
    ∙ ap (λ m. separated_by between (map f (range_with_len 0 n)) ++ (gap between m ++ f n)) (length-map-range_with_len f 0 n))

pub one_group_more : {A : Type 0} (between : List A) (f : ℕ → List A) (n : ℕ) (before gapped after : List A) → before ≡ separated_by between (map f (range_with_len 0 n)) → gapped ≡ before ++ gap between n → after ≡ gapped ++ f n → after ≡ separated_by between (map f (range_with_len 0 (n + 1)))
one_group_more between f n before gapped after so_far stands added =
    added ∙ (ap (λ xs. xs ++ f n) (stands ∙ ap (λ xs. xs ++ gap between n) so_far)
    ∙ (append_assoc (separated_by between (map f (range_with_len 0 n))) (gap between n) (f n) ∙ sym (joined_more_at between f n)))
