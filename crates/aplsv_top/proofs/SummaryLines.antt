-- What a summary counts and finds, and how its lines are written.
use Rattle.std.proofs.Common.{◌≡◌, ◌+◌, ◌==◌, ◌++◌, ◌∷◌, ◌∙◌, ℕ, Bool, true, false, cond, List, [], Some, ap, append-nil, append_assoc, find, map, refl, sym}
use Rattle.std.proofs.lemmas.List.Sums.{sum_by-cons}
use Rattle.std.specs.Prelude.{option_map, sum_by}
use Rattle.apl_session.specs.Transcripts.{plain_transcript}
use Rattle.apl_session.specs.declared.transcripts.Transcript.{Transcript}

-- a sum over what things are seen as
pub sum_by-map : {X Y : Type 0} (f : Y → ℕ) (g : X → Y) (xs : List X) → sum_by f (map g xs) ≡ sum_by (λ x. f (g x)) xs
sum_by-map f g [] = refl
sum_by-map f g (x ∷ xs) = sum_by-cons f (g x) (map g xs) ∙ (ap (λ n. f (g x) + n) (sum_by-map f g xs) ∙ sym (sum_by-cons (λ x. f (g x)) x xs))

-- the transcript of user 1002, as it is seen
pub found_plain : (transcripts : List Transcript)
    → find (λ transcript. transcript.user == 1002) (map plain_transcript transcripts) ≡ option_map plain_transcript (find (λ transcript. transcript.user == 1002) transcripts)
found_plain [] = refl
found_plain (one ∷ transcripts) = by (one.user == 1002) (found_plain transcripts) where
  by : (is : Bool) → find (λ transcript. transcript.user == 1002) (map plain_transcript transcripts) ≡ option_map plain_transcript (find (λ transcript. transcript.user == 1002) transcripts)
      → cond is (Some (plain_transcript one)) (find (λ transcript. transcript.user == 1002) (map plain_transcript transcripts)) ≡ option_map plain_transcript (cond is (Some one) (find (λ transcript. transcript.user == 1002) transcripts))
  by true later = refl
  by false later = later

-- six texts, one behind another
pub six : (a b c d e f : List ℕ) → ((((a ++ b) ++ c) ++ d) ++ e) ++ f ≡ a ++ (b ++ (c ++ (d ++ (e ++ (f ++ [])))))
six a b c d e f =
    append_assoc (((a ++ b) ++ c) ++ d) e f
    ∙ (append_assoc ((a ++ b) ++ c) d (e ++ f)
    ∙ (append_assoc (a ++ b) c (d ++ (e ++ f)) ∙ (append_assoc a b (c ++ (d ++ (e ++ f))) ∙ ap (λ (last : List ℕ). a ++ (b ++ (c ++ (d ++ (e ++ last))))) (sym (append-nil f)))))
