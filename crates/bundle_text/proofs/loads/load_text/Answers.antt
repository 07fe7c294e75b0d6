use Rattle.std.proofs.Common.{rules, ◌++◌, ◌∷◌, ◌∙◌, ℕ, List, ap, append_assoc}
use Rattle.std.specs.Char.{encode_utf8}
use Rattle.std.specs.Fmt.{decimal}
use Rattle.bundle_text.proofs.LoadTexts.{behind, front}
use Rattle.bundle_text.proofs.loads.load_text.Goals as goal

pub returns : goal.returns
unfolding encode_utf8
returns c =
    let begun = c.in_ok-push_str.ensures.bytes ∙ ap (λ (text : List ℕ). text ++ front) c.new-text.ensures.bytes in
    let counted = c.in_ok-write.ensures.bytes ∙ ap (λ (text : List ℕ). text ++ decimal c.args.n) begun in
    c.in_ok-push_str-2.ensures.bytes ∙ (ap (λ (text : List ℕ). text ++ (10 ∷ behind)) counted ∙ append_assoc front (decimal c.args.n) (10 ∷ behind))
