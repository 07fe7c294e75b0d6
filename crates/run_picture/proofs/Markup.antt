-- Tags that are added behind others, in their order.
use Rattle.std.proofs.Common.{◌≡◌, ℕ, List, ◌++◌, append_assoc, Result, refl, sym, ap, ◌∙◌}
use Rattle.std.specs.Result.{OnOk}
use Rattle.std.proofs.lemmas.Result.{on_ok_weaker}
use Rattle.std.proofs.lemmas.List.Concat.{flat_map-append}
use Rattle.run_picture.specs.Tag.{Tag, markup}

-- some tags, and then others
pub added : (bytes next last : List ℕ) (tags more : List Tag) → next ≡ bytes ++ markup tags → last ≡ next ++ markup more → last ≡ bytes ++ markup (tags ++ more)
added bytes next last tags more first second =
    second
    ∙ (ap (λ (list : List ℕ). list ++ markup more) first
    ∙ (append_assoc bytes (markup tags) (markup more)
    ∙ ap (λ (list : List ℕ). bytes ++ list) (sym (flat_map-append _ tags more))))

-- what is left to be added behind some tags
pub left_behind : (bytes next : List ℕ) (tags more : List Tag) → next ≡ bytes ++ markup tags → bytes ++ markup (tags ++ more) ≡ next ++ markup more
left_behind bytes next tags more first = sym (added bytes next (next ++ markup more) tags more first refl)

-- some tags, and then others, of which it is told
pub told_behind : {T E : Type 0} (told : Result T E) (bytes next last : List ℕ) (tags more : List Tag) → next ≡ bytes ++ markup tags → OnOk told (last ≡ next ++ markup more) → OnOk told (last ≡ bytes ++ markup (tags ++ more))
told_behind told bytes next last tags more first second = on_ok_weaker told (λ (e : last ≡ next ++ markup more). added bytes next last tags more first e) second
