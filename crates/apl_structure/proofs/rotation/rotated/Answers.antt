use Rattle.std.proofs.Common.{◌≡◌, ◌==◌, ℕ, List, Option, length, slice_index, ap, sym, ◌∙◌}
use Rattle.std.proofs.lemmas.Result.{IfOk-weaker}
use Rattle.apl_items.specs.Extension.{place_in}
use Rattle.apl_structure.specs.Moves.{moved_on}
use Rattle.apl_structure.specs.Rotation.{rotated, turned_from}
use Rattle.apl_structure.proofs.RotateLemmas.{rotated_is, some_axes}
use Rattle.apl_structure.proofs.rotation.rotated.Goals as goal

pub returns : goal.returns
returns c =
    let a = c.args.a.now in let b = c.args.b.now in
    let turns = c.as_slice.result.now in
    let long = c.length_of-length.result in
    let some = some_axes (length b.shape) (ap (λ (xs : List ℕ). length xs == 0) (sym c.shape.ensures.value) ∙ sym c.is_empty.ensures ∙ c.if-is_empty.false) in
    let from : ℕ → ℕ → Option ℕ = λ line along. turned_from (slice_index turns (place_in (length turns) line)) long along in
    let same = rotated_is a b c.args.axis c.numbers.result.now turns long some c.numbers.ensures
    (c.length_of-length.ensures ∙ ap (λ (xs : List ℕ). slice_index xs c.args.axis) c.shape-2.ensures.value) (c.as_slice.ensures.value ∙ c.in_ok-turns.ensures) in
    IfOk-weaker c.moved_on.result (λ array. array ≡ moved_on b c.args.axis from) (λ array. array ≡ rotated a b c.args.axis) (λ array is. is ∙ same) c.moved_on.ensures
