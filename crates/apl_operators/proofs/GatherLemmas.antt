-- Items of either kind that a rule gives, as an array or its report.
use Rattle.std.proofs.Common.{◌≡◌, ℕ, ◌<◌, List, [], Option, Some, None, Ok, length, get_or, refl, sym, ap, subst, ◌∙◌, arith}
use Rattle.std.proofs.lemmas.Option.{slice_get-get_or}
use Rattle.apl_arrays.specs.declared.items.Item.{Item}
use Rattle.apl_arrays.specs.declared.items.Item.TheVariants.{Char}
use Rattle.apl_arrays.specs.Array.{chars, element_count, numbers}
use Rattle.apl_arrays.specs.Shape.{shape_fault}
use Rattle.apl_items.specs.Places.{IsByPlace, LacksItem}
use Rattle.apl_items.proofs.PlaceLemmas.{made, nothing_lacks, something_lacks}
use Rattle.operator_rules.specs.Gathering.{char_in, gathered, number_in}

-- characters at all places, and there is a place
pub gathered_chars : (shape : List ℕ) (count : ℕ) (rule : ℕ → Option Item) (list : List ℕ) → shape_fault shape ≡ None → count ≡ element_count shape → 0 < count
    → length list ≡ count → ((place : ℕ) → place < count → rule place ≡ Some (Char (get_or list place 0))) → gathered shape rule ≡ Ok (record { shape = shape; items = chars list })
gathered_chars shape count rule list fits whole some long gives =
    let here : IsByPlace count (λ place. char_in (rule place)) list = record {
      whole = long;
      each = λ place below. slice_get-get_or list place 0 (omega arith) ∙ sym (ap char_in (gives place below));
    } in
    let no_number : LacksItem count (λ place. number_in (rule place)) = (0, some, ap number_in (gives 0 some)) in
    let all = subst (λ (n : ℕ). IsByPlace n (λ place. char_in (rule place)) list) whole here in
    let numbers_lack = subst (λ (n : ℕ). LacksItem n (λ place. number_in (rule place))) whole no_number in
    rw (
      fits,
      something_lacks (element_count shape) (λ place. number_in (rule place)) numbers_lack,
      nothing_lacks (element_count shape) (λ place. char_in (rule place)) list all,
      made (element_count shape) (λ place. char_in (rule place)) list all,
    )
    refl

-- no items are numbers
pub gathered_none : (shape : List ℕ) (rule : ℕ → Option Item) → shape_fault shape ≡ None → element_count shape ≡ 0
    → gathered shape rule ≡ Ok (record { shape = shape; items = numbers [] })
gathered_none shape rule fits none = rw (fits, none) refl
