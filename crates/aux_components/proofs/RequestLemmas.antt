-- Requests are read as they are written.
use Rattle.std.proofs.Common.{◌≡◌, ◌∙◌, ℕ, ◌<◌, ◌≤◌, true, List, ◌∷◌, ◌++◌, Some, codes, ap}
use Rattle.std.specs.Fmt.{decimal}
use Rattle.std.specs.List.{list_all}
use Rattle.apl_arrays.specs.File.{IsFileName}
use Rattle.apl_arrays.specs.Glyph.{blank}
use Rattle.apl_arrays.specs.Word.{is_no_blank}
use Rattle.auxiliaries.specs.Protocol.{line_answer}
use Rattle.aux_words.specs.Fields.{cut_at_blank}
use Rattle.aux_words.specs.Number.{greatest_number, number_of}
use Rattle.aux_components.specs.Request.{Request, get, replace, request_of, numbered_request, of_fields, request_with_number}

module _ (read : (number : ℕ) → 0 < number → number ≤ greatest_number → number_of (decimal number) ≡ Some number)
    (cut : (front rest : List ℕ) → list_all is_no_blank front ≡ true → cut_at_blank (front ++ blank ∷ rest) ≡ Some (front, rest))
    (none : (name : List ℕ) → IsFileName name → list_all is_no_blank name ≡ true) where
  fields_are_read : (request : List ℕ → ℕ → Request) (name : List ℕ) (number : ℕ) → IsFileName name → 0 < number → number ≤ greatest_number → numbered_request request (name ++ 32 ∷ decimal number) ≡ request name number
  fields_are_read request name number is some fits =
      ap (of_fields request) (cut name (decimal number) (none name is)) ∙ ap (request_with_number (request name)) (read number some fits)

  pub get_is_read : (name : List ℕ) (number : ℕ) → IsFileName name → 0 < number → number ≤ greatest_number → request_of (line_answer (codes "GET " ++ (name ++ 32 ∷ decimal number))) ≡ get name number
  get_is_read = fields_are_read get

  pub replace_is_read : (name : List ℕ) (number : ℕ) → IsFileName name → 0 < number → number ≤ greatest_number → request_of (line_answer (codes "REPLACE " ++ (name ++ 32 ∷ decimal number))) ≡ replace name number
  replace_is_read = fields_are_read replace
