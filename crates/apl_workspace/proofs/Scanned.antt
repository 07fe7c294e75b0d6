-- Names that are gone over one by one.
use Rattle.std.specs.List.{position_from}
use Rattle.std.proofs.Common.{◌≡◌, ◌<◌, ℕ, suc, ◌+◌, cond, map, get_or, List, [], ◌∷◌, Option, Some, None, position, length, refl, sym, ap, subst, ◌∙◌, arith}
use Rattle.std.specs.Prelude.{IfSome, is_some, option_map, slice_get}
use Rattle.std.proofs.lemmas.Option.{slice_get-map, slice_get_read}
use Rattle.apl_workspace.specs.declared.meaning.Meaning.{Meaning}
use Rattle.std.specs.Map.{keys_of, values_of}
use Rattle.std.proofs.lemmas.Iterator.Adapters.{position_from-zero}
use Rattle.std.proofs.lemmas.List.Quantifiers.{position-Some}
use Rattle.indexmap.proofs.MapLemmas.{some_index, value_index}
use Rattle.apl_arrays.specs.Name.{same_name}
use Rattle.apl_workspace.specs.Meaning.{meaning_in}
use Rattle.apl_workspace.proofs.InOrder.{Entries}
use Rattle.apl_workspace.proofs.Innermost.{none_from}

as_many : (entries : Entries) → length (keys_of entries) ≡ length entries
as_many [] = refl
as_many (e ∷ es) = ap (λ (n : ℕ). suc n) (as_many es)

-- the place that was found is one of the entries'
pub place_within : (entries : Entries) (name : List ℕ) (place : Option ℕ) → place ≡ position (same_name name) (keys_of entries) → IfSome place (λ at. at < length entries)
place_within entries name None is = tt
place_within entries name (Some at) is = let found = (position-Some (same_name name) (keys_of entries) at [] (sym is)).0 in omega (arith, found, as_many entries)

-- what stands there is what the name stands for
pub place_value : (entries : Entries) (name : List ℕ) (place : Option ℕ) → place ≡ position (same_name name) (keys_of entries) → IfSome place (λ at. slice_get (values_of entries) at ≡ meaning_in entries name)
place_value entries name place is = subst (λ (found : Option ℕ). IfSome found (λ at. slice_get (values_of entries) at ≡ meaning_in entries name)) (sym is) (value_index (same_name name) entries)

-- where none was found the name is not there
pub no_place_found : (entries : Entries) (name : List ℕ) (place : Option ℕ) → place ≡ position (same_name name) (keys_of entries) → place ≡ None → meaning_in entries name ≡ None
no_place_found entries name place is none = none_from (meaning_in entries name) (sym (some_index (same_name name) entries) ∙ ap is_some (sym is ∙ none))

-- entries that are gone over by their names
by_keys : (entries : Entries) (name : List ℕ) (i : ℕ) → position_from (λ (e : List ℕ × Meaning). same_name name e.0) i entries ≡ position_from (same_name name) i (keys_of entries)
by_keys [] name i = refl
by_keys (e ∷ es) name i = ap (λ (place : Option ℕ). cond (same_name name e.0) (Some i) place) (by_keys es name (i + 1))

pub place_by_keys : (entries : Entries) (name : List ℕ) → position (λ (e : List ℕ × Meaning). same_name name e.0) entries ≡ position (same_name name) (keys_of entries)
place_by_keys entries name =
    position_from-zero (λ (e : List ℕ × Meaning). same_name name e.0) entries ∙ by_keys entries name 0 ∙ sym (position_from-zero (same_name name) (keys_of entries))

-- what an entry has that stands at a place
pub value_there : (entries : Entries) (at : ℕ) (e : List ℕ × Meaning) → e ≡ get_or entries at e → at < length entries → slice_get (values_of entries) at ≡ Some e.1
value_there entries at e is within = slice_get-map (λ (x : List ℕ × Meaning). x.1) entries at ∙ ap (option_map (λ (x : List ℕ × Meaning). x.1)) (slice_get_read entries (length entries) at e refl within is)
