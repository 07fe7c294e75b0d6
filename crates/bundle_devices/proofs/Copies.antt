-- Files that are copied one after another.
use Rattle.std.proofs.Common.{◌≡◌, ℕ, zero, suc, ◌+◌, ◌<◌, List, [], ◌∷◌, ◌++◌, length, map, take, get_or, ap, sym, subst, ◌∙◌}
use Rattle.std.proofs.lemmas.List.{map_more, take-map}
use Rattle.apl_arrays.specs.FileList.{IsAscending, PlainFile, plain_file}
use Rattle.apl_arrays.specs.declared.file_list.File.{File}

-- the first files ascend where all do
ascending_first : (n : ℕ) (files : List PlainFile) → IsAscending files → IsAscending (take n files)
ascending_first zero files h = tt
ascending_first (suc n) [] h = tt
ascending_first (suc zero) (file ∷ []) h = tt
ascending_first (suc zero) (file ∷ next ∷ files) h = tt
ascending_first (suc (suc n)) (file ∷ []) h = tt
ascending_first (suc (suc n)) (file ∷ next ∷ files) h = (h.0, ascending_first (suc n) (next ∷ files) h.1)

-- one file more of those that were copied
pub one_more_copied : (files : List File) (i : ℕ) (file : File) (copied : List PlainFile) (bytes : List ℕ) → i < length files → file ≡ get_or files i file → bytes ≡ file.bytes.items → copied ≡ map plain_file (take i files)
    → copied ++ record { name = file.name; bytes = bytes } ∷ [] ≡ map plain_file (take (i + 1) files)
one_more_copied files i file copied bytes within is same far =
    ap (λ (items : List PlainFile). items ++ record { name = file.name; bytes = bytes } ∷ []) far
    ∙ (ap (λ (text : List ℕ). map plain_file (take i files) ++ record { name = file.name; bytes = text } ∷ []) same
    ∙ (ap (λ (one : File). map plain_file (take i files) ++ plain_file one ∷ []) is ∙ sym (map_more plain_file files i file within)))

-- it comes after the others
pub copied_ascends : (files : List File) (i : ℕ) (file : File) (copied : List PlainFile) (bytes : List ℕ) → IsAscending (map plain_file files) → i < length files → file ≡ get_or files i file → bytes ≡ file.bytes.items
    → copied ≡ map plain_file (take i files) → IsAscending (copied ++ record { name = file.name; bytes = bytes } ∷ [])
copied_ascends files i file copied bytes ascend within is same far =
    subst IsAscending (take-map plain_file (i + 1) files ∙ sym (one_more_copied files i file copied bytes within is same far)) (ascending_first (i + 1) (map plain_file files) ascend)
