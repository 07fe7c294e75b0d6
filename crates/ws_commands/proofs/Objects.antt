-- Names, word after word.
use Rattle.std.proofs.Common.{◌≡◌, ℕ, Bool, true, false, cond, ◌&&◌, List, [], ◌∷◌, ◌++◌, Some, None, refl, sym, ap, ◌∙◌, append-nil, append_assoc}
use Rattle.std.specs.List.{list_all}
use Rattle.std.proofs.lemmas.Bool.{false≢true}
use Rattle.std.proofs.lemmas.List.Folds.{list_all-append}
use Rattle.apl_arrays.specs.Name.{IsName, is_name}
use Rattle.ws_commands.specs.Command.{names_in}

both : (a b : Bool) → a ≡ true → b ≡ true → (a && b) ≡ true
both true b e f = f
both false b e f = absurd (false≢true e)

passes_not : (b : Bool) → ¬ (b ≡ true) → b ≡ false
passes_not true fails = absurd (fails refl)
passes_not false fails = refl

-- a name more
pub one_name_more : (all rest behind names more : List (List ℕ)) (word name : List ℕ) → names ++ rest ≡ all → rest ≡ word ∷ behind → name ≡ word → more ≡ names ++ name ∷ [] → more ++ behind ≡ all
one_name_more all rest behind names more word name so split is pushed =
    ap (λ (l : List (List ℕ)). l ++ behind) pushed ∙ append_assoc names (name ∷ []) behind ∙ ap (λ (n : List ℕ). names ++ n ∷ behind) is ∙ ap (λ (r : List (List ℕ)). names ++ r) (sym split) ∙ so

pub still_names : (names more : List (List ℕ)) (name : List ℕ) → list_all is_name names ≡ true → is_name name ≡ true → more ≡ names ++ name ∷ [] → list_all is_name more ≡ true
still_names names more name are is pushed =
    ap (list_all is_name) pushed ∙ list_all-append is_name names (name ∷ []) ∙ both (list_all is_name names) (list_all is_name (name ∷ [])) are (both (is_name name) true is refl)

not_all : (names behind : List (List ℕ)) (word : List ℕ) → is_name word ≡ false → list_all is_name (names ++ word ∷ behind) ≡ false
not_all [] behind word e = ap (λ (b : Bool). b && list_all is_name behind) e
not_all (name ∷ names) behind word e = fails (is_name name) (list_all is_name (names ++ word ∷ behind)) (not_all names behind word e)
  where
    fails : (a b : Bool) → b ≡ false → (a && b) ≡ false
    fails true b f = f
    fails false b f = refl

-- a word that is no name
pub no_names : (all rest behind names : List (List ℕ)) (word : List ℕ) → names ++ rest ≡ all → rest ≡ word ∷ behind → ¬ IsName word → None ≡ names_in all
no_names all rest behind names word so split never =
    let fails : list_all is_name all ≡ false = ap (list_all is_name) (sym so ∙ ap (λ (r : List (List ℕ)). names ++ r) split) ∙ not_all names behind word (passes_not (is_name word) never) in
    sym (ap (λ (b : Bool). cond b (Some all) None) fails)

-- no word is left
pub are_names : (all rest names : List (List ℕ)) → names ++ rest ≡ all → rest ≡ [] → list_all is_name names ≡ true → Some names ≡ names_in all
are_names all rest names so none are =
    let same : names ≡ all = sym (append-nil names) ∙ ap (λ (r : List (List ℕ)). names ++ r) (sym none) ∙ so in
    let hold : list_all is_name all ≡ true = ap (list_all is_name) (sym same) ∙ are in
    ap (λ (l : List (List ℕ)). Some l) same ∙ sym (ap (λ (b : Bool). cond b (Some all) None) hold)
