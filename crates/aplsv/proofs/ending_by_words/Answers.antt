use Rattle.std.proofs.Common.{◌≡◌, ◌∙◌, ◌||◌, ℕ, Bool, true, false, String, List, [], ◌∷◌, Result, Ok, Err, IfOk, map, string_bytes, codes, bytes_eq, drop, ap, sym, subst}
use Rattle.std.specs.List.{list_any}
use Rattle.std.proofs.lemmas.Slice.Eq.{bytes_eq-Decides}
use Rattle.aplsv_top.specs.Checks.{AskCheck}
use Rattle.aplsv.proofs.ending_by_words.Goals as goal

first_is : (bytes other : List ℕ) (rest : List (List ℕ)) → bytes ∷ rest ≡ other ∷ [] → bytes ≡ other
first_is bytes other rest same = cc

-- where the words ask for a check, one of them does
asked_for : {Z : Type 0} (words : List (String Z)) → AskCheck (map string_bytes words) → list_any (λ (word : String Z). bytes_eq (string_bytes word) (codes "--check")) words ≡ true
asked_for [] asked = absurd cc
asked_for {Z} (word ∷ rest) asked =
    ap (λ (is : Bool). is || list_any (λ (other : String Z). bytes_eq (string_bytes other) (codes "--check")) rest)
    ((bytes_eq-Decides (string_bytes word) (codes "--check")).1 (first_is (string_bytes word) (codes "--check") (map string_bytes rest) asked))

-- so where none does they don't
none_asks : {Z : Type 0} (words : List (String Z)) → list_any (λ (word : String Z). bytes_eq (string_bytes word) (codes "--check")) words ≡ false → ¬ AskCheck (map string_bytes words)
none_asks words none asked = absurd (let no : false ≡ true = sym none ∙ asked_for words asked in cc)

-- what never holds is no matter
if_never : {X E A : Type 0} (B : X → Type 0) → ¬ A → (result : Result X E) → IfOk result (λ (x : X). A → B x)
if_never B never (Ok x) = λ holds. absurd (never holds)
if_never B never (Err e) = tt

pub returns-else-asks_check-clause-check : goal.returns-else-asks_check-clause-check
returns-else-asks_check-clause-check g c =
    if_never _ (λ asked. none_asks c.behind_name.result.now (sym c.asks_check.ensures ∙ c.if-asks_check.false) (subst (λ words. AskCheck (map string_bytes words)) (sym c.behind_name.ensures) asked)) c.ending_of_run.result

pub returns-else-asks_check-clause-always : goal.returns-else-asks_check-clause-always
returns-else-asks_check-clause-always g c = λ asked.
    absurd (none_asks c.behind_name.result.now (sym c.asks_check.ensures ∙ c.if-asks_check.false) (subst (λ words. AskCheck (map string_bytes words)) (sym c.behind_name.ensures) asked))
