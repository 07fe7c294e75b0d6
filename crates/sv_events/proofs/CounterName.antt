-- The local name of a counter-offer: a letter, and digits behind it.
use Rattle.std.proofs.Common.{◌≡◌, ℕ, ◌+◌, ◌<◌, ◌^◌, true, List, [], ◌∷◌, ◌++◌, length, take, set, get_or, ap, sym, ◌∙◌, arith, append_assoc}
use Rattle.std.proofs.lemmas.Bool.Decides.{nat_tests}
use Rattle.std.proofs.lemmas.List.{take_more, take_more_set}
use Rattle.std.specs.Fmt.{decimal}
use Rattle.std.specs.List.{list_all}
use Rattle.apl_arrays.specs.Name.{IsName, goes_on}
use Rattle.line_text.proofs.Decimals.{digits_pass, digit_limit_wide}
use Rattle.sv_events.specs.Work.{counter_name, letter_s}

-- one digit more behind what stands there
pub digit_behind : (front glyphs digits : List ℕ) (i d : ℕ) → i + 1 < length glyphs → i < length digits → d ≡ get_or digits i d →
    take (i + 1) glyphs ≡ front ++ take i digits → take (i + 1 + 1) (set glyphs (i + 1) d) ≡ front ++ take (i + 1) digits
digit_behind front glyphs digits i d room within same before =
    let more : take (i + 1) digits ≡ take i digits ++ d ∷ [] = take_more digits i d within ∙ ap (λ (x : ℕ). take i digits ++ x ∷ []) (sym same) in
    take_more_set glyphs (i + 1) d room
    ∙ (ap (λ (xs : List ℕ). xs ++ d ∷ []) before
    ∙ (append_assoc front (take i digits) (d ∷ [])
    ∙ ap (λ (xs : List ℕ). front ++ xs) (sym more)))

digits_go_on : (n : ℕ) → n < 2 ^ 64 → list_all goes_on (decimal n) ≡ true
digits_go_on = digits_pass goes_on (λ d small. grind (arith, nat_tests))

-- such a name is a name
pub counter_names : (n : ℕ) → n < 2 ^ 64 → IsName (counter_name n)
counter_names n fits =
    let short = digit_limit_wide n fits in let digits = digits_go_on n fits in grind (arith, nat_tests, short, digits)

-- what stands in the places of such a name is a name
pub names_are_taken : (n first : ℕ) (glyphs digits : List ℕ) → n < 2 ^ 64 → first ≡ letter_s → digits ≡ decimal n →
    take (length digits + 1) glyphs ≡ first ∷ digits → IsName (take (length digits + 1) glyphs)
names_are_taken n first glyphs digits fits letter same taken =
    rw taken (rw letter (rw same (counter_names n fits)))
