-- How many lanes there are.
use Rattle.std.proofs.Common.{◌≡◌, ◌≤◌, ◌<◌, ◌+◌, ℕ, Bool, true, false, cond, eqb, ltb, List, [], ◌∷◌, length, get_or, map, drop, sym, ap, ◌∙◌, subst, arith}
use Rattle.std.proofs.lemmas.List.{drop_more}
use Rattle.sv_events.specs.Entry.{plain_entry}
use Rattle.sv_events.specs.declared.entry.Entry.{Entry}
use Rattle.sv_rules.specs.Questions.{with_number}
use Rattle.run_picture.specs.Lane.{lanes_of}

longer_as : (new number : ℕ) (numbers more : List ℕ) (below same : Bool) → length more ≤ length numbers + 1 → length (cond below (new ∷ number ∷ numbers) (cond same (number ∷ numbers) (number ∷ more))) ≤ length numbers + 1 + 1
longer_as new number numbers more true same few = omega arith
longer_as new number numbers more false true few = omega arith
longer_as new number numbers more false false few = omega arith

-- one party more makes one lane more at most
pub one_longer : (new : ℕ) (numbers : List ℕ) → length (with_number new numbers) ≤ length numbers + 1
one_longer new [] = omega arith
one_longer new (number ∷ numbers) =
    let few = longer_as new number numbers (with_number new numbers) (ltb new number) (eqb new number) (one_longer new numbers) in
    omega (arith, few)

-- the lanes of one entry more in front
pub lane_more : (entries : List Entry) (at left : ℕ) (one : Entry) (lanes next : List ℕ) → left ≡ at + 1 → at < length entries → one ≡ get_or entries at one → lanes ≡ lanes_of (map plain_entry (drop left entries)) → next ≡ with_number one.party lanes → next ≡ lanes_of (map plain_entry (drop at entries))
lane_more entries at left one lanes next same within read before more =
    let whole : drop at entries ≡ one ∷ drop (at + 1) entries = drop_more entries at one within ∙ ap (λ (first : Entry). first ∷ drop (at + 1) entries) (sym read) in
    more
    ∙ (ap (with_number one.party) (before ∙ ap (λ (n : ℕ). lanes_of (map plain_entry (drop n entries))) same)
    ∙ sym (ap (λ (list : List Entry). lanes_of (map plain_entry list)) whole))

-- and how many they are
pub few_more : (new : ℕ) (lanes next : List ℕ) → next ≡ with_number new lanes → length next ≤ length lanes + 1
few_more new lanes next more = subst (λ (list : List ℕ). length list ≤ length lanes + 1) (sym more) (one_longer new lanes)
