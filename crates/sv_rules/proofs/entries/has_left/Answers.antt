use Rattle.std.proofs.Common.{◌≡◌, ◌∙◌, ◌&&◌, ◌==◌, Bool, List, [], ◌∷◌, ◌||◌, map, refl, ap, rules, tests}
use Rattle.std.specs.List.{list_any}
use Rattle.std.proofs.lemmas.Iterator.{YieldsList-from_slice}
use Rattle.std.proofs.lemmas.Iterator.Search.{any_from_yields_List}
use Rattle.std.proofs.lemmas.List.Sorted.{IsPermutation-reverse, list_any-IsPermutation}
use Rattle.sv_events.specs.Entry.{PlainEntry, plain_entry}
use Rattle.sv_rules.specs.Entries.{is_leave}
use Rattle.sv_rules.proofs.entries.has_left.Goals as goal

-- a test of what is made of each is a test of the list made
list_any-map : {X Y : Type 0} (p : Y → Bool) (f : X → Y) (xs : List X) → list_any (λ x. p (f x)) xs ≡ list_any p (map f xs)
list_any-map p f [] = refl
list_any-map p f (x ∷ xs) = ap (λ rest. p (f x) || rest) (list_any-map p f xs)

-- the entries are tested from the oldest, the journal from the newest
pub returns : goal.returns
returns c =
    let party_left : PlainEntry → Bool = λ e. e.party == c.args.party && is_leave e.act in
    let plain = map plain_entry c.args.entries.now in
    any_from_yields_List (λ e. party_left (plain_entry e)) _ _ c.any.result c.any.ensures.ran (YieldsList-from_slice c.args.entries.now cc) (λ x b q k. search (rules, tests))
    ∙ list_any-map party_left plain_entry c.args.entries.now ∙ list_any-IsPermutation party_left plain _ (IsPermutation-reverse plain)
