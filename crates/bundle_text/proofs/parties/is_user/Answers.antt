use Rattle.std.proofs.Common.{◌≡◌, ◌||◌, ◌∙◌, Bool, List, [], ◌∷◌, map, refl, ap, rules, tests}
use Rattle.std.specs.Prelude.{◌==◌}
use Rattle.std.specs.List.{list_any}
use Rattle.std.proofs.lemmas.Iterator.{YieldsList-from_slice}
use Rattle.std.proofs.lemmas.Iterator.Search.{any_from_yields_List}
use Rattle.bundle_text.specs.User.{PlainUser, plain_user}
use Rattle.bundle_text.proofs.parties.is_user.Goals as goal

list_any-map : {X Y : Type 0} (p : Y → Bool) (f : X → Y) (xs : List X) → list_any (λ x. p (f x)) xs ≡ list_any p (map f xs)
list_any-map p f [] = refl
list_any-map p f (x ∷ xs) = ap (λ rest. p (f x) || rest) (list_any-map p f xs)

pub returns : goal.returns
returns c =
    any_from_yields_List (λ user. (plain_user user).number == c.args.number) _ _ c.any.result c.any.ensures.ran (YieldsList-from_slice c.args.users.now cc) (λ x b q k. search (rules, tests))
    ∙ list_any-map (λ (user : PlainUser). user.number == c.args.number) plain_user c.args.users.now
