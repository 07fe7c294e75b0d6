-- Items of a list that change or come one after another, and keep what is said of them.
use Rattle.std.proofs.Common.{◌≡◌, ℕ, ◌<◌, List, [], ◌∷◌, ◌++◌, length, map, set, get_or, sym, ap, ◌∙◌, subst}
use Rattle.std.proofs.lemmas.List.{map_push}
use Rattle.std.proofs.lemmas.List.Elements.{All-get_or, All-push, All-set}
use Rattle.std.specs.Prelude.{All}
use lib.Seq.{map-set_same}

module _ {X : Type 0} (P : X → Type 0) where
  -- of an item that is at a place
  pub holds_there : (xs : List X) (i : ℕ) (x : X) → i < length xs → x ≡ get_or xs i x → All P xs → P x
  holds_there xs i x low is h = subst P (sym is) (All-get_or P xs i x low h)

  -- after it has changed
  pub holds_after : (xs : List X) (i : ℕ) (y : X) → P y → All P xs → All P (set xs i y)
  holds_after xs i y here h = All-set P xs i y here h

  -- with one item more
  pub holds_more : (xs more : List X) (x : X) → more ≡ xs ++ x ∷ [] → All P xs → P x → All P more
  holds_more xs more x is h here = subst (λ (l : List X). All P l) (sym is) (All-push P xs x h here)

pub named_after : {X Y : Type 0} (name : X → Y) (xs all : List X) (i : ℕ) (x y : X) → name y ≡ name (get_or xs i x) → map name xs ≡ map name all → map name (set xs i y) ≡ map name all
named_after name xs all i x y same h = map-set_same name xs i y x same ∙ h

pub named_more : {X Y N : Type 0} (name : X → N) (given : Y → N) (xs more : List X) (ys : List Y) (x : X) (y : Y) → more ≡ xs ++ x ∷ [] → map name xs ≡ map given ys → name x ≡ given y → map name more ≡ map given (ys ++ y ∷ [])
named_more {N = N} name given xs more ys x y is so same =
    ap (map name) is
    ∙ (map_push name xs x
    ∙ (ap (λ (ns : List N). ns ++ name x ∷ []) so ∙ (ap (λ (n : N). map given ys ++ n ∷ []) same ∙ sym (map_push given ys y))))
