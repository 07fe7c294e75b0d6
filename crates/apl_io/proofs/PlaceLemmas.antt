-- Calls of a device give it no place.
use Rattle.std.proofs.Common.{◌≡◌, ◌∙◌, ℕ, List, Option, Some, None, refl, ap}
use Rattle.std.specs.Prelude.{Bool, Result}
use Rattle.std.specs.declared.cmp.Ordering.{Ordering}
use Rattle.apl_io.specs.Content.{KeepsPlaces, Lists, Reads, Removes, Told, Writes}
use Rattle.apl_io.specs.declared.store_error.StoreError.{StoreError}

module _ {K : Type 0} where
  -- nothing is done
  pub same_places : (before : Option (Told K)) → KeepsPlaces before before
  same_places None = tt
  same_places (Some told) = refl

  -- one thing after another
  pub both_keep : (a b c : Option (Told K)) → KeepsPlaces a b → KeepsPlaces b c → KeepsPlaces a c
  both_keep None b c first next = tt
  both_keep (Some one) None c first next = absurd first
  both_keep (Some one) (Some other) None first next = absurd next
  both_keep (Some one) (Some other) (Some last) first next = next ∙ first

  -- bytes are asked for
  pub read_keeps : (order : K → K → Ordering) (before now : Option (Told K)) (key : K) (reply : Result (Option (List ℕ)) StoreError) → Reads order before key reply now → KeepsPlaces before now
  read_keeps order None now key reply read = tt
  read_keeps order (Some old) None key reply read = absurd read
  read_keeps order (Some old) (Some new) key reply read = ap (λ (told : Told K). told.places) read.after

  -- bytes are kept
  pub write_keeps : {T : Type 0} (order : K → K → Ordering) (before now : Option (Told K)) (key : K) (bytes : List ℕ) (reply : Result T StoreError) → Writes order before key bytes reply now → KeepsPlaces before now
  write_keeps order None now key bytes reply write = tt
  write_keeps order (Some old) None key bytes reply write = absurd write
  write_keeps order (Some old) (Some new) key bytes reply write = write.places

  -- bytes are taken away
  pub remove_keeps : (order : K → K → Ordering) (before now : Option (Told K)) (key : K) (reply : Result Bool StoreError) → Removes order before key reply now → KeepsPlaces before now
  remove_keeps order None now key reply removal = tt
  remove_keeps order (Some old) None key reply removal = absurd removal.0
  remove_keeps order (Some old) (Some new) key reply removal = removal.0.places

-- names are asked for
pub list_keeps : (before now : Option (Told (ℕ × List ℕ))) (user : ℕ) (reply : Result (List (List ℕ)) StoreError) → Lists before user reply now → KeepsPlaces before now
list_keeps None now user reply listing = tt
list_keeps (Some old) None user reply listing = absurd listing
list_keeps (Some old) (Some new) user reply listing = ap (λ (told : Told (ℕ × List ℕ)). told.places) listing.after
