-- A shelf that serves its user is given no place.
use Rattle.std.proofs.Common.{◌≡◌, ℕ, List, [], ◌∷◌, Option, sym, subst}
use Rattle.apl_io.specs.Content.{KeepsPlaces, Told, by_user_and_name}
use Rattle.apl_io.proofs.PlaceLemmas.{both_keep, list_keeps, read_keeps, remove_keeps, same_places, write_keeps}
use Rattle.session_rules.specs.RunLaws.{ShelvesKeepTheirPlaces}
use Rattle.session_rules.specs.Shelf.{Call, Exchange, IsShelfRun, ShelfReply, Serves, browse, discard, fetch, store}

module _ {K : Type 0} (told : K → Option (Told (ℕ × List ℕ))) (faults : K → ℕ) where
  -- a call
  served_keeps : (user : ℕ) (call : Call) (old : K) (reply : ShelfReply) (new : K) → Serves told faults user call old reply new → KeepsPlaces (told old) (told new)
  served_keeps user (fetch name) old reply new h = read_keeps by_user_and_name (told old) (told new) (user, name) h.answer h.told_answer
  served_keeps user (store name bytes) old reply new h = write_keeps by_user_and_name (told old) (told new) (user, name) bytes h.answer h.told_answer
  served_keeps user (discard name) old reply new h = remove_keeps by_user_and_name (told old) (told new) (user, name) h.answer h.told_answer
  served_keeps user browse old reply new h = list_keeps (told old) (told new) user h.answer h.told_answer.0

  -- and so all
  pub shelves_keep : ShelvesKeepTheirPlaces told faults
  shelves_keep user start end [] run = subst (λ (k : K). KeepsPlaces (told start) (told k)) (sym run) (same_places (told start))
  shelves_keep user start end (exchange ∷ earlier) (before, run, served) =
      both_keep (told start) (told before) (told end) (shelves_keep user start before earlier run) (served_keeps user exchange.call before exchange.reply end served)
