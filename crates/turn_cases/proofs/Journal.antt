-- The entry at a place, where an entry is its party.
use Rattle.std.proofs.Common.{◌≡◌, ℕ, ◌-◌, ◌≤◌, List, length, reverse, get_or, Some, option_map, sym, ap, ◌∙◌, arith}
use Rattle.std.proofs.lemmas.List.{length-reverse}
use Rattle.sv_turn.specs.Journals.{entry_at}
use Rattle.sv_turn.proofs.EntryAt.{entry_at_reversed}
use Rattle.turn_cases.specs.Logs.{itself}

pub party_at_is : (items : List ℕ) (place x : ℕ) → 1 ≤ place → place ≤ length (reverse items) → x ≡ get_or items (place - 1) x → option_map itself (entry_at (reverse items) place) ≡ Some x
party_at_is items place x low high is = let long = length-reverse items in ap (option_map itself) (entry_at_reversed items place x low (omega arith)) ∙ ap Some (sym is)
