-- A scan from the newest entry back that has come to its end.
use Rattle.std.proofs.Common.{◌≡◌, refl, ℕ, ◌+◌, ◌≤◌, true, false, ltb, not, [], ◌∷◌, length, ap, arith}
use Rattle.std.specs.Prelude.{find, is_some}
use Rattle.std.specs.List.{list_any}
use Rattle.std.specs.Option.{option_map_or}
use Rattle.std.proofs.lemmas.Bool.{le-ltb}
use Rattle.sv_access.specs.Control.{no_control}
use Rattle.sv_rules.specs.Control.{control_on, vector_of}
use Rattle.sv_rules.specs.Entries.{Entries, since}
use Rattle.sv_rules.specs.Work.{gets_value, lacks_control, owes_reply, tries}
use Rattle.sv_rules.specs.declared.coupling.Coupling.{Coupling}
use Rattle.sv_rules.specs.declared.standing.Standing.{Standing}

since-none : (place : ℕ) (journal : Entries) → length journal ≤ place → since place journal ≡ []
since-none place [] early = refl
since-none place (e ∷ journal) early = let over : ltb place (length journal + 1) ≡ false = le-ltb place (length journal + 1) (omega arith) in rw over refl

-- no control was set on an offer by entries that are no later than it
pub vector_of-none : (journal : Entries) (offer : Standing) → length journal ≤ offer.place → vector_of journal offer ≡ no_control
vector_of-none [] offer early = refl
vector_of-none (e ∷ journal) offer early = let over : ltb offer.place (length journal + 1) ≡ false = le-ltb offer.place (length journal + 1) (omega arith) in rw over refl

-- nothing was set or used in a coupling by entries that are no later than it
pub lacks_control-none : (journal : Entries) (offer : Standing) (coupling : Coupling) → length journal ≤ coupling.at → lacks_control journal offer coupling ≡ true
lacks_control-none journal offer coupling early = ap (λ (late : Entries). not (list_any (λ e. is_some (control_on offer e)) late)) (since-none coupling.at journal early)

pub owes_reply-none : (journal : Entries) (offer : Standing) (coupling : Coupling) → length journal ≤ coupling.at → owes_reply journal offer coupling ≡ false
owes_reply-none journal offer coupling early = ap (λ (late : Entries). option_map_or (gets_value offer) (find (tries offer) late) false) (since-none coupling.at journal early)
