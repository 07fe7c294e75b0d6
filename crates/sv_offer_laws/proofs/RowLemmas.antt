-- An act does one thing.
use Rattle.std.proofs.Common.{◌≡◌, refl, ap, ℕ, List, Some, None}
use Rattle.std.proofs.lemmas.Option.{same_Some, none-some}
use Rattle.sv_events.specs.Row.{act_row}
use Rattle.sv_events.specs.declared.event.Act.{Act}
use Rattle.sv_events.specs.declared.event.Act.TheVariants.{Offer, Retract, Leave}
use Rattle.sv_events.specs.declared.row.AnswerKind.{AnswerKind}
use Rattle.sv_events.specs.declared.row.Ending.{Ending}
use Rattle.sv_events.specs.declared.row.Opening.{Opening}
use Rattle.sv_rules.specs.declared.standing.Standing.{Standing}
use Rattle.sv_rules.specs.Entries.{Entries}
use Rattle.sv_rules.specs.Outcome.{outcome, ending_outcome}
use Rattle.sv_rules.specs.Standing.{standing_after, without_ended}

-- an act that opens an offer ends none
pub opens_alone : (act : Act) (opening : Opening) → (act_row act).row.opens ≡ Some opening → (act_row act).row.ends ≡ None
opens_alone (Offer to local surrogate handed) opening h = refl
opens_alone _ opening h = cc

-- what becomes of an act that ends offers
pub outcome_of_ending : (journal : Entries) (party : ℕ) (act : Act) (ending : Ending) → (act_row act).row.ends ≡ Some ending → outcome journal party act ≡ ending_outcome journal party ending
outcome_of_ending journal party (Retract local) ending h = ap (ending_outcome journal party) (same_Some _ _ h)
outcome_of_ending journal party Leave ending h = ap (ending_outcome journal party) (same_Some _ _ h)
outcome_of_ending journal party _ ending h = absurd (none-some ending h)

-- and which offers stand after it
pub standing_ended : (offers : List Standing) (place party : ℕ) (given : AnswerKind) (act : Act) (ending : Ending) → (act_row act).row.ends ≡ Some ending →
    standing_after offers place party given (act_row act).row ≡ without_ended offers party ending
standing_ended offers place party given (Retract local) ending h = ap (without_ended offers party) (same_Some _ _ h)
standing_ended offers place party given Leave ending h = ap (without_ended offers party) (same_Some _ _ h)
standing_ended offers place party given _ ending h = absurd (none-some ending h)
