-- No act has Full for its outcome.
use Rattle.std.proofs.Common.{◌≡◌, ◌≢◌, ℕ, Bool, true, false, leb, List, Option, None, Some}
use Rattle.std.proofs.lemmas.Bool.{cond_both}
use Rattle.apl_arrays.specs.Array.{PlainArray}
use Rattle.sv_access.specs.declared.access.Kind.{Kind}
use Rattle.sv_access.specs.declared.access.Kind.TheVariants as kind
use Rattle.sv_events.specs.Answer.{PlainAnswer, full, offer_limit}
use Rattle.sv_events.specs.declared.event.Act.{Act}
use Rattle.sv_events.specs.declared.event.Act.TheVariants.{Offer, Retract, SetControl, AskControl, AskState, AskDegree, AskParties, AskNames, Set, Use, Leave}
use Rattle.sv_events.specs.declared.event.Hold.{Hold}
use Rattle.sv_events.specs.declared.row.Opening.{Opening}
use Rattle.sv_rules.specs.Coupling.{coupling_now, couplings, open_match}
use Rattle.sv_rules.specs.Entries.{Entries, next_place}
use Rattle.sv_rules.specs.Outcome.{ActOutcome, access_answer, answer_only, control_answer, granted_answer, joined_to, offer_outcome, outcome, refusal_answer, retraction_outcome, unless_refused, value_answer, value_for}
use Rattle.sv_rules.specs.Refused.{hold_on, waits}
use Rattle.sv_rules.specs.Standing.{offer_count, offer_made, own_offer, standing}
use Rattle.sv_rules.specs.declared.coupling.Made.{Made}
use Rattle.sv_rules.specs.declared.standing.Standing.{Standing}

abbrev IsNotFull : PlainAnswer → Type 0
IsNotFull given = given ≢ full

of_match : (new : Standing) (match : Option Standing) → IsNotFull (joined_to new match).answer
of_match new None = λ e. cc
of_match new (Some match) = λ e. cc

of_offer : (offers : List Standing) (coupled : List Made) (new : Standing) (own : Option Standing) → IsNotFull (offer_outcome offers coupled new own).answer
of_offer offers coupled new (Some old) = λ e. cc
of_offer offers coupled new None =
    cond_both (leb 64 (offer_count offers new.party)) (answer_only offer_limit) (joined_to new (open_match offers coupled new)) (λ (o : ActOutcome). IsNotFull o.answer)
    (λ _. λ e. cc) (λ _. of_match new (open_match offers coupled new))

of_retraction : (journal : Entries) (party : ℕ) (local : List ℕ) (own : Option Standing) → IsNotFull (retraction_outcome journal party local own).answer
of_retraction journal party local None = λ e. cc
of_retraction journal party local (Some offer) = λ e. cc

of_value : (got : Option PlainArray) → IsNotFull (value_answer got)
of_value None = λ e. cc
of_value (Some v) = λ e. cc

of_grant : (journal : Entries) (offer : Standing) (kind : Kind) → IsNotFull (granted_answer journal offer kind)
of_grant journal offer kind.Set = λ e. cc
of_grant journal offer kind.Use = of_value (value_for journal offer (coupling_now journal offer.place))

of_refusal : (waiting : Bool) (hold : Hold) → IsNotFull (refusal_answer waiting hold)
of_refusal true hold = λ e. cc
of_refusal false hold = λ e. cc

of_access : (journal : Entries) (party : ℕ) (kind : Kind) (own : Option Standing) → IsNotFull (access_answer journal party kind own)
of_access journal party kind None = λ e. cc
of_access journal party kind (Some offer) = by (hold_on journal kind (Some offer)) where
  by : (refusing : Option Hold) → IsNotFull (unless_refused journal party offer kind refusing)
  by None = of_grant journal offer kind
  by (Some hold) = of_refusal (waits journal party) hold

-- the answer to an act is not Full, whatever stands before it
pub never_full : (journal : Entries) (party : ℕ) (act : Act) → (outcome journal party act).answer ≢ full
never_full journal party (Offer to local surrogate handed) =
    let opening : Opening = record { to = to; local = local; surrogate = surrogate } in
    of_offer (standing journal) (couplings journal) (offer_made (next_place journal) party opening) (own_offer (standing journal) party local)
never_full journal party (Retract local) = of_retraction journal party local (own_offer (standing journal) party local)
never_full journal party (SetControl local control) = by (own_offer (standing journal) party local) where
  by : (own : Option Standing) → IsNotFull (control_answer journal control own)
  by None = λ e. cc
  by (Some offer) = λ e. cc
never_full journal party (AskControl local) = λ e. cc
never_full journal party (AskState local) = λ e. cc
never_full journal party (AskDegree local) = λ e. cc
never_full journal party AskParties = λ e. cc
never_full journal party (AskNames from) = λ e. cc
never_full journal party (Set local new) = of_access journal party kind.Set (own_offer (standing journal) party local)
never_full journal party (Use local) = of_access journal party kind.Use (own_offer (standing journal) party local)
never_full journal party Leave = λ e. cc
