-- Where no entry sets a control nothing is held, and nobody waits.
use Rattle.std.proofs.Common.{◌≡◌, refl, sym, ap, ◌∙◌, ℕ, Bool, true, false, eqb, List, [], ◌∷◌, All, Option, Some, None}
use Rattle.std.specs.Prelude.{is_some, if◌then◌else◌}
use Rattle.std.proofs.lemmas.Bool.{both_ways}
use Rattle.std.proofs.lemmas.List.Elements.{All-cons, All-nil, All-tail}
use Rattle.std.proofs.lemmas.Option.{none-some}
use Rattle.sv_events.specs.Answer.{PlainAnswer, full}
use Rattle.sv_events.specs.Entry.{PlainEntry}
use Rattle.sv_events.specs.Row.{act_row}
use Rattle.sv_events.specs.declared.event.Act.{Act}
use Rattle.sv_events.specs.declared.event.Hold.{Hold}
use Rattle.sv_rules.specs.Entries.{Entries, is_abandoned, is_full, is_held, kind_of}
use Rattle.sv_rules.specs.Legal.{IsLegal, answer_to}
use Rattle.sv_rules.specs.Outcome.{outcome}
use Rattle.sv_rules.specs.Refused.{waits}
use Rattle.sv_story_laws.proofs.AnswerLemmas.{Answered, answered, given_up, held_first, unrefused}
use Rattle.sv_story_laws.proofs.ControlLemmas.{nothing_is_refused_without_control}
use Rattle.sv_story_laws.specs.WaitLaws.{SetNoControl}
use Rattle.sv_core.specs.NoControl.{IsNoHold}

-- what is not refused is answered, and neither held nor given up
plain_where : (refusing : Option Hold) (waiting : Bool) (given : PlainAnswer) → Answered refusing waiting given → refusing ≡ None → (is_held (kind_of given) ≡ false) × (is_abandoned (kind_of given) ≡ false)
plain_where refusing waiting given (unrefused none plain) n = plain
plain_where refusing waiting given (held_first hold r f g) n = absurd (none-some hold (sym n ∙ r))
plain_where refusing waiting given (given_up hold r t g) n = absurd (none-some hold (sym n ∙ r))

no_hold : (given : PlainAnswer) → is_held (kind_of given) ≡ false → is_abandoned (kind_of given) ≡ false → IsNoHold given
no_hold given unheld kept = record {
  held = λ hold is. both_ways (is_held (kind_of given)) unheld (ap (λ (g : PlainAnswer). is_held (kind_of g)) is);
  given_up = λ hold is. both_ways (is_abandoned (kind_of given)) kept (ap (λ (g : PlainAnswer). is_abandoned (kind_of g)) is);
}

no_outcome_is_held : (journal : Entries) (party : ℕ) (act : Act) → SetNoControl journal → (is_held (kind_of (outcome journal party act).answer) ≡ false) × (is_abandoned (kind_of (outcome journal party act).answer) ≡ false)
no_outcome_is_held journal party act none =
    plain_where _ (waits journal party) (outcome journal party act).answer (answered journal party act) (nothing_is_refused_without_control journal party act none)

pub no_act_is_held : (journal : Entries) (party : ℕ) (act : Act) → SetNoControl journal → IsNoHold (answer_to journal party act)
no_act_is_held journal party act none = by (is_full journal)
  where
    by : (b : Bool) → IsNoHold (if b then full else (outcome journal party act).answer)
    by true = no_hold full refl refl
    by false = let plain = no_outcome_is_held journal party act none in no_hold (outcome journal party act).answer plain.0 plain.1

abbrev SetsNone : PlainEntry → Type 0
SetsNone e = (act_row e.act).row.controls ≡ None

-- an entry of a legal journal
entry_is_plain : (users : List ℕ) (journal : Entries) (e : PlainEntry) → IsLegal users (e ∷ journal) → SetNoControl (e ∷ journal) → (is_held (kind_of e.answer) ≡ false) × (is_abandoned (kind_of e.answer) ≡ false)
entry_is_plain users journal e legal none =
    let plain = no_outcome_is_held journal e.party e.act (All-tail SetsNone e journal none) in
    (ap (λ (g : PlainAnswer). is_held (kind_of g)) legal.0.answer ∙ plain.0, ap (λ (g : PlainAnswer). is_abandoned (kind_of g)) legal.0.answer ∙ plain.1)

pub no_entry_is_held : (users : List ℕ) (journal : Entries) → IsLegal users journal → SetNoControl journal → All (λ (e : PlainEntry). IsNoHold e.answer) journal
no_entry_is_held users [] legal none = All-nil (λ (e : PlainEntry). IsNoHold e.answer)
no_entry_is_held users (e ∷ journal) legal none =
    let plain = entry_is_plain users journal e legal none in
    All-cons (λ (x : PlainEntry). IsNoHold x.answer) e journal (no_hold e.answer plain.0 plain.1) (no_entry_is_held users journal legal.1 (All-tail SetsNone e journal none))

pub nobody_waits : (users : List ℕ) (journal : Entries) → IsLegal users journal → SetNoControl journal → (party : ℕ) → waits journal party ≡ false
nobody_waits users [] legal none party = refl
nobody_waits users (e ∷ journal) legal none party = by (nobody_waits users journal legal.1 (All-tail SetsNone e journal none) party) (eqb e.party party) refl
  where
    by : waits journal party ≡ false → (b : Bool) → eqb e.party party ≡ b → waits (e ∷ journal) party ≡ false
    by before true is = rw is (ap (λ (b : Bool). is_some (if b then Some e.act else None)) (entry_is_plain users journal e legal none).0)
    by before false is = rw is before
