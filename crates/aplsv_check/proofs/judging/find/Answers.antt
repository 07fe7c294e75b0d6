use Rattle.std.proofs.Common.{◌≡◌, ◌∙◌, ℕ, List, Option, Some, ap, subst}
use Rattle.bundle_text.specs.Rules.{PlainBundle}
use Rattle.party_turns.proofs.Parts.{plain_numbers}
use Rattle.printed_text.specs.Departs.{DepartsAt}
use Rattle.printed_text.specs.MayBePrinted.{MayBePrinted}
use Rattle.printed_text.specs.Refused.{IsRefusal}
use Rattle.check_rules.specs.Verdict.{IsVerdict, TellsOutput, users_named}
use Rattle.aplsv_check.proofs.SeatLists.{ok_more}
use Rattle.aplsv_check.proofs.judging.find.Goals as goal

pub returns-in-Ok : goal.returns-in-Ok
returns-in-Ok c =
    let named : ◌≡◌ {A = Option (List ℕ)} (Some c.deref.result.now) (users_named c.args.bundle.now) =
    ap (λ (numbers : List ℕ). Some numbers) (c.deref.ensures.value ∙ (c.in_ok-numbers.ensures ∙ plain_numbers c.args.users.now c.args.bundle.now.users c.requires)) in
    let tells : TellsOutput c.args.bundle.now c.args.text.now c.in-Ok.printed.transcripts c.in-Ok.printed.journal = record {
      printed = subst (λ (users : Option (List ℕ)). MayBePrinted users c.in-Ok.printed.transcripts c.in-Ok.printed.journal) named c.in-Ok.ensures.output;
      is = c.in-Ok.ensures.text;
    } in
    ok_more c.judge-found.result (λ verdict. (text : List ℕ) → TellsOutput c.args.bundle.now text c.in-Ok.printed.transcripts c.in-Ok.printed.journal → IsVerdict c.args.bundle.now text verdict) (λ verdict. IsVerdict c.args.bundle.now c.args.text.now verdict)
    (λ verdict so. so c.args.text.now tells) c.judge-found.ensures

pub returns : goal.returns
returns c =
    let named : ◌≡◌ {A = Option (List ℕ)} (Some c.deref.result.now) (users_named c.args.bundle.now) =
    ap (λ (numbers : List ℕ). Some numbers) (c.deref.ensures.value ∙ (c.in_ok-numbers.ensures ∙ plain_numbers c.args.users.now c.args.bundle.now.users c.requires)) in
    let departs = subst (λ (users : Option (List ℕ)). IsRefusal c.in-Err.why (DepartsAt users c.args.text.now)) named c.in-Err.ensures.departs in
    ok_more c.refused_by.result (λ verdict. (bundle : PlainBundle) (text : List ℕ) → IsRefusal c.in-Err.why (DepartsAt (users_named bundle) text) → IsVerdict bundle text verdict) (λ verdict. IsVerdict c.args.bundle.now c.args.text.now verdict)
    (λ verdict so. so c.args.bundle.now c.args.text.now departs) c.refused_by.ensures
