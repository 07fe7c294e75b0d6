use Rattle.std.proofs.Common.{◌≡◌, ap, sym, ◌∙◌, Bool, true, false, cond, ltb, List, None, find, arith}
use Rattle.std.proofs.lemmas.Bool.{lt-ltb, le-ltb}
use Rattle.sv_rules.specs.Coupling.{open_to}
use Rattle.sv_rules.specs.Journal.{journal_of}
use Rattle.sv_rules.specs.Standing.{offer_count, standing}
use Rattle.aux_parties.specs.Auxiliaries.{most_counters}
use Rattle.sv_rules.specs.declared.standing.Standing.{Standing}
use Rattle.sv_plain.proofs.WorkLemmas.{first_where}
use Rattle.sv_plain.proofs.working.to_counter.Goals as goal

pub returns-then-offer_count-most_counters : goal.returns-then-offer_count-most_counters
returns-then-offer_count-most_counters c =
    let journal = journal_of c.args.entries.now in
    let opens = open_to journal c.args.party in
    let count = offer_count (standing journal) c.args.party in
    let is : c.offer_count.result ≡ count = c.offer_count.ensures ∙ ap (λ (offers : List Standing). offer_count offers c.args.party) c.requires.offers in
    let few : ltb count (most_counters c.args.party) ≡ true = lt-ltb count (most_counters c.args.party) (omega (arith, is, c.most_counters.ensures, c.if-offer_count-most_counters.true)) in
    c.first_of.ensures ∙ ap (find (λ (offer : Standing). true)) (c.deref.ensures.value ∙ c.in_ok-opened.ensures)
    ∙ ap (λ (b : Bool). cond b (find (λ (offer : Standing). true) opens) None) (sym few) ∙ sym (first_where (ltb count (most_counters c.args.party)) opens)

pub returns : goal.returns
returns c =
    let journal = journal_of c.args.entries.now in
    let opens = open_to journal c.args.party in
    let count = offer_count (standing journal) c.args.party in
    let is : c.offer_count.result ≡ count = c.offer_count.ensures ∙ ap (λ (offers : List Standing). offer_count offers c.args.party) c.requires.offers in
    let many : ltb count (most_counters c.args.party) ≡ false = le-ltb count (most_counters c.args.party) (omega (arith, is, c.most_counters.ensures, c.if-offer_count-most_counters.false)) in
    ap (λ (b : Bool). cond b (find (λ (offer : Standing). true) opens) None) (sym many) ∙ sym (first_where (ltb count (most_counters c.args.party)) opens)
