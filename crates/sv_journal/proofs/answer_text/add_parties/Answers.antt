use Rattle.std.proofs.Common.{◌≡◌, ◌<◌, ◌^◌, ◌∷◌, ◌++◌, codes, get_or, refl, arith}
use Rattle.std.specs.Fmt.{decimal}
use Rattle.std.proofs.lemmas.List.Elements.{All-more}
use Rattle.sv_journal.proofs.Listed.{one_listed, parties_are}
use Rattle.sv_journal.proofs.answer_text.add_parties.Goals as goal

pub loop-party-preserved : goal.loop-party-preserved
loop-party-preserved c = record {
  text = one_listed (λ party. 32 ∷ decimal party) c.args.list.now c.loop-party.party-index (get_or c.args.list.now c.loop-party.party-index 0) 0 c.args.line.now.items (codes "parties") c.loop-party.line.items c.add_party.new.line.items (omega arith) refl c.loop-party.invariant.text c.in_ok-add_party.ensures.text;
  printable = All-more (λ party. party < 2 ^ 64) c.args.list.now c.loop-party.party-index 0 (omega arith) c.loop-party.invariant.printable c.in_ok-add_party.ensures.printable;
}

pub returns-clause-text : goal.returns-clause-text
returns-clause-text c = parties_are c.args.list.now c.loop-party.party-index c.args.line.now.items c.loop-party.line.items (omega arith) c.loop-party.invariant.text
