use Rattle.std.proofs.Common.{◌∙◌}
use Rattle.sv_events.specs.Entry.{plain_entry}
use Rattle.run_reasons.proofs.WalkLemmas.{ends_by, pairs_more, stands_more}
use Rattle.run_reasons.proofs.walk.Walk.goes_on.Goals as goal

pub returns-clause-follows : goal.returns-clause-follows
returns-clause-follows c = λ journal at f.
    let e = plain_entry c.args.entry.now in record {
      offers = c.in_ok-stand_after.ensures ∙ stands_more c.args.at journal e c.args.self.now.standing.items at f.offers;
      pairs = c.in_ok-add_pairs.ensures ∙ pairs_more c.args.place c.args.at journal e c.args.self.now.pairs.items at f.pairs;
    }

pub returns-clause-ends : goal.returns-clause-ends
returns-clause-ends c = λ journal at f.
    let e = plain_entry c.args.entry.now in
    c.has_ended-ends.ensures
    ∙ ends_by c.args.place journal e c.args.self.now.pairs.items c.args.self.now.standing.items c.stand_after.new.offers.items c.some_stands-was.result c.some_stands-is.result
    c.deref.result.now c.deref-3.result.now c.in_ok-before.before.items c.deref-5.result.now c.deref-2.result.now c.deref-4.result.now c.deref-6.result.now
    c.some_stands-was.ensures c.some_stands-is.ensures c.in_ok-before.ensures c.deref.ensures.value c.deref-2.ensures.value c.deref-3.ensures.value c.deref-4.ensures.value
    c.deref-5.ensures.value c.deref-6.ensures.value f.offers f.pairs
    (c.in_ok-stand_after.ensures ∙ stands_more c.args.at journal e c.args.self.now.standing.items at f.offers)
