use Rattle.std.proofs.Common.{◌∙◌, ap, cond, Bool, true}
use Rattle.sv_offers.proofs.SenderLemmas.{one_or_more, own_tie}
use Rattle.sv_offers.specs.Senders.{has_sent, is_sent}
use Rattle.sv_offers.proofs.senders.Senders.add.Goals as goal

pub returns-clause-ok : goal.returns-clause-ok
returns-clause-ok c = λ to from place.
    let new = c.args.new.now in
    let old : Bool = has_sent c.args.self.now to from place in
    c.in_ok-insert.ensures.updates.0 (to, from, place)
    ∙ ap (λ b. cond b true old) (own_tie c.key_of.result new to from place c.key_of.ensures.key) ∙ one_or_more (is_sent to from place new) old
