use Rattle.std.proofs.Common.{◌∙◌, ap, cond, Bool, false}
use Rattle.sv_offers.proofs.SenderLemmas.{all_but_one, own_tie}
use Rattle.sv_offers.specs.Senders.{has_sent, is_sent}
use Rattle.sv_offers.proofs.senders.Senders.remove.Goals as goal

pub returns : goal.returns
returns c = λ to from place.
    let gone = c.args.offer.now in
    let old : Bool = has_sent c.args.self.now to from place in
    c.remove.ensures.updates.0 (to, from, place)
    ∙ ap (λ b. cond b false old) (own_tie c.key_of.result gone to from place c.key_of.ensures.key) ∙ all_but_one (is_sent to from place gone) old
