use Rattle.std.proofs.Common.{◌∙◌, ap, sym}
use Rattle.std.specs.List.{list_any}
use Rattle.std.proofs.lemmas.Bool.{OnFalse_at, OnFalse_from, OnTrue_at, OnTrue_from}
use Rattle.sv_offers.proofs.SenderLemmas.{open_by_set}
use Rattle.sv_offers.specs.Table.{is_open_by}
use Rattle.sv_offers.proofs.standings.Standings.has_open.Goals as goal

pub returns : goal.returns
returns c =
    let to = c.args.to in
    let from = c.args.from in
    let coupled = c.args.coupled.now.items in
    let sent = c.self.invariant.sent to from in
    open_by_set c.self.inside.placed coupled to from c.has_open.result c.self.invariant.fits
    (OnTrue_from c.has_open.result _ (λ some. let open' = OnTrue_at some c.has_open.ensures.some in (open'.0, sym (sent open'.0) ∙ open'.1, open'.2)))
    (OnFalse_from c.has_open.result _ (λ none place fits has. OnFalse_at none c.has_open.ensures.none place fits (sent place ∙ has)))
    ∙ ap (list_any (is_open_by coupled to from)) c.self.view_is
