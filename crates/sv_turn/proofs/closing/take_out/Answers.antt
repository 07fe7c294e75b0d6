use Rattle.std.proofs.Common.{rules, ◌≡◌, sym, ◌∙◌, ap, subst, All, Some}
use mathlib.Core.Option.{some-injective}
use Rattle.sv_turn.specs.Views.{accounts_of}
use Rattle.sv_turn.specs.Order.{IsTold}
use Rattle.sv_turn.proofs.Ending.{ended}
use Rattle.sv_turn.proofs.closing.take_out.Goals as goal

pub unwrap-requires : goal.unwrap-requires
unwrap-requires g c =
    let e = ended g.S.History.entries g.S.History.members_of g.S.History.party_of _ _ c.args.place.id c.args.place.me.0 _ _ c.requires.place.0 c.requires.whole c.requires.place.1 c.close_with-closed.ensures.values.2 in
    let is : c.take-state.result ≡ Some e.0 = some-injective c.take-state.result (Some e.0) (sym c.take-state.ensures.value ∙ e.1) in search rules

pub returns-clause-members : goal.returns-clause-members
returns-clause-members g c =
    let e = ended g.S.History.entries g.S.History.members_of g.S.History.party_of _ _ c.args.place.id c.args.place.me.0 _ _ c.requires.place.0 c.requires.whole c.requires.place.1 c.close_with-closed.ensures.values.2 in
    let is : c.take-state.result ≡ Some e.0 = some-injective c.take-state.result (Some e.0) (sym c.take-state.ensures.value ∙ e.1) in
    let same : c.unwrap.result ≡ e.0 = search rules in ap g.S.History.members_of same ∙ e.2

pub returns-clause-told : goal.returns-clause-told
returns-clause-told g c =
    let e = ended g.S.History.entries g.S.History.members_of g.S.History.party_of _ _ c.args.place.id c.args.place.me.0 _ _ c.requires.place.0 c.requires.whole c.requires.place.1 c.close_with-closed.ensures.values.2 in
    let is : c.take-state.result ≡ Some e.0 = some-injective c.take-state.result (Some e.0) (sym c.take-state.ensures.value ∙ e.1) in
    let same : c.unwrap.result ≡ e.0 = search rules in subst (λ y. All (IsTold g.S.History.party_of (g.S.History.entries y)) (accounts_of c.args.place.me.0)) (sym same) e.3
