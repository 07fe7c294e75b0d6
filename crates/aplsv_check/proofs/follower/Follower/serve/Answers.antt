use Rattle.std.proofs.Common.{refl, subst, sym}
use Rattle.std.specs.Prelude.{IfOk}
use Rattle.aux_parties.specs.Auxiliaries.{party_of}
use Rattle.aux_parties.specs.declared.auxiliary.AuxiliaryKind.{AuxiliaryKind}
use Rattle.bundle_text.specs.Rules.{PlainBundle}
use Rattle.aplsv_check.specs.Followed.{IsFollowed, MadeIf}
use Rattle.aplsv_check.specs.declared.follower.Follower.{Follower}
use Rattle.aplsv_check.proofs.FollowerSteps.{clock_took, text_took}
use Rattle.aplsv_check.proofs.follower.Follower.serve.Goals as goal

pub returns-in-Clock : goal.returns-in-Clock
returns-in-Clock c =
    let run = c.args.self.now in
    let after : Follower = record { core = c.auxiliary_turn.new.core; ten = c.auxiliary_turn.new.auxiliary; twenty = c.args.self.now.twenty; seats = c.args.self.now.seats } in
    subst (λ (kind : AuxiliaryKind). IfOk c.auxiliary_turn.result (λ made. (bundle : PlainBundle) → IsFollowed bundle run → MadeIf bundle (party_of kind) run made after)) (sym c.in-Clock.is) (clock_took c.auxiliary_turn.result run after refl refl c.auxiliary_turn.ensures)

pub returns-in-TextFiles : goal.returns-in-TextFiles
returns-in-TextFiles c =
    let run = c.args.self.now in
    let after : Follower = record { core = c.auxiliary_turn-in-TextFiles.new.core; ten = c.args.self.now.ten; twenty = c.auxiliary_turn-in-TextFiles.new.auxiliary; seats = c.args.self.now.seats } in
    subst (λ (kind : AuxiliaryKind). IfOk c.auxiliary_turn-in-TextFiles.result (λ made. (bundle : PlainBundle) → IsFollowed bundle run → MadeIf bundle (party_of kind) run made after)) (sym c.in-TextFiles.is)
    (text_took c.auxiliary_turn-in-TextFiles.result run after refl refl c.auxiliary_turn-in-TextFiles.ensures)
