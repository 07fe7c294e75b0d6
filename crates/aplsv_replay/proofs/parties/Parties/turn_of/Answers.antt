use Rattle.std.proofs.Common.{subst, sym}
use Rattle.aux_parties.specs.declared.auxiliary.AuxiliaryKind.{AuxiliaryKind}
use Rattle.aux_parties.specs.declared.auxiliary.AuxiliaryKind.TheVariants.{Clock, TextFiles}
use Rattle.aplsv_replay.specs.Together.{TookAuxiliaryTurn}
use Rattle.aplsv_replay.proofs.AllTogether.{is_auxiliary_of}
use Rattle.aplsv_replay.proofs.KindLemmas.{with_auxiliary}
use Rattle.aplsv_replay.proofs.OneTurn.{auxiliary_took_turn}
use Rattle.aplsv_replay.proofs.parties.Parties.turn_of.Goals as goal

pub take_turn-requires : goal.take_turn-requires
take_turn-requires g c =
    let some = c.requires.together in
    is_auxiliary_of g.X.Replier.forgets g.X.Replier.replies g.Y.Replier.forgets g.Y.Replier.replies g.K.Shelf.told g.K.Shelf.faults some.bundle some.ten some.twenty some.shelves c.args.self.now some.sittings some.together Clock

pub take_turn-requires-in-TextFiles : goal.take_turn-requires-in-TextFiles
take_turn-requires-in-TextFiles g c =
    let some = c.requires.together in
    is_auxiliary_of g.X.Replier.forgets g.X.Replier.replies g.Y.Replier.forgets g.Y.Replier.replies g.K.Shelf.told g.K.Shelf.faults some.bundle some.ten some.twenty some.shelves c.args.self.now some.sittings some.together TextFiles

pub returns-in-Clock-clause-took : goal.returns-in-Clock-clause-took
returns-in-Clock-clause-took g c =
    let p = c.args.self.now in
    let took = c.take_turn.ensures in
    subst (λ (kind : AuxiliaryKind). TookAuxiliaryTurn g.X.Replier.forgets g.X.Replier.replies g.Y.Replier.forgets g.Y.Replier.replies g.K.Shelf.told g.K.Shelf.faults kind p (with_auxiliary p c.take_turn.new.core Clock c.take_turn.new.self)) (sym c.in-Clock.is)
    (auxiliary_took_turn g.X.Replier.forgets g.X.Replier.replies g.Y.Replier.forgets g.Y.Replier.replies g.K.Shelf.told g.K.Shelf.faults p c.requires.together c.requires.stay Clock c.take_turn.new.core c.take_turn.new.self
    took.party took.grows took.answered took.turn took.idle took.lost)

pub returns-in-TextFiles-clause-took : goal.returns-in-TextFiles-clause-took
returns-in-TextFiles-clause-took g c =
    let p = c.args.self.now in
    let took = c.take_turn-in-TextFiles.ensures in
    subst (λ (kind : AuxiliaryKind). TookAuxiliaryTurn g.X.Replier.forgets g.X.Replier.replies g.Y.Replier.forgets g.Y.Replier.replies g.K.Shelf.told g.K.Shelf.faults kind p (with_auxiliary p c.take_turn-in-TextFiles.new.core TextFiles c.take_turn-in-TextFiles.new.self))
    (sym c.in-TextFiles.is)
    (auxiliary_took_turn g.X.Replier.forgets g.X.Replier.replies g.Y.Replier.forgets g.Y.Replier.replies g.K.Shelf.told g.K.Shelf.faults p c.requires.together c.requires.stay TextFiles c.take_turn-in-TextFiles.new.core c.take_turn-in-TextFiles.new.self
    took.party took.grows took.answered took.turn took.idle took.lost)

pub returns-in-Clock-clause-behind : goal.returns-in-Clock-clause-behind
returns-in-Clock-clause-behind g c = record { ten = c.take_turn.ensures.comes; twenty = λ start came. came }

pub returns-in-TextFiles-clause-behind : goal.returns-in-TextFiles-clause-behind
returns-in-TextFiles-clause-behind g c = record { ten = λ start came. came; twenty = c.take_turn-in-TextFiles.ensures.comes }
