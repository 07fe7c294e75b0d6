use Rattle.apl_session.proofs.session.advance.Goals as goal

pub advance-requires : goal.advance-requires
advance-requires g c = c.requires.may

pub returns : goal.returns
returns g c = c.advance.ensures
