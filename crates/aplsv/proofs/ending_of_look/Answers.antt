use Rattle.aplsv.proofs.ending_of_look.Goals as goal

pub returns-clause-unread : goal.returns-clause-unread
returns-clause-unread g c = λ is. c.looked.ensures.unread (c.looked.ensures.usage is)
