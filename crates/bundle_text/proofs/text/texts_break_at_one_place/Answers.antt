use Rattle.bundle_text.proofs.Reading.{never}
use Rattle.bundle_text.proofs.Walks.{breaks_once}
use Rattle.bundle_text.proofs.text.texts_break_at_one_place.Goals as goal

pub returns-clause-nowhere : goal.returns-clause-nowhere
returns-clause-nowhere c = never

pub returns-clause-one : goal.returns-clause-one
returns-clause-one c = breaks_once
