use Rattle.aux_components.proofs.RequestLemmas.{get_is_read, replace_is_read}
use Rattle.aux_components.proofs.laws.requests_as_written.Goals as goal

pub returns-clause-get : goal.returns-clause-get
returns-clause-get c =
    get_is_read c.numbers_are_as_written.ensures.read c.fields_are_as_written.ensures.cut c.fields_are_as_written.ensures.names

pub returns-clause-replace : goal.returns-clause-replace
returns-clause-replace c =
    replace_is_read c.numbers_are_as_written.ensures.read c.fields_are_as_written.ensures.cut c.fields_are_as_written.ensures.names
