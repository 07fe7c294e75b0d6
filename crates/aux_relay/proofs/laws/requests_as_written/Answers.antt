use Rattle.aux_relay.proofs.RequestLemmas.{send_is_read, take_is_read}
use Rattle.aux_relay.proofs.laws.requests_as_written.Goals as goal

pub returns-clause-send : goal.returns-clause-send
returns-clause-send c =
    send_is_read c.numbers_are_as_written.ensures.read c.fields_are_as_written.ensures.cut c.fields_are_as_written.ensures.numbers

pub returns-clause-take : goal.returns-clause-take
returns-clause-take c = take_is_read c.numbers_are_as_written.ensures.read
