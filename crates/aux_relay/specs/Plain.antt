-- Requests of the code as plain data.
use Rattle.aux_relay.specs.Request.{Request as PlainRequest, send, take_from, waiting, other}
use Rattle.aux_relay.specs.declared.request.Request.{Request}
use Rattle.aux_relay.specs.declared.request.Request.TheVariants.{Send, Take, Waiting, Other}

-- a request, whatever it borrows from
abbrev pub plain_request : Request → PlainRequest
plain_request (Send user text) = send user text.now
plain_request (Take user) = take_from user
plain_request Waiting = waiting
plain_request Other = other
