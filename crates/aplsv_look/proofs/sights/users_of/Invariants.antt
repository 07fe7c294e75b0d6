use Rattle.std.proofs.Common.{◌≡◌, map, take}
use Rattle.printed_text.specs.Printed.{plain_printed}
use Rattle.aplsv_look.specs.Sights.{users_in}
use Rattle.aplsv_look.proofs.sights.users_of.Given as goal

abbrev pub invariant-loop-transcript : goal.invariant-loop-transcript
invariant-loop-transcript l = l.users.items ≡ users_in (map plain_printed (take l.transcript-index l.transcripts))
