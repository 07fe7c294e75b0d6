use Rattle.std.proofs.Common.{◌≡◌, take}
use Rattle.ws_codec.proofs.codes.line_of.Given as goal

abbrev pub invariant-loop-code : goal.invariant-loop-code
invariant-loop-code l = l.line.items ≡ take l.code-index l.codes
