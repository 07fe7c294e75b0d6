use Rattle.std.proofs.Common.{◌≡◌, take, map}
use Rattle.line_scanner.specs.Token.{plain_token}
use Rattle.apl_workspace.specs.Header.{symbols_of}
use Rattle.apl_workspace.proofs.symbol.symbols_of.Given as goal

-- the symbols so far are those of the tokens so far
abbrev pub invariant-loop-token : goal.invariant-loop-token
invariant-loop-token l = l.symbols.items ≡ symbols_of (map plain_token (take l.token-index l.tokens))
