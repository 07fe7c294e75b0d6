use Rattle.std.proofs.Common.{◌-◌, ap, get_or, refl, arith}
use Rattle.line_scanner.specs.declared.token.Token.{Token}
use Rattle.line_trees.proofs.Loops.{builds_token}
use Rattle.line_trees.proofs.parsing.built_from.Goals as goal

pub loop-at-preserved : goal.loop-at-preserved
loop-at-preserved c =
    let token : Token = get_or c.args.tokens.now (c.loop-at.at - 1) c.index-tokens-at.result in (
      omega arith,
      builds_token _ _ _ c.loop-at.at _ _ token _ _ _ c.loop-at-test.true c.loop-at.invariant.0 c.requires refl (ap (λ (x : Token). get_or c.args.tokens.now (c.loop-at.at - 1) x) c.index-tokens-at.is) c.loop-at.invariant.1
          refl c.in_ok-read.ensures,
    )
