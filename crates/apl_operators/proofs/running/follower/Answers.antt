use Rattle.std.proofs.Common.{◌-◌, arith}
use Rattle.apl_operators.proofs.RunLemmas.{first_is, next_is}
use Rattle.apl_operators.proofs.running.follower.Goals as goal

pub returns-then-is_first : goal.returns-then-is_first
returns-then-is_first g c by item joining so_far here = first_is item c.args.place c.args.number c.args.is_first _ c.if-is_first.true here

pub returns-else-is_first : goal.returns-else-is_first
returns-else-is_first g c by item joining so_far here =
    next_is _ by item c.args.made.now c.args.place (c.args.place - c.args.inner) _ c.args.number c.rule.result c.args.is_first joining so_far c.if-is_first.false c.requires.made (omega arith) c.index-made-place.is c.rule.ensures here
