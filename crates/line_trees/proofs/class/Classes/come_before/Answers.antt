use Rattle.std.proofs.Common.{◌∙◌, sym, ap, true}
use Rattle.line_trees.proofs.ClassesInOrder.{answered, last_before}
use Rattle.line_trees.proofs.class.Classes.come_before.Goals as goal

pub returns-in-None : goal.returns-in-None
returns-in-None c =
    answered c.args.name.now c.args.self.now.items c.as_slice.result.now c.last_of.result true c.as_slice.ensures.items c.as_slice.ensures.ascending c.last_of.ensures (sym (ap (last_before c.args.name.now) c.in-None.is))

pub returns-in-Some : goal.returns-in-Some
returns-in-Some c =
    answered c.args.name.now c.args.self.now.items c.as_slice.result.now c.last_of.result c.is_before.result c.as_slice.ensures.items c.as_slice.ensures.ascending c.last_of.ensures
    (c.is_before.ensures ∙ sym (ap (last_before c.args.name.now) c.in-Some.is))
