use Rattle.std.proofs.Common.{rules, arith}
use Rattle.std.proofs.lemmas.Grind.{common_steps}
use Rattle.apl_arrays.proofs.Spelling.{codes_stand}
use Rattle.apl_arrays.proofs.text.add_codes.Goals as goal

pub returns-clause-text : goal.returns-clause-text
returns-clause-text c =
    codes_stand c.args.bytes.now.items c.args.line.now c.resize.new.self.items c.write_codes.new.bytes c.len-start.result c.resize.new.self.len
    (search rules) (first_of (search rules, grind (arith, common_steps))) (first_of (search rules, grind (arith, common_steps)))
    (first_of (search rules, grind (arith, common_steps))) c.requires.low
