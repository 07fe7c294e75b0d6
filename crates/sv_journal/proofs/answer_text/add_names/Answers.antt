use Rattle.std.proofs.Common.{◌≡◌, ◌<◌, ◌^◌, ◌∷◌, ◌++◌, codes, sym, ap, ◌∙◌, arith}
use Rattle.std.proofs.lemmas.Grind.{common_steps}
use Rattle.apl_arrays.specs.Name.{IsName}
use Rattle.line_text.proofs.AllMore.{all_more}
use Rattle.sv_journal.proofs.Listed.{one_listed, names_are}
use Rattle.sv_journal.proofs.answer_text.add_names.Goals as goal

pub loop-name-preserved : goal.loop-name-preserved
loop-name-preserved c = record {
  text = one_listed (λ name. 32 ∷ name) c.args.list.now c.loop-name.name-index c.name-item.result c.name-item.result c.args.line.now.items (codes "names") c.loop-name.line.items c.add_name.new.line.items (omega arith) c.name-item.is c.loop-name.invariant.text c.in_ok-add_name.ensures.text;
  printable = all_more IsName c.args.list.now c.loop-name.name-index c.name-item.result (omega arith) c.name-item.is c.in_ok-add_name.ensures.printable c.loop-name.invariant.printable;
}

pub returns-clause-text : goal.returns-clause-text
returns-clause-text c = names_are c.args.list.now c.loop-name.name-index c.args.line.now.items c.loop-name.line.items (omega arith) c.loop-name.invariant.text
