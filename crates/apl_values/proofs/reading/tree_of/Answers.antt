use Rattle.std.proofs.Common.{refl}
use Rattle.apl_meaning.specs.Reading.{classes_of}
use Rattle.apl_values.proofs.ReadLaw.{is_not_read, is_tree}
use Rattle.apl_values.proofs.reading.tree_of.Goals as goal

-- the tree of the tokens is the tree of the text
pub returns-clause-tree : goal.returns-clause-tree
returns-clause-tree c = is_tree c.args.workspace.now c.args.text.now.items _ (classes_of c.args.workspace.now) _ c.in_ok-tokens.ensures.tokens refl c.in_ok-tokens.ensures.length c.tree_of_tokens.result c.tree_of_tokens.ensures.tree

pub returns-clause-refused : goal.returns-clause-refused
returns-clause-refused c = is_not_read c.args.workspace.now c.args.text.now.items _ (classes_of c.args.workspace.now) _ c.in_ok-tokens.ensures.tokens refl c.in_ok-tokens.ensures.length c.tree_of_tokens.result c.tree_of_tokens.ensures.refused
