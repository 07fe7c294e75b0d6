use Rattle.apl_execute.proofs.TextLaw.{axes_are_too_many, characters_are_too_many, numbers_are_no_text, texts_are}
use Rattle.apl_execute.proofs.laws.texts_are_few_characters.Goals as goal

pub returns-clause-text : goal.returns-clause-text
returns-clause-text c = texts_are

pub returns-clause-axes : goal.returns-clause-axes
returns-clause-axes c = axes_are_too_many

pub returns-clause-no_numbers : goal.returns-clause-no_numbers
returns-clause-no_numbers c = numbers_are_no_text

pub returns-clause-many : goal.returns-clause-many
returns-clause-many c = characters_are_too_many
