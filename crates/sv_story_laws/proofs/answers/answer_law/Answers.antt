use Rattle.sv_story_laws.proofs.GrantLemmas.{granted_where_the_table_allows, refused_by_the_element_named, uses_get_what_is_there}
use Rattle.sv_story_laws.proofs.NameLemmas.{no_value_where_none_is_there, not_shared_without_an_offer, offer_limit_past_the_limit}
use Rattle.sv_story_laws.proofs.answers.answer_law.Goals as goal

pub returns-clause-granted : goal.returns-clause-granted
returns-clause-granted c = granted_where_the_table_allows

pub returns-clause-refused : goal.returns-clause-refused
returns-clause-refused c = refused_by_the_element_named

pub returns-clause-gets : goal.returns-clause-gets
returns-clause-gets c = uses_get_what_is_there

pub returns-clause-not_shared : goal.returns-clause-not_shared
returns-clause-not_shared c = not_shared_without_an_offer

pub returns-clause-limit : goal.returns-clause-limit
returns-clause-limit c = offer_limit_past_the_limit

pub returns-clause-no_value : goal.returns-clause-no_value
returns-clause-no_value c = no_value_where_none_is_there
