use Rattle.sv_story_laws.proofs.QuestionLemmas.{controls_are_answered, tells_control, tells_degree, tells_names, tells_parties, tells_state}
use Rattle.sv_story_laws.proofs.answers.question_law.Goals as goal

pub returns-clause-set : goal.returns-clause-set
returns-clause-set c = controls_are_answered

pub returns-clause-control : goal.returns-clause-control
returns-clause-control c = tells_control

pub returns-clause-state : goal.returns-clause-state
returns-clause-state c = tells_state

pub returns-clause-degree : goal.returns-clause-degree
returns-clause-degree c = tells_degree

pub returns-clause-parties : goal.returns-clause-parties
returns-clause-parties c = tells_parties

pub returns-clause-names : goal.returns-clause-names
returns-clause-names c = tells_names
