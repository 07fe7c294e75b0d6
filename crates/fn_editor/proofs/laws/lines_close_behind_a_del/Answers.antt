use Rattle.fn_editor.proofs.Closes.{is_before_close, closes_there}
use Rattle.fn_editor.proofs.laws.lines_close_behind_a_del.Goals as goal

pub returns : goal.returns
returns c = λ line front. (is_before_close line front, closes_there line front)
