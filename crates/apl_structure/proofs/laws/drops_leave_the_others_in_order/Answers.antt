use Rattle.apl_structure.proofs.TakeLaws.{drop_shape, left_stands}
use Rattle.apl_structure.proofs.laws.drops_leave_the_others_in_order.Goals as goal

pub returns : goal.returns
returns c = record { shape = drop_shape; left = left_stands }
