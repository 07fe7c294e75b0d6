use Rattle.std.proofs.Common.{subst, sym}
use Rattle.sv_core.specs.Core.{ArePeople}
use Rattle.aplsv_look.specs.Sights.{users_in}
use Rattle.aplsv_look.proofs.Found.{shown_are_people}
use Rattle.aplsv_look.proofs.sights.sight_of.Goals as goal

pub sight_in-sight-requires : goal.sight_in-sight-requires
sight_in-sight-requires c =
    subst (λ transcripts. ArePeople (users_in transcripts)) (sym c.transcripts.ensures)
    (shown_are_people c.in_ok-printed.printed.transcripts c.in_ok-printed.ensures.output.shown)
