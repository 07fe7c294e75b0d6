use Rattle.std.proofs.Common.{◌∙◌, ℕ, List, false, ap}
use Rattle.apl_io.specs.Kept.{Keeper, Timer}
use Rattle.auxiliaries.specs.Protocol.{idle}
use Rattle.auxiliaries.specs.Served.{Served}
use Rattle.aux_parties.specs.Auxiliaries.{party_of}
use Rattle.aux_parties.specs.declared.auxiliary.AuxiliaryKind.TheVariants.{Clock, TextFiles}
use Rattle.party_turns.specs.declared.auxiliary.Auxiliary.{Auxiliary}
use Rattle.aplsv_check.proofs.Begun.{begun}
use Rattle.aplsv_check.specs.declared.follower.Follower.{Follower}
use Rattle.aplsv_check.proofs.follower.begun.Goals as goal

pub returns-clause-followed : goal.returns-clause-followed
returns-clause-followed c =
    let run : Follower = record { core = c.args.core; ten = c.new-2.result; twenty = c.new-4.result; seats = c.fill-seats.result } in
    λ bundle rules kept devices core.
    begun bundle run c.fill-seats.new.shelves.items rules core
    (c.new-2.ensures ∙ ap (λ (timer : Timer). let aux : Auxiliary Timer = record { party = party_of Clock; replier = timer; is_lost = false } in aux) (c.new.ensures ∙ devices.clock))
    (c.new-4.ensures
    ∙ ap (λ (files : Served (Keeper (List ℕ))). let aux : Auxiliary (Served (Keeper (List ℕ))) = record { party = party_of TextFiles; replier = files; is_lost = false } in aux)
    (c.new-3.ensures ∙ ap (λ (store : Keeper (List ℕ)). let files : Served (Keeper (List ℕ)) = record { store = store; state = idle } in files) devices.text))
    (c.fill-seats.ensures.users ∙ kept) c.fill-seats.ensures.seated c.fill-seats.ensures.here (c.fill-seats.ensures.shelves ∙ devices.shelves)
