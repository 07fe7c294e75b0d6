use Rattle.std.proofs.Common.{◌≡◌, ◌∙◌, ◌++◌, [], ℕ, List, ap, arith, length, map, rules, subst, subst₂, sym, vec_len}
use Rattle.std.proofs.lemmas.List.{length-map}
use Rattle.aux_parties.specs.Auxiliaries.{clock_party, text_party}
use Rattle.bundle_text.specs.Rules.{PlainBundle}
use Rattle.bundle_text.specs.User.{PlainUser, plain_user}
use Rattle.session_rules.specs.Run.{IsRun}
use Rattle.sv_core.specs.Core.{ArePeople, PlainCore}
use Rattle.aplsv_replay.specs.Endings.{ComesOf}
use Rattle.aplsv_replay.specs.Replayed.{IsRunInTurns}
use Rattle.party_turns.specs.GivenBack.{ComeBack}
use Rattle.party_turns.specs.Serving.{CameBehind}
use Rattle.party_turns.specs.Sittings.{lent_to}
use Rattle.party_turns.specs.SoFar.{user_of}
use Rattle.party_turns.specs.declared.auxiliary.Auxiliary.{Auxiliary}
use Rattle.party_turns.specs.declared.seat.UserSeat.{UserSeat}
use Rattle.replay_rules.specs.Turns.{newcomer}
use Rattle.aplsv_replay.proofs.Ends.{begins_together}
use Rattle.party_turns.proofs.GivenBack.{newly_behind}
use Rattle.party_turns.proofs.Parts.{plain_numbers, users_are_people, whole_more}
use Rattle.party_turns.proofs.Sits.{all_newly, lent_newly}
use Rattle.aplsv_replay.proofs.driver.replay_with.Goals as goal

pub core_of-requires : goal.core_of-requires
core_of-requires g c =
    record { people = subst ArePeople (sym (plain_numbers c.users.result.now c.args.bundle.users c.users.ensures.value)) (users_are_people c.args.bundle.users c.users.ensures.bundle.each) }

pub fill-seats-requires-clause-room : goal.fill-seats-requires-clause-room
fill-seats-requires-clause-room g c =
    let kept : map plain_user c.into_vec.result.items ≡ c.args.bundle.users = c.into_vec.ensures.value ∙ ap (λ (b : PlainBundle). b.users) c.into_parts-users.ensures.value in
    let one : length c.into_vec.result.items ≡ length c.args.bundle.users = sym (length-map c.into_vec.result.items plain_user) ∙ ap (λ (list : List PlainUser). length list) kept in
    let two : length c.users-2.result.now ≡ length c.args.bundle.users = sym (length-map c.users-2.result.now plain_user) ∙ ap (λ (list : List PlainUser). length list) c.users-2.ensures.value in
    let many : vec_len c.into_vec.result ≡ length c.into_vec.result.items = search rules in
    omega (arith, c.in-Ok-room_for.ensures.room)

pub fill-seats-requires-clause-shelves : goal.fill-seats-requires-clause-shelves
fill-seats-requires-clause-shelves g c =
    let kept : map plain_user c.into_vec.result.items ≡ c.args.bundle.users = c.into_vec.ensures.value ∙ ap (λ (b : PlainBundle). b.users) c.into_parts-users.ensures.value in
    let one : length c.into_vec.result.items ≡ length c.args.bundle.users = sym (length-map c.into_vec.result.items plain_user) ∙ ap (λ (list : List PlainUser). length list) kept in
    let many : vec_len c.into_vec.result ≡ length c.into_vec.result.items = search rules in
    omega (arith, c.requires)

pub go_through-requires-clause-together : goal.go_through-requires-clause-together
go_through-requires-clause-together g c =
    let kept : map plain_user c.into_vec.result.items ≡ c.args.bundle.users = c.into_vec.ensures.value ∙ ap (λ (b : PlainBundle). b.users) c.into_parts-users.ensures.value in
    let core = c.in-Ok.ensures ∙ ap (λ (list : List ℕ). record { users = list; journal = [] }) (plain_numbers c.users.result.now c.args.bundle.users c.users.ensures.value) in
    let seated = all_newly g.K.Shelf.told g.K.Shelf.faults [] c.fill-seats.result.items c.fill-seats.ensures.seated in
    let together = begins_together g.X.Replier.forgets g.X.Replier.replies g.Y.Replier.forgets g.Y.Replier.replies g.K.Shelf.told g.K.Shelf.faults c.args.bundle c.args.ten c.args.twenty (record { core = c.in-Ok.core; ten = c.new.result; twenty = c.new-2.result; seats = c.fill-seats.result }) c.into_parts-users.ensures.bundle core c.new.ensures c.new-2.ensures (c.fill-seats.ensures.users ∙ kept) seated in
    record { bundle = c.args.bundle; ten = c.args.ten; twenty = c.args.twenty; shelves = lent_to seated.sittings; sittings = seated.sittings; together = together }

pub returns-clause-run : goal.returns-clause-run
returns-clause-run g c =
    let kept : map plain_user c.into_vec.result.items ≡ c.args.bundle.users = c.into_vec.ensures.value ∙ ap (λ (b : PlainBundle). b.users) c.into_parts-users.ensures.value in
    let core = c.in-Ok.ensures ∙ ap (λ (list : List ℕ). record { users = list; journal = [] }) (plain_numbers c.users.result.now c.args.bundle.users c.users.ensures.value) in
    let seats = c.fill-seats.result.items in
    let seated = all_newly g.K.Shelf.told g.K.Shelf.faults [] seats c.fill-seats.ensures.seated in
    let together = begins_together g.X.Replier.forgets g.X.Replier.replies g.Y.Replier.forgets g.Y.Replier.replies g.K.Shelf.told g.K.Shelf.faults c.args.bundle c.args.ten c.args.twenty (record { core = c.in-Ok.core; ten = c.new.result; twenty = c.new-2.result; seats = c.fill-seats.result }) c.into_parts-users.ensures.bundle core c.new.ensures c.new-2.ensures (c.fill-seats.ensures.users ∙ kept) seated in
    let result = c.go_through.result in
    let left = c.fill-seats.new.shelves.items in
    let lent = ap (λ (list : List _). list ++ left) (lent_newly g.K.Shelf.told g.K.Shelf.faults [] seats c.fill-seats.ensures.seated) ∙ c.fill-seats.ensures.shelves in
    whole_more result.ended (λ transcripts journal. ComesOf g.X.Replier.forgets g.X.Replier.replies g.Y.Replier.forgets g.Y.Replier.replies g.K.Shelf.told g.K.Shelf.faults c.as_slice.result.now (record { core = c.in-Ok.core; ten = c.new.result; twenty = c.new-2.result; seats = c.fill-seats.result }) left transcripts journal result.ten result.twenty result.shelves.items)
    (λ transcripts journal. IsRunInTurns g.X.Replier.forgets g.X.Replier.replies g.Y.Replier.forgets g.Y.Replier.replies g.K.Shelf.told g.K.Shelf.faults c.args.bundle journal transcripts c.args.ten result.ten c.args.twenty result.twenty c.args.shelves.items result.shelves.items)
    (λ transcripts journal comes.
    let came = comes c.args.bundle c.args.ten c.args.twenty (lent_to seated.sittings) seated.sittings together in
    record {
      dealings = came.dealings;
      run = subst (λ (list : List _). IsRun g.X.Replier.forgets g.X.Replier.replies g.Y.Replier.forgets g.Y.Replier.replies g.K.Shelf.told g.K.Shelf.faults c.args.bundle came.dealings journal transcripts c.args.ten result.ten c.args.twenty result.twenty list result.shelves.items) lent came.run;
      turns = came.turns (ap (λ (p : PlainCore). p.journal) c.in-Ok.ensures) (λ final. c.fill-seats.ensures.newcomers final ∙ ap (λ (list : List PlainUser). map (newcomer final) list) kept)
          (c.as_slice.ensures ∙ ap (λ (b : PlainBundle). b.order) c.into_parts-users.ensures.value);
    })
    c.go_through.ensures.run

pub returns-clause-ten : goal.returns-clause-ten
returns-clause-ten g c =
    c.go_through.ensures.ten c.args.ten
    (subst (λ (aux : Auxiliary g.row.X.Denot). CameBehind g.X.Replier.forgets g.X.Replier.replies g.X.Replier.wants c.args.ten aux) (sym c.new.ensures) (newly_behind g.X.Replier.forgets g.X.Replier.replies g.X.Replier.wants clock_party c.args.ten))

pub returns-clause-twenty : goal.returns-clause-twenty
returns-clause-twenty g c =
    c.go_through.ensures.twenty c.args.twenty
    (subst (λ (aux : Auxiliary g.row.Y.Denot). CameBehind g.Y.Replier.forgets g.Y.Replier.replies g.Y.Replier.wants c.args.twenty aux) (sym c.new-2.ensures) (newly_behind g.Y.Replier.forgets g.Y.Replier.replies g.Y.Replier.wants text_party c.args.twenty))

pub returns-clause-shelves : goal.returns-clause-shelves
returns-clause-shelves g c =
    let kept : map plain_user c.into_vec.result.items ≡ c.args.bundle.users = c.into_vec.ensures.value ∙ ap (λ (b : PlainBundle). b.users) c.into_parts-users.ensures.value in
    let seats = c.fill-seats.result.items in
    let many : length seats ≡ length c.args.bundle.users = sym (length-map seats (λ (s : UserSeat g.row.K.Denot). user_of s.session)) ∙ ap (λ (list : List PlainUser). length list) (c.fill-seats.ensures.users ∙ kept) in
    subst₂ (λ (users : ℕ) (given : List g.row.K.Denot). ComeBack users given c.go_through.result.shelves.items) many c.fill-seats.ensures.shelves c.go_through.ensures.shelves
