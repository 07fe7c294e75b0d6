use Rattle.std.proofs.Common.{◌≡◌, ◌∙◌, ◌&&◌, ◌++◌, ◌∷◌, ◌<◌, Bool, List, [], ap, append-nil, arith, length, map, rules, subst, sym, tests, true, vec_len}
use Rattle.std.proofs.lemmas.Bool.{eqb-true}
use Rattle.std.specs.Result.{is_ok}
use Rattle.sv_journal.specs.Output.{PlainTranscript}
use Rattle.party_turns.specs.declared.seat.UserSeat.{UserSeat}
use Rattle.party_turns.proofs.Filling.{AreApart, IsOfSeat, all_told, apart_as, apart_more, kept_as_before, transcript_ascends}
use Rattle.party_turns.proofs.Rows.{front_and_rest, none_there, turned_round}
use Rattle.party_turns.proofs.ending.take_apart.Goals as goal

pub push-kept-requires : goal.push-kept-requires
push-kept-requires g c =
    let loop = c.loop-seats in
    let some : 0 < length loop.seats.items = omega (arith, loop.seats.ok.0, c.remove-session.ensures.len) in
    let first = front_and_rest loop.seats.items c.remove-session.new.self.items c.remove-session.result some c.remove-session.ensures.value c.remove-session.ensures.by_index.2 in
    transcript_ascends loop.seats.items c.remove-session.new.self.items c.remove-session.result loop.transcripts.items (record { user = c.user-user.result; lines = c.into_parts-transcript.result.transcript.items }) first c.user-user.ensures
    loop.invariant.apart.ascending

pub loop-seats-preserved-then-is_whole : goal.loop-seats-preserved-then-is_whole
loop-seats-preserved-then-is_whole g c =
    let loop = c.loop-seats in
    let some : 0 < length loop.seats.items = omega (arith, loop.seats.ok.0, c.remove-session.ensures.len) in
    let first = front_and_rest loop.seats.items c.remove-session.new.self.items c.remove-session.result some c.remove-session.ensures.value c.remove-session.ensures.by_index.2 in
    let told : PlainTranscript = record { user = c.user-user.result; lines = c.into_parts-transcript.result.transcript.items } in
    let of : IsOfSeat g.K.Shelf.told g.K.Shelf.faults c.remove-session.result told = record { user = c.user-user.ensures; lines = c.into_parts-transcript.ensures.transcript } in
    let more =
    apart_more g.K.Shelf.told g.K.Shelf.faults c.push-kept.result c.args.seats.items loop.seats.items c.remove-session.new.self.items c.args.shelves.now.items loop.shelves.items loop.transcripts.items c.push-kept.new.self.items loop.is_whole c.remove-session.result c.into_parts-transcript.result.shelf told
    loop.invariant.apart first (sym c.into_parts-transcript.ensures.shelf) of c.push-kept.ensures.ok (kept_as_before c.push-kept.result loop.transcripts c.push-kept.new.self c.push-kept.ensures.err) in
    record {
      apart = apart_as g.K.Shelf.told g.K.Shelf.faults c.args.seats.items c.args.shelves.now.items c.remove-session.new.self.items (loop.shelves.items ++ c.into_parts-transcript.result.shelf ∷ []) c.push_reserved.new.self.items c.push-kept.new.self.items (loop.is_whole && is_ok c.push-kept.result) c.is_ok-is_whole.result
          (sym c.push_reserved.ensures.items) (ap (λ (b : Bool). b && is_ok c.push-kept.result) c.if-is_whole.true ∙ sym c.is_ok-is_whole.ensures.value) more;
      room = omega (arith, loop.invariant.room, c.remove-session.ensures.len, c.push_reserved.ensures.len, c.push_reserved.ensures.capacity);
    }

pub loop-seats-preserved : goal.loop-seats-preserved
loop-seats-preserved g c =
    let loop = c.loop-seats in
    let some : 0 < length loop.seats.items = omega (arith, loop.seats.ok.0, c.remove-session.ensures.len) in
    let first = front_and_rest loop.seats.items c.remove-session.new.self.items c.remove-session.result some c.remove-session.ensures.value c.remove-session.ensures.by_index.2 in
    let told : PlainTranscript = record { user = c.user-user.result; lines = c.into_parts-transcript.result.transcript.items } in
    let of : IsOfSeat g.K.Shelf.told g.K.Shelf.faults c.remove-session.result told = record { user = c.user-user.ensures; lines = c.into_parts-transcript.ensures.transcript } in
    let more =
    apart_more g.K.Shelf.told g.K.Shelf.faults c.push-kept.result c.args.seats.items loop.seats.items c.remove-session.new.self.items c.args.shelves.now.items loop.shelves.items loop.transcripts.items c.push-kept.new.self.items loop.is_whole c.remove-session.result c.into_parts-transcript.result.shelf told
    loop.invariant.apart first (sym c.into_parts-transcript.ensures.shelf) of c.push-kept.ensures.ok (kept_as_before c.push-kept.result loop.transcripts c.push-kept.new.self c.push-kept.ensures.err) in
    record {
      apart = apart_as g.K.Shelf.told g.K.Shelf.faults c.args.seats.items c.args.shelves.now.items c.remove-session.new.self.items (loop.shelves.items ++ c.into_parts-transcript.result.shelf ∷ []) c.push_reserved.new.self.items c.push-kept.new.self.items (loop.is_whole && is_ok c.push-kept.result) loop.is_whole
          (sym c.push_reserved.ensures.items) (ap (λ (b : Bool). b && is_ok c.push-kept.result) c.if-is_whole.false ∙ sym c.if-is_whole.false) more;
      room = omega (arith, loop.invariant.room, c.remove-session.ensures.len, c.push_reserved.ensures.len, c.push_reserved.ensures.capacity);
    }

pub returns-then-is_whole-2-clause-shelves : goal.returns-then-is_whole-2-clause-shelves
returns-then-is_whole-2-clause-shelves g c =
    let loop = c.loop-seats in
    let left = c.args.shelves.now.items in
    let given = map (λ (s : UserSeat g.row.K.Denot). s.session.shelf) c.args.seats.items in
    let none = none_there loop.seats.items (sym loop.seats.ok.0 ∙ eqb-true (vec_len loop.seats) 0 (sym c.is_empty.ensures ∙ c.loop-seats-test.false)) in
    let row : loop.shelves.items ≡ left ++ given =
    sym (append-nil loop.shelves.items) ∙ ap (λ (ss : List (UserSeat g.row.K.Denot)). loop.shelves.items ++ map (λ (s : UserSeat g.row.K.Denot). s.session.shelf) ss) (sym none) ∙ loop.invariant.apart.shelves in
    c.rotate_left.ensures.items ∙ turned_round left given loop.shelves.items c.len-left.result row (c.len-left.ensures ∙ c.args.shelves.now.ok.0)

pub returns-then-is_whole-2-clause-transcripts : goal.returns-then-is_whole-2-clause-transcripts
returns-then-is_whole-2-clause-transcripts g c =
    let loop = c.loop-seats in
    let none = none_there loop.seats.items (sym loop.seats.ok.0 ∙ eqb-true (vec_len loop.seats) 0 (sym c.is_empty.ensures ∙ c.loop-seats-test.false)) in
    let whole : loop.is_whole ≡ true = search (rules, tests) in
    all_told g.K.Shelf.told g.K.Shelf.faults c.args.seats.items c.args.shelves.now.items loop.seats.items loop.shelves.items loop.transcripts.items none
    (subst (λ (b : Bool). AreApart g.K.Shelf.told g.K.Shelf.faults c.args.seats.items c.args.shelves.now.items loop.seats.items loop.shelves.items loop.transcripts.items b) whole loop.invariant.apart)
