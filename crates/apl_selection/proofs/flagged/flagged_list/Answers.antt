use Rattle.std.proofs.Common.{get_or, pos, length, refl, ap, w64, ◌∙◌, arith, rules}
use Rattle.std.proofs.lemmas.Int.{to_z-of_z}
use Rattle.apl_arrays.specs.Number.{is_one}
use Rattle.apl_selection.specs.Compression.{list_at}
use Rattle.apl_selection.proofs.CompressLemmas.{kept_no, no_more_kept, one_more_kept}
use Rattle.apl_selection.proofs.FlaggedLemmas.{flag_test, list_more, room_for_kept}
use Rattle.apl_selection.proofs.flagged.flagged_list.Goals as goal
use Rattle.apl_selection.proofs.flagged.flagged_list.Goals.{then-is_one, else-is_one}

pub loop-place-preserved : goal.loop-place-preserved
loop-place-preserved g c =
    let flags = c.args.flags.now in
    let list = c.args.list.now in
    let place = c.loop-place.place in
    let made = c.loop-place.made in
    let test = flag_test flags place c.is_one.result c.loop-place-test.true (c.is_one.ensures ∙ ap is_one (to_z-of_z w64 (get_or flags place (pos 0)) (search rules))) in
    elim c.if-is_one.branch [
      | then-is_one w ↦ rw w.made-is (record {
        items = w.push_reserved.ensures.items
            ∙ list_more c.args.fill list flags place made.items w.index-list-place.result c.is_one.result c.loop-place.invariant.items c.requires.each w.index-list-place.is c.loop-place-test.true test w.if-is_one.true;
        len = w.push_reserved.ensures.len ∙ one_more_kept flags (length flags) place _ c.is_one.result c.loop-place.invariant.len test w.if-is_one.true;
        room = w.push_reserved.ensures.capacity ∙ c.loop-place.invariant.room;
      })
      | else-is_one w ↦ rw w.made-is (record {
        items = c.loop-place.invariant.items ∙ ap (list_at c.args.fill list) (kept_no flags (length flags) place _ c.is_one.result refl test w.if-is_one.false);
        len = no_more_kept flags (length flags) place _ c.is_one.result c.loop-place.invariant.len test w.if-is_one.false;
        room = c.loop-place.invariant.room;
      })
    ]

pub push_reserved-requires : goal.push_reserved-requires
push_reserved-requires g c =
    let flags = c.args.flags.now in
    let place = c.loop-place.place in
    let test = flag_test flags place c.is_one.result c.loop-place-test.true (c.is_one.ensures ∙ ap is_one (to_z-of_z w64 (get_or flags place (pos 0)) (search rules))) in
    let low = room_for_kept flags (length flags) place _ c.args.count c.is_one.result c.loop-place.invariant.len c.loop-place-test.true test c.if-is_one.true c.requires.count in
    let room = c.loop-place.invariant.room in
    omega arith
