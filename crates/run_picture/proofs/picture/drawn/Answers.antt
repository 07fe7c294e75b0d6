use Rattle.std.proofs.Common.{◌≡◌, ◌≤◌, ◌+◌, ◌-◌, List, [], ◌∷◌, ◌++◌, codes, ℕ, map, length, drop, sym, ap, ◌∙◌, subst, arith}
use Rattle.std.specs.List.{All, sum}
use Rattle.std.proofs.lemmas.List.{length-map, length-take}
use Rattle.sv_events.specs.Entry.{PlainEntry, plain_entry}
use Rattle.run_picture.specs.Figure.{stroke}
use Rattle.run_picture.specs.Layout.{page_width}
use Rattle.run_picture.specs.Link.{height_of}
use Rattle.run_picture.specs.Tag.{markup}
use Rattle.run_picture.specs.Window.{entries_in}
use Rattle.run_picture.proofs.Drawn.{picture_told, plain_in}
use Rattle.run_picture.proofs.Rows.{same_map}
use Rattle.run_picture.proofs.picture.drawn.Goals as goal

pub add_rows-requires-clause-scene : goal.add_rows-requires-clause-scene
add_rows-requires-clause-scene c =
    let front : length c.entries_in-among.result.now ≤ c.args.shown.now.shown = omega (arith, ap length c.entries_in-among.ensures, length-take c.args.shown.now.shown (drop (c.args.shown.now.first - 1) c.args.entries.now)) in
    let one_list : c.as_slice.result.now ≡ c.as_slice-2.result.now = c.as_slice.ensures ∙ sym c.as_slice-2.ensures in
    record {
      few = omega (arith, front);
      lanes = omega (arith, front, ap length c.as_slice-2.ensures, c.in_ok-lanes.ensures.few);
      heights = c.deref.ensures.value ∙ (c.in_ok-heights.ensures.heights ∙ ap (λ (list : List ℕ). map (λ e. height_of list (map plain_entry c.args.entries.now) (plain_entry e)) c.entries_in-among.result.now) one_list);
      small = subst (λ (list : List ℕ). All (λ height. (26 ≤ height) × (height ≤ 404)) list) (sym c.deref.ensures.value) c.in_ok-heights.ensures.small;
    }

pub returns : goal.returns
returns c =
    let window = c.args.shown.now in
    let journal = map plain_entry c.args.entries.now in
    let shown = map plain_entry c.entries_in-among.result.now in
    let are : shown ≡ entries_in window journal = ap (map plain_entry) c.entries_in-among.ensures ∙ plain_in window c.args.entries.now in
    let one_list : c.as_slice.result.now ≡ c.as_slice-2.result.now = c.as_slice.ensures ∙ sym c.as_slice-2.ensures in
    let in_heights : c.deref.result.now ≡ map (λ e. height_of c.as_slice-2.result.now journal e) shown =
    c.deref.ensures.value
    ∙ (c.in_ok-heights.ensures.heights
    ∙ (same_map (λ (e : PlainEntry). height_of c.as_slice.result.now journal e) c.entries_in-among.result.now
    ∙ ap (λ (list : List ℕ). map (λ e. height_of list journal e) shown) one_list)) in
    let ruled : c.add_rule.new.bytes.items ≡ c.add_rows.new.bytes.items ++ markup (stroke (codes "rule") 0 c.bottom-low.result (page_width (length c.as_slice-2.result.now)) c.bottom-low.result ∷ []) =
    c.in_ok-add_rule.ensures
    ∙ ap (λ (list : List ℕ). c.add_rows.new.bytes.items ++ markup (stroke (codes "rule") 0 c.bottom-low.result (page_width (length list)) c.bottom-low.result ∷ [])) (c.as_slice-3.ensures ∙ sym c.as_slice-2.ensures) in
    let low_is : c.bottom-low.result ≡ 72 + sum c.deref.result.now = c.bottom-low.ensures.edge ∙ ap (λ (list : List ℕ). 72 + sum list) (c.deref-2.ensures.value ∙ sym c.deref.ensures.value) in
    picture_told c.new-bytes.result.items c.add_head.new.bytes.items c.add_rows.new.bytes.items c.add_rule.new.bytes.items c.add_meanings.new.bytes.items c.add_word.new.bytes.items window journal shown c.as_slice-2.result.now c.deref.result.now c.bottom-low.result (length c.args.entries.now) are (c.as_slice-2.ensures ∙ c.in_ok-lanes.ensures.lanes) in_heights low_is (sym (length-map c.args.entries.now plain_entry)) c.new-bytes.ensures.items c.in_ok-add_head.ensures c.in_ok-add_rows.ensures ruled c.in_ok-add_meanings.ensures c.in_ok-add_word.ensures.text
