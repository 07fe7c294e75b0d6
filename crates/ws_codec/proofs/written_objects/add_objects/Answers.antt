use Rattle.std.proofs.Common.{◌≡◌, length, arith, ◌∙◌}
use Rattle.std.proofs.lemmas.Result.{on_ok_weaker}
use Rattle.std.specs.Map.{keys_of}
use Rattle.ws_codec.specs.Kept.{kept_globals}
use Rattle.ws_codec.proofs.ByNames.{are_by_names, objects_put}
use Rattle.ws_codec.proofs.written_objects.add_objects.Goals as goal

pub overflow_cast-kept_count : goal.overflow_cast-kept_count
overflow_cast-kept_count c =
    let names : c.as_slice-names.result.now ≡ keys_of c.args.ws.now.globals = c.as_slice-names.ensures ∙ c.in_ok-names.ensures.value in
    let h = are_by_names c.args.ws.now c.as_slice-names.result.now c.in_ok-names.ensures.rules names in
    let count : c.kept_count.result ≡ length (kept_globals c.args.ws.now.globals) = c.kept_count.ensures.value ∙ h.count in
    omega (arith, count, h.few)

pub returns : goal.returns
returns c =
    let names : c.as_slice-names.result.now ≡ keys_of c.args.ws.now.globals = c.as_slice-names.ensures ∙ c.in_ok-names.ensures.value in
    let h = are_by_names c.args.ws.now c.as_slice-names.result.now c.in_ok-names.ensures.rules names in
    on_ok_weaker c.add_each.result
    (objects_put c.args.ws.now c.as_slice-names.result.now h c.kept_count.result c.kept_count.ensures.value c.args.bytes.now.items c.add_number32.new.bytes.items c.add_each.new.bytes.items c.in_ok-add_number32.ensures)
    c.add_each.ensures
