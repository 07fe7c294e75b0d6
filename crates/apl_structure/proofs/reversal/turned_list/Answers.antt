use Rattle.std.proofs.Common.{◌≡◌, ◌<◌, ◌++◌, ◌∷◌, [], length, get_or, reverse, take, sym, ap, ◌∙◌, arith}
use Rattle.std.proofs.lemmas.List.{get_or-reverse, length-reverse, take_all, take_more}
use Rattle.apl_structure.proofs.reversal.turned_list.Goals as goal

pub loop-gone-preserved : goal.loop-gone-preserved
loop-gone-preserved g c =
    let list = c.args.list.now in
    let gone = c.loop-gone.gone in
    let x = c.index-list-list.result in
    let wide = length-reverse list in
    let inside : gone < length (reverse list) = (let below = c.loop-gone-test.true in omega arith) in
    let here : x ≡ get_or (reverse list) gone x = c.index-list-list.is ∙ sym (get_or-reverse list gone x c.loop-gone-test.true) in
    record {
      whole = omega (arith, c.push_reserved.ensures.len, c.loop-gone.invariant.whole);
      room = c.push_reserved.ensures.capacity ∙ c.loop-gone.invariant.room;
      items = c.push_reserved.ensures.items ∙ ap (λ ys. ys ++ x ∷ []) c.loop-gone.invariant.items
          ∙ ap (λ y. take gone (reverse list) ++ y ∷ []) here ∙ sym (take_more (reverse list) gone x inside);
    }

pub returns : goal.returns
returns g c =
    let wide = length-reverse c.args.list.now in
    c.from.ensures ∙ c.loop-gone.invariant.items ∙ take_all c.loop-gone.gone (reverse c.args.list.now) (omega arith)
