use Rattle.std.proofs.Common.{◌≡◌, ◌+◌, ◌-◌, ◌<◌, ◌≤◌, ℕ, List, length, length-set, get_or, set, subst, sym, ap, ◌∙◌, arith, rules}
use Rattle.apl_search.proofs.ClassLemmas.{AreFirstsFrom, all_firsts, no_first_more, no_firsts, no_more, one_first_more}
use Rattle.apl_search.proofs.firsts.firsts_of.Goals as goal
use Rattle.apl_search.proofs.firsts.firsts_of.Goals.{then-of-count, else-of-count}

pub loop-gone-init : goal.loop-gone-init
loop-gone-init g c = record {
  wide = search rules;
  made = no_firsts (g.C.Classes.class c.args.classes.now) c.args.list.now (length c.args.list.now - 0) c.args.count c.resize.new.self.items
      (c.in_ok-resize.ensures.items ∙ no_more c.args.count _ (length c.args.list.now) _ c.new-firsts.result.items c.new-firsts.ensures.items c.new-firsts.ensures.len (omega (arith, c.requires.few))) (omega arith);
}

pub loop-gone-preserved : goal.loop-gone-preserved
loop-gone-preserved g c =
    let list = c.args.list.now in
    let class = g.C.Classes.class c.args.classes.now in
    let place : ℕ = length c.args.list.now - 1 - c.loop-gone.gone in
    let x = c.index-list-place.result in
    let of = c.class_of-of.result in
    let firsts = c.loop-gone.firsts.items in
    let below : place < length c.args.list.now = omega arith in
    let step : place + 1 ≡ length c.args.list.now - c.loop-gone.gone = omega arith in
    let here : class (get_or list place x) ≡ of = ap class (sym c.index-list-place.is) ∙ sym c.class_of-of.ensures in
    let wide = c.loop-gone.invariant.wide in
    let after : length c.args.list.now - (c.loop-gone.gone + 1) ≡ place = omega arith in
    elim c.if-of-count.branch [
      | then-of-count w ↦
          let is : c.if-of-count.firsts.items ≡ set firsts of place = ap (λ v. v.items) w.firsts-is in
          let within : of < length firsts = (let small = w.if-of-count.true in omega arith) in
          record {
            wide = ap (λ (xs : List ℕ). length xs) is ∙ length-set firsts of place ∙ wide;
            made = subst (λ (xs : List ℕ). AreFirstsFrom class list (length list - (c.loop-gone.gone + 1)) xs) (sym is)
                (subst (λ (at : ℕ). AreFirstsFrom class list at (set firsts of place)) (sym after)
                (one_first_more class list (length list - c.loop-gone.gone) place of x firsts c.loop-gone.invariant.made step below within here));
          }
      | else-of-count w ↦
          let is : c.if-of-count.firsts.items ≡ firsts = ap (λ v. v.items) w.firsts-is in
          let past : length firsts ≤ of = (let large = w.if-of-count.false in omega arith) in
          record {
            wide = ap (λ (xs : List ℕ). length xs) is ∙ wide;
            made = subst (λ (xs : List ℕ). AreFirstsFrom class list (length list - (c.loop-gone.gone + 1)) xs) (sym is)
                (subst (λ (at : ℕ). AreFirstsFrom class list at firsts) (sym after)
                (no_first_more class list (length list - c.loop-gone.gone) place of x firsts c.loop-gone.invariant.made step below past here));
          }
    ]

pub returns-clause-firsts : goal.returns-clause-firsts
returns-clause-firsts g c =
    all_firsts (g.C.Classes.class c.args.classes.now) c.args.list.now (length c.args.list.now - c.loop-gone.gone) c.loop-gone.firsts.items c.loop-gone.invariant.made (omega arith)
