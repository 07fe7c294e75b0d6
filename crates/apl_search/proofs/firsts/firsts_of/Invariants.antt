use Rattle.std.proofs.Common.{◌≡◌, ◌-◌, length}
use Rattle.apl_search.proofs.ClassLemmas.{AreFirstsFrom}
use Rattle.apl_search.proofs.firsts.firsts_of.Given as goal

-- the first places among the last places so far
abbrev pub invariant-loop-gone : goal.invariant-loop-gone
invariant-loop-gone g l = record {
  wide : length l.firsts.items ≡ l.count;
  made : AreFirstsFrom (g.C.Classes.class l.classes) l.list (l.long - l.gone) l.firsts.items;
}
