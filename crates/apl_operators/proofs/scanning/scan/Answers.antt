use Rattle.std.proofs.Common.{◌≡◌, ◌<◌, ◌∙◌, List, ℕ, false, length, sym, ap, arith}
use Rattle.apl_arrays.specs.Array.{element_count, seen_items}
use Rattle.apl_items.specs.Axis.{axis_of, lacks_axis}
use Rattle.apl_operators.proofs.ScanLemmas.{no_count, some_items, scan_along_an_axis}
use Rattle.apl_operators.proofs.scanning.scan.Goals as goal
use Rattle.apl_operators.proofs.scanning.scan.Goals.{then-rank-eq0, else-rank-eq0}

pub returns-else-is_empty : goal.returns-else-is_empty
returns-else-is_empty c =
    elim c.if-rank-eq0.branch [
      | then-rank-eq0 w ↦ absurd (no_count (length c.shape-rank.result.now) c.if-rank-eq0.value w.if-rank-eq0.true w.value-is c.if-is_empty.false)
      | else-rank-eq0 w ↦
          let rank : length c.shape-rank.result.now ≡ length c.args.b.now.shape = ap (λ (s : List ℕ). length s) c.shape-rank.ensures.value in
          let named : lacks_axis (length c.args.b.now.shape) c.args.axis ≡ false = ap (λ (n : ℕ). lacks_axis n c.args.axis) (sym rank) ∙ sym c.if-lacks_axis.ensures in
          let some : 0 < length c.args.b.now.shape = omega (arith, rank, w.if-rank-eq0.false) in
          let items : 0 < element_count c.args.b.now.shape = some_items c.args.b.now (seen_items w.items.result) w.is_empty.result w.items.ensures.array w.items.ensures.value (sym w.value-is ∙ c.if-is_empty.false) w.is_empty.ensures in
          scan_along_an_axis c.args.f c.args.b.now c.args.way c.args.axis c.axis_of.result c.scanned.result named some items
          (c.axis_of.ensures.value ∙ ap (λ (n : ℕ). axis_of n c.args.way c.args.axis) rank) c.scanned.ensures
    ]
