use Rattle.std.proofs.Common.{◌≡◌, ◌-◌, List, ℕ, take, drop, min, length, arith, ◌∙◌, ap}
use Rattle.std.proofs.lemmas.List.{take_all, length-drop}
use Rattle.apl_io.proofs.Streams.{front_read}
use Rattle.apl_io.proofs.memory_source.MemorySourceSource.read.Goals as goal

pub returns-clause-bytes : goal.returns-clause-bytes
returns-clause-bytes c =
    let inside = c.self.inside in
    let all = c.as_slice.result.now in
    let left = drop inside.given inside.bytes.items in
    let rest : take (length all - inside.given) (drop inside.given all) ≡ left =
    take_all _ _ (omega (arith, length-drop inside.given all)) ∙ ap (λ (l : List ℕ). drop inside.given l) c.as_slice.ensures in
    let count : c.min-count.result ≡ min (min (length left) inside.piece) (length c.args.into.now) = cc in
    let front : c.copy_from_slice.new.self ≡ take c.min-count.result left = cc in
    let told : c.args.self.now.left ≡ left = cc in
    rw told (front_read inside.bytes.items c.args.into.now c.copy_from_slice.new.self inside.given inside.piece c.min-count.result c.self.invariant.1 count front)
