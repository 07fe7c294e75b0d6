-- What is copied to the front of pads is padded.
use Rattle.std.proofs.Common.{◌≤◌, ◌++◌, ℕ, List, length, drop, replicate, ◌∙◌, arith, length-append, length-drop}
use Rattle.std.proofs.Math.Seq.{drop-append_seam}
use Rattle.std.proofs.lemmas.List.{length-replicate, drop-replicate}
use Rattle.apl_arrays.specs.Padded.{IsPadded}

pub filled : (size pad : ℕ) (items : List ℕ) → length items ≤ size → IsPadded size pad (items ++ drop (length items) (replicate size pad)) (length items)
filled size pad items short = record {
  whole = omega (arith, length-append items (drop (length items) (replicate size pad)), length-drop (length items) (replicate size pad), length-replicate size pad);
  within = short;
  pads = drop-append_seam items (drop (length items) (replicate size pad)) ∙ drop-replicate (length items) size pad;
}
