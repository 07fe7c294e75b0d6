use Rattle.std.proofs.Common.{rules, ◌≡◌, ◌∙◌, ◌≤◌, ◌++◌, ◌∷◌, [], ℕ, List, length, ap, subst, sym, arith}
use Rattle.std.specs.List.{All}
use Rattle.std.proofs.lemmas.Bool.Decides.{nat_tests}
use Rattle.apl_arrays.specs.Array.{PlainArray}
use Rattle.auxiliaries.specs.File.{most_file_bytes}
use Rattle.sv_text.specs.Value.{IsValue}
use Rattle.aux_components.specs.File.{file_bytes}
use Rattle.aux_components.proofs.FileLemmas.{at_end, no_array_line, one_more, values_more}
use Rattle.aux_components.proofs.file.components_of.Goals as goal

pub returns-in-None : goal.returns-in-None
returns-in-None c =
    no_array_line c.args.bytes.now c.loop-line.rest.now c.in-Some.line.now c.in-Some.behind.now c.loop-line.arrays.items c.loop-line.invariant.values c.loop-line.invariant.so_far c.in-Some.ensures.0 c.in-Some.ensures.1 (rw c.in-None.is at c.in_ok-array.ensures)

pub loop-line-preserved : goal.loop-line-preserved
loop-line-preserved c =
    let found = rw c.in-Some-2.is at c.in_ok-array.ensures in
    let pushed : c.push.new.self.items ≡ c.loop-line.arrays.items ++ c.in-Some-2.array ∷ [] = search rules in
    record {
      values = subst (All IsValue) (sym pushed) (values_more c.loop-line.arrays.items c.in-Some-2.array c.loop-line.invariant.values found.0);
      so_far = one_more c.args.bytes.now c.loop-line.rest.now c.in-Some.line.now c.in-Some.behind.now c.loop-line.arrays.items c.in-Some-2.array c.loop-line.invariant.so_far c.in-Some.ensures.0 found.1
          ∙ ap (λ (all : List PlainArray). file_bytes all ++ c.in-Some.behind.now) (sym pushed);
    }

pub returns : goal.returns
returns c =
    let small : length c.args.bytes.now ≤ most_file_bytes = grind (arith, nat_tests) in
    at_end (λ all. all.items) c.args.bytes.now c.loop-line.rest.now c.loop-line.arrays.items small c.loop-line.invariant.values c.loop-line.invariant.so_far (rw c.in_default.is at c.first_line.ensures) c.up_to_end.result c.up_to_end.ensures
