use Rattle.std.proofs.Common.{IsOk, length, refl, subst, sym}
use Rattle.apl_verbs.specs.declared.verb.Mix2.{Mix2}
use Rattle.apl_items.specs.Places.{OnWantOfMemory}
use Rattle.apl_search.specs.Decode.{decode_faults}
use Rattle.apl_search.specs.Encode.{encode_faults}
use Rattle.apl_selection.proofs.WantLemmas.{on_want}
use Rattle.apl_structure.specs.Diagonals.{axes_by_faults}
use Rattle.apl_structure.specs.Rotation.{rotate_faults}
use Rattle.apl_structure.specs.Taking.{axes_faults}
use Rattle.operator_rules.specs.Apply.{mixed_dyadic_of}
use Rattle.apl_operators.proofs.WantLemmas.{on_no_faults, on_one_axis}
use Rattle.apl_operators.proofs.applying.mixed_dyadic.Goals as goal

pub returns-in-Reshape-clause-memory : goal.returns-in-Reshape-clause-memory
returns-in-Reshape-clause-memory c = subst (λ (f : Mix2). OnWantOfMemory c.reshape.result (IsOk (mixed_dyadic_of f c.args.a.now c.args.b.now c.args.axis))) (sym c.in-Reshape.is) c.reshape.ensures.memory

pub returns-in-Catenate-clause-memory : goal.returns-in-Catenate-clause-memory
returns-in-Catenate-clause-memory c = subst (λ (f : Mix2). OnWantOfMemory c.catenate.result (IsOk (mixed_dyadic_of f c.args.a.now c.args.b.now c.args.axis))) (sym c.in-Catenate.is) c.catenate.ensures.memory

pub returns-in-Take-clause-memory : goal.returns-in-Take-clause-memory
returns-in-Take-clause-memory c = subst (λ (f : Mix2). OnWantOfMemory c.take.result (IsOk (mixed_dyadic_of f c.args.a.now c.args.b.now c.args.axis))) (sym c.in-Take.is) c.take.ensures.memory

pub returns-in-Drop-clause-memory : goal.returns-in-Drop-clause-memory
returns-in-Drop-clause-memory c = subst (λ (f : Mix2). OnWantOfMemory c.drop_items.result (IsOk (mixed_dyadic_of f c.args.a.now c.args.b.now c.args.axis))) (sym c.in-Drop.is) (on_no_faults c.drop_items.result (axes_faults c.args.a.now c.args.b.now) _ c.drop_items.ensures.memory)

pub returns-in-Rotate-clause-memory : goal.returns-in-Rotate-clause-memory
returns-in-Rotate-clause-memory c = subst (λ (f : Mix2). OnWantOfMemory c.rotate.result (IsOk (mixed_dyadic_of f c.args.a.now c.args.b.now c.args.axis))) (sym c.in-Rotate.is) (on_no_faults c.rotate.result (rotate_faults c.args.a.now c.args.b.now c.in-Rotate.way c.args.axis) _ c.rotate.ensures.memory)

pub returns-in-TransposeBy-clause-memory : goal.returns-in-TransposeBy-clause-memory
returns-in-TransposeBy-clause-memory c = subst (λ (f : Mix2). OnWantOfMemory c.transpose_by.result (IsOk (mixed_dyadic_of f c.args.a.now c.args.b.now c.args.axis))) (sym c.in-TransposeBy.is) (on_no_faults c.transpose_by.result (axes_by_faults c.args.a.now c.args.b.now) _ c.transpose_by.ensures.memory)

pub returns-in-Compress-clause-memory : goal.returns-in-Compress-clause-memory
returns-in-Compress-clause-memory c = subst (λ (f : Mix2). OnWantOfMemory c.compress_by.result (IsOk (mixed_dyadic_of f c.args.a.now c.args.b.now c.args.axis))) (sym c.in-Compress.is) c.compress_by.ensures.memory

pub returns-in-Expand-clause-memory : goal.returns-in-Expand-clause-memory
returns-in-Expand-clause-memory c = subst (λ (f : Mix2). OnWantOfMemory c.expand.result (IsOk (mixed_dyadic_of f c.args.a.now c.args.b.now c.args.axis))) (sym c.in-Expand.is) c.expand.ensures.memory

pub returns-in-IndexOf-clause-memory : goal.returns-in-IndexOf-clause-memory
returns-in-IndexOf-clause-memory c = subst (λ (f : Mix2). OnWantOfMemory c.index_of.result (IsOk (mixed_dyadic_of f c.args.a.now c.args.b.now c.args.axis))) (sym c.in-IndexOf.is) (on_one_axis c.index_of.result (length c.args.a.now.shape) _ c.index_of.ensures.memory)

pub returns-in-Member-clause-memory : goal.returns-in-Member-clause-memory
returns-in-Member-clause-memory c = subst (λ (f : Mix2). OnWantOfMemory c.member.result (IsOk (mixed_dyadic_of f c.args.a.now c.args.b.now c.args.axis))) (sym c.in-Member.is) (on_want c.member.result _ refl)

pub returns-in-Encode-clause-memory : goal.returns-in-Encode-clause-memory
returns-in-Encode-clause-memory c = subst (λ (f : Mix2). OnWantOfMemory c.encode.result (IsOk (mixed_dyadic_of f c.args.a.now c.args.b.now c.args.axis))) (sym c.in-Encode.is) (on_no_faults c.encode.result (encode_faults c.args.a.now c.args.b.now) _ c.encode.ensures.memory)

pub returns-in-Decode-clause-memory : goal.returns-in-Decode-clause-memory
returns-in-Decode-clause-memory c = subst (λ (f : Mix2). OnWantOfMemory c.decode.result (IsOk (mixed_dyadic_of f c.args.a.now c.args.b.now c.args.axis))) (sym c.in-Decode.is) (on_no_faults c.decode.result (decode_faults c.args.a.now c.args.b.now) _ c.decode.ensures.memory)
