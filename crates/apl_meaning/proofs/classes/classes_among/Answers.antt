use Rattle.std.proofs.Common.{◌≡◌, ◌++◌, List, ap, sym, subst, ◌∙◌, take}
use Rattle.std.specs.Prelude.{Option, IfSome, IsTrue}
use Rattle.std.specs.Option.{option_to_list}
use Rattle.apl_workspace.specs.Workspace.{look}
use Rattle.line_trees.specs.Classes.{come_before}
use Rattle.line_trees.specs.declared.class.Class.{Class}
use Rattle.apl_meaning.specs.Reading.{class_by, classes_among}
use Rattle.apl_meaning.proofs.ClassLemmas.{among_more, before_all, comes_last}
use Rattle.apl_meaning.proofs.classes.classes_among.Goals as goal

pub push_where-requires : goal.push_where-requires
push_where-requires c =
    let name = c.name-item.result in
    let is : c.class_seen.result ≡ class_by name (look c.args.ws.now name) = c.class_seen.ensures ∙ ap (class_by name) c.look.ensures.value in
    subst (λ (o : Option Class). IfSome o (λ last. IsTrue (come_before c.loop-name.classes.items last.name))) (sym is)
    (comes_last (look c.args.ws.now name) name c.loop-name.classes.items
    (ap (λ (classes : List Class). come_before classes name) c.loop-name.invariant ∙ before_all c.args.ws.now c.args.names.now c.loop-name.name-index name c.requires c.loop-name-test.true c.name-item.is))

pub loop-name-preserved : goal.loop-name-preserved
loop-name-preserved c =
    let name = c.name-item.result in
    let before = classes_among c.args.ws.now (take c.loop-name.name-index c.args.names.now) in
    let is : c.class_seen.result ≡ class_by name (look c.args.ws.now name) = c.class_seen.ensures ∙ ap (class_by name) c.look.ensures.value in
    c.in_ok-push_where.ensures ∙ ap (λ (classes : List Class). classes ++ option_to_list c.class_seen.result) c.loop-name.invariant ∙ ap (λ (o : Option Class). before ++ option_to_list o) is
    ∙ sym (among_more c.args.ws.now c.args.names.now c.loop-name.name-index name c.loop-name-test.true c.name-item.is)
