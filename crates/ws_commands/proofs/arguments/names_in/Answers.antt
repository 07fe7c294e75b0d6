use Rattle.std.proofs.Common.{◌≡◌, ◌∙◌, ap, refl, true}
use Rattle.std.proofs.lemmas.Bool.{false≢true}
use Rattle.apl_arrays.specs.Name.{is_name}
use Rattle.ws_commands.specs.Words.{words_in}
use Rattle.ws_commands.proofs.Objects.{are_names, no_names, one_name_more, still_names}
use Rattle.ws_commands.proofs.arguments.names_in.Goals as goal

pub returns-in-None : goal.returns-in-None
returns-in-None c =
    no_names (words_in c.args.line.now) (words_in c.loop-word.rest.now) (words_in c.in-Some.behind.now) c.loop-word.names.items c.in-Some.word.now c.loop-word.invariant.so c.in-Some.ensures.words (λ is. false≢true (c.in-None.ensures.known.1 is))

pub loop-word-preserved : goal.loop-word-preserved
loop-word-preserved c =
    let name = c.in-Some-of.name in
    let is : is_name name ≡ true = ap is_name c.in-Some-of.ensures.value ∙ c.in-Some-of.ensures.known.0 refl in
    record {
      so = one_name_more (words_in c.args.line.now) (words_in c.loop-word.rest.now) (words_in c.in-Some.behind.now) c.loop-word.names.items c.push.new.self.items c.in-Some.word.now name c.loop-word.invariant.so c.in-Some.ensures.words c.in-Some-of.ensures.value
          c.in_ok-push-in-Some-of.ensures.ok;
      are = still_names c.loop-word.names.items c.push.new.self.items name c.loop-word.invariant.are is c.in_ok-push-in-Some-of.ensures.ok;
    }

pub returns : goal.returns
returns c = are_names (words_in c.args.line.now) (words_in c.loop-word.rest.now) c.loop-word.names.items c.loop-word.invariant.so (rw c.in_default.is at c.first_word.ensures.words) c.loop-word.invariant.are
