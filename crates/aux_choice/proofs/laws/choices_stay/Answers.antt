use Rattle.aux_choice.proofs.ChoiceLemmas.{first_comes, first_stays, second_comes, second_stays}
use Rattle.aux_choice.proofs.laws.choices_stay.Goals as goal

pub returns : goal.returns
returns g c = record {
  first = first_stays g.X.Replier.forgets g.X.Replier.replies g.Y.Replier.forgets g.Y.Replier.replies;
  second = second_stays g.X.Replier.forgets g.X.Replier.replies g.Y.Replier.forgets g.Y.Replier.replies;
  first_comes = first_comes g.X.Replier.forgets g.X.Replier.replies g.X.Replier.wants g.Y.Replier.forgets g.Y.Replier.replies g.Y.Replier.wants;
  second_comes = second_comes g.X.Replier.forgets g.X.Replier.replies g.X.Replier.wants g.Y.Replier.forgets g.Y.Replier.replies g.Y.Replier.wants;
}
