-- `answers::own::answer_all` meets its contract: it is the loop over a program to which each line is in form. Assumes nothing.
use Rattle.answers.proofs.Forgotten.{all_forgotten}
use Rattle.answers.proofs.own.answer_all.Goals as goal

pub returns : goal.returns
returns g c = all_forgotten c.answer_all_proved.ensures
