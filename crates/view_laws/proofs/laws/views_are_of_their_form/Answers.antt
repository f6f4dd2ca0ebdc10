use Rattle.view_laws.proofs.Views.{views_have_their_form}
use Rattle.view_laws.proofs.laws.views_are_of_their_form.Goals as goal

pub returns : goal.returns
returns c = views_have_their_form
