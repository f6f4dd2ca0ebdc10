use Rattle.view_laws.proofs.Views.{texts_tell_views}
use Rattle.view_laws.proofs.laws.equal_view_texts_are_of_equal_views.Goals as goal

pub returns : goal.returns
returns c = texts_tell_views
