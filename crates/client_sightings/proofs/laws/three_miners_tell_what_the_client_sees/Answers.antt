use Rattle.client_sightings.proofs.Together.{client_sees}
use Rattle.client_sightings.proofs.laws.three_miners_tell_what_the_client_sees.Goals as goal

pub returns : goal.returns
returns c = client_sees
