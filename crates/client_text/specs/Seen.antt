-- What the client sees of a run.
use Rattle.std.specs.Prelude.{List}
use Rattle.sc_text.specs.declared.end.End.{End}
pub use Rattle.client_text.specs.declared.seen.Sighting.{Sighting}
pub use Rattle.client_text.specs.declared.seen.Sighting.TheVariants.{Opened, Said, Got}

-- in order, and how the run ended
pub record ClientView : Type 0 where
  pub sightings : List Sighting
  pub end : End
