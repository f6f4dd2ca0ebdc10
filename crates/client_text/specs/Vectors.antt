-- A worked view: a value of one number is handed over between two publications.
use Rattle.std.specs.Prelude.{◌≡◌, ℕ, true, List, [], ◌∷◌, codes, refl}
use Rattle.std.specs.Fmt.{digits}
use Rattle.sc_text.specs.Elements.{element_text, elements_text}
use Rattle.sc_text.specs.declared.elements.Element.TheVariants.{Word, Truth}
use Rattle.sc_text.specs.declared.end.Ending.TheVariants.{Done}
use Rattle.sc_text.specs.Event.{event_line}
use Rattle.sc_text.specs.End.{end_line, ending_text}
use Rattle.client_text.specs.Seen.{Opened, Said, Got, ClientView}
use Rattle.client_text.specs.Text.{from_line, sighting_bytes, client_bytes}

view : ClientView
view =
    record {
      sightings =
          Said (codes "n") (Word 3 ∷ [])
          ∷ Got (codes "c") (record { first = 5 ∷ []; second = 18446744073709551611 ∷ []; third = 42 ∷ [] }) (Word 42 ∷ [])
          ∷ Opened (Truth true ∷ [])
          ∷ [];
      end = record { how = Done; cost = 7 };
    }

written :
    client_bytes view
    ≡ codes "client\npublish n 3\nfrom 1 c 5\nfrom 2 c 18446744073709551611\nfrom 3 c 42\npublish c 42\nopen true\nend done cost 7\n"
unfolding view client_bytes sighting_bytes from_line event_line elements_text element_text end_line ending_text digits
written = refl
