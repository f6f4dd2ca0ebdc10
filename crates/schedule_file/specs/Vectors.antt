-- Worked texts, and what is read of them.
use Rattle.std.specs.Prelude.{◌≡◌, ℕ, List, [], ◌∷◌, ◌++◌, codes, refl, Ok, Err}
use Rattle.proto_core.specs.declared.link.Link.{Link}
use Rattle.proto_core.specs.declared.link.Link.TheVariants.{Link12, Link13, Link21, Link23, Link31, Link32}
use Rattle.schedule_file.specs.Text.{schedule_bytes}
use Rattle.schedule_file.specs.Reading.{links_of}

-- the deliveries of a product and its opening
fifteen : List Link
fifteen =
    Link12 ∷ Link23 ∷ Link23 ∷ Link31 ∷ Link12 ∷ Link23 ∷ Link31 ∷ Link12 ∷ Link21 ∷ Link23 ∷ Link31 ∷ Link12 ∷ Link13 ∷ Link31 ∷ Link32 ∷ []

text : List ℕ
text = codes "12\n23\n23\n31\n12\n23\n31\n12\n21\n23\n31\n12\n13\n31\n"

written : schedule_bytes fifteen ≡ text ++ codes "32\n"
unfolding fifteen text
written = refl

read : links_of (text ++ codes "32\n") ≡ Ok fifteen
unfolding fifteen text links_of
read = refl

empty : links_of [] ≡ Ok []
unfolding links_of
empty = refl

without_last_newline : links_of (text ++ codes "32") ≡ Err 15
unfolding text links_of
without_last_newline = refl

no_link : links_of (codes "12\n11\n13\n") ≡ Err 2
unfolding links_of
no_link = refl

empty_line : links_of (codes "12\n\n") ≡ Err 2
unfolding links_of
empty_line = refl

space_behind : links_of (codes "12 \n") ≡ Err 1
unfolding links_of
space_behind = refl
