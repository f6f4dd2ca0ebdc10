-- What is the first line of a text that no schedule's text has there.
use Rattle.std.specs.Prelude.{◌≡◌, ◌≢◌, ℕ, ◌+◌, List, [], ◌∷◌, ◌++◌, length}
use Rattle.proto_core.specs.declared.link.Link.{Link}
use Rattle.proto_core.specs.Parties.{link_text}
use Rattle.schedule_file.specs.Text.{schedule_bytes}

-- the lines before it are links, and what stands after them doesn't begin with a link and its newline
pub record IsFirstWrong (bytes : List ℕ) (number : ℕ) : Type 0 where
  pub before : List Link
  pub rest : List ℕ
  pub cut : bytes ≡ schedule_bytes before ++ rest
  pub counted : number ≡ length before + 1
  pub some : rest ≢ []
  pub wrong : (l : Link) (more : List ℕ) → rest ≢ link_text l ++ 10 ∷ more
