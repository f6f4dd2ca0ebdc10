use Rattle.std.proofs.Common.{ℕ, List, Option, option_map, ap, string_bytes, Bor}
use Rattle.view_text.specs.Pieces.{line_left, lines_left}
use Rattle.view_text.specs.Text.{lines_bytes}
use Rattle.view_text.proofs.Pieced.{more_of_line}
use Rattle.view_text.proofs.pieces.Pieces.push_next.Goals as goal

abbrev words_in : Option (Bor (List ℕ)) → Option (List ℕ)
words_in = option_map (λ w. w.now)

pub returns-in-Some : goal.returns-in-Some
returns-in-Some c =
    let p = c.args.self.now in
    let s =
    more_of_line (string_bytes c.args.text.now) (string_bytes c.push_line.new.text) (line_left (words_in c.in_ok-self.field-0)) (words_in p.line)
    c.in-Some.words.now (lines_bytes (lines_left p)) (ap words_in c.in-Some.is) c.in_ok-self.ensures.given c.in_ok-self.ensures.longer in
    record { given = s.same; falls = λ more. s.falls; through = λ never. absurd (cc) }
