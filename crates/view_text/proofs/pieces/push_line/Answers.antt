use Rattle.std.proofs.Common.{◌≡◌, ◌<◌, ℕ, List, [], ◌∷◌, ◌++◌, length, take, ap, ◌∙◌, arith, string_bytes, rules}
use Rattle.std.proofs.lemmas.List.{length-append}
use Rattle.view_text.specs.Text.{words_behind}
use Rattle.view_text.proofs.Pieced.{empty, last_given, words_given, words_longer}
use Rattle.view_text.proofs.pieces.push_line.Goals as goal

pub returns-then-is_empty : goal.returns-then-is_empty
returns-then-is_empty c =
    let t = string_bytes c.args.text.now in
    let none : length c.split_at.result.1.now ≡ 0 = search rules in
    let pushed : string_bytes c.push_words.new.text ≡ t ++ words_behind (take c.min.result c.args.words.now) =
    c.in_ok-push_words.ensures ∙ ap (λ (f : List ℕ). t ++ words_behind f) c.split_at.ensures.front in
    record {
      given =
          ap (λ (v : List ℕ). v ++ []) (c.in_ok-writeln.ensures.bytes ∙ ap (λ (v : List ℕ). v ++ 10 ∷ []) pushed)
          ∙ last_given t c.args.words.now c.split_at.result.1.now c.min.result c.split_at.ensures.back (empty c.split_at.result.1.now none);
      longer =
          omega (arith, simp length-append at (ap length c.in_ok-writeln.ensures.bytes), simp length-append at (ap length c.in_ok-push_words.ensures));
    }

pub returns : goal.returns
returns c =
    let t = string_bytes c.args.text.now in
    let words = c.args.words.now in
    let n = c.min.result in
    let some : 0 < length c.split_at.result.1.now = search rules in
    let pushed : string_bytes c.push_words.new.text ≡ t ++ words_behind (take n words) =
    c.in_ok-push_words.ensures ∙ ap (λ (f : List ℕ). t ++ words_behind f) c.split_at.ensures.front in
    record {
      given =
          ap (λ (v : List ℕ). v ++ (words_behind c.split_at.result.1.now ++ 10 ∷ [])) pushed
          ∙ ap (λ (r : List ℕ). (t ++ words_behind (take n words)) ++ (words_behind r ++ 10 ∷ [])) c.split_at.ensures.back ∙ words_given t words n;
      longer =
          omega (arith, simp length-append at (ap length c.in_ok-push_words.ensures), words_longer c.split_at.result.0.now (omega (arith, c.split_at.ensures.front_len, c.split_at.ensures.back_len, c.min.ensures)));
    }
