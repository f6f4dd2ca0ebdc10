-- A view's text piece by piece: each piece and what is left after it make what was left before.
use Rattle.std.proofs.Common.{◌≡◌, ◌<◌, ℕ, List, [], ◌∷◌, ◌++◌, map, take, drop, length, take-append-drop, Option, Some, None, refl, sym, ◌∙◌, ap, arith}
use Rattle.std.specs.Fmt.{decimal}
use Rattle.std.proofs.lemmas.List.{append_assoc, length-append}
use Rattle.std.proofs.lemmas.List.Concat.{flat_map-append}
use Rattle.sc_text.specs.declared.elements.Element.{Element}
use Rattle.sc_text.specs.declared.end.End.{End}
use Rattle.sc_text.specs.End.{end_line}
use Rattle.sc_text.specs.Elements.{elements_text}
use Rattle.sc_text.specs.Event.{event_line}
use Rattle.proto_core.proofs.Beginnings.{append-none}
use Rattle.proto_core.specs.Parties.{link_text}
use Rattle.view_text.specs.Pieces.{drew_left, end_left, line_left}
use Rattle.view_text.specs.View.{InputShare, Received}
use Rattle.view_text.specs.Text.{Line, Input, Drew, Got, Opened, Ended, lines_bytes, spaced, words_behind}
use Rattle.view_text.proofs.RunLines.{opened_line, ended_line}
use Rattle.view_text.proofs.StagesRead.{lines_append}

-- of a text t there was l left; now it is u, and m is left
pub record Step (t u l m : List ℕ) : Type 0 where
  pub same : u ++ m ≡ t ++ l
  pub falls : length m < length l

pub step : (t u l m : List ℕ) → u ++ m ≡ t ++ l → length t < length u → Step t u l m
step t u l m same longer = record { same = same; falls = omega (arith, simp length-append at (ap length same)) }

pub longer : (t u piece : List ℕ) (x : ℕ) → u ≡ t ++ x ∷ piece → length t < length u
longer t u piece x is = omega (arith, simp length-append at (ap length is))

-- the last line is no empty text
pub end_longer : (t u : List ℕ) (e : End) → u ≡ t ++ end_line e → length t < length u
unfolding end_line
end_longer t u e is = longer t u _ 101 is

step_by : (t u piece l m : List ℕ) (x : ℕ) → u ≡ t ++ x ∷ piece → (t ++ x ∷ piece) ++ m ≡ t ++ l → Step t u l m
step_by t u piece l m x is same = step t u l m (ap (λ (v : List ℕ). v ++ m) is ∙ same) (longer t u piece x is)

pub empty : {A : Type 0} (xs : List A) → length xs ≡ 0 → xs ≡ []
empty [] none = refl
empty (x ∷ xs) some = absurd (omega (arith, some))

words_are : (first words : List ℕ) → spaced (first ∷ map decimal words) ≡ first ++ words_behind words
words_are first [] = sym (append-none first)
words_are first (w ∷ ws) = ap (λ x. first ++ 32 ∷ x) (words_are (decimal w) ws)

-- a line's first words are given, the numbers and its newline are left
begun : (t first words rest line : List ℕ) → line ≡ first ++ words_behind words
    → (t ++ first) ++ ((words_behind words ++ 10 ∷ []) ++ rest) ≡ t ++ (line ++ 10 ∷ rest)
begun t first words rest line is = rw is (simp append_assoc)

pub drew_begun : (t words : List ℕ) (more : List Line)
    → (t ++ 100 ∷ 114 ∷ 101 ∷ 119 ∷ []) ++ ((words_behind words ++ 10 ∷ []) ++ lines_bytes more) ≡ t ++ lines_bytes (Drew words ∷ more)
drew_begun t words more = begun t (100 ∷ 114 ∷ 101 ∷ 119 ∷ []) words (lines_bytes more) _ (words_are (100 ∷ 114 ∷ 101 ∷ 119 ∷ []) words)

pub input_begun : (t : List ℕ) (s : InputShare) (more : List Line)
    → (t ++ 105 ∷ 110 ∷ 32 ∷ s.name) ++ ((words_behind s.words ++ 10 ∷ []) ++ lines_bytes more) ≡ t ++ lines_bytes (Input s ∷ more)
input_begun t s more =
    begun t (105 ∷ 110 ∷ 32 ∷ s.name) s.words (lines_bytes more) _ (ap (λ (x : List ℕ). 105 ∷ 110 ∷ 32 ∷ x) (words_are s.name s.words))

pub got_begun : (t : List ℕ) (r : Received) (more : List Line)
    → (t ++ 103 ∷ 111 ∷ 116 ∷ 32 ∷ link_text r.link) ++ ((words_behind r.message ++ 10 ∷ []) ++ lines_bytes more) ≡ t ++ lines_bytes (Got r ∷ more)
got_begun t r more =
    begun t (103 ∷ 111 ∷ 116 ∷ 32 ∷ link_text r.link) r.message (lines_bytes more) _
    (ap (λ (x : List ℕ). 103 ∷ 111 ∷ 116 ∷ 32 ∷ x) (words_are (link_text r.link) r.message))

-- a whole line is given
whole : (t piece : List ℕ) (l : Line) (more : List Line) → lines_bytes (l ∷ []) ≡ piece → (t ++ piece) ++ lines_bytes more ≡ t ++ lines_bytes (l ∷ more)
whole t piece l more is =
    append_assoc t piece (lines_bytes more)
    ∙ ap (λ (x : List ℕ). t ++ (x ++ lines_bytes more)) (sym is) ∙ ap (λ (x : List ℕ). t ++ x) (sym (lines_append (l ∷ []) more))

pub opened_given : (t : List ℕ) (es : List Element) (more : List Line)
    → (t ++ 111 ∷ 112 ∷ 101 ∷ 110 ∷ (elements_text es ++ 10 ∷ [])) ++ lines_bytes more ≡ t ++ lines_bytes (Opened es ∷ more)
unfolding event_line
opened_given t es more = whole t _ (Opened es) more (opened_line es)

pub end_given : (t : List ℕ) (e : End) → (t ++ end_line e) ++ [] ≡ t ++ lines_bytes (Ended e ∷ [])
end_given t e = whole t (end_line e) (Ended e) [] (ended_line e)

-- the next words of a line, of which there are as many as these
pub words_given : (t words : List ℕ) (n : ℕ)
    → (t ++ words_behind (take n words)) ++ (words_behind (drop n words) ++ 10 ∷ []) ≡ t ++ (words_behind words ++ 10 ∷ [])
words_given t words n =
    let cut : words_behind words ≡ words_behind (take n words) ++ words_behind (drop n words) =
    ap words_behind (sym (take-append-drop n words)) ∙ flat_map-append (λ (word : ℕ). 32 ∷ decimal word) (take n words) (drop n words) in
    rw cut (simp append_assoc)

-- all words of a line and its newline
pub last_given : (t words rest : List ℕ) (n : ℕ) → rest ≡ drop n words → rest ≡ []
    → ((t ++ words_behind (take n words)) ++ 10 ∷ []) ++ [] ≡ t ++ (words_behind words ++ 10 ∷ [])
last_given t words rest n is none =
    append-none ((t ++ words_behind (take n words)) ++ 10 ∷ [])
    ∙ ap (λ (x : List ℕ). (t ++ words_behind (take n words)) ++ (words_behind x ++ 10 ∷ [])) (sym none ∙ is) ∙ words_given t words n

-- more of the words that a line has left
pub more_of_line : (t u left : List ℕ) (o : Option (List ℕ)) (words rest : List ℕ) → o ≡ Some words → u ++ left ≡ t ++ line_left (Some words)
    → length t < length u → Step t u (line_left o ++ rest) (left ++ rest)
more_of_line t u left o words rest is given more =
    step t u _ _
    (sym (append_assoc u left rest) ∙ ap (λ (x : List ℕ). x ++ rest) given ∙ append_assoc t (line_left (Some words)) rest
    ∙ ap (λ (x : Option (List ℕ)). t ++ (line_left x ++ rest)) (sym is)) more

pub words_longer : (ws : List ℕ) → 0 < length ws → 0 < length (words_behind ws)
words_longer [] some = absurd (omega (arith, some))
words_longer (w ∷ ws) some = omega arith

-- ---- a line is begun or given whole, of what a view has left

module _ (t u : List ℕ) (o : Option (List ℕ)) (unbegun : o ≡ None) (inputs : List InputShare) where
  pub begin_input : (name words : List ℕ) (s : InputShare) (rest : List InputShare) (more : List Line) → inputs ≡ s ∷ rest → name ≡ s.name → words ≡ s.words
      → u ≡ t ++ 105 ∷ 110 ∷ 32 ∷ name
      → Step t u (line_left o ++ lines_bytes (map Input inputs ++ more)) (line_left (Some words) ++ lines_bytes (map Input rest ++ more))
  begin_input name words s rest more is named same given =
      step_by t u _ _ _ _ given (rw (unbegun, is, named, same) (input_begun t s (map Input rest ++ more)))

  module _ (none : length inputs ≡ 0) (d : Option (List ℕ)) where
    pub begin_drew : (words : List ℕ) (more : List Line) → d ≡ Some words → u ≡ t ++ 100 ∷ 114 ∷ 101 ∷ 119 ∷ []
        → Step t u (line_left o ++ lines_bytes (map Input inputs ++ (drew_left d ++ more)))
        (line_left (Some words) ++ lines_bytes (map Input inputs ++ (drew_left None ++ more)))
    begin_drew words more is given = step_by t u _ _ _ _ given (rw (unbegun, empty inputs none, is) (drew_begun t words more))

    module _ (drawn : d ≡ None) (got : List Received) where
      pub begin_got : (words : List ℕ) (r : Received) (rest : List Received) (more : List Line) → got ≡ r ∷ rest → words ≡ r.message
          → u ≡ t ++ 103 ∷ 111 ∷ 116 ∷ 32 ∷ link_text r.link
          → Step t u (line_left o ++ lines_bytes (map Input inputs ++ (drew_left d ++ (map Got got ++ more))))
          (line_left (Some words) ++ lines_bytes (map Input inputs ++ (drew_left d ++ (map Got rest ++ more))))
      begin_got words r rest more is same given =
          step_by t u _ _ _ _ given (rw (unbegun, empty inputs none, drawn, is, same) (got_begun t r (map Got rest ++ more)))

      module _ (all : length got ≡ 0) (opened : List (List Element)) where
        pub give_opened : (es : List Element) (rest : List (List Element)) (more : List Line) → opened ≡ es ∷ rest
            → u ≡ t ++ 111 ∷ 112 ∷ 101 ∷ 110 ∷ (elements_text es ++ 10 ∷ [])
            → Step t u (line_left o ++ lines_bytes (map Input inputs ++ (drew_left d ++ (map Got got ++ (map Opened opened ++ more)))))
            (line_left o ++ lines_bytes (map Input inputs ++ (drew_left d ++ (map Got got ++ (map Opened rest ++ more)))))
        give_opened es rest more is given =
            step_by t u _ _ _ _ given (rw (unbegun, empty inputs none, drawn, empty got all, is) (opened_given t es (map Opened rest ++ more)))

        pub give_end : (end : Option End) (e : End) → length opened ≡ 0 → end ≡ Some e → u ≡ t ++ end_line e → length t < length u
            → Step t u (line_left o ++ lines_bytes (map Input inputs ++ (drew_left d ++ (map Got got ++ (map Opened opened ++ end_left end)))))
            (line_left o ++ lines_bytes (map Input inputs ++ (drew_left d ++ (map Got got ++ (map Opened opened ++ end_left None)))))
        give_end end e last is given more =
            step t u _ _
            (ap (λ (v : List ℕ). v ++ (line_left o ++ lines_bytes (map Input inputs ++ (drew_left d ++ (map Got got ++ (map Opened opened ++ end_left None)))))) given
            ∙ rw (unbegun, empty inputs none, drawn, empty got all, empty opened last, is) (end_given t e)) more

-- ---- the whole text

pub behind_first : (name : List ℕ) (ls more : List Line) → ls ≡ more → (name ++ 10 ∷ []) ++ lines_bytes ls ≡ name ++ 10 ∷ lines_bytes more
behind_first name ls more is = append_assoc name (10 ∷ []) (lines_bytes ls) ∙ ap (λ (x : List Line). name ++ 10 ∷ lines_bytes x) is
