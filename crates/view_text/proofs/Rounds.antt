-- A view's text is read as the view.
use Rattle.std.proofs.Common.{◌≡◌, ℕ, ◌+◌, List, [], ◌∷◌, ◌++◌, map, refl, sym, ◌∙◌, ap}
use Rattle.std.proofs.lemmas.List.{append_assoc}
use Rattle.std.specs.Prelude.{Option, Some, None, Result, Ok, option_and_then}
use Rattle.sc_text.specs.declared.elements.Element.{Element}
use Rattle.sc_text.specs.declared.end.End.{End}
use Rattle.proto_core.specs.declared.party.Number.{Number}
use Rattle.proto_core.proofs.Beginnings.{append-none}
use Rattle.view_text.specs.View.{InputShare, Received, View, AreInputs, AreReceived, AreOpened, IsView}
use Rattle.view_text.specs.Text.{Line, Heading, Input, Drew, Got, Opened, Ended, line_words, spaced, lines_bytes, lines_of, view_bytes}
use Rattle.view_text.specs.Reading.{Stage, AtHeading, AtInputs, AtMessages, AtOpenings, Whole, next_stage, line_in}
use Rattle.view_text.specs.Reading.{words_in_line, lines_in, or_fault, read_from, read_view_of}
use Rattle.view_text.proofs.Bytes.{split_at, words_back, spaced_free}
use Rattle.view_text.proofs.Found.{nothing_found, same_found}
use Rattle.view_text.proofs.Lines.{IsLine, line_back, line_plain, no_spaces, no_newlines}

abbrev pub AreLines : List Line → Type 0
AreLines [] = Unit {0}
AreLines (l ∷ ls) = IsLine l × AreLines ls

abbrev pub texts : List Line → List (List ℕ)
texts [] = [] ∷ []
texts (l ∷ ls) = spaced (line_words l) ∷ texts ls

cut : (ls : List Line) → AreLines ls → lines_in (lines_bytes ls) ≡ texts ls
cut [] h = refl
cut (l ∷ ls) h =
    split_at 10 (spaced (line_words l)) (lines_bytes ls) (spaced_free (line_words l) (no_newlines (line_words l) (line_plain l h.0))) refl
    ∙ ap (λ p. spaced (line_words l) ∷ p) (cut ls h.1)

-- each line has a first word
pub line_is_cut : (l : Line) → IsLine l → words_in_line (spaced (line_words l)) ≡ line_words l
line_is_cut (Heading i) h = words_back _ _ (no_spaces (line_words (Heading i)) (line_plain (Heading i) h))
line_is_cut (Input s) h = words_back _ _ (no_spaces (line_words (Input s)) (line_plain (Input s) h))
line_is_cut (Drew ws) h = words_back _ _ (no_spaces (line_words (Drew ws)) (line_plain (Drew ws) h))
line_is_cut (Got r) h = words_back _ _ (no_spaces (line_words (Got r)) (line_plain (Got r) h))
line_is_cut (Opened es) h = words_back _ _ (no_spaces (line_words (Opened es)) (line_plain (Opened es) h))
line_is_cut (Ended e) h = words_back _ _ (no_spaces (line_words (Ended e)) (line_plain (Ended e) h))

-- ---- from stage to stage

abbrev pub through : Stage → List Line → Option Stage
through stage [] = Some stage
through stage (l ∷ ls) = option_and_then (λ s. through s ls) (next_stage stage l)

texts_more : (k : ℕ) (stage : Stage) (l : List ℕ) (ls : List Line) →
    read_from k stage (l ∷ texts ls) ≡ or_fault k (option_and_then (next_stage stage) (line_in (words_in_line l))) (λ next. read_from (k + 1) next (texts ls))
texts_more k stage l [] = refl
texts_more k stage l (m ∷ ms) = refl

read_lines : (ls : List Line) (k : ℕ) (stage : Stage) (v : View) → AreLines ls → through stage ls ≡ Some (Whole v) → read_from k stage (texts ls) ≡ Ok v
read_lines [] k stage v h e = ap (λ s. read_from k s ([] ∷ [])) (same_found stage (Whole v) e)
read_lines (l ∷ ls) k stage v h e =
    texts_more k stage (spaced (line_words l)) ls
    ∙ ap (λ ws. or_fault k (option_and_then (next_stage stage) (line_in ws)) (λ next. read_from (k + 1) next (texts ls))) (line_is_cut l h.0)
    ∙ ap (λ x. or_fault k (option_and_then (next_stage stage) x) (λ next. read_from (k + 1) next (texts ls))) (line_back l h.0)
    ∙ by_stage (next_stage stage l) e (λ next g. read_lines ls (k + 1) next v h.1 g)
  where
    by_stage : (x : Option Stage) → option_and_then (λ s. through s ls) x ≡ Some (Whole v) →
        ((next : Stage) → through next ls ≡ Some (Whole v) → read_from (k + 1) next (texts ls) ≡ Ok v) →
        or_fault k x (λ next. read_from (k + 1) next (texts ls)) ≡ Ok v
    by_stage None e more = nothing_found (Whole v) e
    by_stage (Some next) e more = more next e

-- ---- the lines of a view

through_inputs : (i : Number) (before ss : List InputShare) (rest : List Line) →
    through (AtInputs i before) (map Input ss ++ rest) ≡ through (AtInputs i (before ++ ss)) rest
through_inputs i before [] rest = ap (λ x. through (AtInputs i x) rest) (sym (append-none before))
through_inputs i before (s ∷ ss) rest = through_inputs i (before ++ s ∷ []) ss rest ∙ ap (λ x. through (AtInputs i x) rest) (append_assoc before (s ∷ []) ss)

through_got : (i : Number) (ss : List InputShare) (ws : List ℕ) (before rs : List Received) (rest : List Line) →
    through (AtMessages i ss ws before) (map Got rs ++ rest) ≡ through (AtMessages i ss ws (before ++ rs)) rest
through_got i ss ws before [] rest = ap (λ x. through (AtMessages i ss ws x) rest) (sym (append-none before))
through_got i ss ws before (r ∷ rs) rest =
    through_got i ss ws (before ++ r ∷ []) rs rest ∙ ap (λ x. through (AtMessages i ss ws x) rest) (append_assoc before (r ∷ []) rs)

through_opened : (i : Number) (ss : List InputShare) (ws : List ℕ) (rs : List Received) (before os : List (List Element)) (rest : List Line) →
    through (AtOpenings i ss ws rs before) (map Opened os ++ rest) ≡ through (AtOpenings i ss ws rs (before ++ os)) rest
through_opened i ss ws rs before [] rest = ap (λ x. through (AtOpenings i ss ws rs x) rest) (sym (append-none before))
through_opened i ss ws rs before (o ∷ os) rest =
    through_opened i ss ws rs (before ++ o ∷ []) os rest ∙ ap (λ x. through (AtOpenings i ss ws rs x) rest) (append_assoc before (o ∷ []) os)

through_end : (i : Number) (ss : List InputShare) (ws : List ℕ) (rs : List Received) (os : List (List Element)) (e : End) →
    through (AtMessages i ss ws rs) (map Opened os ++ Ended e ∷ [])
    ≡ Some (Whole (record { miner = i; inputs = ss; drew = ws; got = rs; opened = os; end = e }))
through_end i ss ws rs [] e = refl
through_end i ss ws rs (o ∷ os) e = through_opened i ss ws rs (o ∷ []) os (Ended e ∷ [])

through_view : (v : View) → through AtHeading (lines_of v) ≡ Some (Whole v)
through_view v =
    through_inputs v.miner [] v.inputs (Drew v.drew ∷ (map Got v.got ++ (map Opened v.opened ++ Ended v.end ∷ [])))
    ∙ through_got v.miner v.inputs v.drew [] v.got (map Opened v.opened ++ Ended v.end ∷ [])
    ∙ through_end v.miner v.inputs v.drew v.got v.opened v.end

-- ---- all lines are good

pub good_append : (xs ys : List Line) → AreLines xs → AreLines ys → AreLines (xs ++ ys)
good_append [] ys h g = g
good_append (x ∷ xs) ys h g = (h.0, good_append xs ys h.1 g)

good_inputs : (ss : List InputShare) → AreInputs ss → AreLines (map Input ss)
good_inputs [] h = tt
good_inputs (s ∷ ss) h = (h.0, good_inputs ss h.1)

good_got : (rs : List Received) → AreReceived rs → AreLines (map Got rs)
good_got [] h = tt
good_got (r ∷ rs) h = (h.0, good_got rs h.1)

pub good_opened : (os : List (List Element)) → AreOpened os → AreLines (map Opened os)
good_opened [] h = tt
good_opened (o ∷ os) h = (h.0, good_opened os h.1)

good_lines : (v : View) → IsView v → AreLines (lines_of v)
good_lines v h = (
  tt,
  good_append (map Input v.inputs) _ (good_inputs v.inputs h.inputs) (
    h.drew,
    good_append (map Got v.got) _ (good_got v.got h.got)
        (good_append (map Opened v.opened) _ (good_opened v.opened h.opened) (record { how = h.ending; cost = h.cost }, tt)),
  ),
)

pub read_again : (v : View) → IsView v → read_view_of (view_bytes v) ≡ Ok v
unfolding read_view_of view_bytes
read_again v h =
    ap (read_from 1 AtHeading) (cut (lines_of v) (good_lines v h))
    ∙ read_lines (lines_of v) 1 AtHeading v (good_lines v h) (through_view v)

ok_is : (v w : View) (r : Result View ℕ) → r ≡ Ok v → r ≡ Ok w → v ≡ w
ok_is v w r e f = cc

pub same_texts : (v w : View) → IsView v → IsView w → view_bytes v ≡ view_bytes w → v ≡ w
same_texts v w h g e = ok_is v w (read_view_of (view_bytes v)) (read_again v h) (ap read_view_of e ∙ read_again w g)
