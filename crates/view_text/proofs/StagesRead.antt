-- Which lines were taken where the reader stands.
use Rattle.std.proofs.Common.{◌≡◌, List, [], ◌∷◌, ◌++◌, map, refl, sym, ◌∙◌, ap, subst, lit<}
use Rattle.std.proofs.lemmas.List.{append_assoc, map-append}
use Rattle.std.specs.Prelude.{Some, option_and_then}
use Rattle.sc_text.specs.declared.elements.Element.{Element}
use Rattle.sc_text.specs.declared.end.Ending.TheVariants as endings
use Rattle.sc_text.specs.declared.end.End.{End}
use Rattle.proto_core.specs.declared.party.Number.TheVariants.{One}
use Rattle.proto_core.proofs.Beginnings.{append-none}
use Rattle.view_text.specs.View.{InputShare, Received, View, AreInputs, AreReceived, AreOpened, IsView}
use Rattle.view_text.specs.Text.{Line, Heading, Input, Drew, Got, Opened, Ended, lines_bytes, lines_of, line_words, spaced}
use Rattle.view_text.specs.Reading.{Stage, AtHeading, AtInputs, AtMessages, AtOpenings, Whole, next_stage}
use Rattle.view_text.proofs.Found.{nothing_found, same_found, next_found}
use Rattle.view_text.proofs.Lines.{IsEnd}
use Rattle.view_text.proofs.Rounds.{AreLines, through, good_append}

abbrev pub taken_lines : Stage → List Line
taken_lines AtHeading = []
taken_lines (AtInputs i ss) = Heading i ∷ map Input ss
taken_lines (AtMessages i ss ws rs) = Heading i ∷ (map Input ss ++ Drew ws ∷ map Got rs)
taken_lines (AtOpenings i ss ws rs os) = Heading i ∷ (map Input ss ++ Drew ws ∷ (map Got rs ++ map Opened os))
taken_lines (Whole v) = lines_of v

behind : (xs ys more : List Line) (drew : Line) → xs ++ drew ∷ (ys ++ more) ≡ (xs ++ drew ∷ ys) ++ more
behind xs ys more drew = sym (append_assoc xs (drew ∷ ys) more)

behind_both : (xs ys zs more : List Line) (drew : Line) → xs ++ drew ∷ (ys ++ (zs ++ more)) ≡ (xs ++ drew ∷ (ys ++ zs)) ++ more
behind_both xs ys zs more drew = ap (λ t. xs ++ drew ∷ t) (sym (append_assoc ys zs more)) ∙ behind xs (ys ++ zs) more drew

step_takes : (stage : Stage) (l : Line) (next : Stage) → next_stage stage l ≡ Some next → taken_lines next ≡ taken_lines stage ++ l ∷ []
step_takes AtHeading (Heading i) next h = ap taken_lines (sym (same_found _ next h))
step_takes (AtInputs i ss) (Input s) next h =
    ap taken_lines (sym (same_found _ next h)) ∙ ap (λ ls. Heading i ∷ ls) (map-append Input ss (s ∷ []))
step_takes (AtInputs i ss) (Drew ws) next h = ap taken_lines (sym (same_found _ next h))
step_takes (AtMessages i ss ws rs) (Got r) next h =
    ap taken_lines (sym (same_found _ next h))
    ∙ ap (λ ls. Heading i ∷ (map Input ss ++ Drew ws ∷ ls)) (map-append Got rs (r ∷ []))
    ∙ ap (λ ls. Heading i ∷ ls) (behind (map Input ss) (map Got rs) (Got r ∷ []) (Drew ws))
step_takes (AtMessages i ss ws rs) (Opened es) next h =
    ap taken_lines (sym (same_found _ next h)) ∙ ap (λ ls. Heading i ∷ ls) (behind (map Input ss) (map Got rs) (Opened es ∷ []) (Drew ws))
step_takes (AtMessages i ss ws rs) (Ended e) next h =
    ap taken_lines (sym (same_found _ next h)) ∙ ap (λ ls. Heading i ∷ ls) (behind (map Input ss) (map Got rs) (Ended e ∷ []) (Drew ws))
step_takes (AtOpenings i ss ws rs os) (Opened es) next h =
    ap taken_lines (sym (same_found _ next h))
    ∙ ap (λ ls. Heading i ∷ (map Input ss ++ Drew ws ∷ (map Got rs ++ ls))) (map-append Opened os (es ∷ []))
    ∙ ap (λ ls. Heading i ∷ ls) (behind_both (map Input ss) (map Got rs) (map Opened os) (Opened es ∷ []) (Drew ws))
step_takes (AtOpenings i ss ws rs os) (Ended e) next h =
    ap taken_lines (sym (same_found _ next h))
    ∙ ap (λ ls. Heading i ∷ ls) (behind_both (map Input ss) (map Got rs) (map Opened os) (Ended e ∷ []) (Drew ws))
step_takes stage l next h = nothing_found next h

pub through_takes : (ls : List Line) (stage last : Stage) → through stage ls ≡ Some last → taken_lines last ≡ taken_lines stage ++ ls
through_takes [] stage last h = ap taken_lines (sym (same_found stage last h)) ∙ sym (append-none (taken_lines stage))
through_takes (l ∷ ls) stage last h =
    next_found (λ s. through s ls) (next_stage stage l) last h
    (λ next first rest.
    through_takes ls next last rest
    ∙ ap (λ xs. xs ++ ls) (step_takes stage l next first)
    ∙ append_assoc (taken_lines stage) (l ∷ []) ls)

-- ---- the lines of a view are good where the view is

good_front : (xs ys : List Line) → AreLines (xs ++ ys) → AreLines xs
good_front [] ys h = tt
good_front (x ∷ xs) ys h = (h.0, good_front xs ys h.1)

good_rest : (xs ys : List Line) → AreLines (xs ++ ys) → AreLines ys
good_rest [] ys h = h
good_rest (x ∷ xs) ys h = good_rest xs ys h.1

inputs_good : (ss : List InputShare) → AreLines (map Input ss) → AreInputs ss
inputs_good [] h = tt
inputs_good (s ∷ ss) h = (h.0, inputs_good ss h.1)

got_good : (rs : List Received) → AreLines (map Got rs) → AreReceived rs
got_good [] h = tt
got_good (r ∷ rs) h = (h.0, got_good rs h.1)

opened_good : (os : List (List Element)) → AreLines (map Opened os) → AreOpened os
opened_good [] h = tt
opened_good (o ∷ os) h = (h.0, opened_good os h.1)

pub view_good : (v : View) → AreLines (lines_of v) → IsView v
view_good v h =
    let drawn = good_rest (map Input v.inputs) (Drew v.drew ∷ (map Got v.got ++ (map Opened v.opened ++ Ended v.end ∷ []))) h.1 in
    let opened = good_rest (map Got v.got) (map Opened v.opened ++ Ended v.end ∷ []) drawn.1 in
    let ended = good_rest (map Opened v.opened) (Ended v.end ∷ []) opened in
    record {
      inputs = inputs_good v.inputs (good_front (map Input v.inputs) (Drew v.drew ∷ (map Got v.got ++ (map Opened v.opened ++ Ended v.end ∷ []))) h.1);
      drew = drawn.0;
      got = got_good v.got (good_front (map Got v.got) (map Opened v.opened ++ Ended v.end ∷ []) drawn.1);
      opened = opened_good v.opened (good_front (map Opened v.opened) (Ended v.end ∷ []) opened);
      ending = ended.0.how;
      cost = ended.0.cost;
    }

-- ---- from each stage the text can be ended

at_once : End
at_once = record { how = endings.Done; cost = 0 }

abbrev ending_lines : Stage → List Line
ending_lines AtHeading = Heading One ∷ Drew [] ∷ Ended at_once ∷ []
ending_lines (AtInputs i ss) = Drew [] ∷ Ended at_once ∷ []
ending_lines (AtMessages i ss ws rs) = Ended at_once ∷ []
ending_lines (AtOpenings i ss ws rs os) = Ended at_once ∷ []
ending_lines (Whole v) = []

abbrev ended_view : Stage → View
ended_view AtHeading = record { miner = One; inputs = []; drew = []; got = []; opened = []; end = at_once }
ended_view (AtInputs i ss) = record { miner = i; inputs = ss; drew = []; got = []; opened = []; end = at_once }
ended_view (AtMessages i ss ws rs) = record { miner = i; inputs = ss; drew = ws; got = rs; opened = []; end = at_once }
ended_view (AtOpenings i ss ws rs os) = record { miner = i; inputs = ss; drew = ws; got = rs; opened = os; end = at_once }
ended_view (Whole v) = v

ends_whole : (stage : Stage) → through stage (ending_lines stage) ≡ Some (Whole (ended_view stage))
ends_whole AtHeading = refl
ends_whole (AtInputs i ss) = refl
ends_whole (AtMessages i ss ws rs) = refl
ends_whole (AtOpenings i ss ws rs os) = refl
ends_whole (Whole v) = refl

end_good : IsEnd at_once
unfolding at_once
end_good = record { how = tt; cost = lit< tt }

ending_good : (stage : Stage) → AreLines (ending_lines stage)
ending_good AtHeading = (tt, (tt, (end_good, tt)))
ending_good (AtInputs i ss) = (tt, (end_good, tt))
ending_good (AtMessages i ss ws rs) = (end_good, tt)
ending_good (AtOpenings i ss ws rs os) = (end_good, tt)
ending_good (Whole v) = tt

through_append : (ls more : List Line) (stage next last : Stage) → through stage ls ≡ Some next → through next more ≡ Some last →
    through stage (ls ++ more) ≡ Some last
through_append [] more stage next last h g = ap (λ s. through s more) (same_found stage next h) ∙ g
through_append (l ∷ ls) more stage next last h g =
    next_found (λ s. through s ls) (next_stage stage l) next h
    (λ s first rest. ap (option_and_then (λ x. through x (ls ++ more))) first ∙ through_append ls more s next last rest g)

pub lines_append : (ls more : List Line) → lines_bytes (ls ++ more) ≡ lines_bytes ls ++ lines_bytes more
lines_append [] more = refl
lines_append (l ∷ ls) more =
    ap (λ x. spaced (line_words l) ++ 10 ∷ x) (lines_append ls more)
    ∙ sym (append_assoc (spaced (line_words l)) (10 ∷ lines_bytes ls) (lines_bytes more))

-- lines that lead to a stage begin those of a view
pub record Continued (ls : List Line) : Type 0 where
  pub view : View
  pub more : List Line
  pub written : IsView view
  pub begins : lines_of view ≡ ls ++ more

pub continued : (ls : List Line) (last : Stage) → AreLines ls → through AtHeading ls ≡ Some last → Continued ls
continued ls last good h =
    let more = ending_lines last in
    let begins = through_takes (ls ++ more) AtHeading (Whole (ended_view last))
    (through_append ls more AtHeading last (Whole (ended_view last)) h (ends_whole last)) in
    record {
      view = ended_view last;
      more = more;
      written = view_good (ended_view last) (subst AreLines (sym begins) (good_append ls more good (ending_good last)));
      begins = begins;
    }
