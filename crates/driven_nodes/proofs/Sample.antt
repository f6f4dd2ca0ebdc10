-- A small run for which all premises hold: a word is made and opened, which the miners must be told to go on, and then the run is
-- over.
use Rattle.std.proofs.Common.{◌≡◌, ◌≢◌, ℕ, zero, suc, false, List, [], ◌∷◌, ◌++◌, refl, ap, subst}
use Rattle.proto_core.specs.declared.party.Number.{Number}
use Rattle.proto_core.specs.Strand.{Unsigned, Notice, Shown}
use Rattle.protocol_model.specs.Gates.{Local}
use Rattle.driven_nodes.specs.Driven.{path, stop, notices}
use Rattle.driven_nodes.specs.Steps.{Went, On, Over, Wants, Steps, Running, Stopped, ToRun, last_of, next_turn}
use Rattle.driven_nodes.specs.Twins.{Course, Reads, Twins, TwinBy, told}
use Rattle.driven_nodes.proofs.NodeRuns.{RunsJoin, SameRunAs, nodes_run_the_gates}

-- all three miners know the word that a gate makes
abbrev known_words : ToRun ℕ
known_words before [] = []
known_words before (w ∷ more) = Local 1 (λ i values. w ∷ []) ∷ known_words before more

-- places are counted; from the first on 7 was made
abbrev words_made : ℕ → List ℕ
words_made zero = []
words_made (suc k) = 7 ∷ []

abbrev knowing : Course ℕ ℕ
knowing =
    record {
      step = λ c. elim c as (λ _. Went ℕ) [ zero ↦ On 1 | suc _ ↦ Over 2 ];
      gates = words_made;
      opened = words_made;
    }

abbrev first_step : List ℕ → Went ℕ
first_step [] = Wants 1
first_step (w ∷ ws) = On 1

abbrev asking : Steps ℕ ℕ
asking =
    record {
      step = λ p told. elim p as (λ _. Went ℕ) [ zero ↦ first_step told | suc _ ↦ Over 2 ];
      gates = words_made;
      notices = λ before after values.
          elim before as (λ _. List Notice)
          [ zero ↦ Shown (record { element = Unsigned; array = false }) (last_of values) ∷ [] | suc _ ↦ [] ];
    }

abbrev Same : ℕ → ℕ → Type 0
Same c p = c ≡ p

there_is_one : words_made 1 ≢ []
there_is_one e = cc

twins : Twins knowing asking Same Same
twins =
    record {
      same_gates = λ c p e. ap words_made e;
      same_at_end = λ c p e. ap words_made e;
      law = λ c p e. subst (λ p. TwinBy knowing asking Same Same c p (knowing.step c)) e (of_itself c);
    }
  where
    of_itself : (c : ℕ) → TwinBy knowing asking Same Same c c (knowing.step c)
    of_itself zero = (1, refl, refl, told 1 there_is_one refl refl refl)
    of_itself (suc c) = (2, refl, refl)

behind_any : (before other ys : List ℕ) → known_words before ys ≡ known_words other ys
behind_any before other [] = refl
behind_any before other (y ∷ ys) = ap (λ v. Local 1 (λ i values. y ∷ []) ∷ v) (behind_any before other ys)

in_parts : (before other xs ys : List ℕ) → known_words before (xs ++ ys) ≡ known_words before xs ++ known_words other ys
in_parts before other [] ys = behind_any before other ys
in_parts before other (x ∷ xs) ys = ap (λ v. Local 1 (λ i values. x ∷ []) ∷ v) (in_parts before other xs ys)

join : RunsJoin known_words
join = record { none = λ before. refl; joins = λ before xs ys. in_parts before (before ++ xs) xs ys }

reads : Reads knowing known_words 3 0 (λ i. []) (λ i. [])
unfolding Reads
reads = (λ some i. refl, tt)

nodes : SameRunAs knowing asking known_words Same Same 3 0 0 (λ i. []) (λ i. [])
nodes = nodes_run_the_gates knowing asking known_words Same Same join twins 3 0 0 (λ i. []) (λ i. []) refl reads

-- ---- and what it comes to

gates : path (next_turn asking known_words) 3 (Running 0) (λ i. []) (λ i. []) ≡ known_words [] (7 ∷ [])
gates = refl

stops : stop (next_turn asking known_words) 3 (Running 0) (λ i. []) (λ i. []) ≡ Stopped 2
stops = refl

tells :
    (i : Number) →
    notices (next_turn asking known_words) 3 i (Running 0) (λ i. []) (λ i. [])
    ≡ Shown (record { element = Unsigned; array = false }) (7 ∷ []) ∷ []
tells i = refl
