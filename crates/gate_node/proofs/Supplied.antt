-- Words that are supplied little by little, and where none come any more.
use Rattle.std.proofs.Common.{◌≡◌, List, [], ◌++◌, ℕ, ◌+◌, ◌<◌, ◌∷◌, false, drop, length, length-append, get_or}
use Rattle.std.proofs.Common.{append_assoc, sym, ◌∙◌, ap, subst, arith}
use Rattle.std.specs.Prelude.{Err}
use Rattle.std.proofs.lemmas.Bool.{lt-leb}
use Rattle.std.proofs.Math.Seq.{drop-append_seam}
use Rattle.outside.specs.Tapes.{TapesState}
use Rattle.proto_core.specs.declared.party.Number.{Number}
use Rattle.proto_core.specs.Strand.{Ends}
use Rattle.proto_core.proofs.Beginnings.{append-none}
use Rattle.gates.specs.declared.gate.Gate.{Gate}
use Rattle.gates.specs.Clear.{Values}
use Rattle.gate_node.specs.declared.engine.Engine.{Engine}
use Rattle.gate_node.specs.declared.engine.AtWork.TheVariants as work
use Rattle.gate_node.specs.declared.standing.Standing.{Standing}
use Rattle.gate_node.specs.declared.standing.Standing.TheVariants as stand
use Rattle.gate_node.specs.OwnGates.{Whole, Stuck, own_gates}
use Rattle.gate_node.specs.Nodes.{engine_left, engine_outcome, EngineStands, StandsWith, StandsAlways, settled, gates_left, left_at, first_can_run}
use Rattle.gate_node.specs.Nodes.{BeginsAs, ComesTo, DoesTheSame, filled, IsTapeOf}
use Rattle.gate_node.specs.Plans.{then_wanted}
use Rattle.gate_node.specs.Supplies.{SuppliesFrom, SuppliesTape}
use Rattle.gate_node.proofs.Blocks.{drop-front, gate-stuck}
use Rattle.gate_node.proofs.Plans.{wanted-stuck}

module _ {P : Type 0} (e : Engine P) where
  pub filled-none : filled e [] ≡ e
  filled-none = ap (λ l. record e { tape = (l, e.tape.1 ++ []) }) (append-none e.tape.0) ∙ ap (λ l. record e { tape = (e.tape.0, l) }) (append-none e.tape.1)

  pub filled-filled : (words more : List ℕ) → filled (filled e words) more ≡ filled e (words ++ more)
  filled-filled words more =
      ap (λ l. record e { tape = (l, (e.tape.1 ++ words) ++ more) }) (append_assoc e.tape.0 words more)
      ∙ ap (λ l. record e { tape = (e.tape.0 ++ (words ++ more), l) }) (append_assoc e.tape.1 words more)

  module _ (i : Number) where
    pub comes-here : (values : Values) → ComesTo i values e [] → engine_left i e ≡ Ends (Whole values e.tape.1)
    comes-here values h = ap (engine_left i) (sym filled-none) ∙ h ∙ ap (λ t. Ends (Whole values t)) (append-none e.tape.1)

    own-stuck : (tape : List ℕ) (gates : List Gate) → first_can_run i e.dealt e.values tape gates ≡ false → own_gates i e.dealt gates e.values tape ≡ Ends Stuck
    own-stuck tape [] cannot = absurd cc
    own-stuck tape (gate ∷ gates) cannot = gate-stuck i e.dealt e.values tape gate gates cannot

    -- where it wants words, with fewer it is stuck
    pub wants-fewer : (count : ℕ) (more : List ℕ) → StandsWith i (stand.Wants count) e more → length more < count → engine_left i (filled e more) ≡ Ends Stuck
    wants-fewer count more h fewer =
        ap (left_at i (filled e more)) h.idle
        ∙ ap (then_wanted i e.dealt e.wanted) (own-stuck (e.tape.1 ++ more) (gates_left i e) (h.exactly ∙ lt-leb _ _ fewer))
        ∙ wanted-stuck i e.dealt e.wanted

    -- where the next gate can't begin, it stands
    pub cannot-begin :
        (gate : Gate) → e.work ≡ work.Idle → e.begun < length e.gates.items → get_or e.gates.items e.begun gate ≡ gate → (at : Standing) →
        BeginsAs i e.dealt e.values e.tape.1 gate (Err at) → StandsAlways i at e
    cannot-begin gate idle some is stand.Unfit never more =
        ap (left_at i (filled e more)) idle
        ∙ ap (then_wanted i e.dealt e.wanted)
        (own-stuck (e.tape.1 ++ more) (gates_left i e)
        (ap (first_can_run i e.dealt e.values (e.tape.1 ++ more)) (drop-front e.begun e.gates.items gate some is) ∙ never more))
        ∙ wanted-stuck i e.dealt e.wanted
    cannot-begin gate idle some is (stand.Wants count) wants more =
        record {
          some = wants.0;
          idle = idle;
          exactly = ap (first_can_run i e.dealt e.values (e.tape.1 ++ more)) (drop-front e.begun e.gates.items gate some is) ∙ wants.1 more;
        }
    cannot-begin gate idle some is stand.Through never more = absurd never
    cannot-begin gate idle some is (stand.Waits link cause) never more = absurd never

    pub stands-here : (at : Standing) → StandsAlways i at e → EngineStands i (settled at) e
    stands-here stand.Through h = subst (EngineStands i stand.Through) filled-none (h [])
    stands-here (stand.Waits link cause) h = subst (EngineStands i (stand.Waits link cause)) filled-none (h [])
    stands-here stand.Unfit h = subst (EngineStands i stand.Unfit) filled-none (h [])
    stands-here (stand.Wants count) h = subst (EngineStands i stand.Unfit) filled-none (wants-fewer count [] (h []) (h []).some)

-- what is the same whatever words come is the same where none come
module _ {P : Type 0} (i : Number) (before after : Engine P) where
  pub same-here : DoesTheSame i before after → engine_outcome i after ≡ engine_outcome i before
  same-here h = ap (engine_outcome i) (sym (filled-none after)) ∙ h [] ∙ ap (engine_outcome i) (filled-none before)

-- words that go over are those at the front of what is left
module _ (supplied words tape : List ℕ) where
  abbrev rest : List ℕ
  rest = drop (length (supplied ++ words)) tape

  module _ (is : tape ≡ (supplied ++ words) ++ rest) where
    all-is : tape ≡ supplied ++ (words ++ rest)
    all-is = is ∙ append_assoc supplied words rest

    pub behind-is : drop (length supplied) tape ≡ words ++ rest
    behind-is = ap (drop (length supplied)) all-is ∙ drop-append_seam supplied (words ++ rest)

  pub tape-before : (ahead left : ℕ) → length words + left ≡ ahead → IsTapeOf (supplied ++ words) left tape → IsTapeOf supplied ahead tape
  tape-before ahead left moved of =
      let counted = of.counted in
      let l : length (supplied ++ words) ≡ length supplied + length words = length-append supplied words in
      record { begins = all-is of.begins ∙ ap (λ r. supplied ++ r) (sym (behind-is of.begins)); counted = omega (arith, counted, l, moved) }

-- words that were drawn to the tape's end were supplied
pub supplies_from : {P : Type 0} (party count : ℕ) (before : Engine P) (tape : List ℕ × List ℕ) (old new : TapesState)
    → SuppliesTape party count before.tape tape old new → SuppliesFrom party count before (record before { tape = tape }) old new
supplies_from party count before tape old new s = record {
  words = s.all.words;
  counted = s.all.counted;
  drew = s.all.drew;
  supplied = ap (λ l. record before { tape = (l, tape.1) }) s.all.added ∙ ap (λ l. record before { tape = (before.tape.0 ++ s.all.words, l) }) s.left;
}
