-- A miner that runs code reads only the words that it draws.
use Rattle.std.proofs.Common.{◌≡◌, ◌≤◌, ◌+◌, ◌⊎◌, inl, inr, ℕ, zero, suc, Bool, true, false, if◌then◌else◌, List, [], ◌∷◌, ◌++◌, length, take, drop}
use Rattle.std.proofs.Common.{refl, sym, ◌∙◌, ap, subst, arith}
use Rattle.std.specs.Prelude.{◌<◌, ◌&&◌, nat_le}
use Rattle.std.proofs.lemmas.Bool.{le-leb, leb-false, leb-true, lt-leb}
use Rattle.proto_core.specs.declared.party.Number.{Number}
use Rattle.proto_core.specs.Strand.{Mail, Strand, Ends, run, then_do}
use Rattle.proto_core.specs.Net.{added}
use Rattle.proto_core.proofs.MessageFields.{first_true, second_true}
use Rattle.proto_core.proofs.Strands.{then-regrouped}
use Rattle.protocol_model.specs.Gates.{Joined, Local, nth_value, operand, sizes_of, needed, gates_strand}
use Rattle.protocol_model.specs.Gates as model
use Rattle.gates.specs.declared.gate.Gate.{Gate}
use Rattle.gates.specs.Clear.{Values}
use Rattle.gate_node.specs.Suiting.{suits}
use Rattle.gate_node.specs.OwnGates.{GatesEnd, Whole, Stuck, own_gate, own_draws, can_run, own_gates}
use Rattle.language_model.specs.Effects.{World}
use Rattle.verified_code.specs.Steps.{Function}
use Rattle.driven_nodes.specs.Steps.{Stand, Running, Stopped, Short, Went, place_of, stand_of}
use Rattle.code_places.specs.Places.{Place, notices_between, step_told}
use Rattle.own_code.specs.OwnCode.{Reached, Unfit, From, gates_between, led_by, go_on, own_code, behind_gates}
use Rattle.story_laws.specs.Alike.{RunAlike}
use Rattle.story_laws.specs.Drawn.{Count, drawn_behind, own_part, drawn_by_gates, drawn_from, drawn_by_code}
use Rattle.story_laws.proofs.Alike.{run_self}
use Rattle.story_laws.proofs.Reading.{SameFront, Taping, Counting, LacksWords, ReadsSame, ReadsOnly, reads_none, reads_telling}
use Rattle.story_laws.proofs.Reading.{front_less, front_long, front_of_take, take_most}
use Rattle.story_laws.proofs.Reading as reading

-- ---- GATES

-- one gate takes its words from the front
gate_front :
    (i : Number) (g : model.Gate) (values : Values) (s t : List ℕ) → SameFront (needed (g ∷ []) i) t s →
    gates_strand i (g ∷ []) values t ≡ gates_strand i (g ∷ []) values s
gate_front i (Joined p n u v) values s t e =
    let none : p.draws n i + 0 ≡ p.draws n i = omega arith in
    let same : SameFront (p.draws n i) t s = subst (λ m. SameFront m t s) none e in
    ap (λ words. then_do (p.strand n i (nth_value values u) (operand values v) words) (λ made. Ends (values ++ made))) same
gate_front i (Local n f) values s t e = refl

-- whether a gate can run, by whether it suits and how many words there are
suits_and : (b : Bool) (d n : ℕ) → b ≡ true → d ≤ n → b && nat_le d n ≡ true
suits_and b d n e h = ap (λ c. c && nat_le d n) e ∙ le-leb d n h

too_few : (b : Bool) (d n : ℕ) → n < d → b && nat_le d n ≡ false
too_few true d n h = lt-leb d n h
too_few false d n h = refl

still_not : (b : Bool) (d n k : ℕ) → b && nat_le d n ≡ false → k ≤ n → b && nat_le d k ≡ false
still_not true d n k e h = let l : n < d = leb-false d n e in lt-leb d k (omega (arith, l, h))
still_not false d n k e h = refl

below_or_not : (k d : ℕ) → (k < d) ⊎ (d ≤ k)
below_or_not k d = by_test (nat_le d k) refl
  where
    by_test : (b : Bool) → nat_le d k ≡ b → (k < d) ⊎ (d ≤ k)
    by_test true e = inr (leb-true d k e)
    by_test false e = inl (leb-false d k e)

module _ (i : Number) (dealt : Values) {B : Type 0} (unfit : B) (go : GatesEnd → Strand B) (stuck : go Stuck ≡ Ends unfit) where
  abbrev gates_taping : List Gate → Values → Taping B
  gates_taping gates values tape = then_do (own_gates i dealt gates values tape) go

  module _ (later : Count) (gate : Gate) (gates : List Gate) (values : Values)
      (rest : (all : Values) → ReadsOnly unfit (gates_taping gates all) (drawn_by_gates i dealt gates later all)) where
    abbrev draws : ℕ
    draws = own_draws i dealt values gate

    abbrev part : Taping Values
    part tape = own_part i dealt gate values tape

    front : (s t : List ℕ) → SameFront draws t s → part t ≡ part s
    front s t e = gate_front i (own_gate i dealt values gate) values s t e

    abbrev fits : Bool
    fits = suits (sizes_of dealt) (sizes_of values) gate

    abbrev can : List ℕ → Bool
    can tape = can_run i dealt values tape gate

    -- where the gate can run or not
    abbrev by_test : Bool → Taping B
    by_test b tape = then_do (if b then then_do (part tape) (λ all. own_gates i dealt gates all (drop draws tape)) else Ends Stuck) go

    abbrev count_by : Bool → Counting
    count_by b tape mail =
        if b then draws + drawn_behind (run (part tape) mail) (λ all unread. drawn_by_gates i dealt gates later all (drop draws tape) unread) else 0

    abbrev in_parts : Taping B
    in_parts = reading.then_strand unfit draws part front (gates_taping gates) (drawn_by_gates i dealt gates later) rest

    regrouped : (tape : List ℕ) → by_test true tape ≡ in_parts tape
    regrouped tape = then-regrouped (part tape) (λ all. own_gates i dealt gates all (drop draws tape)) go

    reaches : (s : List ℕ) → can s ≡ true → draws ≤ length s
    reaches s e = leb-true _ _ (second_true fits (nat_le draws (length s)) e)

    -- as far as a tape that has its words at the front
    can_with : (s t : List ℕ) → can s ≡ true → SameFront draws t s → can t ≡ true
    can_with s t e same =
        suits_and fits draws (length t) (first_true fits (nat_le draws (length s)) e) (front_long draws t s same (reaches s e))

    within : (s : List ℕ) (mail : Mail) (b : Bool) → can s ≡ b → count_by b s mail ≤ length s
    within s mail true e =
        reading.part_within unfit draws part front (gates_taping gates) (drawn_by_gates i dealt gates later) rest s mail (reaches s e)
    within s mail false e = omega arith

    grows : (s : List ℕ) (mail more : Mail) (b : Bool) → count_by b s mail ≤ count_by b s (added mail more)
    grows s mail more true = reading.part_grows unfit draws part front (gates_taping gates) (drawn_by_gates i dealt gates later) rest s mail more
    grows s mail more false = omega arith

    abbrev SameAs : (b c : Bool) → (s t : List ℕ) → Mail → Type 0
    SameAs b c s t mail = RunAlike (run (by_test c t) mail) (run (by_test b s) mail) × (count_by c t mail ≡ count_by b s mail)

    same :
        (s t : List ℕ) (mail : Mail) → length t ≤ length s → (b : Bool) → can s ≡ b → SameFront (count_by b s mail) t s →
        (can t ≡ b) × SameAs b b s t mail
    same s t mail long false cannot e = (still_not fits draws (length s) (length t) cannot long, (run_self (run (go Stuck) mail), refl))
    same s t mail long true can e =
        let r = reading.part_same unfit draws part front (gates_taping gates) (drawn_by_gates i dealt gates later) rest s t mail long e in (
          can_with s t can (front_less draws (count_by true s mail) t s (omega arith) e),
          (
            subst (λ x. RunAlike (run x mail) (run (by_test true s) mail)) (sym (regrouped t))
                (subst (λ x. RunAlike (run (in_parts t) mail) (run x mail)) (sym (regrouped s)) r.0),
            r.1,
          ),
        )

    least :
        (s : List ℕ) (mail : Mail) (k : ℕ) (b : Bool) → can s ≡ b → k < count_by b s mail → LacksWords unfit (by_test (can (take k s)) (take k s)) mail
    least s mail k false cannot less = absurd (omega (arith, less))
    least s mail k true can less = by_words (below_or_not k draws)
      where
        short : List ℕ
        short = take k s

        by_words : (k < draws) ⊎ (draws ≤ k) → LacksWords unfit (by_test (can_run i dealt values short gate) short) mail
        by_words (inl few) =
            let l : length short ≤ k = (take_most k s).0 in
            subst (λ b. LacksWords unfit (by_test b short) mail) (sym (too_few fits draws (length short) (omega (arith, l, few))))
            (ap (λ x. (run x mail).left) stuck)
        by_words (inr enough) =
            subst (λ b. LacksWords unfit (by_test b short) mail) (sym (can_with s short can (front_of_take draws k s enough)))
            (ap (λ x. (run x mail).left) (regrouped short)
            ∙ reading.part_least unfit draws part front (gates_taping gates) (drawn_by_gates i dealt gates later) rest s mail k enough less)

    gate_reads : ReadsOnly unfit (gates_taping (gate ∷ gates) values) (drawn_by_gates i dealt (gate ∷ gates) later values)
    gate_reads =
        record {
          within = λ s mail. within s mail (can s) refl;
          grows = λ s mail more. grows s mail more (can s);
          same = λ s t mail long e.
              let r = same s t mail long (can s) refl e in subst (λ b. SameAs (can s) b s t mail) (sym r.0) r.1;
          least = λ s mail k less. least s mail k (can s) refl less;
        }

  pub gates_read :
      (later : Count) → ((all : Values) → ReadsOnly unfit (λ tape. go (Whole all tape)) (later all)) → (gates : List Gate) (values : Values) →
      ReadsOnly unfit (gates_taping gates values) (drawn_by_gates i dealt gates later values)
  gates_read later behind [] values = behind values
  gates_read later behind (gate ∷ gates) values = gate_reads later gate gates values (gates_read later behind gates)

-- ---- CODE

-- of code whose gates don't suit or have too few words
abbrev pub CodeReads : From Place → (Place → Count) → Type 0
CodeReads on count = (p : Place) (all : Values) → ReadsOnly Unfit (on p all) (count p all)

module _ (w : World) (c : List Function) (i : Number) (dealt : Values) where
  stand_reads :
      (on : From Place) (count : Place → Count) → CodeReads on count → (stand : Stand Place) (all : Values) →
      ReadsOnly Unfit (go_on on stand all) (drawn_from count stand all)
  stand_reads on count each (Running p) all = each p all
  stand_reads on count each (Stopped p) all = reads_none Unfit (Ends (Reached (Stopped p) all))
  stand_reads on count each (Short p) all = reads_none Unfit (Ends (Reached (Short p) all))

  pub code_reads : (fuel : ℕ) → CodeReads (own_code w c i dealt fuel) (drawn_by_code w c i dealt fuel)
  code_reads zero p values = reads_none Unfit (Ends (Reached (Running p) values))
  code_reads (suc fuel) p values =
      gates_read i dealt Unfit (behind_gates w c (own_code w c i dealt fuel) p went) refl
      (λ all. drawn_from (drawn_by_code w c i dealt fuel) (stand_of (led_by w c all p went)) all) (behind (code_reads fuel))
      (gates_between p (place_of went)) values
    where
      went : Went Place
      went = step_told w c p []

      behind :
          CodeReads (own_code w c i dealt fuel) (drawn_by_code w c i dealt fuel) → (all : Values) →
          ReadsOnly Unfit (λ tape. behind_gates w c (own_code w c i dealt fuel) p went (Whole all tape))
          (drawn_from (drawn_by_code w c i dealt fuel) (stand_of (led_by w c all p went)) all)
      behind each all =
          reads_telling Unfit (notices_between p (place_of (led_by w c all p went)) all)
          (go_on (own_code w c i dealt fuel) (stand_of (led_by w c all p went)) all)
          (drawn_from (drawn_by_code w c i dealt fuel) (stand_of (led_by w c all p went)) all)
          (stand_reads (own_code w c i dealt fuel) (drawn_by_code w c i dealt fuel) each (stand_of (led_by w c all p went)) all)
