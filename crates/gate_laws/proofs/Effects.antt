-- Effects one after another, and those that make no gates.
use Rattle.std.proofs.Common.{◌≡◌, ℕ, ◌+◌, ◌-◌, List, [], ◌∷◌, ◌++◌, Ok, Err, Bool, true, false, cond, refl, sym, ap, ◌∙◌, subst, arith, append_assoc}
use Rattle.std.proofs.Common.{append-nil}
use Rattle.std.specs.Prelude.{nat_le}
use Rattle.sc_text.specs.declared.end.Ending.{Ending}
use Rattle.sc_text.specs.declared.end.Ending.TheVariants.{Budget, Tape}
use Rattle.sc_text.specs.declared.end.TrapKind.{TrapKind}
use Rattle.sc_text.specs.declared.end.TapeOwner.{TapeOwner}
use Rattle.sc_text.specs.declared.end.TapeOwner.TheVariants as owner
use Rattle.sc_text.specs.declared.elements.Element.{Element}
use Rattle.sc_text.specs.declared.event.Event.TheVariants.{Publish}
use Rattle.proto_core.specs.declared.party.Number.{Number}
use Rattle.proto_core.specs.declared.party.Number.TheVariants.{One, Two, Three}
use Rattle.gates.specs.Clear.{FitFrom}
use Rattle.gates.specs.Counts.{Miner}
use Rattle.gates.proofs.Sizes.{FitFrom-append}
use Rattle.shared_plans.specs.Shares.{Kind, Shared, kind_at}
use Rattle.shared_plans.specs.Model.{miner_of}
use Rattle.shared_plans.specs.GateRuns.{GateRun, words_drawn}
use Rattle.shared_plans.proofs.KindedPlans.{shared-grown}
use Rattle.language_model.specs.Effects.{Words, World, Stage, Ended, Run, Effect, ◌>>=◌, carry, done, end, charge, test, with_more, fits, drawn_yet}
use Rattle.language_model.specs.Effects.{take_words, draw, emit}
use Rattle.gate_laws.specs.Facts.{and_published, none_of, Fact, Stands, AllStand, run_at, IsAt, Grows, Comes, ComesAt, Suits}
use Rattle.gate_laws.specs.Dealt.{drawn_by, Dealt}
use Rattle.gate_laws.proofs.GateWords.{learned_still}

-- ---- facts

pub both_stand : (r : GateRun) (xs ys : List Fact) → AllStand r xs → AllStand r ys → AllStand r (xs ++ ys)
both_stand r [] ys h k = k
both_stand r (x ∷ xs) ys h k = (h.0, both_stand r xs ys h.1 k)

pub first_stand : (r : GateRun) (xs ys : List Fact) → AllStand r (xs ++ ys) → AllStand r xs
first_stand r [] ys h = tt
first_stand r (x ∷ xs) ys h = (h.0, first_stand r xs ys h.1)

pub second_stand : (r : GateRun) (xs ys : List Fact) → AllStand r (xs ++ ys) → AllStand r ys
second_stand r [] ys h = h
second_stand r (x ∷ xs) ys h = second_stand r xs ys h.1

-- these facts tell those
pub record Tell (fs gs : List Fact) : Type 0 where
  pub from : (r : GateRun) → AllStand r fs → AllStand r gs

abbrev pub Any : {A : Type 0} → A → Type 0
Any a = Unit {0}

abbrev pub NoFacts : {A : Type 0} → A → List Fact
NoFacts a = []

module _ (w : World) (d : Dealt) where
  -- ---- later stages

  still_stands : (s u : Stage) (kinds later : List Kind) (f : Fact) → Grows w d s u kinds later → Stands (run_at w d kinds s) f → Stands (run_at w d later u) f
  still_stands s u kinds later f g h =
      record {
        kind = subst (λ ks. kind_at ks f.number ≡ Shared f.ring) (sym g.more_kinds) (shared-grown kinds g.own f.number f.ring h.kind);
        words = λ values fit. h.words values (FitFrom-append d.inputs values 0 s.gates g.gates (subst (λ gs. FitFrom d.inputs values 0 gs) g.more_gates fit)).0;
      }

  pub all_still : (s u : Stage) (kinds later : List Kind) (fs : List Fact) → Grows w d s u kinds later → AllStand (run_at w d kinds s) fs
      → AllStand (run_at w d later u) fs
  all_still s u kinds later [] g h = tt
  all_still s u kinds later (f ∷ fs) g h = (still_stands s u kinds later f g h.0, all_still s u kinds later fs g h.1)

  pub grows_then : (s t u : Stage) (kinds more later : List Kind) → Grows w d s t kinds more → Grows w d t u more later → Grows w d s u kinds later
  grows_then s t u kinds more later g h =
      record {
        gates = g.gates ++ h.gates;
        own = g.own ++ h.own;
        more_gates = h.more_gates ∙ ap (λ z. z ++ h.gates) g.more_gates ∙ append_assoc s.gates g.gates h.gates;
        more_kinds = h.more_kinds ∙ ap (λ z. z ++ h.own) g.more_kinds ∙ append_assoc kinds g.own h.own;
      }

  pub stays : (s u : Stage) (kinds : List Kind) → u.gates ≡ s.gates → Grows w d s u kinds kinds
  stays s u kinds e = record { gates = []; own = []; more_gates = e ∙ sym (append-nil s.gates); more_kinds = sym (append-nil kinds) }

  -- ---- one effect after another

  pub suits_bind :
      {A B : Type 0} {fs : List Fact} {before middle after : Miner → ℕ} {c : Effect A} {f : A → Effect B} {P : A → List Fact} {R : A → Type 0}
      {F : B → List Fact} {S : B → Type 0} → Suits w d fs before c middle P R → ((a : A) → R a → Suits w d (P a ++ fs) middle (f a) after F S)
      → Suits w d fs before (c >>= f) after F S
  suits_bind {A = A} {B = B} {fs = fs} {before = before} {middle = middle} {after = after} {c = c} {f = f} {P = P} {R = R} {F = F} {S = S} h k =
      record { from = λ kinds s at stands. go kinds s stands (c s) (h.from kinds s at stands) }
    where
      behind : (kinds more : List Kind) (s t : Stage) → Grows w d s t kinds more → (r : Run B) → ComesAt w d t more r after F S
          → ComesAt w d s kinds r after F S
      behind kinds more s t g (Ok y) n =
          record { later = n.later; grown = grows_then s t y.1 kinds more n.later g n.grown; stage = n.stage; facts = n.facts; sure = n.sure }
      behind kinds more s t g (Err e) n =
          record { later = n.later; grown = grows_then s t e.1 kinds more n.later g n.grown; stage = n.stage; facts = n.facts; sure = n.sure }

      go : (kinds : List Kind) (s : Stage) → AllStand (run_at w d kinds s) fs → (r : Run A) → ComesAt w d s kinds r middle P R
          → ComesAt w d s kinds (carry r f) after F S
      go kinds s stands (Ok x) m =
          behind kinds m.later s x.1 m.grown (f x.0 x.1)
          ((k x.0 m.sure).from m.later x.1 m.stage (both_stand (run_at w d m.later x.1) (P x.0) fs m.facts (all_still s x.1 kinds m.later fs m.grown stands)))
      go kinds s stands (Err e) m = m

  pub suits_done : {A : Type 0} {fs : List Fact} {owed : Miner → ℕ} {a : A} {F : A → List Fact} {R : A → Type 0} → Tell fs (F a) → R a
      → Suits w d fs owed (done a) owed F R
  suits_done t sure = record {
    from = λ kinds s at stands. record {
      later = kinds;
      grown = stays s s kinds refl;
      stage = at;
      facts = t.from
          (run_at w d kinds s) stands;
      sure = sure;
    };
  }

  -- fewer facts are needed, or more are known
  pub suits_from : {A : Type 0} {fs gs : List Fact} {before after : Miner → ℕ} {c : Effect A} {F : A → List Fact} {R : A → Type 0} → Tell fs gs
      → Suits w d gs before c after F R
      → Suits w d fs before c after F R
  suits_from t h = record { from = λ kinds s at stands. h.from kinds s at (t.from (run_at w d kinds s) stands) }

  -- what is known after it tells less
  pub suits_with :
      {A : Type 0} {fs : List Fact} {before after : Miner → ℕ} {c : Effect A} {F G : A → List Fact} {R S : A → Type 0} → Suits w d fs before c after F R
      → ((a : A) → R a → Tell (F a) (G a)) → ((a : A) → R a → S a) → Suits w d fs before c after G S
  suits_with {A = A} {after = after} {c = c} {F = F} {G = G} {R = R} {S = S} h t k = record
      { from = λ kinds s at stands. go kinds s (c s) (h.from kinds s at stands) }
    where
      go : (kinds : List Kind) (s : Stage) → (r : Run A) → ComesAt w d s kinds r after F R → ComesAt w d s kinds r after G S
      go kinds s (Ok x) m =
          record { later = m.later; grown = m.grown; stage = m.stage; facts = (t x.0 m.sure).from (run_at w d m.later x.1) m.facts; sure = k x.0 m.sure }
      go kinds s (Err e) m = m

  -- an effect of two parts, and then a third
  pub suits_again :
      {A B C : Type 0} {fs : List Fact} {before after : Miner → ℕ} {F : C → List Fact} {R : C → Type 0} (c : Effect A) (f : A → Effect B) (g : B → Effect C)
      → Suits w d fs before (c >>= λ x. f x >>= g) after F R → Suits w d fs before ((c >>= f) >>= g) after F R
  suits_again {A = A} {after = after} {F = F} {R = R} c f g h = record { from = λ kinds s at stands. go kinds s (c s) (h.from kinds s at stands) }
    where
      go : (kinds : List Kind) (s : Stage) (r : Run A) → ComesAt w d s kinds (carry r (λ x. f x >>= g)) after F R
          → ComesAt w d s kinds (carry (carry r f) g) after F R
      go kinds s (Ok x) m = m
      go kinds s (Err e) m = m

  -- as many words are owed
  pub suits_owed :
      {A : Type 0} {fs : List Fact} {before other after : Miner → ℕ} {c : Effect A} {F : A → List Fact} {R : A → Type 0} → ((m : Miner) → before m ≡ other m)
      → Suits w d fs other c after F R → Suits w d fs before c after F R
  suits_owed e h =
      record {
        from = λ kinds s at stands. h.from kinds s
            (record {
              formed = at.formed;
              made = at.made;
              drawn = λ i. at.drawn i ∙ ap (λ k. words_drawn (run_at w d kinds s) i + k) (e (miner_of i));
              answers = at.answers;
              handed = at.handed;
              opened = at.opened;
            }) stands;
      }

  pub suits_end : {A : Type 0} {fs : List Fact} {after : Miner → ℕ} {F : A → List Fact} {R : A → Type 0} (e : Ending)
      → Suits w d fs none_of (end {A = A} e) after F R
  suits_end e = record { from = λ kinds s at stands. record { later = kinds; grown = stays s s kinds refl; stage = at; facts = tt; sure = tt } }

  -- ---- what makes no gate

  same_stage : (s u : Stage) (kinds : List Kind) (owed : Miner → ℕ) → u.gates ≡ s.gates → IsAt w d kinds owed u → Comes w d s u kinds owed [] (Unit {0})
  same_stage s u kinds owed e at = record { later = kinds; grown = stays s u kinds e; stage = at; facts = tt; sure = tt }

  pub charge_suits : (fs : List Fact) (n : ℕ) → Suits w d fs none_of (charge n) none_of (NoFacts {A = Unit {0}}) (Any {A = Unit {0}})
  charge_suits fs n = record { from = λ kinds s at stands. go kinds s at (nat_le n s.left) }
    where
      go : (kinds : List Kind) (s : Stage) → IsAt w d kinds none_of s → (b : Bool)
          → ComesAt w d s kinds (cond b (Ok (tt {0}, record s { left = s.left - n })) (Err (Ended Budget, s))) none_of (NoFacts {A = Unit {0}})
          (Any {A = Unit {0}})
      go kinds s at true =
          same_stage s (record s { left = s.left - n }) kinds none_of refl
          (record { formed = at.formed; made = at.made; drawn = at.drawn; answers = at.answers; handed = at.handed; opened = at.opened })
      go kinds s at false = same_stage s s kinds none_of refl at

  pub test_suits : (fs : List Fact) (b : Bool) (kind : TrapKind) (line : ℕ) → Suits w d fs none_of (test b kind line) none_of (NoFacts {A = Unit {0}})
      (λ u. b ≡ true)
  test_suits fs true kind line = record {
    from = λ kinds s at stands. record
        { later = kinds; grown = stays s s kinds refl; stage = at; facts = tt; sure = refl };
  }
  test_suits fs false kind line = record { from = λ kinds s at stands. same_stage s s kinds none_of refl at }

  pub publish_suits : (fs : List Fact) (owed : Miner → ℕ) (text : List ℕ) (elements : List Element)
      → Suits w d fs owed (emit (Publish text elements)) owed (NoFacts {A = Unit {0}}) (Any {A = Unit {0}})
  publish_suits fs owed text elements =
      record {
        from = λ kinds s at stands. same_stage s (record s { events = s.events ++ Publish text elements ∷ [] }) kinds owed refl
            (record {
              formed = at.formed;
              made = at.made;
              drawn = at.drawn;
              answers = at.answers;
              handed = λ values fit. and_published text elements (at.handed values fit);
              opened = λ clear values fit. learned_still s.events (Publish text elements) refl ∙ at.opened clear values fit;
            });
      }

  -- words that are drawn are owed
  pub draw_suits : (fs : List Fact) (n : Words) → Suits w d fs none_of (draw w n) (drawn_by n) (NoFacts {A = Unit {0}}) (Any {A = Unit {0}})
  draw_suits fs n =
      suits_bind yet (λ v _. suits_bind (enough owner.Miner1 (v.first + n.first) w.lengths.first) (λ _ _.
      suits_bind (enough owner.Miner2 (v.second + n.second) w.lengths.second) (λ _ _.
      suits_bind (enough owner.Miner3 (v.third + n.third) w.lengths.third) (λ _ _. took))))
    where
      yet : Suits w d fs none_of drawn_yet none_of (NoFacts {A = Words}) (Any {A = Words})
      yet = record { from = λ kinds s at stands. same_stage s s kinds none_of refl at }

      enough : (o : TapeOwner) (need have : ℕ) → Suits w d fs none_of (fits o need have) none_of (NoFacts {A = Unit {0}}) (Any {A = Unit {0}})
      enough o need have = record { from = λ kinds s at stands. go kinds s at (nat_le need have) }
        where
          go : (kinds : List Kind) (s : Stage) → IsAt w d kinds none_of s → (b : Bool)
              → ComesAt w d s kinds (cond b (Ok (tt {0}, s)) (Err (Ended (Tape o need have), s))) none_of (NoFacts {A = Unit {0}}) (Any {A = Unit {0}})
          go kinds s at true = same_stage s s kinds none_of refl at
          go kinds s at false = same_stage s s kinds none_of refl at

      more : (a : Words) (i : Number) (k : ℕ) → drawn_by a (miner_of i) ≡ k + none_of (miner_of i)
          → drawn_by (with_more a n) (miner_of i) ≡ k + drawn_by n (miner_of i)
      more a One k e = omega (arith, e)
      more a Two k e = omega (arith, e)
      more a Three k e = omega (arith, e)

      took : Suits w d fs none_of (take_words n) (drawn_by n) (NoFacts {A = Unit {0}}) (Any {A = Unit {0}})
      took =
          record {
            from = λ kinds s at stands. same_stage s (record s { drawn = with_more s.drawn n }) kinds (drawn_by n) refl
                (record {
                  formed = at.formed;
                  made = at.made;
                  drawn = λ i. more s.drawn i (words_drawn (run_at w d kinds s) i) (at.drawn i);
                  answers = at.answers;
                  handed = at.handed;
                  opened = at.opened;
                });
          }
