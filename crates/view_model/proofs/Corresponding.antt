-- The tapes of a whole run, the dealer's with them, correspond one to one.
use Rattle.std.proofs.Common.{◌≡◌, ℕ, ◌≤◌, Bool, true, false, if◌then◌else◌, List, [], length, refl, sym, ◌∙◌, ap, subst, arith}
use Rattle.std.specs.Prelude.{nat_le}
use Rattle.proto_core.specs.declared.party.Number.{Number}
use Rattle.proto_core.specs.declared.party.Number.TheVariants.{One, Two, Three}
use Rattle.proto_core.specs.Lists.{AreWords}
use Rattle.protocol_model.specs.Gates as model
use Rattle.protocol_model.specs.Gates.{AreSound, ArePrivate}
use Rattle.protocol_model.specs.Runs.{Tapes, Ready}
use Rattle.protocol_model.specs.Views.{to_view, from_view}
use Rattle.protocol_model.proofs.Walks.{
  AllCorrespond,
  private-correspond,
  from-to_view,
  to-from_view,
  to_view-length,
  to_view-words,
  from_view-length,
  from_view-words,
}
use Rattle.protocol_model.proofs.GateViews.{to_view-own}
use Rattle.gates.specs.declared.gate.Gate.{Gate}
use Rattle.shared_gates.proofs.Models.{gates-sound, gates-private}
use Rattle.shared_gates.proofs.Drawn.{run-ready}
use Rattle.value_file.specs.declared.inputs.Entry.{Entry}
use Rattle.input_share.specs.Dealing.{need_of}
use Rattle.tape_file.specs.Tapes.{FourTapes}
use Rattle.view_model.specs.Dealing.{dealt_to, private_sizes, seen_dealer}
use Rattle.view_model.specs.TapeMaps.{
  miners_of,
  four_of,
  no_values,
  gates_dealt,
  is_dealt,
  to_simulated,
  from_simulated,
  AreTapes,
  Reaches,
  CanRun,
  Correspond,
}
use Rattle.view_model.proofs.Dealings.{seen_length, seen_words, seen_twice}
use Rattle.view_model.proofs.DealtSizes.{sizes_dealt}

pub le_true : (a b : ℕ) → a ≤ b → nat_le a b ≡ true
le_true a b h = grind arith

pub le_from : (a b : ℕ) → nat_le a b ≡ true → a ≤ b
le_from a b h = grind arith

pub miners_four : (d : List ℕ) (ts : Tapes) → miners_of (four_of d ts) ≡ ts
miners_four d ts = λ j. λ k. at k j
  where
    at : (k : Number) → miners_of (four_of d ts) k ≡ ts k
    at One = refl
    at Two = refl
    at Three = refl

pub same_tapes : (d e : List ℕ) (ts us : Tapes) → d ≡ e → ts ≡ us → four_of d ts ≡ four_of e us
same_tapes d e ts us h g = ap (λ v. four_of v ts) h ∙ ap (four_of e) g

module _ (i : Number) (es : List Entry) (gates : List Gate) where
  abbrev pub mapped : FourTapes → FourTapes
  mapped t = four_of (seen_dealer i es t.dealer) (to_view i (gates_dealt es t.dealer gates) no_values (miners_of t))

  abbrev pub unmapped : FourTapes → FourTapes
  unmapped s =
      four_of (seen_dealer i es s.dealer) (from_view i (gates_dealt es (seen_dealer i es s.dealer) gates) no_values (miners_of s))

  pub to_simulated_dealt : (t : FourTapes) → need_of es ≤ length t.dealer → to_simulated i es gates t ≡ mapped t
  unfolding to_simulated
  to_simulated_dealt t h = ap (λ b. if b then mapped t else t) (le_true _ _ h)

  from_simulated_dealt : (s : FourTapes) → need_of es ≤ length s.dealer → from_simulated i es gates s ≡ unmapped s
  unfolding from_simulated
  from_simulated_dealt s h = ap (λ b. if b then unmapped s else s) (le_true _ _ h)

  to_simulated_short : (t : FourTapes) → is_dealt es t ≡ false → to_simulated i es gates t ≡ t
  unfolding to_simulated
  to_simulated_short t h = ap (λ b. if b then mapped t else t) h

  from_simulated_short : (s : FourTapes) → is_dealt es s ≡ false → from_simulated i es gates s ≡ s
  unfolding from_simulated
  from_simulated_short s h = ap (λ b. if b then unmapped s else s) h

pub sound : (es : List Entry) (dealer : List ℕ) (gates : List Gate) → AreSound (gates_dealt es dealer gates)
sound es dealer gates = gates-sound (dealt_to es dealer) (private_sizes es) [] gates

pub private : (es : List Entry) (dealer : List ℕ) (gates : List Gate) → ArePrivate (gates_dealt es dealer gates)
private es dealer gates = gates-private (dealt_to es dealer) (private_sizes es) [] gates

-- with any dealer's words that suffice
pub ready_with :
    (es : List Entry) (gates : List Gate) (dealer : List ℕ) (t : FourTapes) → ((k : Number) → AreWords (miners_of t k)) →
    need_of es ≤ length dealer → Reaches es gates t → Ready (gates_dealt es dealer gates) no_values (miners_of t)
ready_with es gates dealer t words enough reaches =
    run-ready (dealt_to es dealer) (private_sizes es) gates (miners_of t) (λ k. sizes_dealt k es dealer enough) reaches.suit reaches.reach
    words

module _
    (i : Number) (es : List Entry) (gates : List Gate) (t : FourTapes) (are : AreTapes t) (enough : need_of es ≤ length t.dealer)
    (reaches : Reaches es gates t)
  where
    abbrev dealer2 : List ℕ
    dealer2 = seen_dealer i es t.dealer

    enough2 : need_of es ≤ length dealer2
    enough2 = subst (λ n. need_of es ≤ n) (sym (seen_length i es t.dealer enough)) enough

    dealer_back : seen_dealer i es dealer2 ≡ t.dealer
    dealer_back = seen_twice i es t.dealer enough are.dealer

    -- the run, and that with the mapped dealer's words
    abbrev real : List model.Gate
    real = gates_dealt es t.dealer gates

    abbrev other : List model.Gate
    other = gates_dealt es dealer2 gates

    real_sound : AreSound real
    real_sound = sound es t.dealer gates

    real_private : ArePrivate real
    real_private = private es t.dealer gates

    real_rows : AllCorrespond i real
    real_rows = private-correspond i real real_private

    other_sound : AreSound other
    other_sound = sound es dealer2 gates

    other_private : ArePrivate other
    other_private = private es dealer2 gates

    other_rows : AllCorrespond i other
    other_rows = private-correspond i other other_private

    pub ready_real : Ready real no_values (miners_of t)
    ready_real = ready_with es gates t.dealer t are.miners enough reaches

    ready_other : Ready other no_values (miners_of t)
    ready_other = ready_with es gates dealer2 t are.miners enough2 reaches

    there_back : from_simulated i es gates (to_simulated i es gates t) ≡ t
    there_back =
        ap (from_simulated i es gates) (to_simulated_dealt i es gates t enough)
        ∙ from_simulated_dealt i es gates (mapped i es gates t) enough2
        ∙ same_tapes _ _ _ _ dealer_back
        (ap (λ d. from_view i (gates_dealt es d gates) no_values (miners_of (mapped i es gates t))) dealer_back
        ∙ ap (from_view i real no_values) (miners_four dealer2 (to_view i real no_values (miners_of t)))
        ∙ from-to_view i real no_values (miners_of t) real_sound real_rows ready_real)

    back_there : to_simulated i es gates (from_simulated i es gates t) ≡ t
    back_there =
        ap (to_simulated i es gates) (from_simulated_dealt i es gates t enough)
        ∙ to_simulated_dealt i es gates (unmapped i es gates t) enough2
        ∙ same_tapes _ _ _ _ dealer_back
        (ap (to_view i other no_values) (miners_four dealer2 (from_view i other no_values (miners_of t)))
        ∙ to-from_view i other no_values (miners_of t) other_sound other_rows ready_other)

    pub miners_mapped : miners_of (to_simulated i es gates t) ≡ to_view i real no_values (miners_of t)
    miners_mapped = ap miners_of (to_simulated_dealt i es gates t enough) ∙ miners_four dealer2 (to_view i real no_values (miners_of t))

    miners_unmapped : miners_of (from_simulated i es gates t) ≡ from_view i other no_values (miners_of t)
    miners_unmapped =
        ap miners_of (from_simulated_dealt i es gates t enough) ∙ miners_four dealer2 (from_view i other no_values (miners_of t))

    dealer_mapped : (to_simulated i es gates t).dealer ≡ dealer2
    dealer_mapped = ap (λ v. v.dealer) (to_simulated_dealt i es gates t enough)

    dealer_unmapped : (from_simulated i es gates t).dealer ≡ dealer2
    dealer_unmapped = ap (λ v. v.dealer) (from_simulated_dealt i es gates t enough)

    dealer2_words : AreWords dealer2
    dealer2_words = seen_words i es t.dealer enough are.dealer

    kept_miners : (k : Number) → length (miners_of (to_simulated i es gates t) k) ≡ length (miners_of t k)
    kept_miners k =
        ap (λ v. length (v k)) miners_mapped ∙ to_view-length i real no_values (miners_of t) real_sound real_rows ready_real k

    back_kept_miners : (k : Number) → length (miners_of (from_simulated i es gates t) k) ≡ length (miners_of t k)
    back_kept_miners k =
        ap (λ v. length (v k)) miners_unmapped ∙ from_view-length i other no_values (miners_of t) other_sound other_rows ready_other k

    words_mapped : AreTapes (to_simulated i es gates t)
    words_mapped =
        record {
          dealer = subst AreWords (sym dealer_mapped) dealer2_words;
          miners = λ k.
              subst (λ v. AreWords (v k)) (sym miners_mapped)
              (to_view-words i real no_values (miners_of t) real_sound real_rows ready_real k);
        }

    words_unmapped : AreTapes (from_simulated i es gates t)
    words_unmapped =
        record {
          dealer = subst AreWords (sym dealer_unmapped) dealer2_words;
          miners = λ k.
              subst (λ v. AreWords (v k)) (sym miners_unmapped)
              (from_view-words i other no_values (miners_of t) other_sound other_rows ready_other k);
        }

    pub correspond_dealt : Correspond i es gates t
    correspond_dealt =
        record {
          there_and_back = there_back;
          back_and_there = back_there;
          kept = (ap length dealer_mapped ∙ seen_length i es t.dealer enough, kept_miners);
          back_kept = (ap length dealer_unmapped ∙ seen_length i es t.dealer enough, back_kept_miners);
          words = words_mapped;
          back_words = words_unmapped;
          own = ap (λ v. v i) miners_mapped ∙ to_view-own i real no_values (miners_of t) real_sound real_private ready_real;
        }

-- where dealing ended the run nothing is changed
pub correspond :
    (i : Number) (es : List Entry) (gates : List Gate) (t : FourTapes) → AreTapes t → CanRun es gates t → Correspond i es gates t
correspond i es gates t are can = by_test (is_dealt es t) refl
  where
    by_test : (b : Bool) → is_dealt es t ≡ b → Correspond i es gates t
    by_test true e = correspond_dealt i es gates t are (le_from _ _ e) (can (le_from _ _ e))
    by_test false e =
        let to = to_simulated_short i es gates t e in
        let from = from_simulated_short i es gates t e in
        record {
          there_and_back = ap (from_simulated i es gates) to ∙ from;
          back_and_there = ap (to_simulated i es gates) from ∙ to;
          kept = (ap (λ v. length v.dealer) to, λ k. ap (λ v. length (miners_of v k)) to);
          back_kept = (ap (λ v. length v.dealer) from, λ k. ap (λ v. length (miners_of v k)) from);
          words = subst AreTapes (sym to) are;
          back_words = subst AreTapes (sym from) are;
          own = ap (λ v. miners_of v i) to;
        }
