-- The tapes of runs in sequence correspond one to one with those that a miner's views are made of, and its views are made so.
use Rattle.std.proofs.Common.{◌≡◌, Bool, true, false, if◌then◌else◌, List, [], ◌∷◌, ◌++◌, refl, sym, ◌∙◌, ap}
use Rattle.proto_core.specs.declared.party.Number.{Number}
use Rattle.proto_core.specs.declared.link.Link.{Link}
use Rattle.proto_core.specs.Parties.{receiver_of, is_same}
use Rattle.proto_core.specs.Net.{into}
use Rattle.proto_core.specs.Strand.{Mail}
use Rattle.proto_core.proofs.Numbers.{same_is}
use Rattle.protocol_model.specs.Gates.{AreSound, ArePrivate}
use Rattle.protocol_model.specs.Runs.{Tapes, run_messages, run_values, run_opened}
use Rattle.protocol_model.specs.Views.{to_view, from_view, made_messages, made_values}
use Rattle.protocol_model.proofs.GateViews.{run-made}
use Rattle.protocol_model.proofs.Walks.{AllCorrespond, private-correspond, from-to_view, to-from_view}
use Rattle.gates.specs.Clear.{Values}
use Rattle.shared_gates.specs.OwnShares.{SameFor}
use Rattle.shared_gates.proofs.Models.{gates-sound, gates-private}
use Rattle.shared_gates.proofs.OwnShares.{own-same}
use Rattle.handed_shares.specs.Handed.{kept_from}
use Rattle.runs_in_sequence.specs.Sequences.{chosen, Leg, no_values, Kept, gates_on, kept_then, RunOn, to_views, from_views, AreMappedOf}
use Rattle.runs_in_sequence.specs.Sequences.{own_gates, own_then, made_all, seen_all, opened_all}

-- what comes to a miner are the messages of the links to it
same_into : (i : Number) (x y : Mail) → ((l : Link) → receiver_of l ≡ i → x l ≡ y l) → into i x ≡ into i y
same_into i x y h = λ d. λ l. at_link l (is_same (receiver_of l) i) refl d
  where
    at_link : (l : Link) (b : Bool) → is_same (receiver_of l) i ≡ b → into i x l ≡ into i y l
    at_link l true e = ap (λ b. if b then x l else []) e ∙ h l (same_is (receiver_of l) i e) ∙ sym (ap (λ b. if b then y l else []) e)
    at_link l false e = ap (λ b. if b then x l else []) e ∙ sym (ap (λ b. if b then y l else []) e)

module _ (i : Number) where
  pub sound : (leg : Leg) (kept : Kept) → AreSound (gates_on leg kept)
  sound leg kept = gates-sound _ leg.sizes [] leg.gates

  private : (leg : Leg) (kept : Kept) → ArePrivate (gates_on leg kept)
  private leg kept = gates-private _ leg.sizes [] leg.gates

  pub correspond : (leg : Leg) (kept : Kept) → AllCorrespond i (gates_on leg kept)
  correspond leg kept = private-correspond i (gates_on leg kept) (private leg kept)

  -- ---- there and back

  pub there_and_back : (kept : Kept) (legs : List Leg) (ts : List Tapes) → RunOn kept legs ts → from_views i kept legs (to_views i kept legs ts) ≡ ts
  there_and_back kept [] ts h = refl
  there_and_back kept (leg ∷ legs) [] h = absurd h
  there_and_back kept (leg ∷ legs) (t ∷ ts) h =
      let back : from_view i (gates_on leg kept) no_values (to_view i (gates_on leg kept) no_values t) ≡ t =
      from-to_view i (gates_on leg kept) no_values t (sound leg kept) (correspond leg kept) h.0 in
      ap (λ (x : Tapes). x ∷ from_views i (kept_then leg kept x) legs (to_views i (kept_then leg kept t) legs ts)) back
      ∙ ap (λ (xs : List Tapes). t ∷ xs) (there_and_back (kept_then leg kept t) legs ts h.1)

  pub back_and_there : (kept : Kept) (legs : List Leg) (ss : List Tapes) → AreMappedOf i kept legs ss → to_views i kept legs (from_views i kept legs ss) ≡ ss
  back_and_there kept [] ss h = refl
  back_and_there kept (leg ∷ legs) [] h = absurd h
  back_and_there kept (leg ∷ legs) (s ∷ ss) h =
      let t : Tapes = from_view i (gates_on leg kept) no_values s in
      ap (λ (x : Tapes). x ∷ to_views i (kept_then leg kept t) legs (from_views i (kept_then leg kept t) legs ss))
      (to-from_view i (gates_on leg kept) no_values s (sound leg kept) (correspond leg kept) h.0)
      ∙ ap (λ (xs : List Tapes). s ∷ xs) (back_and_there (kept_then leg kept t) legs ss h.1)

  -- ---- the simulator

  -- the gates by what miner i has are the same for it
  same-for : (leg : Leg) (kept : Kept) (own : Values) → own ≡ kept i → SameFor i (gates_on leg kept) (own_gates i leg own)
  same-for leg kept own e = own-same i _ _ (ap (λ vs. chosen leg.takes vs ++ leg.fresh i) (sym e)) leg.sizes [] leg.gates

  pub are_made : (kept : Kept) (own : Values) → own ≡ kept i → (legs : List Leg) (ts : List Tapes) → RunOn kept legs ts
      → seen_all i kept legs ts ≡ made_all i own legs (opened_all kept legs ts) (to_views i kept legs ts)
  are_made kept own e [] ts h = refl
  are_made kept own e (leg ∷ legs) [] h = absurd h
  are_made kept own e (leg ∷ legs) (t ∷ ts) h =
      let made = run-made i (gates_on leg kept) no_values t (sound leg kept) (private leg kept) h.0 in
      let same = same-for leg kept own e in
      let opened = run_opened (gates_on leg kept) no_values t in
      let mapped : Tapes = to_view i (gates_on leg kept) no_values t in
      let came : into i (run_messages (gates_on leg kept) no_values t) ≡ into i (made_messages i (own_gates i leg own) [] opened mapped) =
      same_into i _ _ (λ l to. made.messages l to ∙ same.messages [] opened mapped l) in
      let shares : made_values i (own_gates i leg own) [] opened mapped ≡ run_values (gates_on leg kept) no_values t i =
      sym (made.shares ∙ same.values [] opened mapped) in
      let kept_same : own_then i leg own opened mapped ≡ kept_then leg kept t i =
      ap (λ vs. vs ++ kept_from leg.keeps 0 (made_values i (own_gates i leg own) [] opened mapped) leg.gates) e
      ∙ ap (λ vs. kept i ++ kept_from leg.keeps 0 vs leg.gates) shares in
      ap (λ (m : Mail). m ∷ seen_all i (kept_then leg kept t) legs ts) came
      ∙ ap (λ (ms : List Mail). into i (made_messages i (own_gates i leg own) [] opened mapped) ∷ ms)
      (are_made (kept_then leg kept t) (own_then i leg own opened mapped) kept_same legs ts h.1)
