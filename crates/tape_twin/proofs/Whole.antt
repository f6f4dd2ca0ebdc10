-- The tapes of a whole run, by what was dealt.
use Rattle.std.proofs.Common.{◌≡◌, ℕ, ◌<◌, ◌≤◌, Bool, false, if◌then◌else◌, List, [], length, refl, sym, ◌∙◌, ap, subst, arith}
use Rattle.std.specs.Prelude.{nat_le, Option, Some, None, IfSome, IfNone}
use Rattle.proto_core.specs.declared.party.Number.{Number}
use Rattle.proto_core.specs.declared.party.Number.TheVariants.{One, Two, Three}
use Rattle.protocol_model.specs.Gates.{needed, sizes_of}
use Rattle.protocol_model.specs.Runs.{Tapes}
use Rattle.gates.specs.declared.gate.Gate.{Gate}
use Rattle.gates.specs.Clear.{Values}
use Rattle.shared_gates.specs.Model.{AllSizesSuit, run_gates}
use Rattle.shared_gates.proofs.Drawn.{drawn-counted}
use Rattle.proto_core.specs.Parties.{of_three}
use Rattle.handed_shares.specs.Handed.{all_of}
use Rattle.client_model.specs.ClientMaps.{client_gates}
use Rattle.joint_run.specs.JointRuns.{dealt_sizes, IsEven}
use Rattle.joint_run.specs.JointRuns as joint
use Rattle.value_file.specs.declared.inputs.Entry.{Entry}
use Rattle.input_share.specs.Dealing.{need_of}
use Rattle.tape_file.specs.Tapes.{FourTapes}
use Rattle.tape_twin.specs.declared.way.Way.{Way}
use Rattle.tape_twin.specs.declared.way.Way.TheVariants.{ToView, FromView}
use Rattle.tape_twin.specs.declared.way.Looker.TheVariants.{Miner, Client}
use Rattle.tape_twin.specs.Maps.{gates_map, run_map, client_map}
use Rattle.tape_twin.proofs.Looks.{miner_map, miner-looks, client-looks}
use Rattle.tape_twin.proofs.Passing.{same_for}
use Rattle.view_model.specs.Dealing.{dealt_to, private_sizes, seen_dealer}
use Rattle.view_model.specs.TapeMaps.{miners_of, four_of, no_values, gates_dealt, to_simulated, from_simulated, Reaches}
use Rattle.view_model.proofs.Dealings.{seen_length}
use Rattle.view_model.proofs.DealtSizes.{sizes_dealt}
use Rattle.view_model.proofs.Corresponding.{le_true, same_tapes}

pub same_four : (dealer other : List ℕ) (ts us : Tapes) → dealer ≡ other → ((k : Number) → ts k ≡ us k) → four_of dealer ts ≡ four_of other us
same_four dealer other ts us d h = same_tapes dealer other ts us d (same_for ts us h)

pub some-says : {A : Type 0} (P : A → Type 0) (o : Option A) (x : A) → o ≡ Some x → IfSome o P → P x
some-says P o x is h = subst (λ o. IfSome o P) is h

pub none-says : {A : Type 0} (P : Type 0) (o : Option A) → o ≡ None → IfNone o P → P
none-says P o is h = subst (λ o. IfNone o P) is h

pub own-tapes : (t : FourTapes) (a b d : List ℕ) → a ≡ t.one → b ≡ t.two → d ≡ t.three → miners_of t ≡ of_three a b d
own-tapes t a b d first second third = same_for (miners_of t) (of_three a b d) at
  where
    at : (k : Number) → miners_of t k ≡ of_three a b d k
    at One = sym first
    at Two = sym second
    at Three = sym third

pub lt_false : (a b : ℕ) → b < a → nat_le a b ≡ false
lt_false a b h = grind arith

-- ---- what was dealt

module _
    (es : List Entry) (dealer : List ℕ) (enough : need_of es ≤ length dealer) (shares : Number → Values)
    (are : (k : Number) → shares k ≡ dealt_to es dealer k)
  where
    pub sizes-are : (k : Number) → sizes_of (shares k) ≡ private_sizes es
    sizes-are k = ap sizes_of (are k) ∙ sizes_dealt k es dealer enough

    pub even : IsEven shares
    even k = sizes-are k ∙ sym (sizes-are One)

    dealt-gates : (gates : List Gate) → run_gates shares (dealt_sizes shares) [] gates ≡ gates_dealt es dealer gates
    dealt-gates gates =
        ap (λ (ds : List ℕ). run_gates shares ds [] gates) (sizes-are One)
        ∙ ap (λ (s : Number → Values). run_gates s (private_sizes es) [] gates) (same_for shares (dealt_to es dealer) are)

    pub run-map-is :
        (i : Number) (way : Way) (gates : List Gate) (tapes : Tapes) (k : Number) →
        run_map (record { looker = Miner i; way = way }) shares gates tapes k ≡ miner_map way i (gates_dealt es dealer gates) no_values tapes k
    run-map-is i way gates tapes k =
        miner-looks i shares (dealt_sizes shares) way [] gates no_values tapes k
        ∙ ap (λ gs. miner_map way i gs no_values tapes k) (dealt-gates gates)

    client-map-is :
        (way : Way) (gates : List Gate) (tapes : Tapes) (k : Number) →
        run_map (record { looker = Client; way = way }) shares gates tapes k
        ≡ gates_map way (client_gates all_of 0 (dealt_to es dealer) (private_sizes es) [] gates) no_values tapes k
    client-map-is way gates tapes k =
        ap (λ gs. gates_map way gs no_values tapes k)
        (client-looks shares (dealt_sizes shares) 0 [] gates
        ∙ ap (λ (ds : List ℕ). client_gates all_of 0 shares ds [] gates) (sizes-are One)
        ∙ ap (λ (s : Number → Values). client_gates all_of 0 s (private_sizes es) [] gates) (same_for shares (dealt_to es dealer) are))

    pub can-run : (gates : List Gate) (t : FourTapes) → Reaches es gates t → joint.CanRun shares gates (miners_of t)
    can-run gates t reaches =
        let suit : AllSizesSuit (dealt_sizes shares) [] gates = subst (λ (ds : List ℕ). AllSizesSuit ds [] gates) (sym (sizes-are One)) reaches.suit in
        record {
          even = even;
          suit = suit;
          reach = λ k.
              subst (λ (ds : List ℕ). needed (run_gates shares ds [] gates) k ≤ length (miners_of t k)) (sym (sizes-are One))
              (subst (λ n. n ≤ length (miners_of t k)) (sym (drawn-counted shares (private_sizes es) [] gates k reaches.suit)) (reaches.reach k));
        }

-- ---- the two maps

module _ (i : Number) (es : List Entry) (gates : List Gate) (t : FourTapes) where
  abbrev mapped : FourTapes
  mapped = four_of (seen_dealer i es t.dealer) (miner_map ToView i (gates_dealt es t.dealer gates) no_values (miners_of t))

  abbrev unmapped : FourTapes
  unmapped =
      four_of (seen_dealer i es t.dealer) (miner_map FromView i (gates_dealt es (seen_dealer i es t.dealer) gates) no_values (miners_of t))

  to-dealt : need_of es ≤ length t.dealer → mapped ≡ to_simulated i es gates t
  unfolding to_simulated
  to-dealt h = sym (ap (λ (b : Bool). if b then mapped else t) (le_true (need_of es) (length t.dealer) h))

  from-dealt : need_of es ≤ length t.dealer → unmapped ≡ from_simulated i es gates t
  unfolding from_simulated
  from-dealt h = sym (ap (λ (b : Bool). if b then unmapped else t) (le_true (need_of es) (length t.dealer) h))

  pub to-undealt : length t.dealer < need_of es → t ≡ to_simulated i es gates t
  unfolding to_simulated
  to-undealt h = sym (ap (λ (b : Bool). if b then mapped else t) (lt_false (need_of es) (length t.dealer) h))

  pub from-undealt : length t.dealer < need_of es → t ≡ from_simulated i es gates t
  unfolding from_simulated
  from-undealt h = sym (ap (λ (b : Bool). if b then unmapped else t) (lt_false (need_of es) (length t.dealer) h))

  pub to-is :
      (shares : Number → Values) (dealer : List ℕ) → need_of es ≤ length t.dealer → ((k : Number) → shares k ≡ dealt_to es t.dealer k) →
      dealer ≡ seen_dealer i es t.dealer →
      four_of dealer (run_map (record { looker = Miner i; way = ToView }) shares gates (miners_of t)) ≡ to_simulated i es gates t
  to-is shares dealer enough are seen =
      same_four _ _ _ _ seen (run-map-is es t.dealer enough shares are i ToView gates (miners_of t)) ∙ to-dealt enough

  pub seen-enough : (dealer : List ℕ) → need_of es ≤ length t.dealer → dealer ≡ seen_dealer i es t.dealer → need_of es ≤ length dealer
  seen-enough dealer enough seen =
      let len : length dealer ≡ length t.dealer = ap length seen ∙ seen_length i es t.dealer enough in
      omega arith

  pub from-is :
      (shares : Number → Values) (dealer : List ℕ) → need_of es ≤ length t.dealer → ((k : Number) → shares k ≡ dealt_to es dealer k) →
      dealer ≡ seen_dealer i es t.dealer →
      four_of dealer (run_map (record { looker = Miner i; way = FromView }) shares gates (miners_of t)) ≡ from_simulated i es gates t
  from-is shares dealer enough are seen =
      same_four _ _ _ _ seen
      (λ k.
      run-map-is es dealer (seen-enough dealer enough seen) shares are i FromView gates (miners_of t) k
      ∙ ap (λ (w : List ℕ). miner_map FromView i (gates_dealt es w gates) no_values (miners_of t) k) seen)
      ∙ from-dealt enough

-- ---- the two maps for the client

client-maps :
    (way : Way) (dealt : Number → Values) (ds : List ℕ) (gates : List Gate) (tapes : Tapes) (k : Number) →
    gates_map way (client_gates all_of 0 dealt ds [] gates) no_values tapes k ≡ client_map way dealt ds gates tapes k
client-maps ToView dealt ds gates tapes k = refl
client-maps FromView dealt ds gates tapes k = refl

none-mapped : (way : Way) (dealt : Number → Values) (ds : List ℕ) (t : FourTapes) → t ≡ four_of t.dealer (client_map way dealt ds [] (miners_of t))
none-mapped ToView dealt ds t = refl
none-mapped FromView dealt ds t = refl

module _ (way : Way) (es : List Entry) (gates : List Gate) (t : FourTapes) where
  abbrev client_is : FourTapes
  client_is = four_of t.dealer (client_map way (dealt_to es t.dealer) (private_sizes es) gates (miners_of t))

  pub client-dealt :
      (shares : Number → Values) (dealer : List ℕ) → need_of es ≤ length t.dealer → ((k : Number) → shares k ≡ dealt_to es t.dealer k) →
      dealer ≡ t.dealer → four_of dealer (run_map (record { looker = Client; way = way }) shares gates (miners_of t)) ≡ client_is
  client-dealt shares dealer enough are same =
      same_four dealer t.dealer (run_map (record { looker = Client; way = way }) shares gates (miners_of t))
      (client_map way (dealt_to es t.dealer) (private_sizes es) gates (miners_of t)) same
      (λ k.
      client-map-is es t.dealer enough shares are way gates (miners_of t) k
      ∙ client-maps way (dealt_to es t.dealer) (private_sizes es) gates (miners_of t) k)

  pub client-undealt : gates ≡ [] → t ≡ client_is
  client-undealt none =
      none-mapped way (dealt_to es t.dealer) (private_sizes es) t
      ∙ ap (λ (gs : List Gate). four_of t.dealer (client_map way (dealt_to es t.dealer) (private_sizes es) gs (miners_of t))) (sym none)
