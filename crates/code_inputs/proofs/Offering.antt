-- What is dealt of the entries of a file is shared by the miners, and what a run is given of them is offered.
use Rattle.std.proofs.Common.{◌≡◌, ℕ, suc, ◌+◌, ◌<◌, ◌≤◌, ◌^◌, List, [], ◌∷◌, ◌++◌, length, map, All, Bool, true, false}
use Rattle.std.proofs.Common.{refl, sym, ap, ◌∙◌, subst, arith, inl, inr}
use Rattle.std.specs.Prelude.{if◌then◌else◌, get_or}
use Rattle.gates.specs.Clear.{Values, value}
use Rattle.view_model.specs.Shares.{Kind, Shared, kind_at}
use Rattle.program_trees.specs.declared.kinds.Shape.{Shape}
use Rattle.program_trees.specs.Shapes.{shape_of}
use Rattle.value_file.specs.declared.value.DataType as told
use Rattle.value_file.specs.declared.value.DataType.TheVariants as kind
use Rattle.value_file.specs.declared.value.Domain.{Domain}
use Rattle.value_file.specs.declared.value.Domain.TheVariants as domain
use Rattle.value_file.specs.declared.value.Value as file
use Rattle.value_file.specs.declared.value.Value.TheVariants.{Number as One, Integer, Truth, Numbers, Integers, Truths}
use Rattle.value_file.specs.declared.inputs.Entry.{Entry}
use Rattle.value_file.specs.Input.{AreEntries, name_of, elements_of as count_in}
use Rattle.value_file.specs.Values.{type_of, count_of}
use Rattle.input_share.specs.Values.{bit_word, elements_of, shared_as, shared_words}
use Rattle.input_share.proofs.Elements.{length-elements_of}
use Rattle.view_model.specs.Held.{ring_kind, kind_then, private_kinds, value_then, private_values}
use Rattle.view_model.proofs.DealtSizes.{sizes_dealt}
use Rattle.view_model.proofs.Holding.{dealt_held, sizes_values}
use Rattle.language_model.specs.Effects.{GivenInput}
use Rattle.language_model.specs.Evaluation.{behind}
use Rattle.language_model.specs.Values.{ring_for, gate_words}
use Rattle.code_model.specs.Kinded.{IsSingle, AreSingle}
use Rattle.gate_laws.specs.Dealt.{InRange, Dealt}
use Rattle.gate_laws.specs.Offers.{IsDealt, AreOffered}
use Rattle.gate_laws.proofs.Ranges.{Below, below_cons, below_none, one_below}
use Rattle.code_inputs.specs.Inputs.{element_given, is_array, is_private, AreGivenAs, dealt_of}
use Rattle.code_inputs.specs.Laws.{AreDealtWhereSound, AreOfferedWhereSound}

-- ---- WHAT IS DEALT

pub are_dealt : (entries : List Entry) (dealer : List ℕ) → AreDealtWhereSound entries dealer
are_dealt entries dealer sound suffice =
    record {
      held = dealt_held entries dealer sound.words suffice.words suffice.enough;
      sized = λ i. sizes_dealt i entries dealer suffice.enough ∙ sym (sizes_values entries);
    }

-- ---- VALUES

clash : {b : Bool} → b ≡ true → b ≡ false → ⊥
clash {b = true} e f = cc
clash {b = false} e f = cc

numbers_below : (ns : List ℕ) → All (λ n. n < 2 ^ 64) ns → Below (2 ^ 64) ns
numbers_below [] h = below_none (2 ^ 64) (omega arith)
numbers_below (n ∷ ns) h = below_cons (2 ^ 64) n ns (h 0 0 (omega arith)) (numbers_below ns (λ k d l. h (suc k) d (omega (arith, l))))

bit_below : (b : Bool) → bit_word b < 2
bit_below true = omega arith
bit_below false = omega arith

bits_below : (bs : List Bool) → Below 2 (map bit_word bs)
bits_below [] = below_none 2 (omega arith)
bits_below (b ∷ bs) = below_cons 2 (bit_word b) (map bit_word bs) (bit_below b) (bits_below bs)

in_range : (v : file.Value) → All (λ n. n < 2 ^ 64) (elements_of v) → InRange (element_given (type_of v)) (elements_of v)
in_range (One n) h = numbers_below (n ∷ []) h
in_range (Integer x) h = numbers_below (x ∷ []) h
in_range (Truth b) h = one_below 2 (bit_word b) (bit_below b)
in_range (Numbers ns) h = numbers_below ns h
in_range (Integers xs) h = numbers_below xs h
in_range (Truths bs) h = bits_below bs

single : (v : file.Value) → is_array v ≡ false → length (elements_of v) ≡ 1
single (One n) e = refl
single (Integer x) e = refl
single (Truth b) e = refl
single (Numbers ns) e = absurd (clash refl e)
single (Integers xs) e = absurd (clash refl e)
single (Truths bs) e = absurd (clash refl e)

ring_given : (t : told.DataType) → ring_for (element_given t) ≡ ring_kind t
ring_given kind.Uint64 = refl
ring_given kind.Int64 = refl
ring_given kind.Bool = refl

shared_given : (t : told.DataType) (elements : List ℕ) → shared_as t elements ≡ gate_words (element_given t) elements
shared_given kind.Uint64 elements = refl
shared_given kind.Int64 elements = refl
shared_given kind.Bool elements = refl

-- ---- WHAT IS OFFERED

module _ (d : Dealt) where
  -- from number k on the private inputs are these
  record Follow (k : ℕ) (vs : Values) (ks : List Kind) : Type 0 where
    pub values : (n : ℕ) → value d.inputs (k + n) ≡ value vs n
    pub kinds : (n : ℕ) → kind_at d.kinds (k + n) ≡ kind_at ks n
    pub many : k + length vs ≤ length d.inputs

  behind_one : (k : ℕ) (v : List ℕ) (vs : Values) (q : Kind) (ks : List Kind) → Follow k (v ∷ vs) (q ∷ ks) → Follow (k + 1) vs ks
  behind_one k v vs q ks h =
      record {
        values = λ n. let e : k + 1 + n ≡ k + suc n = omega arith in ap (value d.inputs) e ∙ h.values (suc n);
        kinds = λ n. let e : k + 1 + n ≡ k + suc n = omega arith in ap (kind_at d.kinds) e ∙ h.kinds (suc n);
        many = let m = h.many in omega (arith, m);
      }

  module _ (x : GivenInput) (v : file.Value) (shape : x.shape ≡ shape_of (element_given (type_of v)) (is_array v)) (words : x.words ≡ elements_of v) where
    dealt_at : (k : ℕ) (vs : Values) (ks : List Kind) → Follow k (value_then domain.Private v vs) (kind_then domain.Private v ks) → IsDealt d x k
    dealt_at k vs ks h =
        let here : k + 0 ≡ k = omega arith in
        let many = h.many in
        record {
          there = omega (arith, many);
          words = ap (value d.inputs) (sym here) ∙ h.values 0 ∙ shared_given (type_of v) (elements_of v)
              ∙ ap (gate_words (element_given (type_of v))) (sym words) ∙ ap (λ (s : Shape). gate_words s.element x.words) (sym shape);
          kind = ap (kind_at d.kinds) (sym here) ∙ h.kinds 0
              ∙ ap Shared (sym (ring_given (type_of v)) ∙ ap (λ (s : Shape). ring_for s.element) (sym shape));
        }

    offered_if : (k : ℕ) (dom : Domain) (vs : Values) (ks : List Kind) → x.secret ≡ is_private dom → Follow k (value_then dom v vs) (kind_then dom v ks)
        → (x.secret ≡ true → IsDealt d x k) × Follow (behind x k) vs ks
    offered_if k domain.Public vs ks secret h =
        (λ e. absurd (clash e secret), subst (λ (b : Bool). Follow (if b then k + 1 else k) vs ks) (sym secret) h)
    offered_if k domain.Private vs ks secret h = (
      λ e. dealt_at k vs ks h,
      subst (λ (b : Bool). Follow (if b then k + 1 else k) vs ks) (sym secret) (behind_one k (shared_words v) vs (Shared (ring_kind (type_of v))) ks h),
    )

    range_of : All (λ n. n < 2 ^ 64) (elements_of v) → InRange x.shape.element x.words
    range_of h =
        subst (λ ws. InRange x.shape.element ws) (sym words) (subst (λ (s : Shape). InRange s.element (elements_of v)) (sym shape) (in_range v h))

    small_of : count_of v ≤ 65536 → length x.words < 2 ^ 64
    small_of h =
        let one = ap length words in
        let two = length-elements_of v in
        omega (arith, one, two, h)

    single_of : IsSingle x
    single_of e = ap length words ∙ single v (sym (ap (λ (s : Shape). s.array) shape) ∙ e)

  offered_from : (before es : List Entry) (k : ℕ) (xs : List GivenInput) → AreEntries name_of count_in before es
      → ((j : ℕ) (e : Entry) → j < length es → All (λ n. n < 2 ^ 64) (elements_of (get_or es j e).value)) → AreGivenAs es xs
      → Follow k (private_values es) (private_kinds es) → AreOffered d k xs
  offered_from before [] k [] form words given h = tt
  offered_from before [] k (x ∷ xs) form words given h = absurd given
  offered_from before (e ∷ es) k [] form words given h = tt
  offered_from before (e ∷ es) k (x ∷ xs) form words given h =
      let g = given.0 in
      let own = offered_if x e.value g.shape g.words k e.domain (private_values es) (private_kinds es) g.secret h in (
        record {
          range = range_of x e.value g.shape g.words (words 0 e (omega arith));
          small = small_of x e.value g.shape g.words form.0.short;
          dealt = own.0;
        },
        offered_from (before ++ e ∷ []) es (behind x k) xs form.1 (λ j f l. words (suc j) f (omega (arith, l))) given.1 own.1,
      )

are_single : (es : List Entry) (xs : List GivenInput) → AreGivenAs es xs → AreSingle xs
are_single [] [] given x m = absurd m
are_single [] (y ∷ xs) given x m = absurd given
are_single (e ∷ es) [] given x m = absurd m
are_single (e ∷ es) (y ∷ xs) given x (inl same) =
    let g = given.0 in subst IsSingle (sym same) (single_of (dealt_of [] []) y e.value g.shape g.words)
are_single (e ∷ es) (y ∷ xs) given x (inr m) = are_single es xs given.1 x m

pub are_offered : (entries : List Entry) (dealer : List ℕ) (inputs : List GivenInput) → AreOfferedWhereSound entries dealer inputs
are_offered entries dealer inputs sound given = (
  offered_from (dealt_of entries dealer) [] entries 0 inputs sound.form sound.words given
      (record {
        values = λ n. let e : 0 + n ≡ n = omega arith in ap (value (private_values entries)) e;
        kinds = λ n. let e : 0 + n ≡ n = omega arith in ap (kind_at (private_kinds entries)) e;
        many = omega arith;
      }),
  are_single entries inputs given,
)
