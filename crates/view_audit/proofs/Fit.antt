-- Inputs and tapes that are found fit: they may stand in files, have the lengths, and begin with what the views show.
use Rattle.std.proofs.Common.{◌≡◌, ℕ, ◌+◌, ◌-◌, ◌<◌, ◌≤◌, ◌^◌, ◌%◌, ◌==◌, Bool, true}
use Rattle.std.proofs.Common.{false, if◌then◌else◌, List, [], ◌∷◌, ◌++◌, All, length, map, take, get_or}
use Rattle.std.proofs.Common.{refl, sym, ◌∙◌, ap, subst, arith}
use Rattle.std.proofs.lemmas.List.{map-append}
use Rattle.std.specs.Prelude.{bit_xor}
use Rattle.proto_core.specs.Ring.{Ring}
use Rattle.proto_core.specs.Parties.{of_three}
use Rattle.proto_core.specs.Words.{AreWords}
use Rattle.proto_core.specs.declared.party.Number.{Number}
use Rattle.proto_core.specs.declared.party.Number.TheVariants.{One, Two, Three}
use Rattle.protocol_model.specs.Gates.{needed}
use Rattle.program_trees.specs.Programs.{ProgramTree}
use Rattle.program_trees.specs.TypedPrograms.{TypedProgramTree}
use Rattle.reached_instances.specs.Instances.{Instance}
use Rattle.shared_gates.specs.Model.{miner_of}
use Rattle.value_file.specs.declared.value.DataType.{DataType}
use Rattle.value_file.specs.declared.value.DataType.TheVariants.{Uint64, Int64, Bool as Truths_}
use Rattle.value_file.specs.declared.value.Domain.{Domain}
use Rattle.value_file.specs.declared.value.Domain.TheVariants as domain
use Rattle.value_file.specs.declared.value.Shape.{Shape}
use Rattle.value_file.specs.declared.value.Shape.TheVariants.{Scalar, Array}
use Rattle.value_file.specs.declared.value.Value.{Value}
use Rattle.value_file.specs.declared.inputs.Entry.{Entry}
use Rattle.value_file.specs.declared.public.PublicValue.{PublicValue}
use Rattle.value_file.specs.declared.public.PublicValue.TheVariants.{Known, Hidden}
use Rattle.value_file.specs.declared.public.PublicEntry.{PublicEntry}
use Rattle.value_file.specs.Input.{AreEntries, IsEntry, elements_of as count_in, name_of}
use Rattle.value_file.specs.Public.{part_of, public_entry, shown}
use Rattle.value_file.specs.PublicFile.{public_count, public_elements_of, public_name_of}
use Rattle.value_file.specs.Values.{count_of}
use Rattle.input_share.specs.AddUp.{HasWords, sums_of}
use Rattle.input_share.specs.Dealing.{need_of}
use Rattle.input_share.specs.Values.{bit_word, elements_of, ring_of}
use Rattle.tape_file.specs.Tapes.{FourTapes}
use Rattle.language_model.specs.Effects.{World, Clear}
use Rattle.language_model.specs.Reports.{world_of}
use Rattle.language_model.proofs.Kept.{words_kept}
use Rattle.gate_laws.specs.Dealt.{drawn_by}
use Rattle.gate_laws.specs.Laws.{GatesSuit}
use Rattle.clear_eval.specs.Offers.{offered}
use Rattle.code_inputs.proofs.Running.{evaluation_suits}
use Rattle.view_text.specs.View.{AreInputs as AreShown, InputShare, View, Words}
use Rattle.view_model.specs.TapeMaps.{gates_dealt, miners_of, AreTapes}
use Rattle.program_views.specs.Inputs.{AreSound, dealt_of}
use Rattle.program_views.specs.Laws.{IsGivenTo}
use Rattle.program_views.specs.Views.{lengths_of, run_on}
use Rattle.program_views.proofs.Dealt.{draws_its_words}
use Rattle.program_views.proofs.Given.{given_so}
use Rattle.found_inputs.specs.Found.{found_entries, found_value, found_words, rest_of, sums_first, words_first}
use Rattle.gate_audit.specs.Shown.{AreShareWords, HaveShareWords, dealt_with}
use Rattle.gate_audit.specs.Passing.{BeginWith}
use Rattle.view_audit.specs.Found.{entries_found, lines, report, shows, suffices, tapes_found, zero_lines, zeros}
use Rattle.view_audit.specs.Laws.{AreKnownWords, IsAuditable, KnownWords}
use Rattle.view_audit.proofs.Padded.{all_more, all_words, append_words, padded_is, padded_long, padded_words}

-- the program is accepted; inputs and tapes that are found may stand in files, have this public part and these lengths, and begin with what the
-- views show; and the run's gates draw what its report counts
pub record AreFit
    (source : ProgramTree) (p : TypedProgramTree) (is : List Instance) (part : List PublicEntry) (lengths : List ℕ) (views : Number → View) : Type 0 where
  pub given : IsGivenTo source p is (entries_found part lengths views)
  pub tapes : AreTapes (tapes_found part lengths views)
  pub long : lengths_of (tapes_found part lengths views) ≡ lengths
  pub begins : BeginWith part (shows part lengths views) (tapes_found part lengths views)
  pub words : HaveShareWords (shows part lengths views)
  pub known : part_of (entries_found part lengths views) ≡ part
  pub drawn :
      (budget : ℕ) (i : Number)
      → needed (gates_dealt (entries_found part lengths views) (tapes_found part lengths views).dealer (report part lengths views p budget).gates) i
      ≡ drawn_by (report part lengths views p budget).drawn (miner_of i)

-- ---- words of 64 bits

share_words : (ss : List InputShare) → AreShown ss → AreShareWords ss
share_words [] h = tt
share_words (s ∷ ss) h = (h.0.1, share_words ss h.1)

first_words : (ss : List InputShare) → AreShareWords ss → Words (words_first ss)
first_words [] h = tt
first_words (s ∷ ss) h = h.0

rest_words : (ss : List InputShare) → AreShareWords ss → AreShareWords (rest_of ss)
rest_words [] h = tt
rest_words (s ∷ ss) h = h.1

masks_then : (name : List ℕ) (v : PublicValue) (es : List PublicEntry) (one two : List InputShare) → AreShareWords one → AreShareWords two
    → Words (found_words es one two) → Words (found_words es (rest_of one) (rest_of two)) → Words (found_words (record { name = name; value = v } ∷ es) one two)
masks_then name (Known value) es one two h g same rest = same
masks_then name (Hidden kind shape) es one two h g same rest =
    append_words (words_first one) (words_first two ++ found_words es (rest_of one) (rest_of two)) (first_words one h)
    (append_words (words_first two) (found_words es (rest_of one) (rest_of two)) (first_words two g) rest)

masks_words : (part : List PublicEntry) (one two : List InputShare) → AreShareWords one → AreShareWords two → Words (found_words part one two)
masks_words [] one two h g = tt
masks_words (e ∷ es) one two h g =
    masks_then e.name e.value es one two h g (masks_words es one two h g)
    (masks_words es (rest_of one) (rest_of two) (rest_words one h) (rest_words two g))

-- ---- the elements of what is found

-- each sum in the ring is a word
abbrev RingWords : Ring → Type 0
RingWords r = (x y : ℕ) → r.add x y < 2 ^ 64

below_whole : (n : ℕ) → n % 2 ^ 64 < 2 ^ 64
below_whole n = omega arith

ring_words : (kind : DataType) → RingWords (ring_of kind)
ring_words Uint64 x y = below_whole (x + y)
ring_words Int64 x y = below_whole (x + y)
ring_words Truths_ x y = below_whole (bit_xor x y)

sums_words : (kind : DataType) (xs ys zs : List ℕ) → Words (sums_of (ring_of kind) xs ys zs)
sums_words kind [] ys zs = tt
sums_words kind (x ∷ xs) [] zs = tt
sums_words kind (x ∷ xs) (y ∷ ys) [] = tt
sums_words kind (x ∷ xs) (y ∷ ys) (z ∷ zs) = (ring_words kind ((ring_of kind).add x y) z, sums_words kind xs ys zs)

bit_is_word : (b : Bool) → bit_word b < 2 ^ 64
bit_is_word true = omega arith
bit_is_word false = omega arith

bits_words : (bs : List Bool) → Words (map bit_word bs)
bits_words [] = tt
bits_words (b ∷ bs) = (bit_is_word b, bits_words bs)

first_word : (ws : List ℕ) → Words ws → get_or ws 0 0 < 2 ^ 64
first_word [] h = omega arith
first_word (w ∷ ws) h = h.0

value_words : (kind : DataType) (shape : Shape) (ws : List ℕ) → Words ws → Words (elements_of (found_value kind shape ws))
value_words Uint64 Scalar ws h = (first_word ws h, tt)
value_words Uint64 (Array n) ws h = h
value_words Int64 Scalar ws h = (first_word ws h, tt)
value_words Int64 (Array n) ws h = h
value_words Truths_ Scalar ws h = (bit_is_word _, tt)
value_words Truths_ (Array n) ws h = bits_words _

value_then : (name : List ℕ) (v : PublicValue) (es : List PublicEntry) (one two three : List InputShare) → KnownWords v
    → All HasWords (found_entries es one two three) → All HasWords (found_entries es (rest_of one) (rest_of two) (rest_of three))
    → All HasWords (found_entries (record { name = name; value = v } ∷ es) one two three)
value_then name (Known value) es one two three here same rest =
    all_more HasWords (record { name = name; domain = domain.Public; value = value }) (found_entries es one two three) (all_words (elements_of value) here) same
value_then name (Hidden kind shape) es one two three here same rest =
    all_more HasWords (record { name = name; domain = domain.Private; value = found_value kind shape (sums_first kind one two three) })
    (found_entries es (rest_of one) (rest_of two) (rest_of three))
    (all_words (elements_of (found_value kind shape (sums_first kind one two three)))
    (value_words kind shape (sums_first kind one two three) (sums_words kind (words_first one) (words_first two) (words_first three)))) rest

found_have_words : (part : List PublicEntry) (one two three : List InputShare) → AreKnownWords part → All HasWords (found_entries part one two three)
found_have_words [] one two three h = λ k d lt. absurd (omega arith)
found_have_words (e ∷ es) one two three h =
    value_then e.name e.value es one two three h.0 (found_have_words es one two three h.1)
    (found_have_words es (rest_of one) (rest_of two) (rest_of three) h.1)

-- ---- inputs of a public part that may stand in a file may do so, too

count_known : (d : Domain) (v : Value) → public_count (shown d v) ≡ count_of v
count_known domain.Public v = refl
count_known domain.Private v = refl

names_known : (es : List Entry) → map public_name_of (part_of es) ≡ map name_of es
names_known [] = refl
names_known (e ∷ es) = ap (λ ns. e.name ∷ ns) (names_known es)

inputs_form : (before es : List Entry) → AreEntries public_name_of public_elements_of (part_of before) (part_of es) → AreEntries name_of count_in before es
inputs_form before [] h = tt
inputs_form before (e ∷ es) h = (
  subst (λ n. IsEntry (map name_of before) e.name n) (count_known e.domain e.value)
      (subst (λ ns. IsEntry ns e.name (public_count (shown e.domain e.value))) (names_known before) h.0),
  inputs_form (before ++ e ∷ []) es
      (subst (λ b. AreEntries public_name_of public_elements_of b (part_of es)) (sym (map-append public_entry before (e ∷ []))) h.1),
)

-- ---- the run's gates draw what its report counts

module _ (source : ProgramTree) (p : TypedProgramTree) (is : List Instance) (es : List Entry) (given : IsGivenTo source p is es) (t : FourTapes)
    (are : AreTapes t) (budget : ℕ) (enough : need_of es ≤ length t.dealer) where
  world : World
  world = world_of Clear (offered es (lengths_of t))

  as_long : (i : Number) → drawn_by world.lengths (miner_of i) ≡ length (miners_of t i)
  unfolding world
  as_long One = refl
  as_long Two = refl
  as_long Three = refl

  suits : GatesSuit world (dealt_of es t.dealer) (run_on p es (lengths_of t) budget)
  unfolding world
  suits =
      evaluation_suits source es t.dealer (offered es (lengths_of t)) budget given.inputs
      (record { words = are.dealer; enough = enough }) (given_so es) p is given.program

  pub draws_them : (i : Number) → needed (gates_dealt es t.dealer (run_on p es (lengths_of t) budget).gates) i
      ≡ drawn_by (run_on p es (lengths_of t) budget).drawn (miner_of i)
  unfolding world
  draws_them i =
      draws_its_words es t are given.inputs enough world refl as_long (run_on p es (lengths_of t) budget) suits (words_kept world p budget []) i

-- ---- lengths

abbrev pub length_at : (lengths : List ℕ) → Number → ℕ
length_at lengths = of_three (get_or lengths 1 0) (get_or lengths 2 0) (get_or lengths 3 0)

four_are : (ls : List ℕ) → length ls ≡ 4 → get_or ls 0 0 ∷ get_or ls 1 0 ∷ get_or ls 2 0 ∷ get_or ls 3 0 ∷ [] ≡ ls
four_are [] h = absurd (omega arith)
four_are (a ∷ []) h = absurd (omega arith)
four_are (a ∷ b ∷ []) h = absurd (omega arith)
four_are (a ∷ b ∷ c ∷ []) h = absurd (omega arith)
four_are (a ∷ b ∷ c ∷ d ∷ []) h = refl
four_are (a ∷ b ∷ c ∷ d ∷ e ∷ ls) h = absurd (omega arith)

module _
    (source : ProgramTree) (p : TypedProgramTree) (is : List Instance) (part : List PublicEntry) (lengths : List ℕ) (views : Number → View)
    (may : IsAuditable source p is part lengths views)
  where
    abbrev es : List Entry
    es = entries_found part lengths views

    abbrev t : FourTapes
    t = tapes_found part lengths views

    pub sound_found : part_of es ≡ part → AreSound es
    sound_found known =
        record {
          form = inputs_form [] es (subst (λ q. AreEntries public_name_of public_elements_of [] q) (sym known) may.form);
          words = found_have_words part (lines part lengths views One) (lines part lengths views Two) (lines part lengths views Three) may.known;
        }

    pub long : lengths_of t ≡ lengths
    long =
        ap (λ n. n ∷ length t.one ∷ length t.two ∷ length t.three ∷ [])
        (padded_long (dealt_with part (shows part lengths views)) (get_or lengths 0 0))
        ∙ ap (λ n. get_or lengths 0 0 ∷ n ∷ length t.two ∷ length t.three ∷ []) (padded_long (views One).drew (get_or lengths 1 0))
        ∙ ap (λ n. get_or lengths 0 0 ∷ get_or lengths 1 0 ∷ n ∷ length t.three ∷ []) (padded_long (views Two).drew (get_or lengths 2 0))
        ∙ ap (λ n. get_or lengths 0 0 ∷ get_or lengths 1 0 ∷ get_or lengths 2 0 ∷ n ∷ []) (padded_long (views Three).drew (get_or lengths 3 0))
        ∙ four_are lengths may.four

    pub tapes : HaveShareWords (shows part lengths views) → AreTapes t
    tapes words =
        record {
          dealer =
              padded_words (dealt_with part (shows part lengths views)) (get_or lengths 0 0)
              (masks_words part (lines part lengths views One) (lines part lengths views Two) (words One) (words Two));
          miners = by_number;
        }
      where
        by_number : (i : Number) → AreWords (miners_of t i)
        by_number One = padded_words (views One).drew (get_or lengths 1 0) (may.forms One).drew
        by_number Two = padded_words (views Two).drew (get_or lengths 2 0) (may.forms Two).drew
        by_number Three = padded_words (views Three).drew (get_or lengths 3 0) (may.forms Three).drew

    module _ (dealt : suffices part lengths ≡ true) where
      pub line_is : (i : Number) → lines part lengths views i ≡ (views i).inputs
      line_is i = ap (λ b. if b then (views i).inputs else zero_lines part) dealt

      pub have_words : HaveShareWords (shows part lengths views)
      have_words i = subst AreShareWords (sym (line_is i)) (share_words (views i).inputs (may.forms i).inputs)

      module _ (short_dealer : length (dealt_with part (shows part lengths views)) ≤ get_or lengths 0 0)
          (short : (i : Number) → length (views i).drew ≤ length_at lengths i) where
        abbrev left_at : Number → List ℕ
        left_at i = take (length_at lengths i - length (views i).drew) (zeros (length_at lengths i))

        begins : BeginWith part (shows part lengths views) t
        begins =
            record {
              more = take (get_or lengths 0 0 - length (dealt_with part (shows part lengths views))) (zeros (get_or lengths 0 0));
              dealer = padded_is (dealt_with part (shows part lengths views)) (get_or lengths 0 0) short_dealer;
              rests = left_at;
              miners = by_number;
            }
          where
            by_number : (i : Number) → miners_of t i ≡ (views i).drew ++ left_at i
            by_number One = padded_is (views One).drew (get_or lengths 1 0) (short One)
            by_number Two = padded_is (views Two).drew (get_or lengths 2 0) (short Two)
            by_number Three = padded_is (views Three).drew (get_or lengths 3 0) (short Three)

        pub fit_from : part_of es ≡ part → AreSound es → need_of es ≤ length t.dealer → AreFit source p is part lengths views
        fit_from known sound enough =
            let given : IsGivenTo source p is es = record { program = may.program; inputs = sound } in
            record {
              given = given;
              tapes = tapes have_words;
              long = long;
              begins = begins;
              words = have_words;
              known = known;
              drawn = λ budget i.
                  subst (λ ls. needed (gates_dealt es t.dealer (run_on p es ls budget).gates) i ≡ drawn_by (run_on p es ls budget).drawn (miner_of i)) long
                  (draws_them source p is es given t (tapes have_words) budget enough i);
            }
