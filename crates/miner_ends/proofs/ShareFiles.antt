-- What a share file tells is what a miner is to be given.
use Rattle.std.proofs.Common.{◌≡◌, ℕ, suc, ◌<◌, ◌≤◌, ◌^◌, Bool, false, List, [], ◌∷◌, ◌++◌, length, map, All, refl, sym, ap, ◌∙◌, subst, arith}
use Rattle.std.specs.Prelude.{replicate, get_or}
use Rattle.std.proofs.lemmas.List.{length-map}
use Rattle.proto_core.specs.declared.party.Number.{Number}
use Rattle.proto_core.specs.declared.party.Number.TheVariants.{One, Two, Three}
use Rattle.proto_core.specs.Parties.{count_of}
use Rattle.proto_core.specs.Lists.{at}
use Rattle.protocol_model.specs.Gates.{sizes_of}
use Rattle.shared_gates.specs.Model.{miner_of}
use Rattle.program_trees.specs.declared.expression.DataType.{DataType}
use Rattle.program_trees.specs.declared.expression.DataType.TheVariants as datatype
use Rattle.value_file.specs.declared.value.DataType as told
use Rattle.value_file.specs.declared.value.DataType.TheVariants as kind
use Rattle.value_file.specs.declared.value.Shape.{Shape}
use Rattle.value_file.specs.declared.value.Shape.TheVariants.{Scalar, Array}
use Rattle.value_file.specs.declared.value.Value.TheVariants.{Number as OneNumber, Integer, Truth, Numbers, Integers, Truths}
use Rattle.value_file.specs.Input.{AreEntries}
use Rattle.value_file.specs.Values.{size_of}
use Rattle.language_model.specs.Effects.{World}
use Rattle.language_model.specs.Values.{gate_size}
use Rattle.language_model.specs.Words.{truth_word}
use Rattle.gate_laws.specs.Dealt.{bound, drawn_by}
use Rattle.gate_laws.proofs.Ranges.{Below, below_cons, below_none, length_replicated, replicate_below, truth_below}
use Rattle.input_share.specs.declared.entry.Part.{Part}
use Rattle.input_share.specs.declared.entry.Part.TheVariants.{Public, Private}
use Rattle.input_share.specs.declared.entry.ShareEntry.{ShareEntry}
use Rattle.input_share.specs.OfWords.{AreSharesRead, IsPartOfWords}
use Rattle.input_share.specs.Reading.{IsWhole, IsWholePart, part_count, share_count_of, share_name_of}
use Rattle.input_share.specs.ShareFile.{MinerFile}
use Rattle.input_share.specs.Values.{shared_size}
use Rattle.input_share.specs.Shapes.{known_of, shapes_of}
use Rattle.input_share.proofs.SharesOfWords.{share_read_of_words}
use Rattle.clear_eval.specs.Offers.{is_array, part_given, public_given, type_given}
use Rattle.view_model.specs.Dealing.{private_then, private_shares}
use Rattle.miner_core.specs.Story.{Story}
use Rattle.miner_ends.specs.Given.{IsGivenItsPart}
use Rattle.miner_ends.specs.Known.{IsKnown, AreKnown, private_sizes}
use Rattle.miner_ends.specs.ShareFiles.{IsOfShareFile, SharesEndWhereTheyCan, SharesAnswerNoOtherEnd}
use Rattle.miner_ends.proofs.Ends.{ends_where_it_can, answers_no_other_end}

-- ---- words

words_below : (ns : List ℕ) → All (λ n. n < 2 ^ 64) ns → Below (2 ^ 64) ns
words_below [] h = below_none (2 ^ 64) (omega arith)
words_below (n ∷ ns) h = below_cons (2 ^ 64) n ns (h 0 0 (omega arith)) (words_below ns (λ k d l. h (suc k) d (omega (arith, l))))

truths_below : (bs : List Bool) → Below 2 (map truth_word bs)
truths_below [] = below_none 2 (omega arith)
truths_below (b ∷ bs) = below_cons 2 (truth_word b) (map truth_word bs) (truth_below b) (truths_below bs)

zeros : (n k : ℕ) → at (replicate n 0) k ≡ 0
zeros n k = let low = replicate_below 1 n 0 (omega arith) k in omega (arith, low)

some_bound : (e : DataType) → 0 < bound e
some_bound datatype.Uint64 = omega arith
some_bound datatype.Int64 = omega arith
some_bound datatype.Bool = omega arith

no_array : (shape : Shape) → is_array shape ≡ false → size_of shape ≡ 1
no_array Scalar e = refl
no_array (Array count) e = absurd cc

-- ---- entries

known_part : (name : List ℕ) (part : Part) → part_count part ≤ 65536 → IsPartOfWords part → IsKnown (public_given name (known_of part))
known_part name (Public (OneNumber n)) short words =
    record { range = words_below (n ∷ []) words; small = omega arith; single = λ e. refl; hidden = λ e k. absurd cc }
known_part name (Public (Integer n)) short words =
    record { range = words_below (n ∷ []) words; small = omega arith; single = λ e. refl; hidden = λ e k. absurd cc }
known_part name (Public (Truth b)) short words =
    record {
      range = below_cons 2 (truth_word b) [] (truth_below b) (below_none 2 (omega arith));
      small = omega arith;
      single = λ e. refl;
      hidden = λ e k. absurd cc;
    }
known_part name (Public (Numbers ns)) short words =
    record { range = words_below ns words; small = omega (arith, short); single = λ e. absurd cc; hidden = λ e k. absurd cc }
known_part name (Public (Integers ns)) short words =
    record { range = words_below ns words; small = omega (arith, short); single = λ e. absurd cc; hidden = λ e k. absurd cc }
known_part name (Public (Truths bs)) short words =
    let count : length (map truth_word bs) ≡ length bs = length-map bs truth_word in
    record { range = truths_below bs; small = omega (arith, short, count); single = λ e. absurd cc; hidden = λ e k. absurd cc }
known_part name (Private shared) short words =
    let count : length (replicate (size_of shared.shape) 0) ≡ size_of shared.shape = length_replicated (size_of shared.shape) 0 in
    record {
      range = replicate_below (bound (type_given shared.data_type)) (size_of shared.shape) 0 (some_bound (type_given shared.data_type));
      small = omega (arith, short, count);
      single = λ e. count ∙ no_array shared.shape e;
      hidden = λ e k. zeros (size_of shared.shape) k;
    }

known_from : (before es : List ShareEntry) → AreEntries share_name_of share_count_of before es → All (λ (e : ShareEntry). IsPartOfWords e.part) es
    → AreKnown (map part_given (shapes_of es))
known_from before [] form words = tt
known_from before (e ∷ es) form words = (
  known_part e.name e.part form.0.short (words 0 e (omega arith)),
  known_from (before ++ e ∷ []) es form.1 (λ k d l. words (suc k) d (omega (arith, l))),
)

-- as many words as the gates have
same_sizes : (t : told.DataType) (n : ℕ) → shared_size t n ≡ gate_size (type_given t) n
same_sizes kind.Uint64 n = refl
same_sizes kind.Int64 n = refl
same_sizes kind.Bool n = refl

sizes_from : (es : List ShareEntry) → All IsWhole es → sizes_of (private_shares es) ≡ private_sizes (map part_given (shapes_of es))
sizes_from [] whole = refl
sizes_from (e ∷ es) whole = by e.part (whole 0 e (omega arith)) (sizes_from es (λ k d l. whole (suc k) d (omega (arith, l))))
  where
    by : (part : Part) → IsWholePart part → sizes_of (private_shares es) ≡ private_sizes (map part_given (shapes_of es))
        → sizes_of (private_then part (private_shares es)) ≡ private_sizes (public_given e.name (known_of part) ∷ map part_given (shapes_of es))
    by (Public value) whole rest = rest
    by (Private shared) whole rest =
        let e : DataType = type_given shared.data_type in
        ap (λ n. n ∷ sizes_of (private_shares es))
        (whole ∙ same_sizes shared.data_type (size_of shared.shape) ∙ ap (gate_size e) (sym (length_replicated (size_of shared.shape) 0)))
        ∙ ap (λ ns. gate_size e (length {A = ℕ} (replicate (size_of shared.shape) 0)) ∷ ns) rest

-- ---- the file

module _ (share : MinerFile) (s : Story) (of : IsOfShareFile share s) where
  are : AreSharesRead share.entries
  are = share_read_of_words (count_of share.miner) of.bytes share of.read

  own_length : (j : Number) → drawn_by s.world.lengths (miner_of j) ≡ get_or share.lens (count_of j) 0
  own_length One = ap (λ (w : World). w.lengths.first) of.world
  own_length Two = ap (λ (w : World). w.lengths.second) of.world
  own_length Three = ap (λ (w : World). w.lengths.third) of.world

  given : IsGivenItsPart share.miner s
  given =
      record {
        code = of.code;
        settles = of.settles;
        verified = of.verified;
        literals = of.literals;
        told = ap (λ (w : World). w.source) of.world;
        known = subst (λ (w : World). AreKnown w.inputs) (sym of.world) (known_from [] share.entries are.form.form are.words);
        shares =
            ap sizes_of of.dealt ∙ sizes_from share.entries are.form.whole ∙ sym (ap (λ (w : World). private_sizes w.inputs) of.world);
        tape = of.tape ∙ sym (own_length share.miner);
      }

pub shares_end_where_they_can : (share : MinerFile) (s : Story) → SharesEndWhereTheyCan share s
shares_end_where_they_can share s of e is = ends_where_it_can share.miner s (given share s of) e is

pub shares_answer_no_other_end : (share : MinerFile) (s : Story) → SharesAnswerNoOtherEnd share s
shares_answer_no_other_end share s of how is = answers_no_other_end share.miner s (given share s of) how is
