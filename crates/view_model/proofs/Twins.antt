-- Twins give the same view, and there are as many of them.
use Rattle.std.proofs.Common.{◌≡◌, ℕ, ◌+◌, ◌≤◌, List, [], ◌∷◌, length, map, refl, sym, ◌∙◌, ap, subst}
use Rattle.std.proofs.lemmas.List.{length-map}
use Rattle.proto_core.specs.declared.party.Number.{Number}
use Rattle.protocol_model.specs.Network.{Delivery}
use Rattle.gates.specs.declared.gate.Gate.{Gate}
use Rattle.gates.specs.Counts.{words_of_all}
use Rattle.shared_gates.specs.Model.{AllSizesSuit, sizes_after, miner_of}
use Rattle.value_file.specs.declared.inputs.Entry.{Entry}
use Rattle.value_file.specs.declared.public.PublicEntry.{PublicEntry}
use Rattle.std.proofs.lemmas.List.Sums.{sum_by-cons}
use Rattle.value_file.specs.Public.{part_of, shown}
use Rattle.input_share.specs.Dealing.{need_of, draws_of}
use Rattle.tape_file.specs.Tapes.{FourTapes}
use Rattle.view_model.specs.Dealing.{private_sizes, hidden_sizes, hidden_draws}
use Rattle.view_model.specs.TapeMaps.{miners_of, to_simulated, from_simulated, twin, AreTapes, SameLengths, Correspond}
use Rattle.view_model.specs.Seen.{Seen, made_for}
use Rattle.view_model.specs.Counting.{NoneIs, AreDistinct, IsRunOn, AllGive, Alike, IsTwin, AsMany}
use Rattle.view_model.proofs.Dealings.{draws_are_known}
use Rattle.view_model.proofs.DealtSizes.{sizes_hidden}
use Rattle.view_model.proofs.Corresponding.{correspond}
use Rattle.view_model.proofs.Simulated.{seen_is_made}

-- ---- what the public part tells of needs and sizes

abbrev need_from : List PublicEntry → ℕ
need_from [] = 0
need_from (e ∷ es) = hidden_draws e.value + need_from es

need_known : (es : List Entry) → need_of es ≡ need_from (part_of es)
need_known [] = refl
need_known (e ∷ es) =
    sum_by-cons draws_of e es
    ∙ ap (λ n. n + need_of es) (sym (draws_are_known e.domain e.value))
    ∙ ap (λ n. hidden_draws (shown e.domain e.value) + n) (need_known es)

same_need : (first second : List Entry) → part_of first ≡ part_of second → need_of first ≡ need_of second
same_need first second h = need_known first ∙ ap need_from h ∙ sym (need_known second)

same_sizes : (first second : List Entry) → part_of first ≡ part_of second → private_sizes first ≡ private_sizes second
same_sizes first second h = sym (sizes_hidden first) ∙ ap hidden_sizes h ∙ sizes_hidden second

reaches_with :
    (gates : List Gate) (ds es : List ℕ) → ds ≡ es → (t s : FourTapes) → SameLengths s t →
    AllSizesSuit ds [] gates → ((i : Number) → words_of_all (sizes_after ds [] gates) (miner_of i) gates ≤ length (miners_of t i)) →
    (AllSizesSuit es [] gates) × ((i : Number) → words_of_all (sizes_after es [] gates) (miner_of i) gates ≤ length (miners_of s i))
reaches_with gates ds es h t s kept suit reach = (
  subst (λ v. AllSizesSuit v [] gates) h suit,
  λ i. subst (λ n. words_of_all (sizes_after es [] gates) (miner_of i) gates ≤ n) (sym (kept.1 i))
      (subst (λ v. words_of_all (sizes_after v [] gates) (miner_of i) gates ≤ length (miners_of t i)) h (reach i)),
)

-- a run on other tapes of the same lengths, with other inputs of the same public part
runs_with :
    (first second : List Entry) (gates : List Gate) (t s : FourTapes) → part_of first ≡ part_of second → SameLengths s t →
    AreTapes s → IsRunOn first gates t → IsRunOn second gates s
runs_with first second gates t s known kept are runs =
    let both = reaches_with gates _ _ (same_sizes first second known) t s kept runs.reaches.suit runs.reaches.reach in
    record {
      tapes = are;
      dealt = subst (λ n. n ≤ length s.dealer) (same_need first second known) (subst (λ n. need_of first ≤ n) (sym kept.0) runs.dealt);
      reaches = record { suit = both.0; reach = both.1 };
    }

corresponds : (i : Number) (es : List Entry) (gates : List Gate) (t : FourTapes) → IsRunOn es gates t → Correspond i es gates t
corresponds i es gates t runs = correspond i es gates t runs.tapes (λ h. runs.reaches)

pub is_twin :
    (i : Number) (first second : List Entry) (gates : List Gate) (opened : List ℕ) (t : FourTapes) →
    Alike first second gates opened → IsRunOn first gates t → IsTwin i first second gates t (twin i first second gates t)
is_twin i first second gates opened t alike runs =
    let s : FourTapes = to_simulated i first gates t in
    let t2 : FourTapes = twin i first second gates t in
    let one = corresponds i first gates t runs in
    let runs_s : IsRunOn second gates s = runs_with first second gates t s alike.known one.kept one.words runs in
    let two = corresponds i second gates s runs_s in
    let runs2 : IsRunOn second gates t2 = runs_with second second gates s t2 refl two.back_kept two.back_words runs_s in
    let again : to_simulated i second gates t2 ≡ s = two.back_and_there in
    record {
      runs = runs2;
      sees = λ delivery.
          seen_is_made i second gates t2 runs2.tapes runs2.dealt runs2.reaches delivery
          ∙ ap (λ o. made_for i (part_of second) gates o (to_simulated i second gates t2) delivery) (alike.opens_second t2 runs2)
          ∙ ap (λ v. made_for i (part_of second) gates opened v delivery) again
          ∙ ap (λ p. made_for i p gates opened s delivery) (sym alike.known)
          ∙ ap (λ o. made_for i (part_of first) gates o s delivery) (sym (alike.opens_first t runs))
          ∙ sym (seen_is_made i first gates t runs.tapes runs.dealt runs.reaches delivery);
      back = ap (from_simulated i first gates) again ∙ one.there_and_back;
    }

module _
    (i : Number) (first second : List Entry) (gates : List Gate) (opened : List ℕ) (delivery : Delivery) (view : Seen)
    (alike : Alike first second gates opened)
  where
    abbrev other : FourTapes → FourTapes
    other t = twin i first second gates t

    all_give : (ts : List FourTapes) → AllGive i first gates delivery view ts → AllGive i second gates delivery view (map other ts)
    all_give [] h = tt
    all_give (t ∷ ts) h =
        let is = is_twin i first second gates opened t alike h.0.runs in
        (record { runs = is.runs; sees = is.sees delivery ∙ h.0.sees }, all_give ts h.1)

    -- twins of two tapes differ where the tapes do
    none_is :
        (t : FourTapes) (ts : List FourTapes) → IsRunOn first gates t → AllGive i first gates delivery view ts → NoneIs t ts →
        NoneIs (other t) (map other ts)
    none_is t [] runs h n = tt
    none_is t (u ∷ us) runs h n =
        let is = is_twin i first second gates opened t alike runs in
        let is2 = is_twin i first second gates opened u alike h.0.runs in
        (λ e. n.0 (sym is.back ∙ ap (twin i second first gates) e ∙ is2.back), none_is t us runs h.1 n.1)

    all_distinct : (ts : List FourTapes) → AllGive i first gates delivery view ts → AreDistinct ts → AreDistinct (map other ts)
    all_distinct [] h d = tt
    all_distinct (t ∷ ts) h d = (none_is t ts h.0.runs h.1 d.0, all_distinct ts h.1 d.1)

    pub as_many : (ts : List FourTapes) → AllGive i first gates delivery view ts → AreDistinct ts → AsMany i second gates delivery view ts (map other ts)
    as_many ts h d = record { count = length-map ts other; distinct = all_distinct ts h d; give = all_give ts h }
