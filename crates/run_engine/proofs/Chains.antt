-- What `map` writes is what `simulate` reads, and what `twin` writes is read as the twin tapes.
use Rattle.std.proofs.Common.{◌≡◌, ℕ, zero, suc, ◌+◌, ◌*◌, ◌≤◌, ◌<◌, ◌^◌, List, [], ◌∷◌, ◌++◌, All, length}
use Rattle.std.proofs.Common.{Bool, true, false, if◌then◌else◌, Option, Some, None, Result, Ok, Err, refl, sym, ap, subst, ◌∙◌, arith, append-nil}
use Rattle.std.specs.Prelude.{nat_lt}
use Rattle.std.proofs.lemmas.List.{get_or_default}
use Rattle.std.proofs.lemmas.Bool.{ltb-false}
use Rattle.outside.specs.Files.{Contents, file_at}
use Rattle.command_frame.specs.Answer.{Cause, ◌>>=◌, bytes_at}
use Rattle.command_words.specs.Ask.{MapAsk, SimulateAsk, TwinAsk}
use Rattle.proto_core.specs.declared.party.Number.{Number}
use Rattle.proto_core.specs.declared.party.Number.TheVariants.{One, Two, Three}
use Rattle.proto_core.specs.Lists.{AreWords}
use Rattle.miner_commands.specs.Deliveries.{net_of}
use Rattle.miner_commands.specs.Premises.{HaveWords}
use Rattle.miner_commands.proofs.Taken.{made_deliveries_are_taken}
use Rattle.protocol_model.specs.Network.{Accepted, Delivery}
use Rattle.program_trees.specs.TypedPrograms.{TypedProgramTree}
use Rattle.tape_file.specs.Format.{answer_unless, fault_of, lengths_fault, read_of, tape_bytes, tapes_at, word_at, words_at}
use Rattle.tape_file.specs.Tapes.{AreShort, FourTapes, IsWord, lengths_of}
use Rattle.tape_file.proofs.Laws as tape_laws
use Rattle.tape_file.proofs.WordLists.{length-words_at}
use Rattle.value_file.specs.declared.inputs.Entry.{Entry}
use Rattle.value_file.specs.declared.value.Domain.{Domain}
use Rattle.value_file.specs.declared.value.Domain.TheVariants as domain
use Rattle.value_file.specs.declared.public.PublicEntry.{PublicEntry}
use Rattle.value_file.specs.Public.{part_bytes, part_of, public_entry, shown}
use Rattle.value_file.specs.PublicFile.{read_public_of}
use Rattle.value_file.proofs.Forms.{IsWritable-part_of}
use Rattle.input_share.specs.AddUp.{HasWords}
use Rattle.input_share.specs.OfWords.{ArePublicRead, IsShownOfWords}
use Rattle.input_share.proofs.PartAgain.{part_is_read_again}
use Rattle.view_text.specs.View.{View}
use Rattle.view_model.specs.TapeMaps.{miners_of, AreTapes}
use Rattle.view_reader.specs.Opened.{opened_of}
use Rattle.view_laws.specs.Accepted.{IsAccepted}
use Rattle.view_laws.proofs.Openings.{opened_file_is_read_again}
use Rattle.program_views.specs.Inputs.{AreSound}
use Rattle.program_views.specs.TapeMaps.{MapsCorrespond, mapped, twinned}
use Rattle.program_views.specs.Views.{run_on, view_of}
use Rattle.program_commands.specs.Reading.{opened_at, public_at, tape_file_at, read_or, bad_tape, bad_opened, bad_input}
use Rattle.program_commands.proofs.Accepted.{accepted_so}
use Rattle.program_commands.proofs.Held.{read_there}
use Rattle.tape_commands.specs.Map.{open_bytes, sim_bytes}
use Rattle.tape_commands.specs.Simulate.{simulate_effect}
use Rattle.tape_commands.specs.Twin.{twin_bytes}
use Rattle.run_engine.specs.Chains.{HoldsMapped, MappedIsSimulated, SimulatesRun, TwinIsReadAgain}
use Rattle.run_engine.specs.MapPromises.{HoldsMap}
use Rattle.run_engine.specs.Runs.{IsNotTaken}
use Rattle.run_engine.specs.SimulatePromises.{HoldsOfRun, IsOfRun, SimulateEffect, net_refuses, opened_and, tapes_mapped}
use Rattle.run_engine.specs.TwinPromises.{AreTaken, HoldsTwin}
use Rattle.run_engine.proofs.Miners.{of_words}
use Rattle.run_engine.proofs.OfWords.{file_of_words}
use Rattle.run_engine.proofs.ViewLaws.{maps_correspond, simulated_so, twins_see_it}

-- ---- tapes that are read are short, and short tapes of words are read again

if_none : (c : Bool) (k : ℕ) (more : Option ℕ) → (if c then Some k else more) ≡ None → (c ≡ false) × (more ≡ None)
if_none true k more e = cc
if_none false k more e = (refl, e)

found_of : (fault : Option ℕ) (found tapes : FourTapes) → answer_unless fault found ≡ Ok tapes → (fault ≡ None) × (found ≡ tapes)
found_of None found tapes e = (refl, cc)
found_of (Some place) found tapes e = cc

read_short : (bytes : List ℕ) (tapes : FourTapes) → read_of bytes ≡ Ok tapes → AreShort tapes
unfolding read_of fault_of lengths_fault tapes_at
read_short bytes tapes e =
    let dealer = word_at 0 bytes in
    let one = word_at 8 bytes in
    let two = word_at 16 bytes in
    let three = word_at 24 bytes in
    let found = found_of (fault_of bytes) (tapes_at dealer one two three bytes) tapes e in
    let head = if_none (nat_lt (length bytes) 32) (length bytes) _ found.0 in
    let zeroth = if_none (nat_lt 16777216 dealer) 0 _ head.1 in
    let first = if_none (nat_lt 16777216 one) 8 _ zeroth.1 in
    let second = if_none (nat_lt 16777216 two) 16 _ first.1 in
    let third = if_none (nat_lt 16777216 three) 24 _ second.1 in
    subst AreShort found.1 (record {
      dealer = subst (λ n. n ≤ 16777216) (sym (length-words_at 32 dealer bytes)) (ltb-false 16777216 dealer zeroth.0);
      one = subst (λ n. n ≤ 16777216) (sym (length-words_at (32 + 8 * dealer) one bytes)) (ltb-false 16777216 one first.0);
      two = subst (λ n. n ≤ 16777216) (sym (length-words_at (32 + 8 * (dealer + one)) two bytes)) (ltb-false 16777216 two second.0);
      three = subst (λ n. n ≤ 16777216) (sym (length-words_at (32 + 8 * (dealer + one + two)) three bytes)) (ltb-false 16777216 three third.0);
    })

held_short : (files : Contents) (path : List ℕ) (tapes : FourTapes) → tape_file_at files path ≡ Ok tapes → AreShort tapes
unfolding tape_file_at
held_short files path tapes e = at_bytes (bytes_at files path) e
  where
    at_read : (bytes : List ℕ) (r : Result FourTapes ℕ) → read_of bytes ≡ r → read_or bad_tape r ≡ Ok tapes → AreShort tapes
    at_read bytes (Ok t) same is = let one : t ≡ tapes = cc in subst AreShort one (read_short bytes t same)
    at_read bytes (Err place) same is = absurd cc

    at_bytes : (r : Result (List ℕ) Cause) → (r >>= λ bytes. read_or bad_tape (read_of bytes)) ≡ Ok tapes → AreShort tapes
    at_bytes (Ok bytes) is = at_read bytes (read_of bytes) refl is
    at_bytes (Err c) is = absurd cc

-- tapes as long as short ones
as_short : (one other : FourTapes) → length one.dealer ≡ length other.dealer → ((i : Number) → length (miners_of one i) ≡ length (miners_of other i))
    → AreShort other → AreShort one
as_short one other dealer miners h = record {
  dealer = subst (λ n. n ≤ 16777216) (sym dealer) h.dealer;
  one = subst (λ n. n ≤ 16777216) (sym (miners One)) h.one;
  two = subst (λ n. n ≤ 16777216) (sym (miners Two)) h.two;
  three = subst (λ n. n ≤ 16777216) (sym (miners Three)) h.three;
}

each_word : (xs : List ℕ) → AreWords xs → All IsWord xs
each_word xs h k d within = subst IsWord (get_or_default xs k 0 d within) (h k)

lengths_fit : (t : FourTapes) → AreShort t → All IsWord (length t.dealer ∷ length t.one ∷ length t.two ∷ length t.three ∷ [])
lengths_fit t h zero d within = let s = h.dealer in omega (arith, s)
lengths_fit t h (suc zero) d within = let s = h.one in omega (arith, s)
lengths_fit t h (suc (suc zero)) d within = let s = h.two in omega (arith, s)
lengths_fit t h (suc (suc (suc zero))) d within = let s = h.three in omega (arith, s)
lengths_fit t h (suc (suc (suc (suc k)))) d within = absurd (omega (arith, within))

tapes_again : (t : FourTapes) → AreShort t → AreTapes t → read_of (tape_bytes t) ≡ Ok t
tapes_again t short words = tape_laws.read_of-tape_bytes t short (record {
  lengths = lengths_fit t short;
  dealer = each_word t.dealer words.dealer;
  one = each_word t.one (words.miners One);
  two = each_word t.two (words.miners Two);
  three = each_word t.three (words.miners Three);
})

-- ---- the public part of inputs that were read

shown_of_words : (e : Entry) → HasWords e → IsShownOfWords (public_entry e).value
shown_of_words e h = go e.domain
  where
    go : (d : Domain) → IsShownOfWords (shown d e.value)
    go domain.Public = h
    go domain.Private = tt

public_part_read : (entries : List Entry) → AreSound entries → ArePublicRead (part_of entries)
public_part_read entries sound = record { form = IsWritable-part_of entries sound.form; words = each entries sound.words }
  where
    each : (es : List Entry) → All HasWords es → All (λ e. IsShownOfWords e.value) (part_of es)
    each [] h k d within = absurd (omega (arith, within))
    each (e ∷ es) h zero d within = shown_of_words e (h zero e (omega arith))
    each (e ∷ es) h (suc k) d within = each es (λ i x l. h (suc i) x (omega (arith, l))) k d (omega (arith, within))

same_lengths : (t s : FourTapes) → lengths_of t ≡ lengths_of s
    → (length t.dealer ≡ length s.dealer) × ((i : Number) → length (miners_of t i) ≡ length (miners_of s i))
same_lengths t s e = (cc, λ i. by i)
  where
    by : (i : Number) → length (miners_of t i) ≡ length (miners_of s i)
    by One = cc
    by Two = cc
    by Three = cc

-- ---- files that hold what was written

tapes_held : (files : Contents) (path : List ℕ) (t : FourTapes) → file_at files path ≡ Some (tape_bytes t) → AreShort t → AreTapes t
    → tape_file_at files path ≡ Ok t
unfolding tape_file_at
tapes_held files path t there short words =
    ap (λ r. r >>= λ bytes. read_or bad_tape (read_of bytes)) (read_there files path (tape_bytes t) there) ∙ ap (read_or bad_tape) (tapes_again t short words)

public_held : (files : Contents) (path : List ℕ) (part : List PublicEntry) → file_at files path ≡ Some (part_bytes part) → ArePublicRead part
    → public_at files path ≡ Ok part
unfolding public_at
public_held files path part there good =
    ap (λ r. r >>= λ bytes. read_or bad_input (read_public_of bytes)) (read_there files path (part_bytes part) there)
    ∙ ap (read_or bad_input) (part_is_read_again part good)

opened_held : (files : Contents) (path text opened : List ℕ) → file_at files path ≡ Some text → opened_of text ≡ Ok opened → opened_at files path ≡ Ok opened
unfolding opened_at
opened_held files path text opened there same =
    ap (λ r. r >>= λ bytes. read_or bad_opened (opened_of bytes)) (read_there files path text there) ∙ ap (read_or bad_opened) same

-- ---- the chains

simulates : (ask : SimulateAsk) (files : Contents) (p : TypedProgramTree) (entries : List Entry) (tapes : FourTapes) (delivery : Delivery)
    → IsAccepted p → HaveWords entries tapes → HoldsOfRun ask p entries tapes [] delivery files → SimulatesRun ask files p entries tapes delivery
simulates ask files p entries tapes delivery accepted have holds =
    let is : IsOfRun ask p entries tapes [] delivery = simulated_so ask files p entries tapes [] delivery holds have in
    let part : List PublicEntry = part_of entries in
    let opened : List ℕ = opened_and ask p entries tapes [] in
    let to : FourTapes = tapes_mapped ask p entries tapes in
    let takes : net_of p entries tapes ask.budget delivery ≡ Accepted
    → SimulateEffect ask files (simulate_effect ask (view_of ask.miner p entries tapes ask.budget delivery)) =
    λ is_taken. (
      p,
      part,
      opened,
      to,
      delivery,
      holds,
      record { suffice = is.suffice; taken = is.net ∙ is_taken },
      ap (λ (view : Option View). simulate_effect ask view) (sym is.view),
    ) in
    record {
      holds = holds;
      view = is;
      taken = takes;
      made = λ made. takes (made_deliveries_are_taken p entries tapes ask.budget delivery accepted have made);
      refused = λ refused. net_refuses refl p part opened to delivery holds is.suffice (subst IsNotTaken (sym is.net) refused);
    }

pub mapped_simulated : (mapping : MapAsk) (before : Contents) (p : TypedProgramTree) (entries : List Entry) (tapes : FourTapes)
    → HoldsMap mapping before p entries tapes → MappedIsSimulated mapping p entries tapes
unfolding sim_bytes open_bytes
mapped_simulated mapping before p entries tapes h ask files delivery miner budget held =
    let have = file_of_words before mapping.input mapping.tape entries tapes h.inputs h.tapes in
    let maps : MapsCorrespond ask.miner p entries tapes ask.budget =
    subst (λ i. MapsCorrespond i p entries tapes ask.budget) (sym miner)
    (subst (λ b. MapsCorrespond mapping.miner p entries tapes b) (sym budget) (maps_correspond mapping before p entries tapes h)) in
    let short = as_short (mapped ask.miner p entries tapes ask.budget) tapes maps.kept.0 maps.kept.1 (held_short before mapping.tape tapes h.tapes) in
    let opened : opened_of (open_bytes p entries tapes ask.budget) ≡ Ok (run_on p entries (lengths_of tapes) ask.budget).opened =
    opened_file_is_read_again p entries tapes ask.budget (accepted_so ask.program files p held.program_held) have.sound (of_words entries tapes have) in
    let holds : HoldsOfRun ask p entries tapes [] delivery files = record {
      program = held.program_held;
      public = public_held files ask.public (part_of entries) held.public (public_part_read entries have.sound);
      opened = opened_held files ask.opened _ _ held.opened (opened ∙ ap Ok (sym (append-nil (run_on p entries (lengths_of tapes) ask.budget).opened)));
      tapes = tapes_held files ask.sim (mapped ask.miner p entries tapes ask.budget) held.sim short maps.words;
      order = held.order;
    } in
    simulates ask files p entries tapes delivery (accepted_so ask.program files p held.program_held) have holds

pub twin_read_again : (ask : TwinAsk) (before : Contents) (p : TypedProgramTree) (first second : List Entry) (tapes : FourTapes)
    → HoldsTwin ask before p first second tapes → AreTaken ask p first second tapes → TwinIsReadAgain ask p first second tapes
unfolding twin_bytes
twin_read_again ask before p first second tapes h alike path files there =
    let twin = twins_see_it ask before p first second tapes h alike in
    let t2 = twinned ask.miner p first second tapes ask.budget in
    let same = same_lengths t2 tapes twin.lengths in
    tapes_held files path t2 there (as_short t2 tapes same.0 same.1 (held_short before ask.tape tapes h.tapes)) twin.words
