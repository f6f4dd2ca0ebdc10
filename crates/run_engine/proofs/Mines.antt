-- What the answer of `miner` is: for files and peers that are as they must be, and that it is refused only for those that are not.
use Rattle.std.proofs.Common.{◌≡◌, ◌⊎◌, ℕ, List, true, false, Option, Some, None, Ok, Err, Result, refl, ap, subst, sym, ◌∙◌, inl, inr}
use Rattle.std.proofs.lemmas.Bool.{true≢false}
use Rattle.outside.specs.Files.{Contents, file_at}
use Rattle.sha2.specs.Sha256.{sha256}
use Rattle.sc_text.specs.declared.end.End.{End}
use Rattle.proto_core.specs.Parties.{count_of}
use Rattle.proto_core.specs.Strand.{Act}
use Rattle.own_code.specs.OwnCode.{Ended}
use Rattle.input_share.specs.Reading.{read_share_of}
use Rattle.input_share.specs.ShareFile.{MinerFile}
use Rattle.tape_file.specs.Format.{read_own_of}
use Rattle.bytecode.specs.Raw.{RawCode}
use Rattle.bytecode.specs.Decoded.{decoded}
use Rattle.value_file.specs.declared.read_err.ReadErr.{ReadErr}
use Rattle.command_frame.specs.declared.status.Status.{Status}
use Rattle.command_frame.specs.declared.status.Status.TheVariants as statuses
use Rattle.command_frame.specs.Answer.{Answer, Cause, Effect, bytes_at, missing, ◌>>=◌}
use Rattle.command_frame.specs.Status.{can_refuse, is_end}
use Rattle.command_words.specs.Ask.{MinerAsk}
use Rattle.honest_miners.specs.Serving.{Outcome, Finished, Mismatch, NoFrame, Refused, CutOff}
use Rattle.honest_miners.specs.Nodes.{end_in, node_text}
use Rattle.program_commands.specs.Reading.{bad_input, bad_tape, read_or, share_at}
use Rattle.program_commands.proofs.Held.{read_there}
use Rattle.program_commands.proofs.Refusals.{ReadRefused, end_is, input_status, refusing, share_refused, status_in_answer, status_of_cause, steps}
use Rattle.program_commands.proofs.Refusals.{tape_status}
use Rattle.program_commands.proofs.Refusals.{there_or_missing, Steps}
use Rattle.program_commands.proofs.Upgrades.{judged_status}
use Rattle.miner_command.specs.Files.{Given, GivenCode, code_at, code_of, given_at, own_length, own_tape_at}
use Rattle.miner_command.specs.Miner.{answer_at, bad_peer, ended_answer, miner_of, node_answer, sent_of, sent_with, nothing_sent, text_effect}
use Rattle.miner_command.specs.Held.{ComesTo, HoldsMiner, MinerEffect, MinerRefused, bad_message, no_frame, node_of, other_hello, unreadable_code}
use Rattle.miner_command.specs.Held.{unreadable_share, unreadable_tape}
use Rattle.run_engine.specs.Promises.{is_refusal}

-- ---- refusals of readers

abbrev failed : {A : Type 0} → Cause → Result A Cause
failed c = Err c

abbrev refused_so : Cause → Answer
refused_so c = Err c

abbrev good : Given → Result Given Cause
good given = Ok given

abbrev IsThereOr : Contents → List ℕ → Result (List ℕ) Cause → Type 0
IsThereOr files path r = ((bytes : List ℕ) × (file_at files path ≡ Some bytes) × (r ≡ Ok bytes)) ⊎ (r ≡ Err (missing path))

-- the code is missing, or its bytes are refused
abbrev CodeRefused : Contents → (path : List ℕ) → Cause → Type 0
CodeRefused files path c = (c ≡ missing path) ⊎ ((bytes : List ℕ) × (file_at files path ≡ Some bytes) × (code_of bytes ≡ Err c))

code_refused : (files : Contents) (path : List ℕ) (c : Cause) → code_at files path ≡ Err c → CodeRefused files path c
unfolding code_at
code_refused files path c is =
    elim (steps (bytes_at files path) after (Err c) is) [
      | inl (c2, e, same) ↦ at_missing c2 (there_or_missing files path (failed c2) e) same
      | inr (bytes, e, rest) ↦ at_bytes bytes (there_or_missing files path (Ok bytes) e) (steps (code_of bytes) (made bytes) (Err c) rest)
    ]
  where
    made : List ℕ → RawCode → Result GivenCode Cause
    made bytes code = Ok (record { digest = sha256 bytes; code = code })

    after : List ℕ → Result GivenCode Cause
    after bytes = code_of bytes >>= made bytes

    at_missing : (c2 : Cause) → IsThereOr files path (failed c2) → failed {A = GivenCode} c ≡ Err c2 → CodeRefused files path c
    at_missing c2 (inl (bytes, there, wrong)) same = absurd cc
    at_missing c2 (inr is) same = inl cc

    at_bytes : (bytes : List ℕ) → IsThereOr files path (Ok bytes) → Steps (code_of bytes) (made bytes) (Err c) → CodeRefused files path c
    at_bytes bytes (inl (b, there, same)) (inl (c2, e, is)) =
        let here : bytes ≡ b = cc in
        let why : c2 ≡ c = cc in
        inr (b, there, subst (λ (x : List ℕ). code_of x ≡ Err c) here (e ∙ ap failed why))
    at_bytes bytes (inl (b, there, same)) (inr (code, e, wrong)) = absurd cc
    at_bytes bytes (inr wrong) rest = absurd cc

own_tape_refused : (files : Contents) (count : ℕ) (path : List ℕ) (c : Cause) → own_tape_at files count path ≡ Err c
    → ReadRefused files path bad_tape (read_own_of count) c
unfolding own_tape_at
own_tape_refused files count path c is =
    elim (steps (bytes_at files path) after (Err c) is) [
      | inl (c2, e, same) ↦ at_missing c2 (there_or_missing files path (failed c2) e) same
      | inr (bytes, e, rest) ↦ at_bytes bytes (there_or_missing files path (Ok bytes) e) (read_own_of count bytes) refl rest
    ]
  where
    after : List ℕ → Result (List ℕ) Cause
    after bytes = read_or bad_tape (read_own_of count bytes)

    at_missing : (c2 : Cause) → IsThereOr files path (failed c2) → failed {A = List ℕ} c ≡ Err c2 → ReadRefused files path bad_tape (read_own_of count) c
    at_missing c2 (inl (bytes, there, wrong)) same = absurd cc
    at_missing c2 (inr is) same = inl cc

    at_bytes : (bytes : List ℕ) → IsThereOr files path (Ok bytes) → (x : Result (List ℕ) ℕ) → read_own_of count bytes ≡ x
        → read_or bad_tape x ≡ Err c → ReadRefused files path bad_tape (read_own_of count) c
    at_bytes bytes (inl (b, there, same)) (Err place) bad is =
        let here : bytes ≡ b = cc in
        let why : c ≡ bad_tape place = cc in
        inr (b, place, there, subst (λ (x : List ℕ). read_own_of count x ≡ Err place) here bad, why)
    at_bytes bytes (inl (b, there, same)) (Ok tape) good wrong = absurd cc
    at_bytes bytes (inr wrong) x bad rest = absurd cc

module _ (ask : MinerAsk) (files : Contents) (coming : ℕ → List ℕ) where
  abbrev status_of_miner : Status
  status_of_miner = status_in_answer (miner_of ask files coming)

  -- ---- files that are as they must be

  abbrev with_tape : GivenCode → MinerFile → List ℕ → Result Given Cause
  with_tape code share tape = Ok (record { code = code; share = share; tape = tape })

  abbrev with_share : GivenCode → MinerFile → Result Given Cause
  with_share code share = own_tape_at files (own_length ask.me share.lens) ask.tape >>= with_tape code share

  abbrev with_code : GivenCode → Result Given Cause
  with_code code = share_at files ask.me ask.share >>= with_share code

  as_given : {x y : Given} → good x ≡ Ok y → x ≡ y
  as_given is = cc

  miner_there : (given : Given) → given_at ask files ≡ Ok given → miner_of ask files coming ≡ node_answer ask (node_of ask files coming given)
  unfolding miner_of
  miner_there given held = rw held refl

  at_end : (acts : List Act) (o : Outcome) (last : Ended) (end : End) → o ≡ Finished last → end_in ask.budget last ≡ Some end
      → answer_at ask acts o ≡ Ok (text_effect ask.out (node_text acts end) end)
  at_end acts o last end is ends = rw (is, ends) refl

  given_there : (given : Given) → HoldsMiner ask files given → given_at ask files ≡ Ok given
  unfolding given_at
  given_there given h = rw (h.code, h.share, h.tape) refl

  pub miner_effect : (effect : Effect) → MinerEffect ask files coming effect → miner_of ask files coming ≡ Ok effect
  miner_effect effect w =
      miner_there w.given (given_there w.given w.held)
      ∙ at_end (node_of ask files coming w.given).acts (node_of ask files coming w.given).outcome w.last w.end w.comes w.ends
      ∙ ap (λ (e : Effect). Ok e) (sym w.does)

  held_there : (given : Given) → given_at ask files ≡ Ok given → HoldsMiner ask files given
  unfolding given_at
  held_there given is =
      elim (steps (code_at files ask.code) with_code (Ok given) is) [
        | inl (c, e, wrong) ↦ absurd cc
        | inr (code, held, rest) ↦
            elim (steps (share_at files ask.me ask.share) (with_share code) (Ok given) rest) [
              | inl (c, e, wrong) ↦ absurd cc
              | inr (share, shared, last) ↦
                  elim (steps (own_tape_at files (own_length ask.me share.lens) ask.tape) (with_tape code share) (Ok given) last) [
                    | inl (c, e, wrong) ↦ absurd cc
                    | inr (tape, taped, same) ↦
                        subst (HoldsMiner ask files) (as_given same) (record { code = held; share = shared; tape = taped })
                  ]
            ]
      ]

  -- ---- files and peers that are refused

  refused_first : (cause : Cause) → given_at ask files ≡ Err cause → miner_of ask files coming ≡ Err cause
  unfolding miner_of
  refused_first cause is = rw is refl

  bad_code : (bytes : List ℕ) (cause : Cause) → file_at files ask.code ≡ Some bytes → code_of bytes ≡ Err cause → given_at ask files ≡ Err cause
  unfolding given_at code_at
  bad_code bytes cause there bad = rw (read_there files ask.code bytes there, bad) refl

  bad_share : (code : GivenCode) → code_at files ask.code ≡ Ok code → (bytes : List ℕ) (err : ReadErr) → file_at files ask.share ≡ Some bytes
      → read_share_of (count_of ask.me) bytes ≡ Err err → given_at ask files ≡ Err (bad_input err)
  unfolding given_at share_at
  bad_share code held bytes err there bad = rw (held, read_there files ask.share bytes there, bad) refl

  bad_own : (code : GivenCode) → code_at files ask.code ≡ Ok code → (share : MinerFile) → share_at files ask.me ask.share ≡ Ok share
      → (bytes : List ℕ) (place : ℕ) → file_at files ask.tape ≡ Some bytes → read_own_of (own_length ask.me share.lens) bytes ≡ Err place
      → given_at ask files ≡ Err (bad_tape place)
  unfolding given_at own_tape_at
  bad_own code held share shared bytes place there bad = rw (held, shared, read_there files ask.tape bytes there, bad) refl

  -- bytes that are refused as code have one status
  code_status : (bytes : List ℕ) (cause : Cause) → code_of bytes ≡ Err cause → status_of_cause cause ≡ statuses.Program
  code_status bytes cause is = judged_status (decoded bytes) cause is

  comes_status : (o : Outcome) (s : Status) → ((acts : List Act) → status_in_answer (answer_at ask acts o) ≡ s) → ComesTo ask files coming o
      → status_of_miner ≡ s
  comes_status o s is c =
      ap status_in_answer (miner_there c.given (given_there c.given c.held))
      ∙ ap (λ (x : Outcome). status_in_answer (answer_at ask (node_of ask files coming c.given).acts x)) c.comes
      ∙ is (node_of ask files coming c.given).acts

  pub miner_refused : (s : Status) → MinerRefused ask files coming s → status_of_miner ≡ s
  unfolding bad_peer
  miner_refused s (unreadable_code is bytes cause there bad) =
      ap status_in_answer (refused_first cause (bad_code bytes cause there bad)) ∙ code_status bytes cause bad ∙ sym is
  miner_refused s (unreadable_share is code held bytes err there bad) =
      ap status_in_answer (refused_first (bad_input err) (bad_share code held bytes err there bad)) ∙ input_status err ∙ sym is
  miner_refused s (unreadable_tape is code share held shared bytes place there bad) =
      ap status_in_answer (refused_first (bad_tape place) (bad_own code held share shared bytes place there bad)) ∙ tape_status place ∙ sym is
  miner_refused s (other_hello is field mine theirs comes) =
      comes_status (Mismatch field mine theirs) statuses.Peer (λ acts. refl) comes ∙ sym is
  miner_refused s (no_frame is place comes) = comes_status (NoFrame place) statuses.Peer (λ acts. refl) comes ∙ sym is
  miner_refused s (bad_message is link cause comes) = comes_status (Refused link cause) statuses.Peer (λ acts. refl) comes ∙ sym is

  -- ---- and only so

  module _ (r : Answer) (refusal : is_refusal (status_in_answer r) ≡ true) (unended : is_end (status_in_answer r) ≡ false) where
    abbrev Why : Type 0
    Why = MinerRefused ask files coming (status_in_answer r)

    wrong_status : {X : Type 0} (s : Status) → is_refusal s ≡ false → status_in_answer r ≡ s → X
    wrong_status s other is = absurd (true≢false (sym refusal ∙ ap is_refusal is ∙ other))

    not_missing : {X : Type 0} (c : Cause) (path : List ℕ) → r ≡ Err c → c ≡ missing path → X
    not_missing c path is missed = wrong_status statuses.File refl (refusing r c is ∙ ap status_of_cause missed)

    by_code : (c : Cause) → r ≡ Err c → CodeRefused files ask.code c → Why
    by_code c is (inl missed) = not_missing c ask.code is missed
    by_code c is (inr (bytes, there, bad)) = unreadable_code (refusing r c is ∙ code_status bytes c bad) bytes c there bad

    module _ (code : GivenCode) (held : code_at files ask.code ≡ Ok code) where
      by_share : (c : Cause) → r ≡ Err c → ReadRefused files ask.share bad_input (read_share_of (count_of ask.me)) c → Why
      by_share c is (inl missed) = not_missing c ask.share is missed
      by_share c is (inr (bytes, err, there, bad, e)) =
          unreadable_share (refusing r c is ∙ ap status_of_cause e ∙ input_status err) code held bytes err there bad

      by_tape : (share : MinerFile) → share_at files ask.me ask.share ≡ Ok share → (c : Cause) → r ≡ Err c
          → ReadRefused files ask.tape bad_tape (read_own_of (own_length ask.me share.lens)) c → Why
      by_tape share shared c is (inl missed) = not_missing c ask.tape is missed
      by_tape share shared c is (inr (bytes, place, there, bad, e)) =
          unreadable_tape (refusing r c is ∙ ap status_of_cause e ∙ tape_status place) code share held shared bytes place there bad

    by_files : (c : Cause) → r ≡ Err c → given_at ask files ≡ Err c → Why
    unfolding given_at
    by_files c is bad =
        elim (steps (code_at files ask.code) with_code (Err c) bad) [
          | inl (c2, e, same) ↦ let here : c2 ≡ c = cc in by_code c is (code_refused files ask.code c (e ∙ ap failed here))
          | inr (code, held, rest) ↦
              elim (steps (share_at files ask.me ask.share) (with_share code) (Err c) rest) [
                | inl (c2, e, same) ↦
                    let here : c2 ≡ c = cc in by_share code held c is (share_refused files ask.me ask.share c (e ∙ ap failed here))
                | inr (share, shared, last) ↦
                    elim (steps (own_tape_at files (own_length ask.me share.lens) ask.tape) (with_tape code share) (Err c) last) [
                      | inl (c2, e, same) ↦
                          let here : c2 ≡ c = cc in
                          by_tape code held share shared c is (own_tape_refused files (own_length ask.me share.lens) ask.tape c (e ∙ ap failed here))
                      | inr (tape, e, wrong) ↦ absurd cc
                    ]
              ]
        ]

    -- what the node comes to
    by_end : (acts : List Act) (end : Option End) → ended_answer ask.out acts end ≡ r → Why
    by_end acts None is = wrong_status statuses.Memory refl (ap status_in_answer (sym is))
    by_end acts (Some end) is =
        let ends : is_end (status_in_answer r) ≡ true = ap is_end (ap status_in_answer (sym is)) ∙ end_is end.how in
        absurd (true≢false (sym ends ∙ unended))

    by_node : (given : Given) → HoldsMiner ask files given → (acts : List Act) (o : Outcome) → (node_of ask files coming given).outcome ≡ o
        → answer_at ask acts o ≡ r → Why
    unfolding bad_peer
    by_node given held acts (Finished last) outcome is = by_end acts (end_in ask.budget last) is
    by_node given held acts (Mismatch field mine theirs) outcome is =
        other_hello (ap status_in_answer (sym is)) field mine theirs (record { given = given; held = held; comes = outcome })
    by_node given held acts (NoFrame place) outcome is =
        no_frame (ap status_in_answer (sym is)) place (record { given = given; held = held; comes = outcome })
    by_node given held acts (Refused link cause) outcome is =
        bad_message (ap status_in_answer (sym is)) link cause (record { given = given; held = held; comes = outcome })
    by_node given held acts CutOff outcome is = wrong_status statuses.Link refl (ap status_in_answer (sym is))

    pub miner_refused_by : miner_of ask files coming ≡ r → Why
    unfolding miner_of
    miner_refused_by is =
        elim (steps (given_at ask files) (λ given. node_answer ask (node_of ask files coming given)) r is) [
          | inl (c, e, is_r) ↦ by_files c is_r e
          | inr (given, e, rest) ↦ by_node given (held_there given e) (node_of ask files coming given).acts (node_of ask files coming given).outcome refl rest
        ]

-- ---- what was sent

-- where files are refused, nothing is sent
pub refused_sends_nothing : (ask : MinerAsk) (files : Contents) (coming : ℕ → List ℕ) (c : Cause) → can_refuse c.status ≡ true
    → miner_of ask files coming ≡ Err c → sent_of ask files coming ≡ nothing_sent
unfolding miner_of sent_of bad_peer
refused_sends_nothing ask files coming c refuses is =
    elim (steps (given_at ask files) (λ given. node_answer ask (node_of ask files coming given)) (Err c) is) [
      | inl (c2, e, same) ↦ ap (λ (g : Result Given Cause). sent_with ask g coming) e
      | inr (given, e, rest) ↦ no_refusal_at (node_of ask files coming given).acts (node_of ask files coming given).outcome rest
    ]
  where
    wrong : {X : Type 0} (s : Status) → can_refuse s ≡ false → status_in_answer (refused_so c) ≡ s → X
    wrong s other is = absurd (true≢false (sym refuses ∙ ap can_refuse is ∙ other))

    no_refusal_at : {X : Type 0} (acts : List Act) (o : Outcome) → answer_at ask acts o ≡ Err c → X
    no_refusal_at acts (Finished last) is = no_end_at (end_in ask.budget last) is
      where
        no_end_at : {X : Type 0} (end : Option End) → ended_answer ask.out acts end ≡ Err c → X
        no_end_at None is = wrong statuses.Memory refl (ap status_in_answer (sym is))
        no_end_at (Some end) is = absurd cc
    no_refusal_at acts (Mismatch field mine theirs) is = wrong statuses.Peer refl (ap status_in_answer (sym is))
    no_refusal_at acts (NoFrame place) is = wrong statuses.Peer refl (ap status_in_answer (sym is))
    no_refusal_at acts (Refused link cause) is = wrong statuses.Peer refl (ap status_in_answer (sym is))
    no_refusal_at acts CutOff is = wrong statuses.Link refl (ap status_in_answer (sym is))
