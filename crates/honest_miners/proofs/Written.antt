-- With honest peers `miner` writes its part of what evaluation tells.
use Rattle.std.proofs.Common.{◌≡◌, ℕ, List, Option, Result, Ok, Err, length, refl, ap, ◌∙◌, subst, inl, inr}
use Rattle.sha2.specs.Sha256.{sha256}
use Rattle.outside.specs.Files.{Contents}
use Rattle.command_frame.specs.Answer.{Cause, ◌>>=◌, bytes_at}
use Rattle.command_words.specs.Ask.{MinerAsk}
use Rattle.sc_text.specs.declared.end.End.{End}
use Rattle.proto_core.specs.Strand.{Notice}
use Rattle.bytecode.specs.Raw.{RawCode}
use Rattle.program_trees.specs.TypedPrograms.{TypedProgramTree}
use Rattle.value_file.specs.declared.inputs.Entry.{Entry}
use Rattle.tape_file.specs.Tapes.{FourTapes}
use Rattle.program_run.specs.Reports.{eval_with}
use Rattle.program_commands.proofs.Refusals.{steps}
use Rattle.miner_text.specs.Lines.{text_of}
use Rattle.honest_miners.specs.Told.{lines_told}
use Rattle.miner_node.specs.Laws.{AreHonest}
use Rattle.miner_node.specs.Serving.{Outcome, Serving}
use Rattle.honest_miners.specs.Nodes.{own_hello, own_serving}
use Rattle.honest_miners.specs.Honest.{EndsAsEvaluated, run_messages}
use Rattle.honest_miners.proofs.ServedRuns.{digest_size, three_served_miners}
use Rattle.miner_command.specs.Files.{Given, GivenCode, code_at, code_of, given_at}
use Rattle.miner_command.specs.Held.{HoldsMiner}
use Rattle.miner_command.specs.Miner.{answer_at, ended_answer, miner_of, node_answer, own_of, text_effect}
use Rattle.honest_miners.specs.Miners.{HasItsFiles, WritesItsText, WritesWithHonestPeers}

abbrev held : GivenCode → Result GivenCode Cause
held given = Ok given

no_code : {X : Type 0} (c : Cause) (given : GivenCode) → held given ≡ Err c → X
no_code c given is = cc

same_code : (a b : GivenCode) → held a ≡ held b → a ≡ b
same_code a b is = cc

-- the digest is that of a file
pub digest_length : (files : Contents) (path : List ℕ) (given : GivenCode) → code_at files path ≡ Ok given → length given.digest ≡ 32
unfolding code_at
digest_length files path given is =
    elim (steps (bytes_at files path) (λ bytes. code_of bytes >>= λ code. Ok (record { digest = sha256 bytes; code = code })) (Ok given) is) [
      | inl (c, e, wrong) ↦ no_code c given wrong
      | inr (bytes, e, rest) ↦
          elim (steps (code_of bytes) (λ (code : RawCode). Ok (record { digest = sha256 bytes; code = code })) (Ok given) rest) [
            | inl (c, e2, wrong) ↦ no_code c given wrong
            | inr (code, e2, made) ↦
                subst (λ (g : GivenCode). length g.digest ≡ 32) (same_code (record { digest = sha256 bytes; code = code }) given made)
                (digest_size bytes)
          ]
    ]

pub given_so : (ask : MinerAsk) (files : Contents) (given : Given) → HoldsMiner ask files given → given_at ask files ≡ Ok given
unfolding given_at
given_so ask files given h = rw (h.code, h.share, h.tape) refl

pub decides : (ask : MinerAsk) (files : Contents) (coming : ℕ → List ℕ) (given : Given) → given_at ask files ≡ Ok given
    → miner_of ask files coming ≡ node_answer ask (own_serving ask.me (own_of ask given) coming)
unfolding miner_of
decides ask files coming given is = rw is refl

module _ (p : TypedProgramTree) (entries : List Entry) (t : FourTapes) (ask : MinerAsk) (files : Contents) (given : Given) (coming : ℕ → List ℕ)
    (h : HasItsFiles p entries t ask files given) where
  abbrev served : Serving
  served = own_serving ask.me (own_of ask given) coming

  writes : EndsAsEvaluated ask.me (own_of ask given) (eval_with p entries t ask.budget) served
      → WritesItsText p entries t ask files (eval_with p entries t ask.budget) coming
  writes e =
      record {
        end = e.end;
        how = e.how;
        cost = e.cost;
        all = e.all;
        tells = e.tells;
        answer =
            decides ask files coming given (given_so ask files given h.held)
            ∙ ap (λ (o : Outcome). answer_at ask served.acts o) e.comes
            ∙ ap (λ (end : Option End). ended_answer ask.out served.acts end) e.ends
            ∙ ap (λ (told : List Notice). Ok (text_effect ask.out (text_of (lines_told told e.end)) e.end)) e.told;
      }

  pub writes_so : AreHonest ask.me (own_hello ask.me (own_of ask given)) (run_messages p entries t ask.me ask.budget) coming
      → WritesItsText p entries t ask files (eval_with p entries t ask.budget) coming
  writes_so honest =
      writes
      (three_served_miners.end_with_honest_peers p entries t ask.me (own_of ask given) coming
      (record {
        accepted = h.accepted;
        code = h.code;
        can = h.can;
        digest = digest_length files ask.code given.code h.held.code;
        share = h.share;
        tape = h.tape;
      })
      honest)

pub writes_with_honest_peers : (p : TypedProgramTree) (entries : List Entry) (t : FourTapes) (ask : MinerAsk) (files : Contents) (given : Given)
    (coming : ℕ → List ℕ) → WritesWithHonestPeers p entries t ask files given coming
writes_with_honest_peers p entries t ask files given coming h honest = writes_so p entries t ask files given coming h honest
