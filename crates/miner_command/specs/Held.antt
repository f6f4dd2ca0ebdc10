-- Files and peers with which a miner's run ends, what `miner` then does, and why it is refused.
use Rattle.std.specs.Prelude.{◌≡◌, ℕ, List, Some, Ok, Err}
use Rattle.outside.specs.Files.{Contents, file_at}
use Rattle.command_frame.specs.declared.status.Status.{Status}
use Rattle.command_frame.specs.declared.status.Status.TheVariants.{Input, Peer, Program, TapeFile}
use Rattle.command_frame.specs.Answer.{Cause, Effect}
use Rattle.command_words.specs.Ask.{MinerAsk}
use Rattle.sc_text.specs.declared.end.End.{End}
use Rattle.proto_core.specs.declared.link.Link.{Link}
use Rattle.proto_core.specs.declared.refused.BadMessage.{BadMessage}
use Rattle.proto_core.specs.Parties.{count_of}
use Rattle.own_code.specs.OwnCode.{Ended}
use Rattle.input_share.specs.Reading.{read_share_of}
use Rattle.input_share.specs.ShareFile.{MinerFile}
use Rattle.value_file.specs.declared.read_err.ReadErr.{ReadErr}
use Rattle.tape_file.specs.Format.{read_own_of}
use Rattle.wire.specs.declared.fields.Field.{Field}
use Rattle.wire.specs.declared.fields.Hello.{Hello}
use Rattle.miner_node.specs.Serving.{Outcome, Finished, Mismatch, NoFrame, Refused, Serving}
use Rattle.node_run.specs.Nodes.{end_in, node_text, own_serving}
use Rattle.program_commands.specs.Reading.{share_at}
use Rattle.miner_command.specs.Files.{Given, GivenCode, code_at, code_of, own_length, own_tape_at}
use Rattle.miner_command.specs.Miner.{own_of, text_effect}

-- the files that `miner` reads are there, and hold this
pub record HoldsMiner (ask : MinerAsk) (files : Contents) (given : Given) : Type 0 where
  pub code : code_at files ask.code ≡ Ok given.code
  pub share : share_at files ask.me ask.share ≡ Ok given.share
  pub tape : own_tape_at files (own_length ask.me given.share.lens) ask.tape ≡ Ok given.tape

module _ (ask : MinerAsk) (files : Contents) (coming : ℕ → List ℕ) where
  abbrev pub node_of : Given → Serving
  node_of given = own_serving ask.me (own_of ask given) coming

  -- the node comes to its end with what its peers send: its text is written
  pub record MinerEffect (effect : Effect) : Type 0 where
    pub given : Given
    pub held : HoldsMiner ask files given
    pub last : Ended
    pub comes : (node_of given).outcome ≡ Finished last
    pub end : End
    pub ends : end_in ask.budget last ≡ Some end
    pub does : effect ≡ text_effect ask.out (node_text (node_of given).acts end) end

  -- with such files its node comes to this
  pub record ComesTo (outcome : Outcome) : Type 0 where
    pub given : Given
    pub held : HoldsMiner ask files given
    pub comes : (node_of given).outcome ≡ outcome

  -- why `miner` is refused with this status: the first file that is there and not as it must be, or what a peer sent
  pub data MinerRefused (status : Status) : Type 0 where
    unreadable_code : status ≡ Program → (bytes : List ℕ) (cause : Cause) → file_at files ask.code ≡ Some bytes → code_of bytes ≡ Err cause
        → MinerRefused status
    unreadable_share : status ≡ Input → (code : GivenCode) → code_at files ask.code ≡ Ok code
        → (bytes : List ℕ) (err : ReadErr) → file_at files ask.share ≡ Some bytes → read_share_of (count_of ask.me) bytes ≡ Err err
        → MinerRefused status
    unreadable_tape : status ≡ TapeFile → (code : GivenCode) (share : MinerFile) → code_at files ask.code ≡ Ok code
        → share_at files ask.me ask.share ≡ Ok share
        → (bytes : List ℕ) (place : ℕ) → file_at files ask.tape ≡ Some bytes → read_own_of (own_length ask.me share.lens) bytes ≡ Err place
        → MinerRefused status
    other_hello : status ≡ Peer → (field : Field) (mine theirs : Hello) → ComesTo (Mismatch field mine theirs) → MinerRefused status
    no_frame : status ≡ Peer → (place : ℕ) → ComesTo (NoFrame place) → MinerRefused status
    bad_message : status ≡ Peer → (link : Link) (cause : BadMessage) → ComesTo (Refused link cause) → MinerRefused status
