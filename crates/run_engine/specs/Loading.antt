-- What `load` does, which reads no file and writes none: so nothing is asked of files, whatever they tell.
use Rattle.std.specs.Prelude.{ℕ, ◌≡◌, ◌⊎◌}
use Rattle.outside.specs.Sink.{SinkState, SameSink, Appends}
use Rattle.command_frame.specs.declared.status.Status.{Status}
use Rattle.command_frame.specs.declared.status.Status.TheVariants.{Memory, Write}
use Rattle.command_frame.specs.Answer.{Effect}
use Rattle.command_frame.specs.Finish.{PutFaulted, PutShort}
use Rattle.miner_commands.specs.Load.{load_effect}

-- an effect without files: its text was printed, with its status; or the output failed, which a steady one doesn't, or memory ran out
abbrev pub Printed : Effect → (out out' : SinkState) → Status → Type 0
Printed effect out out' given =
    ((given ≡ effect.status) × Appends out out' effect.text)
    ⊎ (((given ≡ Write) × PutFaulted effect.text out out')
    ⊎ ((given ≡ Memory) × (SameSink out out' ⊎ PutShort effect.text out out')))

-- the text of the evaluation of the workload of its number and how many messages were delivered, with the evaluation's end
abbrev pub Loaded : (number : ℕ) → (out out' : SinkState) → Status → Type 0
Loaded number out out' given = Printed (load_effect number) out out' given
