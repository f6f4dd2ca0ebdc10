-- The line of a view that a step of an audit names: `view`, the `in` lines, `drew`, the `got` lines, the `open` lines and `end`, counted from 1.
use Rattle.std.specs.Prelude.{ℕ, ◌+◌, ◌==◌, if◌then◌else◌, List, length, Option, Some, None, option_map}
use Rattle.proto_core.specs.declared.party.Number.{Number}
use Rattle.proto_core.specs.Parties.{is_same, from_previous, from_next}
use Rattle.proto_core.specs.Strand.{Mail}
use Rattle.value_file.specs.declared.public.PublicEntry.{PublicEntry}
use Rattle.language_model.specs.Effects.{RunStop, Ended as HasEnded, Short}
use Rattle.language_model.specs.Reports.{Report}
use Rattle.view_text.specs.View.{InputShare, View}
use Rattle.audit_steps.specs.Shares.{wrong_share_at}
use Rattle.audit_steps.specs.Messages.{wrong_at}
use Rattle.audit_steps.specs.Ends.{wrong_end_at}
use Rattle.found_inputs.specs.Sums.{wrong_sums_at}

abbrev pub drew_line : View → ℕ
drew_line v = 2 + length v.inputs

abbrev pub first_got : View → ℕ
first_got v = 3 + length v.inputs

abbrev pub first_opening : View → ℕ
first_opening v = 3 + length v.inputs + length v.got

-- STEP 1: whose view it is, and an `in` line for each hidden input of these
abbrev pub inputs_line : List PublicEntry → Number → View → Option ℕ
inputs_line part i v = if is_same v.miner i then option_map (λ k. 2 + k) (wrong_share_at part v.inputs) else Some 1

-- STEP 2: the sums of the shares in three views are elements of the inputs' types
abbrev pub sums_line : List PublicEntry → (one two three : List InputShare) → Option ℕ
sums_line part one two three = option_map (λ k. 2 + k) (wrong_sums_at part one two three)

-- STEP 3: the number of words that were drawn is the need
abbrev pub draws_line : (need : ℕ) → View → Option ℕ
draws_line need v = if length v.drew == need then None else Some (drew_line v)

-- STEP 4: each message is the next of its link, and none is missing
abbrev pub messages_line : Mail → Number → View → Option ℕ
messages_line mail i v = option_map (λ k. first_got v + k) (wrong_at i (mail (from_previous i)) (mail (from_next i)) v.got)

-- STEP 5: what the run opened, and how it ended; a run in the clear always ends
abbrev pub stop_line : Report → RunStop → View → Option ℕ
stop_line r (HasEnded ending) v =
    option_map (λ k. first_opening v + k) (wrong_end_at r.events (record { how = ending; cost = r.cost }) v.end v.opened)
stop_line r Short v = Some (first_opening v)

abbrev pub ends_line : Report → View → Option ℕ
ends_line r v = stop_line r r.stop v
