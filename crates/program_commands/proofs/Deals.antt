-- What `deal` decides of files that are as they must be; and that it is refused exactly for a file that is there and not as it must be, and for
-- a dealer's tape with too few words.
use Rattle.std.proofs.Common.{◌≡◌, ◌<◌, ◌≤◌, ℕ, List, length, Bool, true, false, Ok, Err, refl, ap, subst, sym, ◌∙◌, inl, inr, arith}
use Rattle.std.specs.Prelude.{nat_lt}
use Rattle.std.proofs.lemmas.Bool.Decides.{nat_tests}
use Rattle.outside.specs.Files.{Contents}
use Rattle.command_frame.specs.declared.status.Status.{Status}
use Rattle.command_frame.specs.declared.status.Status.TheVariants as statuses
use Rattle.command_frame.specs.Answer.{Answer, Cause, ◌>>=◌}
use Rattle.command_frame.specs.Status.{can_refuse}
use Rattle.command_words.specs.Ask.{DealAsk}
use Rattle.input_share.specs.Dealing.{need_of}
use Rattle.tape_file.specs.Format.{read_of as tapes_read_of}
use Rattle.tape_file.specs.Tapes.{FourTapes}
use Rattle.value_file.specs.declared.inputs.Entry.{Entry}
use Rattle.value_file.specs.Input.{read_of as inputs_read_of}
use Rattle.program_commands.specs.Deal.{deal_effect, deal_of, dealing, short_tape}
use Rattle.program_commands.specs.Held.{HoldsDeal, DealRefused, unreadable_entries, unreadable_tapes, too_few_words}
use Rattle.program_commands.specs.Reading.{bad_input, bad_tape, inputs_at, tape_file_at}
use Rattle.program_commands.proofs.Held.{read_there}
use Rattle.program_commands.proofs.Refusals.{ReadRefused, input_status, inputs_refused, not_missing, refusing, status_in_answer, status_of_cause, steps}
use Rattle.program_commands.proofs.Refusals.{tape_file_refused, tape_status}

-- ---- files that are as they must be

enough : (have need : ℕ) → need ≤ have → nat_lt have need ≡ false
enough have need h = grind (arith, nat_tests)

pub deal_answer : (ask : DealAsk) (files : Contents) (entries : List Entry) (tapes : FourTapes) → HoldsDeal ask files entries tapes
    → need_of entries ≤ length tapes.dealer
    → deal_of ask files ≡ Ok (deal_effect ask.to entries tapes)
unfolding deal_of
deal_answer ask files entries tapes h most = rw (h.inputs, h.tapes, enough (length tapes.dealer) (need_of entries) most) refl

-- ---- files that are refused

fewer : (have need : ℕ) → have < need → nat_lt have need ≡ true
fewer have need h = grind (arith, nat_tests)

is_fewer : (have need : ℕ) → nat_lt have need ≡ true → have < need
is_fewer have need h = grind (arith, nat_tests)

short_status : (need have : ℕ) → status_of_cause (short_tape need have) ≡ statuses.Tape
unfolding short_tape
short_status need have = refl

pub deal_refused : (ask : DealAsk) (files : Contents) (s : Status) → DealRefused ask files s → status_in_answer (deal_of ask files) ≡ s
unfolding deal_of inputs_at tape_file_at bad_input bad_tape short_tape
deal_refused ask files s (unreadable_entries is bytes err there bad) = rw (read_there files ask.input bytes there, bad) (sym is)
deal_refused ask files s (unreadable_tapes is entries inputs bytes place there bad) = rw (inputs, read_there files ask.tape bytes there, bad) (sym is)
deal_refused ask files s (too_few_words is entries tapes held few) =
    rw (held.inputs, held.tapes, fewer (length tapes.dealer) (need_of entries) few) (sym is)

-- ---- and only so

module _ (ask : DealAsk) (files : Contents) (r : Answer) (refusal : can_refuse (status_in_answer r) ≡ true) where
  by_input : (c : Cause) → r ≡ Err c → ReadRefused files ask.input bad_input inputs_read_of c → DealRefused ask files (status_in_answer r)
  by_input c is (inl missed) = not_missing r c ask.input refusal is missed
  by_input c is (inr (bytes, err, there, bad, e)) = unreadable_entries (refusing r c is ∙ ap status_of_cause e ∙ input_status err) bytes err there bad

  by_tape : (entries : List Entry) → inputs_at files ask.input ≡ Ok entries → (c : Cause) → r ≡ Err c → ReadRefused files ask.tape bad_tape tapes_read_of c
      → DealRefused ask files (status_in_answer r)
  by_tape entries inputs c is (inl missed) = not_missing r c ask.tape refusal is missed
  by_tape entries inputs c is (inr (bytes, place, there, bad, e)) =
      unreadable_tapes (refusing r c is ∙ ap status_of_cause e ∙ tape_status place) entries inputs bytes place there bad

  at_dealing : (entries : List Entry) (tapes : FourTapes) → HoldsDeal ask files entries tapes → dealing ask.to entries tapes ≡ r
      → (b : Bool) → nat_lt (length tapes.dealer) (need_of entries) ≡ b → DealRefused ask files (status_in_answer r)
  at_dealing entries tapes held is true few =
      let short : dealing ask.to entries tapes ≡ Err (short_tape (need_of entries) (length tapes.dealer)) = rw few refl in
      too_few_words (refusing r (short_tape (need_of entries) (length tapes.dealer)) (sym is ∙ short) ∙ short_status (need_of entries) (length tapes.dealer))
      entries tapes held (is_fewer (length tapes.dealer) (need_of entries) few)
  at_dealing entries tapes held is false enough =
      let whole : dealing ask.to entries tapes ≡ Ok (deal_effect ask.to entries tapes) = rw enough refl in
      let done : status_in_answer r ≡ statuses.Done = ap status_in_answer (sym is ∙ whole) in
      let wrong : can_refuse statuses.Done ≡ true = subst (λ (x : Status). can_refuse x ≡ true) done refusal in
      absurd cc

  at_tape : (entries : List Entry) → inputs_at files ask.input ≡ Ok entries → (tape_file_at files ask.tape >>= dealing ask.to entries) ≡ r
      → DealRefused ask files (status_in_answer r)
  at_tape entries inputs is =
      elim (steps (tape_file_at files ask.tape) (dealing ask.to entries) r is) [
        | inl (c, e, is_r) ↦ by_tape entries inputs c is_r (tape_file_refused files ask.tape c e)
        | inr (tapes, e, done) ↦ at_dealing entries tapes (record { inputs = inputs; tapes = e }) done (nat_lt (length tapes.dealer) (need_of entries)) refl
      ]

  abbrev after_inputs : List Entry → Answer
  after_inputs entries = tape_file_at files ask.tape >>= dealing ask.to entries

  pub deal_refused_by : deal_of ask files ≡ r → DealRefused ask files (status_in_answer r)
  unfolding deal_of
  deal_refused_by is =
      elim (steps (inputs_at files ask.input) after_inputs r is) [
        | inl (c, e, is_r) ↦ by_input c is_r (inputs_refused files ask.input c e)
        | inr (entries, e, rest) ↦ at_tape entries e rest
      ]
