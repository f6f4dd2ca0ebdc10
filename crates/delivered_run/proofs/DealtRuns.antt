-- Three miners in a net that run code on shares of a file's inputs, as the code's run in the clear reports.
use Rattle.std.proofs.Common.{◌≡◌, ℕ, List, map, Result, Ok, Err, refl, ◌∙◌, ap, subst}
use Rattle.proto_core.specs.declared.party.Number.{Number}
use Rattle.proto_core.specs.declared.party.Number.TheVariants.{One, Two, Three}
use Rattle.protocol_model.specs.Network.{Delivery}
use Rattle.tape_file.specs.Tapes.{FourTapes}
use Rattle.value_file.specs.declared.inputs.Entry.{Entry}
use Rattle.value_file.specs.declared.public.PublicEntry.{PublicEntry}
use Rattle.value_file.specs.Public.{part_of}
use Rattle.input_share.specs.Dealing.{dealt}
use Rattle.input_share.specs.ShareFile.{MinerFile}
use Rattle.bytecode.specs.Raw.{RawCode}
use Rattle.verified_code.specs.Settled.{settled}
use Rattle.language_model.specs.Effects.{Answers, World}
use Rattle.language_model.specs.Reports.{Offered, Report, world_of}
use Rattle.clear_eval.specs.Offers.{offered, offered_with, part_given}
use Rattle.gates.specs.Clear.{Values}
use Rattle.view_model.specs.Dealing.{private_shares}
use Rattle.view_model.specs.TapeMaps.{miners_of}
use Rattle.code_runs.specs.Dealt.{Dealt}
use Rattle.program_run.specs.Inputs.{dealt_of}
use Rattle.miner_runs.specs.OwnRuns.{OwnRunAsReported, public_world}
use Rattle.miner_runs.proofs.OwnRuns.{own_miners_run_the_code}
use Rattle.link_schedule.specs.Net.{NetState, Own}
use Rattle.program_run.specs.Reports.{lengths_of}
use Rattle.program_run.specs.Codes.{CanRunOn, code_report}
use Rattle.program_run.proofs.Told.{known_so}
use Rattle.link_schedule.specs.Streams.{StreamNet, with_tapes}
use Rattle.delivered_run.specs.declared.errors.CourseErr.{CourseErr}
use Rattle.delivered_run.specs.States.{RunState}
use Rattle.delivered_run.specs.Courses.{HasNetRun, IsNetRun}
use Rattle.delivered_run.specs.Drawing.{GoesOn}
use Rattle.delivered_run.specs.Nets.{Delivers, net_with}
use Rattle.delivered_run.proofs.Runs.{at_first, has_net_run, is_refused}

abbrev pub own_with : Values → (tape : List ℕ) → Own
own_with shares tape = record { dealt = shares; tape = tape }

module _ (code : RawCode) (entries : List Entry) (t : FourTapes) (budget : ℕ) (can : CanRunOn code entries t) where
  abbrev offer : Offered
  offer = offered entries (lengths_of t)

  abbrev dealing : Dealt
  dealing = dealt_of entries t.dealer

  abbrev report : Report
  report = code_report code entries t budget

  pub own : OwnRunAsReported offer dealing (settled code) budget (miners_of t) report
  own = own_miners_run_the_code offer dealing (settled code) budget (miners_of t) can

  abbrev start : NetState
  start = at_first offer dealing (settled code) budget (miners_of t) report own

  abbrev pub files_net : World → (one two three : MinerFile) → NetState
  files_net w one two three =
      net_with w (settled code) budget (own_with (private_shares one.entries) t.one) (own_with (private_shares two.entries) t.two)
      (own_with (private_shares three.entries) t.three)

  abbrev file : Number → MinerFile
  file i = dealt i entries t.dealer (lengths_of t)

  -- miners that know the public part and the lengths of the tapes, with the files that are dealt
  pub net_is :
      (part : List PublicEntry) (lengths : List ℕ) (first second third : MinerFile) → part ≡ part_of entries → lengths ≡ lengths_of t
      → first ≡ dealt One entries t.dealer (lengths_of t) → second ≡ dealt Two entries t.dealer (lengths_of t)
      → third ≡ dealt Three entries t.dealer (lengths_of t)
      → files_net (world_of Answers (offered_with (map part_given part) lengths)) first second third ≡ start
  net_is part lengths first second third as_part as_lengths one two three =
      let w = world_of Answers (offered_with (map part_given part) lengths) in
      ap (λ (x : World). files_net x first second third) (known_so entries part (map part_given part) (lengths_of t) lengths w refl as_lengths refl as_part)
      ∙ ap (λ f. files_net (public_world offer) f second third) one
      ∙ ap (λ f. files_net (public_world offer) (file One) f third) two
      ∙ ap (files_net (public_world offer) (file One) (file Two)) three

  -- what comes of it from that net
  pub goes_on :
      (net : StreamNet) → with_tapes net (miners_of t) ≡ start → (given : Delivery) (result : Result RunState CourseErr)
      → GoesOn given net result (miners_of t) → IsNetRun offer dealing (settled code) budget (miners_of t) report given result
  goes_on net is given (Ok ran) h =
      has_net_run offer dealing (settled code) budget (miners_of t) report own given (with_tapes ran.net (miners_of t)) ran
      (subst (λ (n : NetState). Delivers given n (with_tapes ran.net (miners_of t)) (Ok tt)) is h.delivers) refl h.may h.told h.delivered
  goes_on net is given (Err e) h =
      is_refused offer dealing (settled code) budget (miners_of t) report own (HasNetRun offer dealing (settled code) budget (miners_of t) report given)
      given h.0 e
      (subst (λ (n : NetState). Delivers given n h.0 (Err e)) is h.1)
