-- What a miner answers that has played its part with what it had read.
use Rattle.std.proofs.Common.{◌≡◌, ℕ, List, true, Option, Result, Ok, Err, refl, sym, ap, ◌∙◌, subst, inr, string_bytes, arith, zero, suc}
use Rattle.outside.specs.Files.{FilesState}
use Rattle.outside.specs.Links.{LinksState}
use Rattle.sc_text.specs.Fault.{file_line}
use Rattle.sc_text.specs.declared.end.End.{End}
use Rattle.proto_core.specs.declared.party.Number.{Number}
use Rattle.command_frame.specs.declared.plan.Plan.{Plan}
use Rattle.command_frame.specs.declared.breach.Breach.{Breach}
use Rattle.command_frame.specs.declared.object.Object.TheVariants as objects
use Rattle.command_frame.specs.declared.stop.Stop.{Stop}
use Rattle.command_frame.specs.declared.stop.Stop.TheVariants as stops
use Rattle.command_frame.specs.Answer.{Cause, Effect, breach_of, effect_of}
use Rattle.command_frame.specs.Reads.{StopNames}
use Rattle.command_frame.specs.Status.{of_peers}
use Rattle.command_frame.specs.Stops.{IsBreachFor, IsFileStop}
use Rattle.command_words.specs.Ask.{MinerAsk}
use Rattle.miner_node.specs.declared.node_err.NodeErr.{NodeErr}
use Rattle.miner_node.specs.declared.node_err.NodeErr.TheVariants.{LinkFault, PeerMismatch, BadFrame, BadMessage, Memory}
use Rattle.miner_node.specs.declared.node_err.ServeErr.{ServeErr}
use Rattle.miner_node.specs.declared.node_err.ServeErr.TheVariants.{Node, TapeFault}
use Rattle.miner_node.specs.Serving.{Outcome, Mismatch, NoFrame, Refused, Serving}
use Rattle.command_frame.specs.declared.fault.NodeFault.{NodeFault}
use Rattle.command_frame.specs.declared.fault.NodeFault.TheVariants as faults
use Rattle.node_run.specs.declared.running.NodeText.{NodeText}
use Rattle.node_run.specs.Nodes.{Outgoing, Own, own_bytes, own_serving, JoinsInOrder, Runs}
use Rattle.node_run.proofs.Joins.{all_sent}
use Rattle.miner_command.specs.declared.files.MinerFiles.{MinerFiles}
use Rattle.miner_command.specs.Files.{Given, miner_paths}
use Rattle.miner_command.specs.Views.{given_with}
use Rattle.miner_command.specs.Miner.{answer_at, bad_peer, ended_answer, hello_field, message_fault, own_of, text_effect}
use Rattle.tape_sources.specs.FileTapes.{TapeFaulted}
use Rattle.miner_command.specs.Playing.{IsNodeStop, IsServeStop, Plays, PlaysOn, RunsOn, SentAll}

of_a_peer : (fault : NodeFault) (b : Breach) → breach_of b ≡ bad_peer fault → of_peers b.status ≡ true
unfolding bad_peer
of_a_peer fault b is = ap (λ (c : Cause). of_peers c.status) is

module _ (ask : MinerAsk) (given : Given) (f f' : FilesState) (a c : LinksState) (joins : JoinsInOrder ask.me (own_of ask given) ask.port a c) where
  abbrev served : Serving
  served = own_serving ask.me (own_of ask given) a.coming

  abbrev out : Outgoing
  out = own_bytes ask.me (own_of ask given) a.coming

  -- its text is to be written
  pub plays_so : (told : NodeText) (plan : Plan) → Runs ask.me (own_of ask given) a c (Ok told)
      → effect_of plan ≡ text_effect ask.out told.text.items told.end → Plays ask given f f' a c (Ok plan)
  plays_so told plan h is =
      record {
        answers = λ t.
            ap (λ (o : Outcome). answer_at ask served.acts o) (h.ok t).outcome
            ∙ ap (λ (e : Option End). ended_answer ask.out served.acts e) (h.ok t).end
            ∙ ap (λ (text : List ℕ). Ok (text_effect ask.out text told.end)) (sym (h.ok t).text)
            ∙ ap (λ (e : Effect). Ok e) (sym is);
        sends = λ t. (h.ok t).sent;
        joins = joins;
      }

  -- memory ran out for what is to be written
  pub plays_unplanned : (told : NodeText) → Runs ask.me (own_of ask given) a c (Ok told) → Plays ask given f f' a c (Err stops.Memory)
  plays_unplanned told h = record { answers = tt; sends = λ t. all_sent ask.me a.sent c.sent out.to_next out.to_previous (h.ok t).sent; joins = joins }

  -- a peer sent what it must not send
  breached_so : (fault : NodeFault) (o : Outcome) → answer_at ask served.acts o ≡ Err (bad_peer fault)
      → (a.told ≡ true → (served.outcome ≡ o) × SentAll ask.me a c out) → (stop : Stop) → IsBreachFor (bad_peer fault) stop
      → Plays ask given f f' a c (Err stop)
  breached_so fault o comes h stops.Memory for =
      record { answers = tt; sends = λ t. all_sent ask.me a.sent c.sent out.to_next out.to_previous (h t).1; joins = joins }
  breached_so fault o comes h stops.Usage for = absurd for
  breached_so fault o comes h (stops.Refused r) for = absurd for
  breached_so fault o comes h (stops.Breached b) for =
      record {
        answers = (
          of_a_peer fault b for,
          λ t. ap (λ (v : Outcome). answer_at ask served.acts v) (h t).0 ∙ comes ∙ ap (λ (e : Cause). Err e) (sym for),
        );
        sends = λ t. (h t).1;
        joins = joins;
      }
  breached_so fault o comes h (stops.Failed object) for = absurd for

  pub stops_so : (e : NodeErr) (stop : Stop) → Runs ask.me (own_of ask given) a c (Err e) → IsNodeStop e stop → Plays ask given f f' a c (Err stop)
  stops_so LinkFault stop h for =
      subst (λ (s : Stop). Plays ask given f f' a c (Err s)) (sym for)
      (record {
        answers = record {
          rose = h.err.0.rose;
          dry = λ st t. ap (λ (v : Outcome). answer_at ask served.acts v) (h.err.0.steady st t);
        };
        sends = h.err.1;
        joins = joins;
      })
  stops_so (PeerMismatch field mine theirs) stop h for =
      breached_so (faults.OtherHello (hello_field field)) (Mismatch field mine theirs) refl h.err stop for
  stops_so (BadFrame place) stop h for = breached_so (faults.BadFrame place) (NoFrame place) refl h.err stop for
  stops_so (BadMessage link cause) stop h for = breached_so (message_fault link cause) (Refused link cause) refl h.err stop for
  stops_so Memory stop h for =
      subst (λ (s : Stop). Plays ask given f f' a c (Err s)) (sym for) (record { answers = tt; sends = h.err; joins = joins })

  -- words of its tape could not be read
  pub tape_stops_so : (stop : Stop) → Runs ask.me (own_of ask given) a c (Err Memory) → TapeFaulted f f' → IsFileStop ask.tape stop
      → Plays ask given f f' a c (Err stop)
  tape_stops_so stops.Memory h fault for = record { answers = tt; sends = h.err; joins = joins }
  tape_stops_so stops.Usage h fault for = absurd for
  tape_stops_so (stops.Refused r) h fault for = absurd for
  tape_stops_so (stops.Breached b) h fault for = absurd for
  tape_stops_so (stops.Failed (objects.File line)) h fault for = record { answers = (for, fault); sends = λ t. inr (for, h.err t); joins = joins }
  tape_stops_so (stops.Failed objects.Output) h fault for = absurd for
  tape_stops_so (stops.Failed objects.Links) h fault for = absurd for
  tape_stops_so (stops.Failed objects.Children) h fault for = absurd for

-- ---- BY WHAT WAS READ

module _ (ask : MinerAsk) (read : MinerFiles) (f f' : FilesState) (a c : LinksState) (me : Number) (is : me ≡ ask.me)
    (own : (tape : List ℕ) → Own) (same : (tape : List ℕ) → own tape ≡ own_of ask (given_with read tape)) where
  here : (tape : List ℕ) (result : Result NodeText NodeErr) → Runs me (own tape) a c result
      → Runs ask.me (own_of ask (given_with read tape)) a c result
  here tape result h =
      subst (λ (v : Own). Runs ask.me v a c result) (same tape) (subst (λ (i : Number). Runs i (own tape) a c result) is h)

  joins_here : (tape : List ℕ) → JoinsInOrder me (own tape) ask.port a c → JoinsInOrder ask.me (own_of ask (given_with read tape)) ask.port a c
  joins_here tape h =
      subst (λ (v : Own). JoinsInOrder ask.me v ask.port a c) (same tape) (subst (λ (i : Number). JoinsInOrder i (own tape) ask.port a c) is h)

  abbrev Ran : Result NodeText ServeErr → Type 0
  Ran result = RunsOn me own read.tape ask.tape f f' a c ask.port result

  pub plays_with : (told : NodeText) (plan : Plan) → Ran (Ok told) → effect_of plan ≡ text_effect ask.out told.text.items told.end
      → PlaysOn ask read f f' a c (Ok plan)
  plays_with told plan h effect =
      record {
        tape = h.tape;
        there = h.there;
        plays = plays_so ask (given_with read h.tape) f f' a c (joins_here h.tape h.joins) told plan (here h.tape (Ok told) h.runs) effect;
      }

  pub unplanned_with : (told : NodeText) → Ran (Ok told) → PlaysOn ask read f f' a c (Err stops.Memory)
  unplanned_with told h =
      record {
        tape = h.tape;
        there = h.there;
        plays = plays_unplanned ask (given_with read h.tape) f f' a c (joins_here h.tape h.joins) told (here h.tape (Ok told) h.runs);
      }

  pub stops_with : (e : ServeErr) (stop : Stop) → Ran (Err e) → IsServeStop ask.tape e stop → PlaysOn ask read f f' a c (Err stop)
  stops_with (Node e) stop h for =
      record {
        tape = h.tape;
        there = h.there;
        plays = stops_so ask (given_with read h.tape) f f' a c (joins_here h.tape h.joins) e stop (here h.tape (Err e) h.runs) for;
      }
  stops_with TapeFault stop h for =
      record {
        tape = h.tape;
        there = h.there;
        plays = tape_stops_so ask (given_with read h.tape) f f' a c (joins_here h.tape h.joins) stop (here h.tape (Err Memory) h.runs) (h.fault refl) for;
      }

-- ---- WHICH FILE STOPS IT

links_unnamed : (paths : List (List ℕ)) → StopNames paths (stops.Failed objects.Links)
links_unnamed paths = record { named = λ line is. absurd cc }

memory_unnamed : (paths : List (List ℕ)) → StopNames paths stops.Memory
memory_unnamed paths = record { named = λ line is. absurd cc }

breach_unnamed : (paths : List (List ℕ)) (cause : Cause) (stop : Stop) → IsBreachFor cause stop → StopNames paths stop
breach_unnamed paths cause stops.Memory for = memory_unnamed paths
breach_unnamed paths cause stops.Usage for = absurd for
breach_unnamed paths cause (stops.Refused r) for = absurd for
breach_unnamed paths cause (stops.Breached b) for = record { named = λ line is. absurd cc }
breach_unnamed paths cause (stops.Failed object) for = absurd for

node_unnamed : (paths : List (List ℕ)) (e : NodeErr) (stop : Stop) → IsNodeStop e stop → StopNames paths stop
node_unnamed paths LinkFault stop for = subst (StopNames paths) (sym for) (links_unnamed paths)
node_unnamed paths (PeerMismatch field mine theirs) stop for = breach_unnamed paths _ stop for
node_unnamed paths (BadFrame place) stop for = breach_unnamed paths _ stop for
node_unnamed paths (BadMessage link cause) stop for = breach_unnamed paths _ stop for
node_unnamed paths Memory stop for = subst (StopNames paths) (sym for) (memory_unnamed paths)

-- the tape alone does
tape_named : (ask : MinerAsk) (stop : Stop) → IsFileStop ask.tape stop → StopNames (miner_paths ask) stop
unfolding miner_paths
tape_named ask stops.Memory for = memory_unnamed (miner_paths ask)
tape_named ask stops.Usage for = absurd for
tape_named ask (stops.Refused r) for = absurd for
tape_named ask (stops.Breached b) for = absurd for
tape_named ask (stops.Failed (objects.File line)) for =
    record { named = λ other is. (ask.tape, (suc (suc zero), omega arith, refl), ap string_bytes (sym (line_of_file line other is)) ∙ for) }
  where
    line_of_file : (x y : _) → stops.Failed (objects.File x) ≡ stops.Failed (objects.File y) → x ≡ y
    line_of_file x y is = cc
tape_named ask (stops.Failed objects.Output) for = absurd for
tape_named ask (stops.Failed objects.Links) for = absurd for
tape_named ask (stops.Failed objects.Children) for = absurd for

pub serve_named : (ask : MinerAsk) (e : ServeErr) (stop : Stop) → IsServeStop ask.tape e stop → StopNames (miner_paths ask) stop
serve_named ask (Node e) stop for = node_unnamed (miner_paths ask) e stop for
serve_named ask TapeFault stop for = tape_named ask stop for
