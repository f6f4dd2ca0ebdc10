-- Each message of a run has the shape that its script says, so it can be framed; and so can what a miner sends.
use Rattle.std.proofs.Common.{◌≡◌, ℕ, ◌*◌, ◌==◌, List, [], ◌∷◌, length, All, sym, subst}
use Rattle.std.proofs.lemmas.Bool.{eqb-true}
use Rattle.std.proofs.lemmas.List.Elements.{All-nil, All-cons, All-head, All-tail, All-append}
use Rattle.proto_core.specs.Parties.{sender_of}
use Rattle.proto_core.specs.Strand.{Shape, Mail, has_bits, Begins}
use Rattle.proto_core.specs.Script.{sends_on}
use Rattle.proto_core.specs.Net.{MailBegins, posted}
use Rattle.proto_core.specs.Protocol.{IsMessage, AreMessages}
use Rattle.proto_core.proofs.MessageFields.{first_true}
use Rattle.proto_core.proofs.Nets.{posted-more}
use Rattle.protocol_model.specs.Gates.{Gate, Joined, Local, AreSound}
use Rattle.protocol_model.specs.Runs.{Shares, Tapes, drawn, left, gate_joint, after, after_local, run_messages, nodes_of, Ready}
use Rattle.protocol_model.proofs.GateRuns.{run-finishes}
use Rattle.protocol_model.proofs.Sizes.{block-fits, ready-next, ready-local}
use Rattle.wire.specs.Frames.{IsCount, IsFrameable}
use Rattle.framed_runs.specs.Framing.{CanBeFramed}
use Rattle.framed_runs.proofs.FramedScripts.{FitsFrame, AllFit, sends_on-fit, GatesFit}

message-framed : (s : Shape) (m : List ℕ) → FitsFrame s → IsMessage s m → IsFrameable m
message-framed s m fits is =
    let size : length m ≡ length s.fields * s.count =
    eqb-true (length m) (length s.fields * s.count) (first_true (length m == length s.fields * s.count) (has_bits s.count s.fields m) is.shape) in
    record { count = subst IsCount (sym size) fits; words = is.words }

messages-framed : (shapes : List Shape) (ms : List (List ℕ)) → AllFit shapes → AreMessages shapes ms → All IsFrameable ms
messages-framed [] [] fits are = All-nil IsFrameable
messages-framed [] (m ∷ ms) fits are = absurd are
messages-framed (s ∷ shapes) [] fits are = absurd are
messages-framed (s ∷ shapes) (m ∷ ms) fits are =
    All-cons IsFrameable m ms (message-framed s m fits.0 are.0) (messages-framed shapes ms fits.1 are.1)

pub run-framed :
    (gates : List Gate) (values : Shares) (tapes : Tapes) → AreSound gates → GatesFit gates → Ready gates values tapes →
    CanBeFramed (run_messages gates values tapes)
run-framed [] values tapes sound fit ready l = All-nil IsFrameable
run-framed (Local n f ∷ gates) values tapes sound fit ready l =
    run-framed gates (after_local f values) tapes sound fit.1 (ready-local n f gates values tapes ready) l
run-framed (Joined p n u v ∷ gates) values tapes sound fit ready l =
    let j = gate_joint u v values (drawn p n tapes) in
    let next = after p n u v values (drawn p n tapes) in
    All-append IsFrameable (p.messages n j l) (run_messages gates next (left p n tapes) l)
    (messages-framed (sends_on l (p.script n (sender_of l))) (p.messages n j l) (sends_on-fit l (p.script n (sender_of l)) (fit.0 (sender_of l)))
    (sound.0.messages n j (block-fits p n u v gates values tapes ready) l))
    (run-framed gates next (left p n tapes) sound.1 fit.1 (ready-next p n u v gates values tapes ready sound.0) l)

begins-all : {A : Type 0} (P : A → Type 0) (xs ys : List A) → Begins xs ys → All P ys → All P xs
begins-all P [] ys b all = All-nil P
begins-all P (x ∷ xs) [] b all = absurd b
begins-all P (x ∷ xs) (y ∷ ys) b all =
    All-cons P x xs (subst P (sym b.0) (All-head P y ys all)) (begins-all P xs ys b.1 (All-tail P y ys all))

pub sent-framed :
    (gates : List Gate) (values : Shares) (tapes : Tapes) (mail : Mail) → AreSound gates → GatesFit gates → Ready gates values tapes →
    MailBegins mail (run_messages gates values tapes) → CanBeFramed (posted (nodes_of gates values tapes) mail)
sent-framed gates values tapes mail sound fit ready begins l =
    let full : Mail = run_messages gates values tapes in
    let sent = posted-more (nodes_of gates values tapes) mail full begins l in
    begins-all IsFrameable (posted (nodes_of gates values tapes) mail l) (posted (nodes_of gates values tapes) full l) sent
    (subst (λ ms. All IsFrameable ms) (sym ((run-finishes gates values tapes sound ready).sent l)) (run-framed gates values tapes sound fit ready l))
