-- What driven miners tell: each turn's notices, in order, and nothing else.
use Rattle.std.proofs.Common.{◌≡◌, ℕ, zero, suc, Bool, true, false, List, [], ◌∷◌, ◌++◌, length, take, drop, refl, sym, ◌∙◌, ap, subst}
use Rattle.std.specs.Option.{option_map_or}
use Rattle.std.specs.Prelude.{Option, Some, None}
use Rattle.proto_core.specs.declared.party.Number.{Number}
use Rattle.proto_core.specs.Strand.{Act, Notice, Sent, Opened, Told, accepts, Mail, Strand, Ends, Acts, Waits, Begins, taken, run, then_do, told_in}
use Rattle.proto_core.specs.Script.{IsSilent}
use Rattle.proto_core.specs.Net.{into, run_of, added, MailBegins, Finishes}
use Rattle.proto_core.proofs.Beginnings.{begins-append, begins-rest}
use Rattle.proto_core.proofs.Strands.{run-none, run-took, run-refused, run-then, run-more, told-append}
use Rattle.proto_core.proofs.Nets.{into-added, into-more}
use Rattle.protocol_model.specs.Gates.{Gate, Joined, Local, AreSound, AreSilent, nth_value, operand, needed, gates_strand}
use Rattle.protocol_model.specs.Runs.{Shares, Tapes, Ready, run_messages, nodes_of}
use Rattle.protocol_model.proofs.GateRuns.{run-finishes}
use Rattle.protocol_model.proofs.Scripts.{silent_then}
use Rattle.driven_nodes.specs.Driven.{Turn, OfTurn, telling, shares_behind, tapes_behind, place_behind, LeadsTogether}
use Rattle.driven_nodes.specs.Driven.{driven, path, notices, Goes, driven_nodes}
use Rattle.driven_nodes.proofs.Gates.{messages_then}

pub silent_gates : (i : Number) (gates : List Gate) (values : List (List ℕ)) (tape : List ℕ) → AreSilent gates → IsSilent (gates_strand i gates values tape)
silent_gates i [] values tape h = tt
silent_gates i (Local n f ∷ gates) values tape h = silent_gates i gates (values ++ f i values ∷ []) tape h
silent_gates i (Joined p n u v ∷ gates) values tape h =
    silent_then (p.strand n i (nth_value values u) (operand values v) (take (p.draws n i) tape)) _ (h.0 i _ _ _)
    (λ made. silent_gates i gates (values ++ made) (drop (p.draws n i) tape) h.1)

pub silent_run : {A : Type 0} (s : Strand A) (x : Mail) → IsSilent s → told_in (run s x).acts ≡ []
silent_run (Ends a) x h = refl
silent_run (Acts (Sent l m) s) x h = silent_run s x h
silent_run (Acts (Opened w) s) x h = silent_run s x h
silent_run (Acts (Told t) s) x h = absurd h
silent_run (Waits l n k) x h = by_mail (x l) refl (λ m. silent_run (k m) (taken l x) (h m))
  where
    by_mail : (xs : List (List ℕ)) → x l ≡ xs → ((m : List ℕ) → told_in (run (k m) (taken l x)).acts ≡ []) → told_in (run (Waits l n k) x).acts ≡ []
    by_mail [] e more = ap (λ r. told_in r.acts) (run-none l n k x e)
    by_mail (m ∷ ms) e more = by_shape (accepts n m) refl
      where
        by_shape : (b : Bool) → accepts n m ≡ b → told_in (run (Waits l n k) x).acts ≡ []
        by_shape true o = ap (λ r. told_in r.acts) (run-took l n k x m ms e o) ∙ more m
        by_shape false o = ap (λ r. told_in r.acts) (run-refused l n k x m ms e o)

telling_tells : {A : Type 0} (ts : List Notice) (s : Strand A) (x : Mail) → told_in (run (telling ts s) x).acts ≡ ts ++ told_in (run s x).acts
telling_tells [] s x = refl
telling_tells (t ∷ ts) s x = ap (λ v. t ∷ v) (telling_tells ts s x)

silent_front : (xs ys : List Gate) → AreSilent (xs ++ ys) → AreSilent xs
silent_front [] ys h = tt
silent_front (Joined p n u v ∷ xs) ys h = (h.0, silent_front xs ys h.1)
silent_front (Local n f ∷ xs) ys h = silent_front xs ys h

silent_back : (xs ys : List Gate) → AreSilent (xs ++ ys) → AreSilent ys
silent_back [] ys h = h
silent_back (Joined p n u v ∷ xs) ys h = silent_back xs ys h.1
silent_back (Local n f ∷ xs) ys h = silent_back xs ys h

begins_told : (xs ys : List Act) → Begins xs ys → Begins (told_in xs) (told_in ys)
begins_told xs ys h =
    subst (λ v. Begins (told_in xs) v) (sym (ap told_in (sym (begins-rest xs ys h)) ∙ told-append xs (drop (length xs) ys)))
    (begins-append (told_in xs) _)

module _ {S : Type 0} (next : S → Option (Turn S)) where
  -- with all messages of the run
  pub driven_tells :
      (fuel : ℕ) (i : Number) (s : S) (values : Shares) (tapes : Tapes) → Goes next fuel s values tapes →
      AreSilent (path next fuel s values tapes) →
      told_in (run (driven next fuel i s (values i) (tapes i)) (into i (run_messages (path next fuel s values tapes) values tapes))).acts
      ≡ notices next fuel i s values tapes
  driven_tells zero i s values tapes h silent = refl
  driven_tells (suc fuel) i s values tapes h silent = by_turn (next s) h silent (driven_tells fuel i)
    where
      rest : Turn S → List Gate
      rest t = path next fuel (place_behind t values tapes) (shares_behind t values tapes) (tapes_behind t tapes)

      gates_by : Option (Turn S) → List Gate
      gates_by o = option_map_or (λ t. t.gates ++ rest t) o []

      on : Turn S → List (List ℕ) → Strand (S × List (List ℕ))
      on t all = telling (t.tells all) (driven next fuel i (t.leads all) all (drop (needed t.gates i) (tapes i)))

      mine_by : Option (Turn S) → Strand (S × List (List ℕ))
      mine_by o = option_map_or (λ t. then_do (gates_strand i t.gates (values i) (tapes i)) (on t)) o (Ends (s, values i))

      May : Option (Turn S) → Type 0
      May o =
          OfTurn o
          (λ t.
          AreSound t.gates
          × Ready t.gates values tapes
          × LeadsTogether t values tapes
          × Goes next fuel (place_behind t values tapes) (shares_behind t values tapes) (tapes_behind t tapes))

      Later : Type 0
      Later =
          (s : S) (values : Shares) (tapes : Tapes) → Goes next fuel s values tapes → AreSilent (path next fuel s values tapes) →
          told_in (run (driven next fuel i s (values i) (tapes i)) (into i (run_messages (path next fuel s values tapes) values tapes))).acts
          ≡ notices next fuel i s values tapes

      by_turn :
          (o : Option (Turn S)) → May o → AreSilent (gates_by o) → Later →
          told_in (run (mine_by o) (into i (run_messages (gates_by o) values tapes))).acts
          ≡ option_map_or (λ t.
          t.tells (shares_behind t values tapes i)
          ++ notices next fuel i (place_behind t values tapes) (shares_behind t values tapes) (tapes_behind t tapes)) o []
      by_turn None h silent later = refl
      by_turn (Some t) h silent later =
          ap (λ x. told_in (run (then_do gates (on t)) x).acts) mails
          ∙ ap (λ r. told_in r.acts) (run-then gates (on t) first behind (now i) (done.ended i))
          ∙ ap (λ u. told_in ((run gates first).acts ++ (run (on t (now i)) (added u behind)).acts)) (done.read i)
          ∙ told-append (run gates first).acts (run (on t (now i)) behind).acts
          ∙ ap (λ v. v ++ told_in (run (on t (now i)) behind).acts)
          (silent_run gates first (silent_gates i t.gates (values i) (tapes i) (silent_front t.gates (rest t) silent)))
          ∙ telling_tells (t.tells (now i)) (driven next fuel i (t.leads (now i)) (now i) (later_tapes i)) behind
          ∙ ap (λ z. t.tells (now i) ++ told_in (run (driven next fuel i z (now i) (later_tapes i)) behind).acts) (h.2 i)
          ∙ ap (λ v. t.tells (now i) ++ v) (later (place_behind t values tapes) now later_tapes h.3 (silent_back t.gates (rest t) silent))
        where
          now : Shares
          now = shares_behind t values tapes

          later_tapes : Tapes
          later_tapes = tapes_behind t tapes

          gates : Strand (List (List ℕ))
          gates = gates_strand i t.gates (values i) (tapes i)

          first : Mail
          first = into i (run_messages t.gates values tapes)

          behind : Mail
          behind = into i (run_messages (rest t) now later_tapes)

          done : Finishes (nodes_of t.gates values tapes) (run_messages t.gates values tapes) now
          done = run-finishes t.gates values tapes h.0 h.1

          mails : into i (run_messages (t.gates ++ rest t) values tapes) ≡ added first behind
          mails =
              ap (into i) (λ d. λ l. messages_then t.gates (rest t) values tapes l d)
              ∙ into-added i (run_messages t.gates values tapes) (run_messages (rest t) now later_tapes)

  -- and with a part of them a part of it
  pub driven_tells_in_order :
      (fuel : ℕ) (i : Number) (s : S) (values : Shares) (tapes : Tapes) (x : Mail) → Goes next fuel s values tapes →
      AreSilent (path next fuel s values tapes) → MailBegins x (run_messages (path next fuel s values tapes) values tapes) →
      Begins (told_in (run_of (driven_nodes next fuel s values tapes) x i).acts) (notices next fuel i s values tapes)
  driven_tells_in_order fuel i s values tapes x h silent begins =
      let full = run_messages (path next fuel s values tapes) values tapes in
      let nodes = driven_nodes next fuel s values tapes in
      subst (λ v. Begins (told_in (run_of nodes x i).acts) v) (driven_tells fuel i s values tapes h silent)
      (begins_told _ _ (run-more (nodes i) (into i x) (into i full) (into-more nodes i x full begins)))
