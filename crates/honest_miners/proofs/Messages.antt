-- What a miner has read, and where it stands, by what it has heard.
use Rattle.std.proofs.Common.{◌≡◌, ℕ, Bool, true, false, if◌then◌else◌, List, [], ◌∷◌, refl, sym, ap, ◌∙◌, subst}
use Rattle.proto_core.specs.declared.party.Number.{Number}
use Rattle.proto_core.specs.declared.link.Link.{Link}
use Rattle.proto_core.specs.Parties.{count_of, is_same, receiver_of, sender_of}
use Rattle.proto_core.specs.Net.{into, nothing}
use Rattle.proto_core.specs.Strand.{Act, Begins, Mail, Strand, run}
use Rattle.proto_core.proofs.Beginnings.{begins-self}
use Rattle.served_bytes.specs.Served.{Coming, Spells, served}
use Rattle.served_bytes.proofs.Messages.{serves_its_messages}
use Rattle.joined_nodes.specs.OwnCode.{Ended}
use Rattle.wire.specs.declared.fields.Hello.{Hello}
use Rattle.wire.specs.Frames.{framed}
use Rattle.miner_node.specs.Peers.{coming_to}
use Rattle.miner_node.specs.Serving.{CutOff, Serving, after_greeting, outcome_at, serving}
use Rattle.honest_miners.proofs.Fronts.{no_frame}
use Rattle.honest_miners.proofs.Greetings.{Greets, agreed, cut}

-- it waits for a hello; or it does what its bytes lead to
pub data Goes (s : Strand Ended) (came : Coming) (mail : Mail) (r : Serving) : Type 0 where
  waits : r.outcome ≡ CutOff → Goes s came mail r
  goes_on :
      r.outcome ≡ outcome_at (served framed s came).stop → r.acts ≡ (served framed s came).acts → mail ≡ (served framed s came).received
      → Goes s came mail r

-- what came after the hellos, and which messages were read of it
pub record Reads (i : Number) (s : Strand Ended) (more : Link → List ℕ) (r : Serving) : Type 0 where
  pub came : Coming
  pub mail : Mail
  pub fronts : (l : Link) → Begins (came l) (more l)
  pub spells : (l : Link) → Spells framed (came l) (mail l)
  pub only : into i mail ≡ mail
  pub acts : Begins r.acts (run s mail).acts
  pub goes : Goes s came mail r

nothing_read : (ms : List (List ℕ)) → Spells framed [] ms → ms ≡ []
nothing_read [] spells = refl
nothing_read (m ∷ ms) spells = no_frame [] m spells.0 tt spells.1

-- no message of another link was read
only_own : (i : Number) (rest : ℕ → List ℕ) (mail : Mail) → ((l : Link) → Spells framed (coming_to i rest l) (mail l)) → into i mail ≡ mail
only_own i rest mail spells = λ d. λ l. at_link l (is_same (receiver_of l) i) (spells l) d
  where
    at_link : (l : Link) (b : Bool) → Spells framed (if b then rest (count_of (sender_of l)) else []) (mail l) → (if b then mail l else []) ≡ mail l
    at_link l true h = refl
    at_link l false h = sym (nothing_read (mail l) h)

no_mail : (i : Number) → into i nothing ≡ nothing
no_mail i = λ d. λ l. elim (is_same (receiver_of l) i) as (λ b. (if b then nothing l else []) ≡ nothing l) [ true ↦ refl | false ↦ refl ] d

pub reads : (i : Number) (hello : Hello) (s : Strand Ended) (more : Link → List ℕ) (c : ℕ → List ℕ) → Greets i hello more c
    → Reads i s more (serving i hello s c)
reads i hello s more c (cut e) =
    let same = ap (after_greeting i s) e in
    record {
      came = λ l. [];
      mail = nothing;
      fronts = λ l. tt;
      spells = λ l. tt;
      only = no_mail i;
      acts = subst (λ (acts : List Act). Begins acts (run s nothing).acts) (sym (ap (λ r. r.acts) same)) tt;
      goes = waits (ap (λ r. r.outcome) same);
    }
reads i hello s more c (agreed rest e fronts) =
    let same = ap (after_greeting i s) e in
    let r = served framed s (coming_to i rest) in
    let h = serves_its_messages framed s (coming_to i rest) in
    record {
      came = coming_to i rest;
      mail = r.received;
      fronts = fronts;
      spells = h.spelled;
      only = only_own i rest r.received h.spelled;
      acts = subst (λ (acts : List Act). Begins acts (run s r.received).acts) (h.node.acts ∙ sym (ap (λ v. v.acts) same))
          (begins-self (run s r.received).acts);
      goes = goes_on (ap (λ v. v.outcome) same) (ap (λ v. v.acts) same) refl;
    }
