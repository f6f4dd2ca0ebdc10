-- Three nodes that read each other's frames.
use Rattle.std.proofs.Common.{◌≡◌, ℕ, zero, suc, Bool, true, false, if◌then◌else◌, List, [], refl, sym, ◌∙◌, ap, subst}
use Rattle.proto_core.specs.declared.party.Number.{Number}
use Rattle.proto_core.specs.declared.link.Link.{Link}
use Rattle.proto_core.specs.Parties.{is_same, receiver_of, sender_of}
use Rattle.proto_core.specs.Strand.{Agree, Begins, IsEnded, Mail, Strand, on_link}
use Rattle.proto_core.specs.Net.{MailBegins, into, nothing, posted, rounds, run_of}
use Rattle.proto_core.proofs.Beginnings.{agree-shorter, agree_none, begins-trans}
use Rattle.proto_core.proofs.Nets.{covers, rounds-begin}
use Rattle.proto_core.proofs.Numbers.{same_is}
use Rattle.proto_core.proofs.Strands.{MailAgrees, agree-on_link, begins-on_link, run-agree, run-most}
use Rattle.served_bytes.specs.Served.{AtEnd, Coming, Spells}
use Rattle.served_bytes.proofs.Messages.{ends_on_honest_bytes}
use Rattle.wire.specs.Frames.{IsFrameable, framed}
use Rattle.honest_miners.specs.JoinedFrames.{AllCame, CanAllBeFramed, EndsWhereAllCame, FramesJoin, IsFramedRun, ReadsWhatWasSent, serves}
use Rattle.honest_miners.proofs.Reading.{acts_cover, begins_all, frames_spell, messages_agree, messages_begin}

into_agree : (i : Number) (x y : Mail) → MailAgrees x y → MailAgrees (into i x) (into i y)
into_agree i x y h l = elim (is_same (receiver_of l) i) as (λ b. Agree (if b then x l else []) (if b then y l else [])) [ true ↦ h l | false ↦ tt ]

module _ {A : Type 0} (nodes : Number → Strand A) (full : Mail) (outputs : Number → A) (run_is : IsFramedRun nodes full outputs) where
  -- round by round what is sent can be framed
  round_begins : (k : ℕ) → MailBegins (rounds nodes k nothing) full
  round_begins k = rounds-begin nodes full (covers nodes full outputs run_is.finishes) k nothing (λ l. tt)

  round_framed : (k : ℕ) → CanAllBeFramed (rounds nodes k nothing)
  round_framed k l = begins_all IsFrameable (rounds nodes k nothing l) (full l) (round_begins k l) (run_is.framed l)

  -- ---- what was read

  module _ (came : Link → List ℕ) (mail : Mail) (reads : ReadsWhatWasSent nodes full outputs came mail) where
    -- so what was read agrees with each round
    agrees : (k : ℕ) → MailAgrees mail (rounds nodes k nothing)
    agrees zero l = agree_none (mail l)
    agrees (suc k) l =
        messages_agree (came l) (mail l) (posted nodes mail l) (posted nodes (rounds nodes k nothing) l) (round_framed (suc k) l) (reads.came l)
        (agree-on_link l _ _ (run-agree (nodes (sender_of l)) _ _ (into_agree (sender_of l) mail (rounds nodes k nothing) (agrees k))))
        (reads.read l)

    agrees_full : MailAgrees mail full
    agrees_full l = agree-shorter (full l) (rounds nodes run_is.finishes.count nothing l) (mail l) (run_is.finishes.all l) (agrees run_is.finishes.count l)

    at_end : (i : Number) → IsEnded (run_of nodes full i).left
    at_end i = subst (λ s. IsEnded s) (sym (run_is.finishes.ended i)) tt

    sent : MailBegins (posted nodes mail) full
    sent l =
        subst (λ v. Begins (posted nodes mail l) v) (run_is.finishes.sent l)
        (begins-on_link l _ _ (run-most (nodes (sender_of l)) _ _ (into_agree (sender_of l) mail full agrees_full) (at_end (sender_of l))))

    pub received : MailBegins mail (posted nodes mail)
    received l =
        messages_begin (came l) (mail l) (posted nodes mail l) (begins_all IsFrameable (posted nodes mail l) (full l) (sent l) (run_is.framed l))
        (reads.came l) (reads.read l)

  -- ---- where all came

  module _ (came : Number → Coming) (all : AllCame nodes full outputs came) where
    abbrev acts_on : Mail
    acts_on l = on_link l (serves nodes full outputs came (sender_of l)).acts

    -- messages that begin what was sent are spelled by what came
    spelled : (mail : Mail) → CanAllBeFramed mail → MailBegins mail acts_on → (i : Number) (l : Link) → Spells framed (came i l) (into i mail l)
    spelled mail can begins i l = by_receiver (is_same (receiver_of l) i) refl
      where
        by_receiver : (b : Bool) → is_same (receiver_of l) i ≡ b → Spells framed (came i l) (if b then mail l else [])
        by_receiver true e =
            subst (λ v. Spells framed v (mail l)) (sym (all l) ∙ ap (λ (k : Number). came k l) (same_is (receiver_of l) i e))
            (frames_spell (mail l) (acts_on l) (can l) (begins l))
        by_receiver false e = tt

    round_came : (k : ℕ) → MailBegins (rounds nodes k nothing) acts_on
    round_came zero l = tt
    round_came (suc k) l =
        begins-on_link l _ _
        (acts_cover (nodes (sender_of l)) (into (sender_of l) (rounds nodes k nothing)) (came (sender_of l))
        (spelled (rounds nodes k nothing) (round_framed k) (round_came k) (sender_of l)))

    full_came : MailBegins full acts_on
    full_came l = begins-trans _ _ _ (run_is.finishes.all l) (round_came run_is.finishes.count l)

    pub ends : (i : Number) → (serves nodes full outputs came i).stop ≡ AtEnd (outputs i)
    ends i =
        (ends_on_honest_bytes framed (nodes i) (into i full) (came i) (outputs i) (run_is.finishes.ended i) (spelled full run_is.framed full_came i)).1

pub frames_join : {A : Type 0} (nodes : Number → Strand A) (full : Mail) (outputs : Number → A) (came : Link → List ℕ) (mail : Mail)
    → FramesJoin nodes full outputs came mail
frames_join nodes full outputs came mail run_is reads = received nodes full outputs run_is came mail reads

pub ends_where_all_came : {A : Type 0} (nodes : Number → Strand A) (full : Mail) (outputs : Number → A) (came : Number → Coming)
    → EndsWhereAllCame nodes full outputs came
ends_where_all_came nodes full outputs came run_is all = ends nodes full outputs run_is came all
