-- The messages of a gate come to the miner.
use Rattle.std.proofs.Common.{◌≡◌, ℕ, suc, ◌+◌, ◌≤◌, ◌<◌, List, [], ◌∷◌, ◌++◌, length, take, drop, sym, ◌∙◌, ap, subst, arith, get_or, append_assoc}
use Rattle.std.proofs.Common.{add-one, drop-cons}
use Rattle.std.proofs.lemmas.Option.{slice_get_within, get_or_from_slice_get, slice_get-get_or}
use Rattle.std.specs.Prelude.{Some, None}
use Rattle.std.specs.List.{slice_get}
use Rattle.proto_core.specs.declared.party.Number.{Number}
use Rattle.proto_core.specs.declared.party.Number.TheVariants.{One, Two, Three}
use Rattle.proto_core.specs.Parties.{from_previous, from_next}
use Rattle.proto_core.specs.Strand.{Mail}
use Rattle.proto_core.specs.Net.{into}
use Rattle.proto_core.specs.Protocol.{Protocol}
use Rattle.proto_core.proofs.Beginnings.{append-none}
use Rattle.std.proofs.Math.Seq.{drop-append_seam}
use Rattle.proto_core.proofs.Nodes.{into-is, mail-previous, mail-next}
use Rattle.protocol_model.specs.Gates.{Joined, needed, sizes_of, nth_value, operand}
use Rattle.protocol_model.specs.Runs.{drawn}
use Rattle.gates.specs.Blocks.{block_sizes}
use Rattle.gates.specs.declared.gate.Gate.{Gate}
use Rattle.gates.specs.Clear.{value}
use Rattle.blocked_protocol.specs.Blocked.{blocked, blocks_received}
use Rattle.shared_gates.proofs.Models.{nth_value-value, size-value}
use Rattle.gate_exchanges.specs.Exchanged.{IsExchanged}
use Rattle.gate_exchanges.proofs.OneGate.{exchanged-gate}
use Rattle.gate_exchanges.specs.declared.exchanged.Exchanged.{Exchanged}
use Rattle.joint_run.specs.Parts.{ThreeLists}
use Rattle.joint_run.specs.Three.{each_of}
use Rattle.joint_run.specs.Exchanges.{protocol_of}
use Rattle.block_steps.specs.declared.links.Links.{Links}
use Rattle.block_steps.specs.Outcomes.{came_from_previous, came_from_next}
use Rattle.gate_node.specs.declared.engine.Engine.{Engine}
use Rattle.gate_node.specs.Nodes.{with_links}
use Rattle.view_simulator.specs.declared.simulator.Simulator.{Simulator}
use Rattle.view_simulator.specs.Sources.{SourceWords, Reach, drawn_lists, left_lists, gate_mail, Brings}
use Rattle.view_simulator.specs.Simulators.{more_previous, more_next, joined_in, gate_in, mail_in, Receives}
use Rattle.view_simulator.proofs.BlockMails.{each-drawn, each-left}
use Rattle.view_simulator.proofs.WholeGates.{blocks-any_second}

-- ---- messages that come, one after another

module _ (l : Links) where
  pub one-previous : (m : List ℕ) (ms : List (List ℕ)) → more_previous (came_from_previous l m) ms ≡ more_previous l (m ∷ ms)
  one-previous m ms =
      λ d. record l { from_previous = (append_assoc l.from_previous.0 (m ∷ []) ms d, append_assoc l.from_previous.1 (m ∷ []) ms d) }

  pub one-next : (m : List ℕ) (ms : List (List ℕ)) → more_next (came_from_next l m) ms ≡ more_next l (m ∷ ms)
  one-next m ms = λ d. record l { from_next = (append_assoc l.from_next.0 (m ∷ []) ms d, append_assoc l.from_next.1 (m ∷ []) ms d) }

at-place : (k : ℕ) (ms : List (List ℕ)) (m : List ℕ) → slice_get ms k ≡ Some m → drop k ms ≡ m ∷ drop (k + 1) ms
at-place k ms m is =
    drop-cons ms k [] (slice_get_within ms k m is)
    ∙ ap (λ x. x ∷ drop (suc k) ms) (get_or_from_slice_get ms k m [] is)
    ∙ ap (λ n. m ∷ drop n ms) (sym (add-one k))

module _ {P : Type 0} (before now later : Engine P) (messages : List (List ℕ)) (from at : ℕ) where
  pub previous-comes :
      (m : List ℕ) → slice_get messages at ≡ Some m → later ≡ with_links now (came_from_previous now.links m) →
      with_links now (more_previous now.links (drop at messages)) ≡ with_links before (more_previous before.links (drop from messages)) →
      with_links later (more_previous later.links (drop (at + 1) messages)) ≡ with_links before (more_previous before.links (drop from messages))
  previous-comes m is comes done =
      ap (λ e. with_links e (more_previous e.links (drop (at + 1) messages))) comes
      ∙ ap (with_links now) (one-previous now.links m (drop (at + 1) messages))
      ∙ ap (λ ms. with_links now (more_previous now.links ms)) (sym (at-place at messages m is))
      ∙ done

  pub next-comes :
      (m : List ℕ) → slice_get messages at ≡ Some m → later ≡ with_links now (came_from_next now.links m) →
      with_links now (more_next now.links (drop at messages)) ≡ with_links before (more_next before.links (drop from messages)) →
      with_links later (more_next later.links (drop (at + 1) messages)) ≡ with_links before (more_next before.links (drop from messages))
  next-comes m is comes done =
      ap (λ e. with_links e (more_next e.links (drop (at + 1) messages))) comes
      ∙ ap (with_links now) (one-next now.links m (drop (at + 1) messages))
      ∙ ap (λ ms. with_links now (more_next now.links ms)) (sym (at-place at messages m is))
      ∙ done

behind-front : (n : ℕ) (xs ys : List (List ℕ)) → length xs ≡ n → drop n (xs ++ ys) ≡ ys
behind-front n xs ys e = ap (λ k. drop k (xs ++ ys)) (sym e) ∙ drop-append_seam xs ys

pub never-none : {X : Type 0} (at : ℕ) (ms : List (List ℕ)) → at < length ms → slice_get ms at ≡ None → X
never-none at ms h none = clash (get_or ms at []) (sym (slice_get-get_or ms at [] h) ∙ none)
  where
    clash : {X : Type 0} (m : List ℕ) → Some m ≡ None → X
    clash m e = cc

-- ---- a gate's messages are those that the simulator makes

module _ {P : Type 0} (i : Number) (s : Simulator P) (x : Exchanged) where
  abbrev p : Protocol
  p = protocol_of x.exchange

  abbrev u : List ℕ
  u = value s.node.values x.u

  abbrev n : ℕ
  n = length u

  abbrev source : SourceWords
  source = record { u = u; words = drawn_lists p n s.tapes; opened = take (p.opens n) s.opened.now }

  abbrev made : Mail
  made =
      (blocked p).received n i (nth_value s.node.values x.u) (operand s.node.values x.v) (drawn (blocked p) n (each_of s.tapes))
      (take (p.opens n) s.opened.now)

  made-is : made ≡ gate_mail p i source
  made-is =
      ap (λ w. blocks_received p (block_sizes n) i w (operand s.node.values x.v) (drawn (blocked p) n (each_of s.tapes)) source.opened)
      (nth_value-value s.node.values x.u)
      ∙ blocks-any_second x.exchange (block_sizes n) i u (operand s.node.values x.v) [] (drawn (blocked p) n (each_of s.tapes)) source.opened
      ∙ ap (λ w. blocks_received p (block_sizes n) i u [] w source.opened) (sym (each-drawn p n s.tapes))

  in-previous : mail_in i s (joined_in i s x) (from_previous i) ≡ gate_mail p i source (from_previous i)
  in-previous =
      append-none (into i made (from_previous i))
      ∙ ap (λ m. m (from_previous i)) (into-is i made)
      ∙ mail-previous i (made (from_previous i)) (made (from_next i))
      ∙ ap (λ m. m (from_previous i)) made-is

  in-next : mail_in i s (joined_in i s x) (from_next i) ≡ gate_mail p i source (from_next i)
  in-next =
      append-none (into i made (from_next i))
      ∙ ap (λ m. m (from_next i)) (into-is i made)
      ∙ mail-next i (made (from_previous i)) (made (from_next i))
      ∙ ap (λ m. m (from_next i)) made-is

  pub exchange-comes :
      (t : Simulator P) (one : Engine P) (from_p from_n : ℕ) →
      Brings i (gate_mail p i source) s.mails t.mails → from_p ≡ length s.mails.previous → from_n ≡ length s.mails.next →
      one ≡ with_links s.node (more_previous s.node.links (drop from_p t.mails.previous)) →
      t.node ≡ with_links one (more_next one.links (drop from_n t.mails.next)) →
      t.opened.now ≡ drop (p.opens n) s.opened.now → t.tapes ≡ left_lists p n s.tapes → Receives i (joined_in i s x) s t
  exchange-comes t one from_p from_n brings fp fn first second opened tapes =
      let prev : drop from_p t.mails.previous ≡ mail_in i s (joined_in i s x) (from_previous i) =
      ap (drop from_p) brings.previous ∙ behind-front from_p s.mails.previous (gate_mail p i source (from_previous i)) (sym fp) ∙ sym in-previous in
      let next : drop from_n t.mails.next ≡ mail_in i s (joined_in i s x) (from_next i) =
      ap (drop from_n) brings.next ∙ behind-front from_n s.mails.next (gate_mail p i source (from_next i)) (sym fn) ∙ sym in-next in
      let plus : (k : ℕ) → k + 0 ≡ k = λ k. omega arith in
      record {
        node =
            second
            ∙ ap (λ e. with_links e (more_next e.links (drop from_n t.mails.next))) first
            ∙ ap (λ ms. with_links s.node (more_next (more_previous s.node.links (drop from_p t.mails.previous)) ms)) next
            ∙ ap (λ ms. with_links s.node (more_next (more_previous s.node.links ms) (mail_in i s (joined_in i s x) (from_next i)))) prev;
        mails =
            record {
              previous = brings.previous ∙ ap (λ m. s.mails.previous ++ m) (sym in-previous);
              next = brings.next ∙ ap (λ m. s.mails.next ++ m) (sym in-next);
            };
        opened = opened ∙ ap (λ k. drop k s.opened.now) (sym (plus (p.opens n)));
        tapes =
            ap each_of tapes
            ∙ each-left p n s.tapes
            ∙ (λ d. λ k. ap (λ m. drop m (each_of s.tapes k)) (sym (plus (p.draws n k))) d);
      }

  -- as the code takes its words
  pub exchange-received :
      (t : Simulator P) (one : Engine P) (from_p from_n : ℕ) (me : Number) (u2 : List ℕ) (words : ThreeLists) (opened : List ℕ) (count : ℕ) →
      me ≡ i → u2 ≡ u → words ≡ drawn_lists p (length u2) s.tapes → count ≡ p.opens (length u2) → opened ≡ take count s.opened.now →
      Brings me (gate_mail p me (record { u = u2; words = words; opened = opened })) s.mails t.mails →
      from_p ≡ length s.mails.previous → from_n ≡ length s.mails.next →
      one ≡ with_links s.node (more_previous s.node.links (drop from_p t.mails.previous)) →
      t.node ≡ with_links one (more_next one.links (drop from_n t.mails.next)) →
      t.opened.now ≡ drop count s.opened.now → t.tapes ≡ left_lists p (length u2) s.tapes → Receives i (joined_in i s x) s t
  exchange-received t one from_p from_n me u2 words opened count is_me is_u is_words is_count is_opened brings fp fn first second opened_left tapes_left =
      let lists : words ≡ drawn_lists p n s.tapes = is_words ∙ ap (λ l. drawn_lists p (length l) s.tapes) is_u in
      let many : count ≡ p.opens n = is_count ∙ ap (λ l. p.opens (length l)) is_u in
      let told : opened ≡ take (p.opens n) s.opened.now = is_opened ∙ ap (λ k. take k s.opened.now) many in
      let same : record { u = u2; words = words; opened = opened } ≡ source = λ d. record { u = is_u d; words = lists d; opened = told d } in
      exchange-comes t one from_p from_n
      (subst (λ m. Brings m (gate_mail p m source) s.mails t.mails) is_me (subst (λ w. Brings me (gate_mail p me w) s.mails t.mails) same brings))
      fp fn first second (opened_left ∙ ap (λ k. drop k s.opened.now) many) (tapes_left ∙ ap (λ l. left_lists p (length l) s.tapes) is_u)

-- ---- whichever gate it is

module _ {P : Type 0} (i : Number) (s : Simulator P) (gate : Gate) where
  pub exchanged-in : (x : Exchanged) → IsExchanged gate x → gate_in i s gate ≡ joined_in i s x
  exchanged-in x is =
      exchanged-gate (λ k. s.node.dealt) (sizes_of s.node.dealt) (sizes_of s.node.values) gate x is
      ∙ ap (λ k. Joined (blocked (protocol_of x.exchange)) k x.u x.v) (sym (size-value s.node.values x.u))

  pub reach-in :
      (x : Exchanged) → IsExchanged gate x → ((k : Number) → needed (gate_in i s gate ∷ []) k ≤ length (each_of s.tapes k)) →
      Reach (protocol_of x.exchange) (length (value s.node.values x.u)) s.tapes
  reach-in x is reach =
      let at : (k : Number) → needed (joined_in i s x ∷ []) k ≤ length (each_of s.tapes k) =
      λ k. subst (λ g. needed (g ∷ []) k ≤ length (each_of s.tapes k)) (exchanged-in x is) (reach k) in
      let one = at One in
      let two = at Two in
      let three = at Three in
      record { first = omega (arith, one); second = omega (arith, two); third = omega (arith, three) }
