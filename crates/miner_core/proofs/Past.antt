-- What a miner does is the same whatever it has let go of that is done with.
use Rattle.std.proofs.Common.{◌≡◌, ℕ, List, [], ◌++◌, append_assoc, take, drop, take-append-drop, map, refl, sym, ◌∙◌, ap, subst}
use Rattle.std.specs.Prelude.{Option}
use Rattle.proto_core.specs.declared.party.Number.{Number}
use Rattle.proto_core.specs.declared.refused.BadMessage.{BadMessage}
use Rattle.proto_core.specs.Parties.{to_next, to_previous}
use Rattle.proto_core.specs.Strand.{Mail, Strand, Ends, Acts, Waits, Ran, run, then_do, on_link, opened_in, told_in}
use Rattle.proto_core.specs.Net.{mail_of, added}
use Rattle.proto_core.proofs.Beginnings.{append-none}
use Rattle.block_steps.specs.declared.links.Links.{Links}
use Rattle.block_steps.specs.Inboxes.{LetsGo}
use Rattle.block_steps.specs.Outcomes.{Outcome, outcome, mail_left, HasNoneOf, StandsAt, AwaitsOn}
use Rattle.block_steps.proofs.Inboxes.{holds_none}
use Rattle.gate_node.specs.OwnGates.{GatesEnd}
use Rattle.gate_node.specs.Nodes as node
use Rattle.gate_node.specs.Plans.{then_wanted}
use Rattle.gate_node.specs.declared.engine.Engine as gates
use Rattle.gate_node.specs.declared.engine.AtWork.{AtWork}
use Rattle.gate_node.specs.declared.engine.AtWork.TheVariants.{Idle, Between, Within}
use Rattle.own_code.specs.OwnCode.{Ended}
use Rattle.miner_core.specs.declared.engine.Engine.{Engine}
use Rattle.gate_node.specs.declared.standing.Standing.{Standing}
use Rattle.gate_node.specs.declared.standing.Standing.TheVariants.{Through, Waits as AtWait, Unfit as NotFit, Wants as WantsMore}
use Rattle.miner_core.specs.Drawing.{IsAtRest}
use Rattle.miner_core.specs.Engines.{behind_node, engine_left, engine_outcome, engine_told, shown, with_words, IsQuiet, IsSound, IsSoundAlways, Rests}
use Rattle.miner_core.specs.Past.{Past, sent_before, with_past, with_inboxes, IsLighter, HoldsLittle}
use Rattle.miner_core.specs.Story.{Story, Leads}
use Rattle.miner_core.specs.Views.{notice_seen}

-- ---- other links, of which the same messages are unread, and other words that were drawn

module _
    {P : Type 0} (i : Number) (e : Engine P) (l : Links) (words : List ℕ) (mail : mail_left i l ≡ mail_left i e.node.links) where
  abbrev other_node : gates.Engine P
  other_node = record e.node { links = l; tape = (words, e.node.tape.1) }

  abbrev other : Engine P
  other = record e { node = other_node }

  work_same : (w : AtWork P) → node.work_left i other_node w ≡ node.work_left i e.node w
  work_same Idle = refl
  work_same (Between r) = refl
  work_same (Within r block) = refl

  node_left : node.engine_left i other_node ≡ node.engine_left i e.node
  node_left = ap (then_wanted i e.node.dealt e.node.wanted) (work_same e.node.work)

  left_same : engine_left i other ≡ engine_left i e
  left_same = ap (λ s. then_do s (behind_node i e e.at)) node_left

  ran_same : run (engine_left i other) (mail_left i l) ≡ run (engine_left i e) (mail_left i e.node.links)
  ran_same = ap (λ s. run s (mail_left i l)) left_same ∙ ap (run (engine_left i e)) mail

  told_same : engine_told i other ≡ engine_told i e
  told_same = ap (λ (r : Ran Ended). map notice_seen e.notices.items ++ told_in r.acts) ran_same

  outcome_same : engine_outcome i other ≡ outcome i l.to_next l.to_previous l.opened.items (run (engine_left i e) (mail_left i e.node.links))
  outcome_same = ap (outcome i l.to_next l.to_previous l.opened.items) ran_same

  quiet_same : IsQuiet i e.node → IsQuiet i other_node
  quiet_same quiet = λ more.
      subst (λ v. told_in (run v (added (mail_left i l) more)).acts ≡ []) (sym node_left)
      (subst (λ x. told_in (run (node.engine_left i e.node) (added x more)).acts ≡ []) (sym mail) (quiet more))

  sound_same : IsSound i e → IsSound i other
  sound_same sound = record { stands = sound.stands; quiet = quiet_same sound.quiet }

  stands_same : (cause : Option BadMessage) (s : Strand GatesEnd) → StandsAt i e.node.links cause s → StandsAt i l cause s
  stands_same cause (Ends a) h = h
  stands_same cause (Acts act s) h = h
  stands_same cause (Waits link shape k) h = subst (λ (x : Mail). HasNoneOf shape cause (x link)) (sym mail) h

  rests_same : (r : Standing) → Rests i r e → Rests i r other
  rests_same Through h = record { node = node_left ∙ h.node; over = h.over }
  rests_same NotFit h = record { node = node_left ∙ h.node; over = h.over }
  rests_same (WantsMore count) h = record { node = node_left ∙ h.node; over = h.over }
  rests_same (AtWait link cause) h =
      record {
        node = (
          subst (StandsAt i l cause) (sym node_left) (stands_same cause (node.engine_left i e.node) h.node.0),
          subst (AwaitsOn link) (sym node_left) h.node.1,
        );
        over = h.over;
      }

-- ---- with the messages that it has let go of those that it had sent

abbrev behind_past : Past → Outcome Ended → Outcome Ended
behind_past past o = record o { to_next = past.to_next ++ o.to_next; to_previous = past.to_previous ++ o.to_previous }

abbrev of_lists : (n p : List (List ℕ)) → (o : List ℕ) → Ran Ended → Outcome Ended
of_lists n p o b = record { to_next = n; to_previous = p; opened = o; left = b.left; unread = b.unread }

module _ {P : Type 0} (i : Number) (past : Past) where
  pub left_past : (e : Engine P) → engine_left i (with_past past e) ≡ engine_left i e
  left_past e = left_same i e (sent_before past e.node.links) e.node.tape.0 refl

  outcome_past : (e : Engine P) → engine_outcome i (with_past past e) ≡ behind_past past (engine_outcome i e)
  outcome_past e =
      let l = e.node.links in
      let ran = run (engine_left i e) (mail_left i l) in
      let next = on_link (to_next i) ran.acts in
      let previous = on_link (to_previous i) ran.acts in
      outcome_same i e (sent_before past l) e.node.tape.0 refl
      ∙ ap (λ v. of_lists v ((past.to_previous ++ l.to_previous) ++ previous) (l.opened.items ++ opened_in ran.acts) ran)
      (append_assoc past.to_next l.to_next next)
      ∙ ap (λ v. of_lists (past.to_next ++ (l.to_next ++ next)) v (l.opened.items ++ opened_in ran.acts) ran)
      (append_assoc past.to_previous l.to_previous previous)

  pub same_past :
      (e e2 : Engine P) → shown (engine_outcome i e2) ≡ shown (engine_outcome i e) →
      shown (engine_outcome i (with_past past e2)) ≡ shown (engine_outcome i (with_past past e))
  same_past e e2 same = ap shown (outcome_past e2) ∙ ap (behind_past past) same ∙ sym (ap shown (outcome_past e))

  pub told_past : (e : Engine P) → engine_told i (with_past past e) ≡ engine_told i e
  told_past e = told_same i e (sent_before past e.node.links) e.node.tape.0 refl

  pub sound_past : (e : Engine P) → IsSound i e → IsSound i (with_past past e)
  sound_past e sound = sound_same i e (sent_before past e.node.links) e.node.tape.0 refl sound

  pub rests_past : (e : Engine P) (r : Standing) → Rests i r e → Rests i r (with_past past e)
  rests_past e r rests = rests_same i e (sent_before past e.node.links) e.node.tape.0 refl r rests

-- ---- it lets go what was taken and drawn

module _ {P : Type 0} (i : Number) (e e2 : Engine P) (lighter : IsLighter e e2) where
  abbrev links : Links
  links = with_inboxes e.node.links e2.node.links.from_previous e2.node.links.from_next

  mail_same : mail_left i links ≡ mail_left i e.node.links
  mail_same =
      ap (λ ms. mail_of i ms e2.node.links.from_next.1) lighter.previous ∙ ap (mail_of i e.node.links.from_previous.1) lighter.next

  is_other : e2 ≡ other i e links e2.node.tape.0 mail_same
  is_other =
      lighter.same ∙ ap (λ w. record e { node = record e.node { links = links; tape = (e2.node.tape.0, w) } }) lighter.tape

  sound_lighter : IsSoundAlways i e → IsSoundAlways i e2
  sound_lighter sound =
      subst (IsSoundAlways i) (sym is_other)
      (record {
        stands = sound.stands;
        quiet = λ more. quiet_same i (with_words e more) links (e2.node.tape.0 ++ more) mail_same (sound.quiet more);
      })

  leads_lighter :
      (past : Past) (more : List ℕ) (s : Story) → Leads i (with_words (with_past past e) more) s → Leads i (with_words (with_past past e2) more) s
  leads_lighter past more s leads =
      let all = with_words (with_past past e) more in
      let l = sent_before past links in
      let words = e2.node.tape.0 ++ more in
      subst (λ v. Leads i (with_words (with_past past v) more) s) (sym is_other)
      (record {
        sound = sound_same i all l words mail_same leads.sound;
        same = ap shown (outcome_same i all l words mail_same) ∙ leads.same;
        told = told_same i all l words mail_same ∙ leads.told;
      })

  pub at_rest_lighter : (past : Past) (at : Standing) (ahead : ℕ) (s : Story) → IsAtRest i past e at ahead s → IsAtRest i past e2 at ahead s
  at_rest_lighter past at ahead s h =
      record {
        sound = sound_lighter h.sound;
        leads = λ more. leads_lighter past more (record s { tape = s.tape ++ more }) (h.leads more);
        rests =
            λ more few.
            subst (λ v. Rests i at (with_words v more)) (sym is_other)
            (rests_same i (with_words e more) links (e2.node.tape.0 ++ more) mail_same at (h.rests more few));
      }

-- ---- it lets go the messages that it has sent to one of the others

-- all else of its links is as before, and what was let go is what was sent
module _
    {P : Type 0} (i : Number) (past past2 : Past) (e : Engine P) (l : Links) (previous : l.from_previous ≡ e.node.links.from_previous)
    (next : l.from_next ≡ e.node.links.from_next) (all : sent_before past2 l ≡ sent_before past e.node.links) where
  abbrev left_with_less : Engine P
  left_with_less = record e { node = record e.node { links = l } }

  mail_less : mail_left i l ≡ mail_left i e.node.links
  mail_less =
      ap (λ (ms : List (List ℕ) × List (List ℕ)). mail_of i ms.1 l.from_next.1) previous
      ∙ ap (λ (ms : List (List ℕ) × List (List ℕ)). mail_of i e.node.links.from_previous.1 ms.1) next

  pub at_rest_less : (at : Standing) (ahead : ℕ) (s : Story) → IsAtRest i past e at ahead s → IsAtRest i past2 left_with_less at ahead s
  at_rest_less at ahead s h =
      record {
        sound =
            record {
              stands = h.sound.stands;
              quiet = λ more. quiet_same i (with_words e more) l (e.node.tape.0 ++ more) mail_less (h.sound.quiet more);
            };
        leads =
            λ more.
            subst (λ v. Leads i (with_words (record e { node = record e.node { links = v } }) more) (record s { tape = s.tape ++ more })) (sym all)
            (h.leads more);
        rests = λ more few. rests_same i (with_words e more) l (e.node.tape.0 ++ more) mail_less at (h.rests more few);
      }

-- those to the next miner
pub at_rest_next :
    {P : Type 0} (i : Number) (past : Past) (e : Engine P) (at : Standing) (ahead : ℕ) (s : Story) → IsAtRest i past e at ahead s →
    IsAtRest i (record past { to_next = past.to_next ++ e.node.links.to_next })
    (record e { node = node.with_links e.node (record e.node.links { to_next = [] }) }) at ahead s
at_rest_next i past e at ahead s h =
    let l = e.node.links in
    at_rest_less i past (record past { to_next = past.to_next ++ l.to_next }) e (record l { to_next = [] }) refl refl
    (ap (λ v. record (sent_before past l) { to_next = v }) (append-none (past.to_next ++ l.to_next))) at ahead s h

-- those to the previous miner
pub at_rest_previous :
    {P : Type 0} (i : Number) (past : Past) (e : Engine P) (at : Standing) (ahead : ℕ) (s : Story) → IsAtRest i past e at ahead s →
    IsAtRest i (record past { to_previous = past.to_previous ++ e.node.links.to_previous })
    (record e { node = node.with_links e.node (record e.node.links { to_previous = [] }) }) at ahead s
at_rest_previous i past e at ahead s h =
    let l = e.node.links in
    at_rest_less i past (record past { to_previous = past.to_previous ++ l.to_previous }) e (record l { to_previous = [] }) refl refl
    (ap (λ v. record (sent_before past l) { to_previous = v }) (append-none (past.to_previous ++ l.to_previous))) at ahead s h

-- the first of those to the next miner
pub at_rest_next_first :
    {P : Type 0} (i : Number) (count : ℕ) (past : Past) (e : Engine P) (at : Standing) (ahead : ℕ) (s : Story) → IsAtRest i past e at ahead s →
    IsAtRest i (record past { to_next = past.to_next ++ take count e.node.links.to_next })
    (record e { node = node.with_links e.node (record e.node.links { to_next = drop count e.node.links.to_next }) }) at ahead s
at_rest_next_first i count past e at ahead s h =
    let l = e.node.links in
    let first = take count l.to_next in
    let others = drop count l.to_next in
    at_rest_less i past (record past { to_next = past.to_next ++ first }) e (record l { to_next = others }) refl refl
    (ap (λ v. record (sent_before past l) { to_next = v })
    (append_assoc past.to_next first others ∙ ap (λ v. past.to_next ++ v) (take-append-drop count l.to_next))) at ahead s h

-- the first of those to the previous miner
pub at_rest_previous_first :
    {P : Type 0} (i : Number) (count : ℕ) (past : Past) (e : Engine P) (at : Standing) (ahead : ℕ) (s : Story) → IsAtRest i past e at ahead s →
    IsAtRest i (record past { to_previous = past.to_previous ++ take count e.node.links.to_previous })
    (record e { node = node.with_links e.node (record e.node.links { to_previous = drop count e.node.links.to_previous }) }) at ahead s
at_rest_previous_first i count past e at ahead s h =
    let l = e.node.links in
    let first = take count l.to_previous in
    let others = drop count l.to_previous in
    at_rest_less i past (record past { to_previous = past.to_previous ++ first }) e (record l { to_previous = others }) refl refl
    (ap (λ v. record (sent_before past l) { to_previous = v })
    (append_assoc past.to_previous first others ∙ ap (λ v. past.to_previous ++ v) (take-append-drop count l.to_previous))) at ahead s h

-- ---- by its gates

module _
    {P : Type 0} (e : Engine P) (n n2 : gates.Engine P) (from_previous : LetsGo e.node.links.from_previous n.links.from_previous)
    (from_next : LetsGo e.node.links.from_next n.links.from_next) (previous_left : n.links.from_previous.1 ≡ e.node.links.from_previous.1)
    (next_left : n.links.from_next.1 ≡ e.node.links.from_next.1)
    (links_same : n ≡ node.with_links e.node (with_inboxes e.node.links n.links.from_previous n.links.from_next))
    (tape : LetsGo n.tape n2.tape) (tape_left : n2.tape.1 ≡ n.tape.1) (tape_same : n2 ≡ record n { tape = n2.tape }) where
  abbrev after : Engine P
  after = record e { node = n2 }

  links_are : n2.links ≡ n.links
  links_are = ap (λ (m : gates.Engine P). m.links) tape_same

  tape_was : n.tape ≡ e.node.tape
  tape_was = ap (λ (m : gates.Engine P). m.tape) links_same

  pub lighter_so : IsLighter e after
  lighter_so =
      record {
        previous = ap (λ (l : Links). l.from_previous.1) links_are ∙ previous_left;
        next = ap (λ (l : Links). l.from_next.1) links_are ∙ next_left;
        tape = tape_left ∙ ap (λ (t : List ℕ × List ℕ). t.1) tape_was;
        same =
            ap (λ m. record e { node = m }) tape_same
            ∙ ap (λ (m : gates.Engine P). record e { node = record m { tape = n2.tape } }) links_same
            ∙ ap (λ (l : Links). record e {
              node = record e.node { links = with_inboxes e.node.links l.from_previous l.from_next; tape = n2.tape };
            }) (sym links_are);
      }

  pub holds_little : HoldsLittle after
  holds_little =
      record {
        previous =
            subst (λ (l : Links). l.from_previous.1 ≡ [] → l.from_previous ≡ ([], [])) (sym links_are)
            (holds_none e.node.links.from_previous n.links.from_previous from_previous);
        next =
            subst (λ (l : Links). l.from_next.1 ≡ [] → l.from_next ≡ ([], [])) (sym links_are)
            (holds_none e.node.links.from_next n.links.from_next from_next);
        tape = holds_none n.tape n2.tape tape;
      }
