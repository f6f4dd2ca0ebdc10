-- An engine stays where its story leads.
use Rattle.std.proofs.Common.{◌≡◌, ◌≢◌, ℕ, if◌then◌else◌, List, [], ◌∷◌, ◌++◌, append_assoc, map, refl, sym, ◌∙◌, ap, subst}
use Rattle.std.specs.Option.{option_map_or}
use Rattle.std.specs.Prelude.{Option, None, Some, Result, Vec}
use Rattle.std.specs.declared.alloc.Global.{Global}
use Rattle.std.proofs.lemmas.Bool.{false_from_ne_true}
use Rattle.proto_core.specs.declared.party.Number.{Number}
use Rattle.proto_core.specs.declared.link.Link.{Link}
use Rattle.proto_core.specs.Parties.{to_next, to_previous, from_previous, from_next}
use Rattle.proto_core.specs.Strand.{Shape, same_link, Mail, Strand, Ends, Acts, Waits, Ran, run, then_do, told_in}
use Rattle.proto_core.specs.Standing.{AtItsEnd, Awaits, Refuses, standing_with, before_mail, fault_of}
use Rattle.proto_core.specs.declared.refused.BadMessage.{BadMessage}
use Rattle.language_model.specs.Reports.{beginning}
use Rattle.code_machine.specs.Machine.{start}
use Rattle.code_machine.specs.Meaning.{fuel}
use Rattle.value_steps.specs.Views.{stage_seen}
use Rattle.code_machine.specs.Standing.{Stands}
use Rattle.code_machine.specs.Views.{machine_seen}
use Rattle.own_code.specs.Places.{Place, place}
use Rattle.proto_core.specs.Net.{mail_of, added}
use Rattle.proto_core.proofs.Beginnings.{append-none}
use Rattle.proto_core.proofs.Strands.{same-link_is, same-link_self, run-added, told-append}
use Rattle.gates.specs.Clear.{Values}
use Rattle.driven_nodes.specs.Steps.{Running}
use Rattle.block_steps.specs.declared.links.Links.{Links}
use Rattle.block_steps.specs.Outcomes.{Outcome, outcome, mail_left, IsStill, HasNoneOf, StandsAt, AwaitsOn, came_from_previous, came_from_next}
use Rattle.block_steps.proofs.Behind.{still-then, mail-added, kahn-behind, kahn-step}
use Rattle.gate_node.specs.OwnGates.{GatesEnd, Whole}
use Rattle.gate_node.specs.Plans.{then_wanted}
use Rattle.gate_node.specs.Nodes as node
use Rattle.gate_node.specs.declared.engine.Engine as gates
use Rattle.gate_node.specs.declared.engine.AtWork.{AtWork}
use Rattle.gate_node.specs.declared.engine.AtWork.TheVariants.{Idle, Between, Within}
use Rattle.miner_core.specs.declared.engine.At.{At}
use Rattle.miner_core.specs.declared.engine.At.TheVariants as at
use Rattle.miner_core.specs.declared.engine.Engine.{Engine}
use Rattle.gate_node.specs.declared.standing.Standing.{Standing}
use Rattle.gate_node.specs.declared.standing.Standing.TheVariants.{Through, Waits as AtWait, Unfit as NotFit, Wants as WantsMore}
use Rattle.miner_core.specs.declared.task.Task.{Task}
use Rattle.own_code.specs.OwnCode.{Ended, Reached, Unfit, own_code}
use Rattle.miner_core.specs.Views.{notice_seen, task_world, task_code}
use Rattle.miner_core.specs.Engines.{place_at, goes_on_at, behind_node, engine_left, engine_outcome, engine_told, forgetting, shown, IsSound, IsOver, Rests}
use Rattle.miner_core.specs.Engines.{end_by, IsQuiet, IsQuietAlways, Keeps}
use Rattle.miner_core.specs.declared.answer.End.TheVariants as end
use Rattle.miner_core.specs.declared.answer.Step.{Step}
use Rattle.miner_core.specs.declared.answer.MinerErr.{MinerErr}
use Rattle.miner_core.specs.Story.{Story, received, start_of, story_of, mail_in, strand_in, standing, stands_at, Follows, Leads, HasEnded, IsAnswerOf, IsAnswer}
use Rattle.miner_core.specs.Story as story
use Rattle.miner_core.proofs.Forgetting.{run_forgetting, told_forgetting, standing_forgetting, answer_alike}
use Rattle.miner_core.proofs.Quiet.{QuietAt, quiet_come}

not_at_end_awaits : (l : Link) → Awaits l ≡ AtItsEnd → ⊥
not_at_end_awaits l e = cc

not_at_end_refuses : (l : Link) (cause : BadMessage) → Refuses l cause ≡ AtItsEnd → ⊥
not_at_end_refuses l cause e = cc

module _ (i : Number) where
  pub mail_previous : (p n : List (List ℕ)) (m : List ℕ) → mail_of i (p ++ m ∷ []) n ≡ added (mail_of i p n) (mail_of i (m ∷ []) [])
  mail_previous p n m = sym (mail-added i p n (m ∷ []) [] ∙ ap (λ v. mail_of i (p ++ m ∷ []) v) (append-none n))

  pub mail_next : (p n : List (List ℕ)) (m : List ℕ) → mail_of i p (n ++ m ∷ []) ≡ added (mail_of i p n) (mail_of i [] (m ∷ []))
  mail_next p n m = sym (mail-added i p n [] (m ∷ []) ∙ ap (λ v. mail_of i v (n ++ m ∷ [])) (append-none p))

  -- where a message is awaited
  module _ (l : Links) (link : Link) (f : GatesEnd → Strand Ended) where
    waits_front : (shape : Shape) (ms : List (List ℕ)) → HasNoneOf shape None ms → before_mail link shape ms ≡ Awaits link
    waits_front shape [] h = refl
    waits_front shape (m ∷ ms) h = absurd h

    refuses_front : (cause : BadMessage) (shape : Shape) (ms : List (List ℕ)) → HasNoneOf shape (Some cause) ms → before_mail link shape ms ≡ Refuses link cause
    refuses_front cause shape [] h = absurd h
    refuses_front cause shape (m ∷ ms) h = ap (λ o. option_map_or (Refuses link) o (Awaits link)) h

    pub waits_is : (s : Strand GatesEnd) → StandsAt i l None s × AwaitsOn link s → standing_with (then_do s f) (mail_left i l) ≡ Awaits link
    waits_is (Ends a) h = absurd h.0
    waits_is (Acts a s) h = absurd h.0
    waits_is (Waits other shape k) h =
        subst (λ o. HasNoneOf shape None (mail_left i l o) → before_mail o shape (mail_left i l o) ≡ Awaits link) (sym h.1)
        (waits_front shape (mail_left i l link)) h.0

    pub refuses_is :
        (cause : BadMessage) (s : Strand GatesEnd) → StandsAt i l (Some cause) s × AwaitsOn link s
        → standing_with (then_do s f) (mail_left i l) ≡ Refuses link cause
    refuses_is cause (Ends a) h = absurd h.0
    refuses_is cause (Acts a s) h = absurd h.0
    refuses_is cause (Waits other shape k) h =
        subst (λ o. HasNoneOf shape (Some cause) (mail_left i l o) → before_mail o shape (mail_left i l o) ≡ Refuses link cause) (sym h.1)
        (refuses_front cause shape (mail_left i l link)) h.0

    waits_no_end : (shape : Shape) (ms : List (List ℕ)) → before_mail link shape ms ≢ AtItsEnd
    waits_no_end shape [] e = not_at_end_awaits link e
    waits_no_end shape (m ∷ ms) e = fault_no_end (fault_of shape m) e
      where
        fault_no_end : (fault : Option BadMessage) → option_map_or (Refuses link) fault (Awaits link) ≢ AtItsEnd
        fault_no_end None e = not_at_end_awaits link e
        fault_no_end (Some cause) e = not_at_end_refuses link cause e

    pub goes :
        (cause : Option BadMessage) (s : Strand GatesEnd) → StandsAt i l cause s × AwaitsOn link s → standing_with (then_do s f) (mail_left i l) ≢ AtItsEnd
    goes cause (Ends a) h e = h.0
    goes cause (Acts a s) h e = h.0
    goes cause (Waits other shape k) h e =
        subst (λ o. before_mail o shape (mail_left i l o) ≢ AtItsEnd) (sym h.1) (waits_no_end shape (mail_left i l link)) e

module _ {P : Type 0} (i : Number) where
  -- ---- at rest

  over_ends : (e : Engine P) (a : At) (values : Values) (tape : List ℕ) → IsOver i e a → (x : Ended) × (goes_on_at i e a values tape ≡ Ends x)
  over_ends e at.Ready values tape h =
      (Reached (Running (place_at i e)) values, ap (λ k. goes_on_at i (record e { fuel = k }) at.Ready values tape) h)
  over_ends e at.Again values tape h = absurd h
  over_ends e (at.Acts t speech before) values tape h = absurd h
  over_ends e (at.Over ending) values tape h = (_, refl)
  over_ends e at.Short values tape h = (_, refl)

  pub through_ends : (e : Engine P) → Rests i Through e → (x : Ended) × (engine_left i e ≡ Ends x)
  through_ends e h =
      let last = over_ends e e.at e.node.values e.node.tape.1 (h.over refl) in
      (last.0, ap (λ s. then_do s (behind_node i e e.at)) h.node ∙ last.1)

  over_has_ended : (e : Engine P) (a : At) (values : Values) (tape : List ℕ) → IsOver i e a → HasEnded (goes_on_at i e a values tape) (end_by a)
  over_has_ended e at.Ready values tape h = subst (λ k. HasEnded (goes_on_at i (record e { fuel = k }) at.Ready values tape) end.Endless) (sym h) tt
  over_has_ended e at.Again values tape h = absurd h
  over_has_ended e (at.Acts t speech before) values tape h = absurd h
  over_has_ended e (at.Over ending) values tape h = refl
  over_has_ended e at.Short values tape h = tt

  pub through_has_ended : (e : Engine P) → Rests i Through e → HasEnded (engine_left i e) (end_by e.at)
  through_has_ended e h =
      subst (λ s. HasEnded (then_do s (behind_node i e e.at)) (end_by e.at)) (sym h.node)
      (over_has_ended e e.at e.node.values e.node.tape.1 (h.over refl))

  pub unfit_ends : (e : Engine P) → Rests i NotFit e → engine_left i e ≡ Ends Unfit
  unfit_ends e h = ap (λ s. then_do s (behind_node i e e.at)) h.node

  pub wants_ends : (e : Engine P) (count : ℕ) → Rests i (WantsMore count) e → engine_left i e ≡ Ends Unfit
  wants_ends e count h = ap (λ s. then_do s (behind_node i e e.at)) h.node

  rests_still : (e : Engine P) (s : Standing) → Rests i s e → IsStill i e.node.links (engine_left i e)
  rests_still e Through h = subst (λ v. IsStill i e.node.links v) (sym (through_ends e h).1) refl
  rests_still e NotFit h = subst (λ v. IsStill i e.node.links v) (sym (unfit_ends e h)) refl
  rests_still e (WantsMore count) h = subst (λ v. IsStill i e.node.links v) (sym (wants_ends e count h)) refl
  rests_still e (AtWait link cause) h = still-then i e.node.links cause (node.engine_left i e.node) (behind_node i e e.at) h.node.0

  abbrev of_lists : (e : Engine P) → (n p : List (List ℕ)) → (o : List ℕ) → Outcome Ended
  of_lists e n p o = record { to_next = n; to_previous = p; opened = o; left = engine_left i e; unread = mail_left i e.node.links }

  standing_is : (e : Engine P) (s : Standing) → Rests i s e → standing i e ≡ engine_outcome i e
  standing_is e s h =
      let l = e.node.links in
      sym (ap (outcome i l.to_next l.to_previous l.opened.items) (rests_still e s h)
      ∙ ap (λ v. of_lists e v (l.to_previous ++ []) (l.opened.items ++ [])) (append-none l.to_next)
      ∙ ap (λ v. of_lists e l.to_next v (l.opened.items ++ [])) (append-none l.to_previous)
      ∙ ap (λ v. of_lists e l.to_next l.to_previous v) (append-none l.opened.items))

  told_is : (e : Engine P) (s : Standing) → Rests i s e → map notice_seen e.notices.items ≡ engine_told i e
  told_is e s h =
      sym (ap (λ r. map notice_seen e.notices.items ++ told_in r.acts) (rests_still e s h) ∙ append-none (map notice_seen e.notices.items))

  -- an engine that rests is where its story leads
  pub follows : (e : Engine P) (s : Story) (at : Standing) → Leads i e s → Rests i at e → Follows i e s
  follows e s at leads rests =
      record {
        sound = leads.sound;
        same = ap shown (standing_is e at rests) ∙ leads.same;
        told = told_is e at rests ∙ leads.told;
      }

  -- ---- a message comes

  work_same : (n : gates.Engine P) (l : Links) (w : AtWork P) → node.work_left i (record n { links = l }) w ≡ node.work_left i n w
  work_same n l Idle = refl
  work_same n l (Between r) = refl
  work_same n l (Within r block) = refl

  links_same : (n : gates.Engine P) (l : Links) (w : AtWork P) → node.left_at i (record n { links = l }) w ≡ node.left_at i n w
  links_same n l w = ap (then_wanted i n.dealt n.wanted) (work_same n l w)

  -- its gates tell nothing, with these messages more
  come_quiet : (n : gates.Engine P) (l : Links) (more : Mail) → mail_left i l ≡ added (mail_left i n.links) more → IsQuiet i n → IsQuiet i (record
      n { links = l })
  come_quiet n l more mail quiet = λ others.
      subst (λ v. told_in (run v (added (mail_left i l) others)).acts ≡ []) (sym (links_same n l n.work))
      (subst (λ x. told_in (run (node.engine_left i n) (added x others)).acts ≡ []) (sym mail)
      (quiet_come (node.engine_left i n) (mail_left i n.links) more quiet others))

  pub quiet_from_previous : (n : gates.Engine P) (m : List ℕ) → IsQuietAlways i n → IsQuietAlways i (record n { links = came_from_previous n.links m })
  quiet_from_previous n m quiet = λ more.
      come_quiet (node.filled n more) (came_from_previous n.links m) (mail_of i (m ∷ []) [])
      (mail_previous i n.links.from_previous.1 n.links.from_next.1 m) (quiet more)

  pub quiet_from_next : (n : gates.Engine P) (m : List ℕ) → IsQuietAlways i n → IsQuietAlways i (record n { links = came_from_next n.links m })
  quiet_from_next n m quiet = λ more.
      come_quiet (node.filled n more) (came_from_next n.links m) (mail_of i [] (m ∷ []))
      (mail_next i n.links.from_previous.1 n.links.from_next.1 m) (quiet more)

  abbrev with_links : Engine P → Links → Engine P
  with_links e l = record e { node = record e.node { links = l } }

  left_same : (e : Engine P) (l : Links) → engine_left i (with_links e l) ≡ engine_left i e
  left_same e l = ap (λ s. then_do s (behind_node i e e.at)) (links_same e.node l e.node.work)

  -- these messages more
  module _ (e : Engine P) (s : Story) (f : Leads i e s) (more : Mail) (l : Links) (next : l.to_next ≡ e.node.links.to_next)
      (previous : l.to_previous ≡ e.node.links.to_previous) (opened : l.opened ≡ e.node.links.opened)
      (mail : mail_left i l ≡ added (mail_left i e.node.links) more)
      (s2 : Story) (strand : strand_in i s2 ≡ strand_in i s) (mail2 : mail_in i s2 ≡ added (mail_in i s) more) where
    node_is : story.node i s2 ≡ run (strand_in i s) (added (mail_in i s) more)
    node_is = ap (λ v. run v (mail_in i s2)) strand ∙ ap (run (strand_in i s)) mail2

    abbrev later : Ran Ended
    later = run (engine_left i e) (added (mail_left i e.node.links) more)

    run_is : run (engine_left i (with_links e l)) (mail_left i l) ≡ later
    run_is = ap (λ v. run v (mail_left i l)) (left_same e l) ∙ ap (run (engine_left i e)) mail

    come_outcome : engine_outcome i (with_links e l) ≡ outcome i e.node.links.to_next e.node.links.to_previous e.node.links.opened.items later
    come_outcome =
        ap (outcome i l.to_next l.to_previous l.opened.items) run_is
        ∙ ap (λ v. outcome i v l.to_previous l.opened.items later) next
        ∙ ap (λ v. outcome i e.node.links.to_next v l.opened.items later) previous
        ∙ ap (λ (v : Vec ℕ Global). outcome i e.node.links.to_next e.node.links.to_previous v.items later) opened

    come_same : shown (engine_outcome i (with_links e l)) ≡ shown (outcome i [] [] [] (story.node i s2))
    come_same =
        let k = e.node.links in
        let x = mail_left i k in
        let own = forgetting (engine_left i e) in
        let mine = forgetting (strand_in i s) in
        let begun = shown (engine_outcome i e) in
        ap shown come_outcome
        ∙ sym (ap (outcome i k.to_next k.to_previous k.opened.items) (run_forgetting (engine_left i e) (added x more)))
        ∙ kahn-behind i k.to_next k.to_previous k.opened.items own x more begun
        (sym (ap (outcome i k.to_next k.to_previous k.opened.items) (run_forgetting (engine_left i e) x)))
        ∙ sym (ap (λ r. shown (outcome i [] [] [] r)) node_is
        ∙ sym (ap (outcome i [] [] []) (run_forgetting (strand_in i s) (added (mail_in i s) more)))
        ∙ kahn-step i mine (mail_in i s) more begun
        (f.same ∙ sym (ap (outcome i [] [] []) (run_forgetting (strand_in i s) (mail_in i s)))))

    come_told : engine_told i (with_links e l) ≡ story.has_told i s2
    come_told =
        let x = mail_left i e.node.links in
        let first = run (engine_left i e) x in
        let second = run first.left (added first.unread more) in
        let told = map notice_seen e.notices.items in
        ap (λ (r : Ran Ended). told ++ told_in r.acts) (run_is ∙ run-added (engine_left i e) x more)
        ∙ ap (λ ns. told ++ ns) (told-append first.acts second.acts)
        ∙ sym (append_assoc told (told_in first.acts) (told_in second.acts))
        ∙ ap (λ ns. ns ++ told_in second.acts) f.told
        ∙ ap (λ ns. story.has_told i s ++ ns)
        (sym (told_forgetting first.left (added first.unread more))
        ∙ ap (λ (o : Outcome Ended). told_in (run o.left (added o.unread more)).acts) f.same
        ∙ told_forgetting (story.node i s).left (added (story.node i s).unread more))
        ∙ sym (ap (λ (r : Ran Ended). told_in r.acts) node_is
        ∙ ap (λ (r : Ran Ended). told_in r.acts) (run-added (strand_in i s) (mail_in i s) more)
        ∙ told-append (story.node i s).acts (run (story.node i s).left (added (story.node i s).unread more)).acts)

    come_sound : IsSound i (with_links e l)
    come_sound = record { stands = f.sound.stands; quiet = come_quiet e.node l more mail f.sound.quiet }

    comes : Leads i (with_links e l) s2
    comes = record { sound = come_sound; same = come_same; told = come_told }

  pub comes_from_previous : (e : Engine P) (s : Story) (l : Link) (m : List ℕ) → l ≡ from_previous i → Leads i e s →
      Leads i (with_links e (came_from_previous e.node.links m)) (received i s l m)
  comes_from_previous e s l m is f =
      subst (λ b. Leads i (with_links e (came_from_previous e.node.links m))
      (if b then record s { from_previous = s.from_previous ++ m ∷ [] } else record s { from_next = s.from_next ++ m ∷ [] }))
      (sym (ap (same_link (from_previous i)) is ∙ same-link_self (from_previous i)))
      (comes e s f (mail_of i (m ∷ []) []) (came_from_previous e.node.links m) refl refl refl
      (mail_previous i e.node.links.from_previous.1 e.node.links.from_next.1 m) (record s { from_previous = s.from_previous ++ m ∷ [] }) refl
      (mail_previous i s.from_previous s.from_next m))

  pub comes_from_next : (e : Engine P) (s : Story) (l : Link) (m : List ℕ) → l ≢ from_previous i → Leads i e s →
      Leads i (with_links e (came_from_next e.node.links m)) (received i s l m)
  comes_from_next e s l m is f =
      subst (λ b. Leads i (with_links e (came_from_next e.node.links m))
      (if b then record s { from_previous = s.from_previous ++ m ∷ [] } else record s { from_next = s.from_next ++ m ∷ [] }))
      (sym (false_from_ne_true (same_link (from_previous i) l) (λ t. is (sym (same-link_is (from_previous i) l t)))))
      (comes e s f (mail_of i [] (m ∷ [])) (came_from_next e.node.links m) refl refl refl
      (mail_next i e.node.links.from_previous.1 e.node.links.from_next.1 m) (record s { from_next = s.from_next ++ m ∷ [] }) refl
      (mail_next i s.from_previous s.from_next m))

  -- ---- and the story of an engine has it

  pub story_from_previous :
      (e : Engine P) (n : gates.Engine P) (l : Link) (m : List ℕ) (budget : ℕ) → l ≡ from_previous i
      → n ≡ record e.node { links = came_from_previous e.node.links m } →
      story_of (record e { node = n }) budget ≡ received i (story_of e budget) l m
  story_from_previous e n l m budget is node =
      let s = story_of e budget in
      ap (λ n. story_of (record e { node = n }) budget) node
      ∙ sym (ap (λ b. if b then record s { from_previous = s.from_previous ++ m ∷ [] } else record s { from_next = s.from_next ++ m ∷ [] })
      (ap (same_link (from_previous i)) is ∙ same-link_self (from_previous i)))

  pub story_from_next :
      (e : Engine P) (n : gates.Engine P) (l : Link) (m : List ℕ) (budget : ℕ) → l ≢ from_previous i
      → n ≡ record e.node { links = came_from_next e.node.links m } →
      story_of (record e { node = n }) budget ≡ received i (story_of e budget) l m
  story_from_next e n l m budget is node =
      let s = story_of e budget in
      ap (λ n. story_of (record e { node = n }) budget) node
      ∙ sym (ap (λ b. if b then record s { from_previous = s.from_previous ++ m ∷ [] } else record s { from_next = s.from_next ++ m ∷ [] })
      (false_from_ne_true (same_link (from_previous i) l) (λ t. is (sym (same-link_is (from_previous i) l t)))))

  -- ---- before the first step

  module _ (e : Engine P) (dealt : Values) (tape : List ℕ) (budget : ℕ) (ready : e.at ≡ at.Ready) (steps : e.fuel ≡ fuel (task_code e.task) budget)
      (machine : machine_seen e.task.code e.machine ≡ start (task_code e.task)) (stage : stage_seen e.stage ≡ beginning budget [])
      (own : e.node.dealt ≡ dealt) (left : node.engine_left i e.node ≡ Ends (Whole [] tape)) where
    abbrev s : Story
    s = start_of e.task dealt tape budget

    code_at : ℕ → Values → Place → Strand Ended
    code_at k d p = own_code (task_world e.task) (task_code e.task) i d k p [] tape

    starts_left : engine_left i e ≡ strand_in i s
    unfolding code_at
    starts_left =
        ap (λ v. then_do v (behind_node i e e.at)) left
        ∙ ap (λ a. goes_on_at i e a [] tape) ready
        ∙ ap (λ k. code_at k e.node.dealt (place_at i e)) steps
        ∙ ap (λ d. code_at (fuel (task_code e.task) budget) d (place_at i e)) own
        ∙ ap (λ m. code_at (fuel (task_code e.task) budget) dealt (place None m (stage_seen e.stage))) machine
        ∙ ap (λ u. code_at (fuel (task_code e.task) budget) dealt (place None (start (task_code e.task)) u)) stage

    pub starts :
        e.node.links.from_previous ≡ ([], []) → e.node.links.from_next ≡ ([], []) → e.node.links.to_next ≡ [] → e.node.links.to_previous ≡ [] →
        e.node.links.opened.items ≡ [] → e.notices.items ≡ [] → Stands e.task.code e.machine → Leads i e s
    starts previous next to_next to_previous opened notices stands =
        let l = e.node.links in
        let none : mail_left i l ≡ mail_of i [] [] =
        ap (λ (b : List (List ℕ) × List (List ℕ)). mail_of i b.1 l.from_next.1) previous ∙ ap (λ (b : List (List ℕ) × List (List ℕ)). mail_of i [] b.1) next in
        let same : run (engine_left i e) (mail_left i l) ≡ story.node i s =
        ap (λ v. run v (mail_left i l)) starts_left ∙ ap (run (strand_in i s)) none in
        record {
          sound = record { stands = stands; quiet = subst (λ v. QuietAt v (mail_left i l)) (sym left) (λ more. refl) };
          same =
              ap shown
              (ap (outcome i l.to_next l.to_previous l.opened.items) same
              ∙ ap (λ v. outcome i v l.to_previous l.opened.items (story.node i s)) to_next
              ∙ ap (λ v. outcome i [] v l.opened.items (story.node i s)) to_previous
              ∙ ap (λ v. outcome i [] [] v (story.node i s)) opened);
          told =
              ap (λ r. map notice_seen e.notices.items ++ told_in r.acts) same
              ∙ ap (λ ns. map notice_seen ns ++ told_in (story.node i s).acts) notices;
        }

  -- ---- answers

  pub end_is : (e : Engine P) (x : Ended) → engine_left i e ≡ Ends x → standing_with (engine_left i e) (mail_left i e.node.links) ≡ AtItsEnd
  end_is e x h = ap (λ s. standing_with s (mail_left i e.node.links)) h

  -- an engine that follows a story answers as it says
  pub answer_of : (e : Engine P) (s : Story) (r : Result Step MinerErr) → Follows i e s → IsAnswerOf (engine_left i e) (mail_left i e.node.links) r
      → IsAnswer i s r
  answer_of e s r f h =
      let n = story.node i s in
      (answer_alike n.left n.unread r).1
      (subst (λ (o : Outcome Ended). IsAnswerOf o.left o.unread r) f.same ((answer_alike (engine_left i e) (mail_left i e.node.links) r).0 h))

  pub standing_of_story : (e : Engine P) (s : Story) → Follows i e s → standing_with (engine_left i e) (mail_left i e.node.links) ≡ stands_at i s
  standing_of_story e s f =
      let n = story.node i s in
      sym (standing_forgetting (engine_left i e) (mail_left i e.node.links))
      ∙ ap (λ (o : Outcome Ended). standing_with o.left o.unread) f.same
      ∙ standing_forgetting n.left n.unread

-- the story is of what is kept
pub story_kept : {P : Type 0} (e e2 : Engine P) (budget : ℕ) → Keeps e e2 → story_of e2 budget ≡ story_of e budget
story_kept e e2 budget k =
    ap (λ (t : Task). record (story_of e2 budget) { world = task_world t; code = task_code t }) k.task
    ∙ ap (λ d. record (story_of e2 budget) { world = task_world e.task; code = task_code e.task; dealt = d }) k.dealt
    ∙ ap (λ t. record (story_of e2 budget) { world = task_world e.task; code = task_code e.task; dealt = e.node.dealt; tape = t }) k.tape
    ∙ ap (λ p. record (story_of e budget) { from_previous = p; from_next = e2.node.links.from_next.0 }) k.links.previous
    ∙ ap (λ n. record (story_of e budget) { from_next = n }) k.links.next

-- ---- links

pub nothing_elsewhere : (i : Number) (p n : List (List ℕ)) (l : Link) → l ≢ from_previous i → l ≢ from_next i → mail_of i p n l ≡ []
nothing_elsewhere i p n l apart apart2 =
    ap (λ b. if b then p else if same_link (from_next i) l then n else [])
    (false_from_ne_true (same_link (from_previous i) l) (λ t. apart (sym (same-link_is (from_previous i) l t))))
    ∙ ap (λ b. if b then n else []) (false_from_ne_true (same_link (from_next i) l) (λ t. apart2 (sym (same-link_is (from_next i) l t))))
