-- What a miner does that has let go values, and the list of its gates.
use Rattle.std.proofs.Common.{◌≡◌, ◌≢◌, ℕ, ◌-◌, Bool, true, false, List, [], ◌∷◌, ◌++◌, map, length, refl, sym, ◌∙◌, ap, subst, arith}
use Rattle.std.proofs.lemmas.List.{length-set, get_or-set_other}
use Rattle.std.specs.Prelude.{cond, None, Result, Ok, Err, Vec}
use Rattle.std.specs.declared.alloc.Global.{Global}
use Rattle.proto_core.specs.declared.party.Number.{Number}
use Rattle.proto_core.specs.Strand as told
use Rattle.proto_core.specs.Strand.{accepts, Mail, Strand, Ends, Acts, Waits, taken, Ran, acted, run, then_do, told_in}
use Rattle.proto_core.specs.Standing.{standing_with}
use Rattle.proto_core.proofs.Strands.{run-none, run-took, run-refused}
use Rattle.gates.specs.Clear.{Values, value}
use Rattle.value_steps.specs.Views.{stage_seen}
use Rattle.value_steps.specs.declared.stage.Stage as reached
use Rattle.code_machine.specs.Views.{machine_seen}
use Rattle.bytecode.specs.Raw.{RawCode}
use Rattle.driven_nodes.specs.Driven.{telling}
use Rattle.driven_nodes.specs.Steps.{Running, Stopped, Short, last_of}
use Rattle.miner_core.specs.declared.outcome.Turned.TheVariants as turned
use Rattle.protocol_model.specs.Gates.{nth_value}
use Rattle.own_code.specs.Places.{Place, place}
use Rattle.block_steps.specs.declared.links.Links.{Links}
use Rattle.block_steps.specs.Outcomes.{outcome, outcome_of, mail_left}
use Rattle.gate_node.specs.Nodes as node
use Rattle.gate_node.specs.declared.engine.Engine as gates
use Rattle.gate_node.proofs.Always.{then-all, then-assoc}
use Rattle.gate_node.proofs.Holding.{same_words}
use Rattle.code_machine.specs.Besides.{with_gates}
use Rattle.own_code.specs.Named.{AreAmong, MachineNames}
use Rattle.own_code.specs.EarlierGates.{end_without_gates, place_with_gates, without_gates}
use Rattle.own_code.specs.LettingGo.{forget, without_values, IsHeld}
use Rattle.own_code.specs.OwnCode.{Ended, Reached, Unfit, own_code}
use Rattle.own_code.proofs.LettingGo.{code_needs}
use Rattle.own_code.proofs.OtherGates.{runs_alike}
use Rattle.miner_core.specs.declared.engine.At.{At}
use Rattle.miner_core.specs.declared.engine.At.TheVariants as at
use Rattle.miner_core.specs.declared.letting_go.Letting.{Letting}
use Rattle.miner_core.specs.declared.engine.Engine.{Engine}
use Rattle.miner_core.specs.declared.notice.Notice as said
use Rattle.miner_core.specs.declared.answer.End.{End}
use Rattle.miner_core.specs.declared.answer.End.TheVariants as end
use Rattle.miner_core.specs.declared.answer.Step.{Step}
use Rattle.miner_core.specs.declared.answer.Step.TheVariants as step
use Rattle.miner_core.specs.declared.answer.MinerErr.{MinerErr}
use Rattle.miner_core.specs.declared.answer.MinerErr.TheVariants as error
use Rattle.miner_core.specs.Views.{task_world, task_code, notice_seen, told_since}
use Rattle.miner_core.specs.Engines.{place_at, goes_on_at, behind_node, engine_left, engine_outcome, engine_told, forgetting, shown, IsThrough}
use Rattle.miner_core.specs.Engines.{KeepsLinks, LeadsOn}
use Rattle.miner_core.specs.Story.{IsEnd, HasEnded, IsAnswerOf}

-- ---- IT DOES THE SAME

abbrev pub shown_ran : Ran Ended → Ran Ended
shown_ran r = record r { left = forgetting r.left }

pub run_forgetting : (s : Strand Ended) (x : Mail) → run (forgetting s) x ≡ shown_ran (run s x)
run_forgetting (Ends a) x = refl
run_forgetting (Acts a s) x = ap (acted a) (run_forgetting s x)
run_forgetting (Waits l n k) x = by_mail (x l) refl (λ m. run_forgetting (k m) (taken l x))
  where
    by_mail : (xs : List (List ℕ)) → x l ≡ xs → ((m : List ℕ) → run (forgetting (k m)) (taken l x) ≡ shown_ran (run (k m) (taken l x))) →
        run (forgetting (Waits l n k)) x ≡ shown_ran (run (Waits l n k) x)
    by_mail [] e more = run-none l n (λ m. forgetting (k m)) x e ∙ sym (ap shown_ran (run-none l n k x e))
    by_mail (m ∷ ms) e more = by_shape (accepts n m) refl
      where
        by_shape : (b : Bool) → accepts n m ≡ b → run (forgetting (Waits l n k)) x ≡ shown_ran (run (Waits l n k) x)
        by_shape true o = run-took l n (λ m. forgetting (k m)) x m ms e o ∙ more m ∙ sym (ap shown_ran (run-took l n k x m ms e o))
        by_shape false o = run-refused l n (λ m. forgetting (k m)) x m ms e o ∙ sym (ap shown_ran (run-refused l n k x m ms e o))

pub told_forgetting : (s : Strand Ended) (x : Mail) → told_in (run (forgetting s) x).acts ≡ told_in (run s x).acts
told_forgetting s x = ap (λ (r : Ran Ended). told_in r.acts) (run_forgetting s x)

pub shown_outcome : (i : Number) (l : Links) (s : Strand Ended) → outcome_of i l (forgetting s) ≡ shown (outcome_of i l s)
shown_outcome i l s = ap (outcome i l.to_next l.to_previous l.opened.items) (run_forgetting s (mail_left i l))

-- where it does the same but for what was let go
module _ {P : Type 0} (i : Number) (e e2 : Engine P) (left : forgetting (engine_left i e2) ≡ forgetting (engine_left i e)) (kept : KeepsLinks e e2) where
  pub shown_same : shown (engine_outcome i e2) ≡ shown (engine_outcome i e)
  shown_same =
      ap (λ l. shown (outcome_of i l (engine_left i e2))) kept.links
      ∙ sym (shown_outcome i e.node.links (engine_left i e2))
      ∙ ap (outcome_of i e.node.links) left
      ∙ shown_outcome i e.node.links (engine_left i e)

  pub shown_told : engine_told i e2 ≡ engine_told i e
  shown_told =
      let x = mail_left i e.node.links in
      ap (λ l. map notice_seen e2.notices.items ++ told_in (run (engine_left i e2) (mail_left i l)).acts) kept.links
      ∙ ap (λ (v : Vec said.Notice Global). map notice_seen v.items ++ told_in (run (engine_left i e2) x).acts) kept.notices
      ∙ ap (λ ns. map notice_seen e.notices.items ++ ns)
      (sym (told_forgetting (engine_left i e2) x) ∙ ap (λ s. told_in (run s x).acts) left ∙ told_forgetting (engine_left i e) x)

-- ---- AND STANDS THE SAME

pub standing_forgetting : (s : Strand Ended) (x : Mail) → standing_with (forgetting s) x ≡ standing_with s x
standing_forgetting (Ends a) x = refl
standing_forgetting (Acts a s) x = standing_forgetting s x
standing_forgetting (Waits l shape k) x = refl

abbrev Alike : Type 0 → Type 0 → Type 0
Alike A B = (A → B) × (B → A)

end_alike : (e : Ended) (end : End) → Alike (IsEnd e end) (HasEnded (forgetting (Ends e)) end)
end_alike (Reached (Stopped p) values) (end.Over ending) = (λ h. h, λ h. h)
end_alike (Reached (Stopped p) values) end.Short = (λ h. h, λ h. h)
end_alike (Reached (Stopped p) values) end.Endless = (λ h. h, λ h. h)
end_alike (Reached (Stopped p) values) end.Unfit = (λ h. h, λ h. h)
end_alike (Reached (Short p) values) (end.Over ending) = (λ h. h, λ h. h)
end_alike (Reached (Short p) values) end.Short = (λ h. h, λ h. h)
end_alike (Reached (Short p) values) end.Endless = (λ h. h, λ h. h)
end_alike (Reached (Short p) values) end.Unfit = (λ h. h, λ h. h)
end_alike (Reached (Running p) values) (end.Over ending) = (λ h. h, λ h. h)
end_alike (Reached (Running p) values) end.Short = (λ h. h, λ h. h)
end_alike (Reached (Running p) values) end.Endless = (λ h. h, λ h. h)
end_alike (Reached (Running p) values) end.Unfit = (λ h. h, λ h. h)
end_alike Unfit (end.Over ending) = (λ h. h, λ h. h)
end_alike Unfit end.Short = (λ h. h, λ h. h)
end_alike Unfit end.Endless = (λ h. h, λ h. h)
end_alike Unfit end.Unfit = (λ h. h, λ h. h)

ended_alike : (s : Strand Ended) (end : End) → Alike (HasEnded s end) (HasEnded (forgetting s) end)
ended_alike (Ends e) end = end_alike e end
ended_alike (Acts a s) end = (λ h. h, λ h. h)
ended_alike (Waits l shape k) end = (λ h. h, λ h. h)

pub answer_alike : (s : Strand Ended) (x : Mail) (r : Result Step MinerErr) → Alike (IsAnswerOf s x r) (IsAnswerOf (forgetting s) x r)
answer_alike s x (Ok (step.Waits l)) = (λ h. standing_forgetting s x ∙ h, λ h. sym (standing_forgetting s x) ∙ h)
answer_alike s x (Ok (step.Ended end)) = ended_alike s end
answer_alike s x (Err (error.BadMessage l cause)) = (λ h. standing_forgetting s x ∙ h, λ h. sym (standing_forgetting s x) ∙ h)
answer_alike s x (Err (error.NotAwaited l)) = (λ h. h, λ h. h)
answer_alike s x (Err (error.Lost why)) = (λ h. h, λ h. h)

-- ---- WHAT MAY BE LET GO

values_first : (s : Strand Ended) → forgetting s ≡ without_gates (without_values s)
values_first s = sym (then-assoc s (λ e. Ends (forget e)) (λ e. Ends (end_without_gates e)))

in_both_orders : (e : Ended) → Ends (end_without_gates (forget e)) ≡ Ends (forget (end_without_gates e))
in_both_orders (Reached stand values) = refl
in_both_orders Unfit = refl

gates_first : (s : Strand Ended) → forgetting s ≡ without_values (without_gates s)
gates_first s =
    then-all s (λ e. Ends (end_without_gates (forget e))) (λ e. Ends (forget (end_without_gates e))) in_both_orders
    ∙ sym (then-assoc s (λ e. Ends (end_without_gates e)) (λ e. Ends (forget e)))

module _ {P : Type 0} (i : Number) (e : Engine P) (n : gates.Engine P) (s : reached.Stage) (when : Letting) (ready : e.at ≡ at.Ready)
    (through : IsThrough i e.node) (through2 : IsThrough i n) (same : node.IsSameButValues e.node n)
    (stage : stage_seen s ≡ with_gates [] (stage_seen e.stage)) (held : IsHeld (place_at i e) e.node.values n.values) where
  abbrev behind : Engine P
  behind = record e { node = n; stage = s; letting = when }

  abbrev code : Values → Place → Values → List ℕ → Strand Ended
  code d p values tape = own_code (task_world e.task) (task_code e.task) i d e.fuel p values tape

  left_before : engine_left i e ≡ code e.node.dealt (place_at i e) e.node.values e.node.tape.1
  left_before =
      ap (λ v. then_do v (behind_node i e e.at)) through ∙ ap (λ a. goes_on_at i e a e.node.values e.node.tape.1) ready

  left_behind : engine_left i behind ≡ code e.node.dealt (place_with_gates [] (place_at i e)) n.values e.node.tape.1
  left_behind =
      ap (λ v. then_do v (behind_node i behind behind.at)) through2
      ∙ ap (λ a. goes_on_at i behind a n.values n.tape.1) ready
      ∙ ap (λ d. code d (place_at i behind) n.values n.tape.1) same.dealt
      ∙ ap (λ (t : List ℕ × List ℕ). code e.node.dealt (place_at i behind) n.values t.1) same.tape
      ∙ ap (λ u. code e.node.dealt (place None (machine_seen e.task.code e.machine) u) n.values e.node.tape.1) stage

  pub let_go_left : forgetting (engine_left i behind) ≡ forgetting (engine_left i e)
  let_go_left =
      let p = place_at i e in
      let d = e.node.dealt in
      let tape = e.node.tape.1 in
      let w = task_world e.task in
      let c = task_code e.task in
      ap forgetting left_behind
      ∙ gates_first (code d (place_with_gates [] p) n.values tape)
      ∙ ap without_values (sym (runs_alike w c i d e.fuel p [] n.values tape))
      ∙ sym (gates_first (code d p n.values tape))
      ∙ values_first (code d p n.values tape)
      ∙ ap without_gates (sym (code_needs w c i d e.fuel p e.node.values n.values tape held))
      ∙ sym (values_first (code d p e.node.values tape))
      ∙ sym (ap forgetting left_before)

-- values of these numbers are kept
pub is_held :
    (p : Place) (N : ℕ → Type 0) (values held : Values) → length held ≡ length values → p.stage.made ≡ length values → AreAmong (MachineNames p.machine) N →
    N (length values - 1) → ((k : ℕ) → N k → value held k ≡ value values k) → IsHeld p values held
is_held p N values held as_many counted named last kept =
    record {
      as_many = as_many;
      counted = counted;
      named = λ k names. sym (kept k (named k names));
      last =
          same_words values held (length values - 1) (sym (kept (length values - 1) last))
          ∙ ap (λ n. nth_value held (n - 1)) (sym as_many);
    }

-- ---- AN ARRAY THAT IS STORED INTO

forgetting_telling : (ns : List told.Notice) (s : Strand Ended) → forgetting (telling ns s) ≡ telling ns (forgetting s)
forgetting_telling [] s = refl
forgetting_telling (n ∷ ns) s = ap (Acts (told.Told n)) (forgetting_telling ns s)

-- the gates run of a step that leads on, and of the values that they come to others are held
module _ {P : Type 0} (i : Number) (e : Engine P) (n : gates.Engine P) (when : Letting) (values held : Values)
    (dealt : n.dealt ≡ e.node.dealt) (still : IsHeld (place_at i e) values held) (tape : List ℕ) where
  abbrev pub sparing : Engine P
  sparing = record e { node = n; letting = when }

  abbrev code_with : Values → Values → Strand Ended
  code_with d own = own_code (task_world e.task) (task_code e.task) i d e.fuel (place_at i e) own tape

  code_alike : forgetting (code_with n.dealt held) ≡ forgetting (code_with e.node.dealt values)
  code_alike =
      ap (λ d. forgetting (code_with d held)) dealt
      ∙ values_first (code_with e.node.dealt held)
      ∙ ap without_gates (sym (code_needs (task_world e.task) (task_code e.task) i e.node.dealt e.fuel (place_at i e) values held tape still))
      ∙ sym (values_first (code_with e.node.dealt values))

  pub goes_alike : (a : At) → LeadsOn a → forgetting (goes_on_at i sparing a held tape) ≡ forgetting (goes_on_at i e a values tape)
  goes_alike (at.Acts turned.On speech before) l =
      forgetting_telling (told_since speech before e.stage (last_of held)) (code_with n.dealt held)
      ∙ ap (λ last. telling (told_since speech before e.stage last) (forgetting (code_with n.dealt held))) (sym still.last)
      ∙ ap (telling (told_since speech before e.stage (last_of values))) code_alike
      ∙ sym (forgetting_telling (told_since speech before e.stage (last_of values)) (code_with e.node.dealt values))
  goes_alike (at.Acts (turned.Over ending) speech before) l = absurd l
  goes_alike (at.Acts turned.Short speech before) l = absurd l
  goes_alike at.Ready l = absurd l
  goes_alike at.Again l = absurd l
  goes_alike (at.Over ending) l = absurd l
  goes_alike at.Short l = absurd l

module _ {P : Type 0} (i : Number) (e : Engine P) (n : gates.Engine P) (when : Letting) (array : ℕ) (values : Values)
    (leads : LeadsOn e.at) (stored : node.Stored i array e.stage.made values e.node n)
    (frees : (code : RawCode) → MachineNames (machine_seen code e.machine) array → ⊥) where
  abbrev spared : Engine P
  spared = record e { node = n; letting = when }

  still_held : IsHeld (place_at i e) values n.values
  still_held =
      is_held (place_at i e) (λ k. k ≢ array) values n.values (ap length stored.let_go ∙ length-set values array []) (sym stored.counted)
      (λ k names is. frees e.task.code (subst (MachineNames (machine_seen e.task.code e.machine)) is names))
      (λ is. absurd (omega (arith, is, stored.earlier)))
      (λ k apart. ap (λ v. value v k) stored.let_go ∙ get_or-set_other values array k [] [] apart)

  pub spared_left : forgetting (engine_left i spared) ≡ forgetting (engine_left i e)
  spared_left =
      ap (λ v. forgetting (then_do v (behind_node i spared e.at))) stored.left
      ∙ ap (λ (t : List ℕ × List ℕ). forgetting (goes_on_at i spared e.at n.values t.1)) stored.tape
      ∙ goes_alike i e n when values n.values stored.dealt still_held e.node.tape.1 e.at leads
      ∙ sym (ap (λ v. forgetting (then_do v (behind_node i e e.at))) stored.came)

pub links_kept : {P : Type 0} (e e2 e3 : Engine P) → KeepsLinks e e2 → KeepsLinks e2 e3 → KeepsLinks e e3
links_kept e e2 e3 k l =
    record {
      links = l.links ∙ k.links;
      notices = l.notices ∙ k.notices;
      task = l.task ∙ k.task;
      dealt = l.dealt ∙ k.dealt;
      tape = l.tape ∙ k.tape;
    }

-- what a set had is there when it has more
pub still_there : (new had : Bool) → had ≡ true → cond new true had ≡ true
still_there true had h = refl
still_there false had h = h
