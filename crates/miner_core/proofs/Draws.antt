-- An engine that draws words of its tape stays where it is led, for every tape that begins with the words drawn.
use Rattle.std.proofs.Common.{◌≡◌, ℕ, ◌<◌, ◌≤◌, false, true, if◌then◌else◌, List, [], ◌∷◌, ◌++◌, length, refl, sym, ◌∙◌, ap, subst, append_assoc, arith}
use Rattle.std.specs.Prelude.{Option, Bool}
use Rattle.outside.specs.Tapes.{TapesState, Drew}
use Rattle.proto_core.specs.declared.party.Number.{Number}
use Rattle.proto_core.specs.declared.link.Link.{Link}
use Rattle.proto_core.specs.declared.refused.BadMessage.{BadMessage}
use Rattle.proto_core.specs.Parties.{count_of, from_previous}
use Rattle.proto_core.specs.Strand.{same_link}
use Rattle.proto_core.proofs.Beginnings.{append-none}
use Rattle.gates.specs.Clear.{Values}
use Rattle.gate_node.specs.Nodes.{IsTapeOf}
use Rattle.gate_node.specs.declared.standing.Standing.{Standing}
use Rattle.gate_node.specs.declared.standing.Standing.TheVariants as stand
use Rattle.gate_node.proofs.Supplied.{filled-filled, wants-fewer, tape-before}
use Rattle.miner_core.specs.declared.engine.Engine.{Engine}
use Rattle.miner_core.specs.declared.task.Task.{Task}
use Rattle.miner_core.specs.Engines.{engine_outcome, engine_told, shown, with_words, outcome_with, told_with, all_shown}
use Rattle.miner_core.specs.Engines.{IsQuiet, IsSound, IsSoundAlways, StandsAlways, Rests, Keeps}
use Rattle.miner_core.specs.Drawing.{left_for, IsTooShort, DrewOn, RunsOn, Delivers, IsAtRest}
use Rattle.miner_core.specs.Past.{Past, no_past, with_past}
use Rattle.miner_core.specs.Story.{Story, Leads, received, start_of, story_of}
use Rattle.miner_core.proofs.Further.{sound_with}
use Rattle.miner_core.proofs.Past.{same_past, told_past, sound_past}
use Rattle.miner_core.proofs.Sources.{drew_none, drew_more}
use Rattle.miner_core.proofs.Stories.{story_kept}

abbrev put : List ℕ → Bool → Story → Story
put tape lost s = record s { tape = tape; lost = lost }

-- a message comes to a story, whatever its tape is
pub received_with :
    (i : Number) (s : Story) (l : Link) (m : List ℕ) (tape : List ℕ) (lost : Bool) →
    received i (record s { tape = tape; lost = lost }) l m ≡ record (received i s l m) { tape = tape; lost = lost }
received_with i s l m tape lost = by_link (same_link (from_previous i) l)
  where
    by_link : (b : Bool) →
        (if b then record (put tape lost s) { from_previous = s.from_previous ++ m ∷ [] } else record (put tape lost s) { from_next = s.from_next ++ m ∷ [] })
        ≡ put tape lost (if b then record s { from_previous = s.from_previous ++ m ∷ [] } else record s { from_next = s.from_next ++ m ∷ [] })
    by_link true = refl
    by_link false = refl

pub received_tape :
    (i : Number) (s : Story) (l : Link) (m : List ℕ) (tape : List ℕ) →
    received i (record s { tape = tape }) l m ≡ record (received i s l m) { tape = tape }
received_tape i s l m tape = by_link (same_link (from_previous i) l)
  where
    by_link : (b : Bool) →
        (if b then record s { tape = tape; from_previous = s.from_previous ++ m ∷ [] } else record s { tape = tape; from_next = s.from_next ++ m ∷ [] })
        ≡ record (if b then record s { from_previous = s.from_previous ++ m ∷ [] } else record s { from_next = s.from_next ++ m ∷ [] }) { tape = tape }
    by_link true = refl
    by_link false = refl

-- a tape that begins with the words drawn begins with those drawn before, and as many were there
pub tape_earlier :
    (i : Number) (s t : TapesState) (before after taken : List ℕ) (ahead : ℕ) → Drew s t (count_of i) taken → after ≡ before ++ taken → left_for i s ≡ ahead →
    (tape : List ℕ) → IsTapeOf after (left_for i t) tape → IsTapeOf before ahead tape
tape_earlier i s t before after taken ahead drew is left tape of =
    tape-before before taken tape ahead (left_for i t) (sym drew.fewer ∙ left) (subst (λ l. IsTapeOf l (left_for i t) tape) is of)

no_waits : (link : Link) (cause : Option BadMessage) → stand.Waits link cause ≡ stand.Through → ⊥
no_waits link cause e = cc

no_unfit : stand.Unfit ≡ stand.Through → ⊥
no_unfit e = cc

no_wants : (count : ℕ) → stand.Wants count ≡ stand.Through → ⊥
no_wants count e = cc

module _ {P : Type 0} (i : Number) where
  -- ---- turn by turn

  pub drew_start : (e : Engine P) (s : TapesState) → IsSoundAlways i e → DrewOn i e e s s
  drew_start e s sound =
      record {
        taken = [];
        drew = drew_none s (count_of i);
        tape = sym (append-none e.node.tape.0);
        same = λ more. refl;
        told = λ more. refl;
        sound = sound;
        links = record { previous = refl; next = refl };
        task = refl;
        dealt = refl;
        still = λ h. h;
      }

  pub drew_advanced :
      (b e e2 : Engine P) (s t : TapesState) → DrewOn i b e s t → all_shown (outcome_with i e2) ≡ all_shown (outcome_with i e) →
      told_with i e2 ≡ told_with i e → IsSoundAlways i e2 → Keeps e e2 → DrewOn i b e2 s t
  drew_advanced b e e2 s t d same told sound kept =
      record {
        taken = d.taken;
        drew = d.drew;
        tape = kept.tape ∙ d.tape;
        same = λ more. (λ k. same k more) ∙ d.same more;
        told = λ more. (λ k. told k more) ∙ d.told more;
        sound = sound;
        links = record { previous = kept.links.previous ∙ d.links.previous; next = kept.links.next ∙ d.links.next };
        task = kept.task ∙ d.task;
        dealt = kept.dealt ∙ d.dealt;
        still = d.still;
      }

  pub drew_supplied :
      (b e : Engine P) (words : List ℕ) (s t u : TapesState) → DrewOn i b e s t → Drew t u (count_of i) words →
      (t.steady ≡ true → u.steady ≡ true) → DrewOn i b (with_words e words) s u
  drew_supplied b e words s t u d drew still =
      record {
        taken = d.taken ++ words;
        drew = drew_more s t u (count_of i) d.taken words d.drew drew;
        tape = ap (λ l. l ++ words) d.tape ∙ append_assoc b.node.tape.0 d.taken words;
        same =
            λ more.
            ap (λ n. shown (engine_outcome i (record e { node = n }))) (filled-filled e.node words more)
            ∙ d.same (words ++ more)
            ∙ ap (λ w. shown (engine_outcome i (with_words b w))) (sym (append_assoc d.taken words more));
        told =
            λ more.
            ap (λ n. engine_told i (record e { node = n })) (filled-filled e.node words more)
            ∙ d.told (words ++ more)
            ∙ ap (λ w. engine_told i (with_words b w)) (sym (append_assoc d.taken words more));
        sound =
            record {
              stands = d.sound.stands;
              quiet = λ more. subst (IsQuiet i) (sym (filled-filled e.node words more)) (d.sound.quiet (words ++ more));
            };
        links = d.links;
        task = d.task;
        dealt = d.dealt;
        still = λ h. still (d.still h);
      }

  -- ---- where it rests

  -- no more words come than are left
  pub rests_with :
      (e : Engine P) (s : Standing) (left : ℕ) → StandsAlways i s e → IsTooShort s left → (more : List ℕ) → length more ≤ left →
      Rests i s (with_words e more)
  rests_with e stand.Through left h short more few = record { node = h.node more; over = λ same. h.over refl }
  rests_with e (stand.Waits link cause) left h short more few = record { node = h.node more; over = λ same. absurd (no_waits link cause same) }
  rests_with e stand.Unfit left h short more few = record { node = h.node more; over = λ same. absurd (no_unfit same) }
  rests_with e (stand.Wants count) left h short more few =
      let less : left < count = short in
      record { node = wants-fewer e.node i count more (h.node more) (omega (arith, few, less)); over = λ same. absurd (no_wants count same) }

  pub runs_on :
      (b e : Engine P) (at : Standing) (left : ℕ) (s t : TapesState) → DrewOn i b e s t → StandsAlways i at e → left ≡ left_for i t →
      IsTooShort at left → RunsOn i at b e s t
  runs_on b e at left s t d h is short =
      record { drew = d; rests = λ more few. rests_with e at (left_for i t) h (subst (IsTooShort at) is short) more few }

  -- ---- its story

  pub story_moved : (e e2 : Engine P) (s t : TapesState) (budget : ℕ) → DrewOn i e e2 s t →
      story_of e2 budget ≡ record (story_of e budget) { tape = e2.node.tape.0 }
  story_moved e e2 s t budget d =
      story_kept (record e { node = record e.node { tape = e2.node.tape } }) e2 budget
      (record { links = d.links; task = d.task; dealt = d.dealt; tape = refl })

  pub story_made :
      (e e2 : Engine P) (task : Task) (dealt : Values) (first : List ℕ) (budget : ℕ) (s t : TapesState) →
      story_of e budget ≡ start_of task dealt first budget → (d : DrewOn i e e2 s t) →
      story_of e2 budget ≡ start_of task dealt (first ++ d.taken) budget
  story_made e e2 task dealt first budget s t story d =
      story_moved e e2 s t budget d
      ∙ ap (λ (x : Story). record x { tape = e2.node.tape.0 }) story
      ∙ ap (λ w. start_of task dealt w budget) (d.tape ∙ ap (λ (x : Story). x.tape ++ d.taken) story)

  pub story_delivered :
      (e e2 : Engine P) (at : Standing) (l : Link) (m : List ℕ) (budget : ℕ) (s t : TapesState) → (d : Delivers i at l m e e2 s t) →
      story_of e2 budget ≡ record (received i (story_of e budget) l m) { tape = e.node.tape.0 ++ d.taken }
  story_delivered e e2 at l m budget s t d =
      d.story budget ∙ ap (λ w. record (received i (story_of e budget) l m) { tape = w }) d.tape

  -- it does and tells the same, and is led where it was
  led_on :
      (past : Past) (e e2 : Engine P) (s : Story) → Leads i (with_past past e) s → shown (engine_outcome i e2) ≡ shown (engine_outcome i e) →
      engine_told i e2 ≡ engine_told i e → IsSound i e2 → Leads i (with_past past e2) s
  led_on past e e2 s leads same told sound =
      record {
        sound = sound_past i past e2 sound;
        same = same_past i past e e2 same ∙ leads.same;
        told = told_past i past e2 ∙ told ∙ sym (told_past i past e) ∙ leads.told;
      }

  pub delivers :
      (e r e2 : Engine P) (at : Standing) (l : Link) (m : List ℕ) (s t : TapesState) →
      ((past : Past) (more : List ℕ) (x : Story) → Leads i (with_words (with_past past e) more) x →
      Leads i (with_words (with_past past r) more) (received i x l m)) →
      ((budget : ℕ) → story_of r budget ≡ received i (story_of e budget) l m) → r.node.tape ≡ e.node.tape → RunsOn i at r e2 s t →
      Delivers i at l m e e2 s t
  delivers e r e2 at l m s t leads story kept runs =
      let d = runs.drew in
      record {
        taken = d.taken;
        drew = d.drew;
        tape = d.tape ∙ ap (λ (w : List ℕ × List ℕ). w.0 ++ d.taken) kept;
        story = λ budget. story_moved r e2 s t budget d ∙ ap (λ (x : Story). record x { tape = e2.node.tape.0 }) (story budget);
        sound = d.sound;
        rests = runs.rests;
        leads =
            λ past more x f.
            led_on past (with_words r (d.taken ++ more)) (with_words e2 more) (received i x l m) (leads past (d.taken ++ more) x f) (d.same more)
            (d.told more) (sound_with i e2 more d.sound);
      }

  pub at_rest_after :
      (past : Past) (e e2 : Engine P) (at at2 : Standing) (l : Link) (m : List ℕ) (ahead : ℕ) (x : Story) (s t : TapesState) → IsAtRest i past e at ahead x →
      (d : Delivers i at2 l m e e2 s t) → IsAtRest i past e2 at2 (left_for i t) (record (received i x l m) { tape = x.tape ++ d.taken })
  at_rest_after past e e2 at at2 l m ahead x s t h d =
      record {
        sound = d.sound;
        rests = d.rests;
        leads =
            λ more.
            subst (Leads i (with_words (with_past past e2) more))
            (received_tape i x l m (x.tape ++ (d.taken ++ more))
            ∙ ap (λ w. record (received i x l m) { tape = w }) (sym (append_assoc x.tape d.taken more)))
            (d.leads past more (record x { tape = x.tape ++ (d.taken ++ more) }) (h.leads (d.taken ++ more)));
      }

  pub at_rest_new :
      (e e2 : Engine P) (at : Standing) (task : Task) (dealt : Values) (first : List ℕ) (budget : ℕ) (s t : TapesState) →
      ((more : List ℕ) → Leads i (with_words e more) (start_of task dealt (first ++ more) budget)) → (runs : RunsOn i at e e2 s t) →
      IsAtRest i no_past e2 at (left_for i t) (start_of task dealt (first ++ runs.drew.taken) budget)
  at_rest_new e e2 at task dealt first budget s t leads runs =
      let d = runs.drew in
      record {
        sound = d.sound;
        rests = runs.rests;
        leads =
            λ more.
            subst (λ w. Leads i (with_words e2 more) (start_of task dealt w budget)) (sym (append_assoc first d.taken more))
            (led_on no_past (with_words e (d.taken ++ more)) (with_words e2 more) (start_of task dealt (first ++ (d.taken ++ more)) budget)
            (leads (d.taken ++ more)) (d.same more) (d.told more) (sound_with i e2 more d.sound));
      }
