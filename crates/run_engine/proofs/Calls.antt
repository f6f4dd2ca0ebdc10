-- What each call keeps, from what it did and said.
use Rattle.std.proofs.Common.{◌≡◌, ◌⊎◌, List, ℕ, Option, Ok, Err, Result, refl, inl, inr, subst, sym}
use Rattle.outside.specs.Causes.{Rose}
use Rattle.command_words.specs.Ask.{words_of}
use Rattle.command_frame.specs.declared.object.Object.TheVariants as objects
use Rattle.command_frame.specs.declared.status.Status.{Status}
use Rattle.command_frame.specs.declared.status.Status.TheVariants as statuses
use Rattle.command_frame.specs.declared.stop.Stop.{Stop}
use Rattle.command_frame.specs.declared.stop.Stop.TheVariants as stops
use Rattle.command_frame.specs.Answer.{Answer, Cause, Course, breach_of}
use Rattle.command_frame.specs.Decides.{AfterWrites, ChildrenFailed, RefusesFor}
use Rattle.command_frame.specs.Finish.{PutLine}
use Rattle.command_frame.specs.Moments.{AreTold, Moment, Reach}
use Rattle.command_frame.specs.Objects.{child_line}
use Rattle.command_frame.specs.Whole.{Acts, ActsAnyhow, CarriedOut, CarriedSo, PutsNothing, Says, status_in}
use Rattle.command_frame.proofs.Statuses.{clash, no_breach, no_end, no_refusal}
use Rattle.command_frame.proofs.Wholes.{carried_out, child_breached, complete, end_says_nothing, file_counted, file_missed, file_told, link_said}
use Rattle.command_frame.proofs.Wholes.{links_counted}
use Rattle.command_frame.proofs.Wholes.{links_cut_off, memory_leaves, memory_said, only_answered, peer_breached, refused_prints_nothing, stops_say_error}
use Rattle.command_frame.proofs.Wholes.{texts_breached, usage_of_unnamed, usage_said, usage_unnamed, write_counted, write_cuts, write_said}
use Rattle.run_engine.specs.Call.{Call}
use Rattle.run_engine.specs.Obeying.{Acted, WordsAnswer}
use Rattle.run_engine.specs.Told.{Outside, outside_of}
use Rattle.run_engine.specs.Words.{ends_in, paths_in, reach_in}
use Rattle.run_engine.proofs.Runs.{has_answer, no_command}
use Rattle.run_engine.proofs.Tops.{printed_so, telling}

-- nothing is put, or the output had no memory
memory_puts : {A : Type 0} (ask : Option A) (reach : Reach) (m m' : Moment) (r : Result Status Stop) → ActsAnyhow reach m m' ask r
    → status_in r ≡ statuses.Memory → PutsNothing m m' ⊎ Rose m.out.shortages m'.out.shortages
memory_puts ask reach m m' (Ok s) a is = no_end s statuses.Memory a.1 refl is
memory_puts ask reach m m' (Err stops.Memory) a is = a
memory_puts ask reach m m' (Err stops.Usage) a is = clash statuses.Usage statuses.Memory refl is
memory_puts ask reach m m' (Err (stops.Refused r)) a is = no_refusal r.status statuses.Memory r.refuses refl is
memory_puts ask reach m m' (Err (stops.Breached b)) a is = no_breach b.status statuses.Memory b.breaches refl is
memory_puts ask reach m m' (Err (stops.Failed (objects.File line))) a is = clash statuses.File statuses.Memory refl is
memory_puts ask reach m m' (Err (stops.Failed objects.Output)) a is = clash statuses.Write statuses.Memory refl is
memory_puts ask reach m m' (Err (stops.Failed objects.Links)) a is = clash statuses.Link statuses.Memory refl is
memory_puts ask reach m m' (Err (stops.Failed objects.Children)) a is = clash statuses.Child statuses.Memory refl is

-- what a refusal is, carried out
carries_refusal : (m m' : Moment) (course : Course) (c : Cause) → RefusesFor course m.sources.files m'.sources.files c → PutLine c.line m.err m'.err
    → PutsNothing m m' → CarriedOut m m' c.status course
carries_refusal m m' course c refuses line same =
    subst (λ (x : Answer). CarriedSo m m' c.status course.first x) (sym refuses.0) (refl, line, same, refuses.1)

module _ {A : Type 0} (ask : Option A) (reach : Reach) (course : Course) (m m' : Moment) where
  -- the files that come first are written where the links fail
  link_leaves : (r : Result Status Stop) → Acts reach course m m' ask r → status_in r ≡ statuses.Link → AreTold reach m.sources
      → AfterWrites course.first m.sources.files m'.sources.files
  link_leaves (Ok s) a is t = no_end s statuses.Link a.1.0 refl is
  link_leaves (Err stops.Memory) a is t = clash statuses.Memory statuses.Link refl is
  link_leaves (Err stops.Usage) a is t = clash statuses.Usage statuses.Link refl is
  link_leaves (Err (stops.Refused r)) a is t = no_refusal r.status statuses.Link r.refuses refl is
  link_leaves (Err (stops.Breached b)) a is t = no_breach b.status statuses.Link b.breaches refl is
  link_leaves (Err (stops.Failed (objects.File line))) a is t = clash statuses.File statuses.Link refl is
  link_leaves (Err (stops.Failed objects.Output)) a is t = clash statuses.Write statuses.Link refl is
  link_leaves (Err (stops.Failed objects.Links)) a is t = a.1.0.files t
  link_leaves (Err (stops.Failed objects.Children)) a is t = clash statuses.Child statuses.Link refl is

  child_told : (r : Result Status Stop) → Acts reach course m m' ask r → Says r m.err m'.err → status_in r ≡ statuses.Child → AreTold reach m.sources
      → CarriedOut m m' (status_in r) course ⊎ (ChildrenFailed reach course m.sources m'.sources × PutLine child_line m.err m'.err)
  child_told (Ok s) a says is t = no_end s statuses.Child a.1.0 refl is
  child_told (Err stops.Memory) a says is t = clash statuses.Memory statuses.Child refl is
  child_told (Err stops.Usage) a says is t = clash statuses.Usage statuses.Child refl is
  child_told (Err (stops.Refused r)) a says is t = no_refusal r.status statuses.Child r.refuses refl is
  child_told (Err (stops.Breached b)) a says is t = inl (carries_refusal m m' course (breach_of b) (a.1.1 t) says a.1.2)
  child_told (Err (stops.Failed (objects.File line))) a says is t = clash statuses.File statuses.Child refl is
  child_told (Err (stops.Failed objects.Output)) a says is t = clash statuses.Write statuses.Child refl is
  child_told (Err (stops.Failed objects.Links)) a says is t = clash statuses.Link statuses.Child refl is
  child_told (Err (stops.Failed objects.Children)) a says is t = inr (a.1.0, says)

module _ (words : List (List ℕ)) (m m' : Moment) (r : Result Status Stop) (did : Acted words m m' r) (said : Says r m.err m'.err) where
  abbrev reach : Reach
  reach = reach_in words

  abbrev outside : Outside
  outside = outside_of m.sources m'.sources

  pub call_kept : Call words m m' (status_in r)
  call_kept = record {
    usage_only_without_command = usage_unnamed (words_of words) reach m m' r did.anyhow;
    usage_without_command = usage_of_unnamed (words_of words) reach m m' r did.anyhow;
    usage_said = usage_said (words_of words) reach m m' r did.anyhow said;
    answered = λ t sound steady. has_answer words outside (did.found t (telling m.sources.files r sound steady));
    printed_if_answered = printed_so words m m' did.out;
    answer_carried_out = λ answer a t.
        carried_out (words_of words) reach answer m m' r (no_command words outside answer a) (did.acts answer a) said t;
    file_fault_counted = file_counted (words_of words) reach m m' r did.anyhow;
    file_fault_told = file_told (words_of words) (paths_in words) reach (WordsAnswer words m.sources m'.sources) m m' r did.anyhow did.stops said;
    file_missing_if_steady = λ answer a is steady t.
        file_missed (words_of words) (paths_in words) reach (WordsAnswer words m.sources m'.sources) m m' answer r (did.acts answer a) did.stops said
        is steady t;
    write_fault_counted = write_counted (words_of words) reach m m' r did.anyhow;
    write_fault_said = write_said (words_of words) reach m m' r did.anyhow said;
    write_fault_cuts_text = λ answer a is. write_cuts (words_of words) reach answer m m' r (did.acts answer a) is;
    link_fault_counted = links_counted (words_of words) reach m m' r did.anyhow;
    link_fault_said = link_said (words_of words) reach m m' r did.anyhow said;
    links_cut_off_if_steady = λ answer a is steady t. links_cut_off (words_of words) reach answer m m' r (did.acts answer a) is steady t;
    link_fault_leaves = λ answer a is t. link_leaves (words_of words) reach answer m m' r (did.acts answer a) is t;
    child_fault_told = λ answer a is t. child_told (words_of words) reach answer m m' r (did.acts answer a) said is t;
    memory_said = memory_said (words_of words) reach m m' r did.anyhow said;
    memory_cuts_text = memory_puts (words_of words) reach m m' r did.anyhow;
    memory_leaves = λ answer a is. memory_leaves (words_of words) reach answer m m' r (did.acts answer a) is;
    end_says_nothing = end_says_nothing m.err m'.err r said;
    refused_prints_nothing = refused_prints_nothing (words_of words) reach m m' (ends_in words) r did.anyhow did.ended;
    stops_say_error =
        stops_say_error (words_of words) reach m m' (paths_in words) (WordsAnswer words m.sources m'.sources) (ends_in words) r did.ended did.stops said;
    files_only_as_answered = λ answer a.
        only_answered (words_of words) reach answer m m' (paths_in words) (WordsAnswer words m.sources m'.sources) a r (did.acts answer a) did.stops did.only;
    files_only_as_named = did.only;
    links_fail_if_reached = λ is. (links_counted (words_of words) reach m m' r did.anyhow is).reached;
    no_peer_or_child_stops = record {
      peer = peer_breached (words_of words) reach m m' r did.anyhow;
      child = child_breached (words_of words) reach m m' r did.anyhow;
      disagree = texts_breached (words_of words) reach m m' r did.anyhow;
    };
    complete = λ answer a steady t.
        complete (words_of words) reach answer m m' r (no_command words outside answer a) (did.acts answer a) steady t;
  }
