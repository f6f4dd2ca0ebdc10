-- What an accepted program tells under a name, it tells under one that is a name.
use Rattle.std.proofs.Common.{◌≡◌, ◌⊎◌, ℕ, zero, suc, ◌+◌, List, [], ◌∷◌, ◌++◌, length, Bool, true, false, if◌then◌else◌, Option, Some, None, Ok, Err}
use Rattle.std.proofs.Common.{refl, sym, subst, inl, inr}
use Rattle.std.proofs.lemmas.Option.{none-some, same_Some}
use Rattle.std.specs.Prelude.{nat_le, nat_lt, slice_get, sum, map}
use Rattle.std.specs.List.{AllByRecursion as Each}
use Rattle.sc_text.specs.declared.elements.Element.{Element}
use Rattle.sc_text.specs.declared.end.TrapKind.TheVariants as trap
use Rattle.sc_text.specs.declared.event.Event.{Event}
use Rattle.sc_text.specs.declared.event.Event.TheVariants as event
use Rattle.sc_text.specs.Lists.{Among}
use Rattle.sc_text.specs.Name.{IsName}
use Rattle.program_trees.specs.declared.expression.DataType.{DataType}
use Rattle.program_trees.specs.Shapes.{shape_of}
use Rattle.program_trees.specs.TypedPrograms.{TypedProgramTree}
use Rattle.reached_instances.specs.Instances.{Instance}
use Rattle.language_model.specs.Effects.{World, Clear, Stage, RunStop, Run, Effect, ◌>>=◌, carry, done, charge, test}
use Rattle.language_model.specs.Evaluation.{array_elements, asked_for, either, input_named, nothing}
use Rattle.language_model.specs.Operations as row
use Rattle.language_model.specs.Operations.{publication}
use Rattle.language_model.specs.Reports.{Offered, Report, beginning, dealing, not_dealt, world_of}
use Rattle.language_model.specs.Values.{Private, Plain, Secrecy, Value, plain, size}
use Rattle.verified_code.specs.Steps.{Step, Literal, Move, Store, Binary, Not, Cast, Classify, Fill, At, Put, Size, Cat, Sum, Bits, Lookup, Declassify}
use Rattle.verified_code.specs.Steps.{Argument, Publish, Assert, Branch, Jump, Call, Return, ReturnNone, Function, kind_shape}
use Rattle.code_model.specs.Kinded.{IsIn}
use Rattle.code_model.specs.Machine.{Caller, Machine, values_at, steps_of, entering, limit, same_truth, resume, step, exec, further, start, at, next}
use Rattle.code_model.specs.Meaning.{fuel, mean_in, report_at, stopped_or}
use Rattle.code_model.specs.Programs.{code_of}
use Rattle.lowered_code.specs.Instructions.{names_of, step_names}
use Rattle.lowered_code.proofs.Fits.{accepted_means}
use Rattle.lowered_code.proofs.Names.{named}
use Rattle.written_code.proofs.Names.{each_name}
use Rattle.written_code.proofs.Programs.{accepted_writable}
use Rattle.code_runs.proofs.Told.{EndsWith, Opening, TellsNothing, ToldBy, opens, told_at, was_open}
use Rattle.program_run.specs.Accepted.{IsAccepted}
use Rattle.view_laws.specs.Named.{AreNamed, EventsAreNamed}

-- ---- EVENTS

one_more : (events more : List Event) → AreNamed events → AreNamed more → AreNamed (events ++ more)
one_more [] more h m = m
one_more (event.Open es ∷ events) more h m = one_more events more h m
one_more (event.Publish name es ∷ events) more h m = (h.0, one_more events more h.1 m)
one_more (event.Hand name kind es ∷ events) more h m = (h.0, one_more events more h.1 m)

publication_named : (secrecy : Secrecy) (e : DataType) (name : List ℕ) (es : List Element) → IsName name → AreNamed (publication secrecy e name es ∷ [])
publication_named Plain e name es h = (h, tt)
publication_named (Private k) e name es h = (h, tt)

same_events : (s u : Stage) → AreNamed s.events → TellsNothing s u → AreNamed u.events
same_events s u h t = subst AreNamed (sym t.events) h

opening_named : (v : Value) (s u : Stage) → AreNamed s.events → Opening v s u → AreNamed u.events
opening_named v s u h (was_open t) = same_events s u h t
opening_named v s u h (opens words before ring k is opened events answers gates none) = subst AreNamed (sym events) (one_more s.events _ h tt)

-- ---- STEPS

abbrev Named : Step → Type 0
Named i = (name : List ℕ) → Among name (step_names i) → IsName name

abbrev AllNamed : List Step → Type 0
AllNamed steps = (place : ℕ) (i : Step) → slice_get steps place ≡ Some i → Named i

abbrev CallersNamed : List Caller → Type 0
CallersNamed [] = Unit {0}
CallersNamed (c ∷ cs) = AllNamed c.steps × CallersNamed cs

record IsNamed (m : Machine) : Type 0 where
  own : AllNamed m.steps
  callers : CallersNamed m.stack

none_named : AllNamed []
none_named place i e = absurd (none-some _ e)

told_named : (i : Option Step) (m : Machine) (s u : Stage) → ((j : Step) → i ≡ Some j → Named j) → AreNamed s.events → ToldBy i m s u → AreNamed u.events
told_named (Some (Declassify d r)) m s u says h t = opening_named (m.registers r) s u h t
told_named (Some (Publish text r)) m s u says h t =
    subst AreNamed (sym t.events) (one_more s.events _ h (publication_named (m.registers r).secrecy (m.registers r).shape.element text _ (says _ refl text (inl refl))))
told_named i m s u says h t = same_events s u h t

module _ (o : Offered) (c : List Function) (names : (f : Function) → IsIn c f → AllNamed f.steps) where
  abbrev w : World
  w = world_of Clear o

  steps_named : (g : ℕ) (f : Option Function) → slice_get c g ≡ f → AllNamed (steps_of f)
  steps_named g None e = none_named
  steps_named g (Some f) e = names f (g, e)

  -- ---- the machine after a step

  abbrev Goes : Run Machine → Type 0
  Goes (Ok x) = IsNamed x.0
  Goes (Err e) = Unit {0}

  record Leads (m : Effect Machine) : Type 0 where
    from : (s : Stage) → Goes (m s)

  to : (m : Machine) → IsNamed m → Leads (done m)
  to m h = record { from = λ s. h }

  by : {A : Type 0} {f : A → Effect Machine} (m : Effect A) → ((a : A) → Leads (f a)) → Leads (m >>= f)
  by {A = A} {f = f} m k = record { from = λ s. go (m s) }
    where
      go : (r : Run A) → Goes (carry r f)
      go (Ok x) = (k x.0).from x.1
      go (Err e) = tt

  resumed : (stack : List Caller) (v : Value) → CallersNamed stack → Leads (resume stack v)
  resumed [] v h = record { from = λ s. tt }
  resumed (x ∷ xs) v h = to _ (record { own = h.0; callers = h.1 })

  module _ (m : Machine) (h : IsNamed m) where
    stays : (d : ℕ) (v : Value) → Leads (done (next d v m))
    stays d v = to (next d v m) (record { own = h.own; callers = h.callers })

    jumps : (pc : ℕ) → Leads (done (at pc m))
    jumps pc = to (at pc m) (record { own = h.own; callers = h.callers })

    leads : (i : Option Step) → Leads (step w c i m)
    leads None = record { from = λ s. tt }
    leads (Some (Literal d e n)) = stays d (plain (shape_of e false) (n ∷ []))
    leads (Some (Move d r)) = stays d (m.registers r)
    leads (Some (Store d r)) = by (row.charged row.no_traps (size (m.registers r))) (λ _. stays d (m.registers r))
    leads (Some (Binary line op ds d a b)) = by (row.operated w line op ds (m.registers a) (m.registers b)) (λ v. stays d v)
    leads (Some (Not d r)) = by (row.negated (m.registers r)) (λ v. stays d v)
    leads (Some (Cast x d r)) = by (row.cast_to w x (m.registers r)) (λ v. stays d v)
    leads (Some (Classify d r)) = by (row.classified (m.registers r)) (λ v. stays d v)
    leads (Some (Fill line d n x)) = by (row.filled line (m.registers n) (m.registers x)) (λ v. stays d v)
    leads (Some (At line d a i)) = by (row.element_of_array line (m.registers a) (m.registers i)) (λ v. stays d v)
    leads (Some (Put line a i x)) = by (row.with_element line (m.registers a) (m.registers i) (m.registers x)) (λ v. stays a v)
    leads (Some (Size d r)) = by (row.size_told (m.registers r)) (λ v. stays d v)
    leads (Some (Cat line d a b)) = by (row.concatenated line (m.registers a) (m.registers b)) (λ v. stays d v)
    leads (Some (Sum d r)) = by (row.summed (m.registers r)) (λ v. stays d v)
    leads (Some (Bits line d r)) = by (row.bits_extracted w line (m.registers r)) (λ v. stays d v)
    leads (Some (Lookup line d a i)) = by (row.looked_up w line (m.registers a) (m.registers i)) (λ v. stays d v)
    leads (Some (Declassify d r)) = by (row.declassified w (m.registers r)) (λ v. stays d v)
    leads (Some (Argument line kind text d)) = by (asked_for kind.secret (kind_shape kind) line (input_named w text)) (λ v. stays d v)
    leads (Some (Publish text r)) = by (row.published w text (m.registers r)) (λ _. jumps (m.pc + 1))
    leads (Some (Assert line r)) = by (row.asserted line (m.registers r)) (λ _. jumps (m.pc + 1))
    leads (Some (Branch r b target)) = by (row.tested (m.registers r)) (λ t. jumps (either (same_truth t b) target (m.pc + 1)))
    leads (Some (Jump target)) = jumps target
    leads (Some (Call line g d args)) =
        by (charge 1) (λ _. by (test (nat_lt (length m.stack) limit) trap.Depth line)
        (λ _. by (charge (sum (map array_elements (values_at m.registers args))))
        (λ _. to (entering (slice_get c g) d (values_at m.registers args) m)
        (record { own = steps_named g (slice_get c g) refl; callers = (h.own, h.callers) }))))
    leads (Some (Return r)) = resumed m.stack (m.registers r) h.callers
    leads (Some ReturnNone) = resumed m.stack nothing h.callers

  -- ---- a run

  abbrev After : Run Machine → Type 0
  After (Ok x) = AreNamed x.1.events
  After (Err e) = AreNamed e.1.events

  after : (i : Option Step) (m : Machine) (s : Stage) → ((j : Step) → i ≡ Some j → Named j) → AreNamed s.events → After (step w c i m s)
  after i m s says h = go (step w c i m s) (told_at o c m s i)
    where
      go : (r : Run Machine) → EndsWith (ToldBy i m s) s r → After r
      go (Ok x) t = told_named i m s x.1 says h t
      go (Err e) t = same_events s e.1 h t

  abbrev Ends : Option (RunStop × Stage) → Type 0
  Ends None = Unit {0}
  Ends (Some x) = AreNamed x.1.events

  runs : (k : ℕ) (m : Machine) (s : Stage) → IsNamed m → AreNamed s.events → Ends (exec w c k m s)
  unfolding exec
  runs zero m s says h = tt
  runs (suc k) m s says h =
      go (step w c (slice_get m.steps m.pc) m s) ((leads m says (slice_get m.steps m.pc)).from s)
      (after (slice_get m.steps m.pc) m s (λ j e. says.own m.pc j e) h) (λ n u is now. runs k n u is now)
    where
      go : (r : Run Machine) → Goes r → After r → ((n : Machine) (u : Stage) → IsNamed n → AreNamed u.events → Ends (exec w c k n u))
          → Ends (further r (exec w c k))
      go (Ok x) is now rest = rest x.0 x.1 is now
      go (Err e) is now rest = now

  pub code_named : (budget : ℕ) (answers : List ℕ) → AreNamed (mean_in w c budget answers).events
  code_named budget answers = both (nat_le (dealing w) w.dealer)
    where
      stopped : (x : Option (RunStop × Stage)) → Ends x → AreNamed (report_at w budget (stopped_or (beginning budget answers) x)).events
      stopped None h = tt
      stopped (Some x) h = h

      both : (b : Bool)
          → AreNamed (if b then report_at w budget (stopped_or (beginning budget answers)
          (exec w c (fuel c budget) (start c) (beginning budget answers))) else not_dealt w).events
      both true =
          stopped (exec w c (fuel c budget) (start c) (beginning budget answers))
          (runs (fuel c budget) (start c) (beginning budget answers)
          (record { own = steps_named 0 (slice_get c 0) refl; callers = tt }) tt)
      both false = tt

-- ---- A PROGRAM

each_among : (P : List ℕ → Type 0) (names : List (List ℕ)) (name : List ℕ) → Each P names → Among name names → P name
each_among P [] name h m = absurd m
each_among P (n ∷ names) name h (inl same) = subst P (sym same) h.0
each_among P (n ∷ names) name h (inr m) = each_among P names name h.1 m

pub events_named : (p : TypedProgramTree) (o : Offered) (budget : ℕ) → EventsAreNamed p o budget
events_named p o budget a =
    let is : List Instance = a.within.list in
    let c : List Function = code_of p is in
    let writable = accepted_writable a.source a.typed a.written a.placed p a.of is a.within.reached a.within in
    let are : Each IsName (names_of c) = each_name [] (names_of c) writable.names in
    subst (λ (r : Report). AreNamed r.events) (accepted_means a.source a.typed a.written p a.of is a.within.reached (world_of Clear o) budget [])
    (code_named o c
    (λ f there place i e name m. each_among IsName (names_of c) name are (named c there.0 f place i there.1 e name m))
    budget [])
