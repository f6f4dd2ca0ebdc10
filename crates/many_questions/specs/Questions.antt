-- Many programs that are run on inputs which were dealt once: what a miner sees of all the runs, and what the simulators make of it.
use Rattle.std.specs.Prelude.{ℕ, nat_le, if◌then◌else◌, List, [], ◌∷◌, length, Option}
use Rattle.proto_core.specs.declared.party.Number.{Number}
use Rattle.protocol_model.specs.Network.{Delivery}
use Rattle.protocol_model.specs.Runs.{Tapes}
use Rattle.program_trees.specs.Programs.{ProgramTree}
use Rattle.program_trees.specs.TypedPrograms.{TypedProgramTree}
use Rattle.reached_instances.specs.Instances.{Instance}
use Rattle.value_file.specs.declared.inputs.Entry.{Entry}
use Rattle.value_file.specs.declared.public.PublicEntry.{PublicEntry}
use Rattle.input_share.specs.Dealing.{need_of}
use Rattle.view_text.specs.View.{View}
use Rattle.view_model.specs.Dealing.{seen_dealer}
use Rattle.view_model.specs.TapeMaps.{miners_of, four_of}
use Rattle.program_views.specs.Views.{lengths_of, run_on, view_of, simulated}
use Rattle.program_views.specs.TapeMaps.{mapped, mapped_back}

-- ---- QUESTIONS, AND THE TAPES OF ALL RUNS

-- a program, as it was written, as it is run, and the instances of its functions; its budget, and in which order messages are delivered
pub record Question : Type 0 where
  pub source : ProgramTree
  pub program : TypedProgramTree
  pub instances : List Instance
  pub budget : ℕ
  pub delivery : Delivery

-- the dealer draws once, and the miners draw anew for each question
pub record AllTapes : Type 0 where
  pub dealer : List ℕ
  pub miners : List Tapes

abbrev pub lengths_on : (dealer : List ℕ) → List Tapes → List (List ℕ)
lengths_on dealer [] = []
lengths_on dealer (t ∷ ts) = lengths_of (four_of dealer t) ∷ lengths_on dealer ts

-- the tapes of one miner
abbrev pub own_on : Number → List Tapes → List (List ℕ)
own_on i [] = []
own_on i (t ∷ ts) = t i ∷ own_on i ts

-- ---- WHAT A MINER SEES, AND WHAT IS OPENED

abbrev pub views_on : Number → List Entry → List Question → (dealer : List ℕ) → List Tapes → List (Option View)
views_on i entries [] dealer ts = []
views_on i entries (q ∷ qs) dealer [] = []
views_on i entries (q ∷ qs) dealer (t ∷ ts) = view_of i q.program entries (four_of dealer t) q.budget q.delivery ∷ views_on i entries qs dealer ts

abbrev pub opened_on : List Entry → List Question → (dealer : List ℕ) → List Tapes → List (List ℕ)
opened_on entries [] dealer ts = []
opened_on entries (q ∷ qs) dealer [] = []
opened_on entries (q ∷ qs) dealer (t ∷ ts) =
    (run_on q.program entries (lengths_of (four_of dealer t)) q.budget).opened ∷ opened_on entries qs dealer ts

-- ---- THE SIMULATORS: one dealer's tape for all of them

abbrev pub made_on : Number → List PublicEntry → List Question → (opened : List (List ℕ)) → (dealer : List ℕ) → List Tapes → List (Option View)
made_on i part [] opened dealer ts = []
made_on i part (q ∷ qs) [] dealer ts = []
made_on i part (q ∷ qs) (o ∷ os) dealer [] = []
made_on i part (q ∷ qs) (o ∷ os) dealer (t ∷ ts) =
    simulated i q.program part o (four_of dealer t) q.budget q.delivery ∷ made_on i part qs os dealer ts

-- ---- THE MAPS

-- the dealer's tape that all views are made of; where it doesn't suffice it stays
abbrev pub dealer_seen : Number → List Entry → (dealer : List ℕ) → List ℕ
dealer_seen i entries dealer = if nat_le (need_of entries) (length dealer) then seen_dealer i entries dealer else dealer

abbrev pub mapped_on : Number → List Entry → List Question → (dealer : List ℕ) → List Tapes → List Tapes
mapped_on i entries [] dealer ts = ts
mapped_on i entries (q ∷ qs) dealer [] = []
mapped_on i entries (q ∷ qs) dealer (t ∷ ts) = miners_of (mapped i q.program entries (four_of dealer t) q.budget) ∷ mapped_on i entries qs dealer ts

abbrev pub mapped_back_on : Number → List Entry → List Question → (dealer : List ℕ) → List Tapes → List Tapes
mapped_back_on i entries [] dealer ts = ts
mapped_back_on i entries (q ∷ qs) dealer [] = []
mapped_back_on i entries (q ∷ qs) dealer (t ∷ ts) =
    miners_of (mapped_back i q.program entries (four_of dealer t) q.budget) ∷ mapped_back_on i entries qs dealer ts

abbrev pub to_asked : Number → List Entry → List Question → AllTapes → AllTapes
to_asked i entries qs a = record { dealer = dealer_seen i entries a.dealer; miners = mapped_on i entries qs a.dealer a.miners }

abbrev pub from_asked : Number → List Entry → List Question → AllTapes → AllTapes
from_asked i entries qs s = record { dealer = dealer_seen i entries s.dealer; miners = mapped_back_on i entries qs s.dealer s.miners }

-- the tapes with which the second inputs give the views of the first
abbrev pub twin_asked : Number → (first second : List Entry) → List Question → AllTapes → AllTapes
twin_asked i first second qs a = from_asked i second qs (to_asked i first qs a)
