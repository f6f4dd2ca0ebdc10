-- The shares that are made of a public part's hidden inputs, and how many words of the dealer they are made of.
use Rattle.std.specs.Prelude.{ℕ, List, sum_by}
use Rattle.proto_core.specs.declared.party.Number.{Number}
use Rattle.gates.specs.Clear.{Values}
use Rattle.value_file.specs.declared.public.PublicEntry.{PublicEntry}
use Rattle.view_model.specs.Dealing.{private_shares, made_entries, hidden_draws}

abbrev pub hidden_need : List PublicEntry → ℕ
hidden_need part = sum_by (λ entry. hidden_draws entry.value) part

abbrev pub made_shares : Number → List PublicEntry → (words : List ℕ) → Values
made_shares miner part words = private_shares (made_entries miner part words)
