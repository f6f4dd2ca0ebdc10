-- The sizes of inputs.
use Rattle.std.proofs.Common.{ℕ, zero, suc, ◌<◌, ◌≤◌, List, [], ◌∷◌, ◌++◌, length, get_or, arith}
use Rattle.value_file.specs.declared.inputs.Entry.{Entry}
use Rattle.value_file.specs.Input.{AreEntries, name_of, elements_of}
use Rattle.value_file.specs.Values.{count_of}

short_from : (before es : List Entry) (k : ℕ) (d : Entry) → AreEntries name_of elements_of before es → k < length es → count_of (get_or es k d).value ≤ 65536
short_from before [] k d a h = absurd (omega arith)
short_from before (e ∷ es) zero d a h = a.0.short
short_from before (e ∷ es) (suc k) d a h = short_from (before ++ e ∷ []) es k d a.1 (omega arith)

pub each_short : (es : List Entry) (k : ℕ) (d : Entry) → AreEntries name_of elements_of [] es → k < length es → count_of (get_or es k d).value ≤ 65536
each_short es k d a h = short_from [] es k d a h
