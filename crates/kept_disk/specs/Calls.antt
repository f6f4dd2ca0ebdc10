-- What the calls on a file in memory do to what a crash may leave of it.
use Rattle.std.specs.Prelude.{List, [], ◌∷◌}
use Rattle.kept_disk.specs.Images.{Moment, given_more, settled}
use Rattle.kept_disk.specs.declared.disk_call.DiskCall.{DiskCall}
use Rattle.kept_disk.specs.declared.disk_call.DiskCall.TheVariants.{Gave, Kept}

-- the moment after a call
abbrev pub after_call : Moment → DiskCall → Moment
after_call m (Gave from count) = given_more m from count
after_call m (Kept bytes) = settled bytes.items

-- the moment after calls, in order
abbrev pub now_after : Moment → List DiskCall → Moment
now_after m [] = m
now_after m (c ∷ cs) = now_after (after_call m c) cs

-- the moments before the last one, the newest first
abbrev pub past_after : Moment → List Moment → List DiskCall → List Moment
past_after m past [] = past
past_after m past (c ∷ cs) = past_after (after_call m c) (m ∷ past) cs
