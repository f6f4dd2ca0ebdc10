-- The object that failed: a file, the output, the links to the peers, or other programs.
use Rattle.std.specs.Prelude.{ℕ, List, string_bytes, codes}
use Rattle.sc_text.specs.declared.fault.Fault.TheVariants as faults
use Rattle.sc_text.specs.Fault.{error_line, fault_line}
use Rattle.command_frame.specs.declared.object.Object.{Object}
use Rattle.command_frame.specs.declared.object.Object.TheVariants as objects
use Rattle.command_frame.specs.declared.status.Status.{Status}
use Rattle.command_frame.specs.declared.status.Status.TheVariants.{File, Write, Link, Child, Memory}

-- what is known of the object that failed, by what it is; of a file by its line
abbrev pub OfObject : (file : List ℕ → Type 0) → (output links children : Type 0) → Object → Type 0
OfObject file output links children (objects.File line) = file (string_bytes line)
OfObject file output links children objects.Output = output
OfObject file output links children objects.Links = links
OfObject file output links children objects.Children = children

-- no other object is reached than files
abbrev pub OfFile : (List ℕ → Type 0) → Object → Type 0
OfFile file object = OfObject file ⊥ ⊥ ⊥ object

abbrev pub status_of_object : Object → Status
status_of_object (objects.File line) = File
status_of_object objects.Output = Write
status_of_object objects.Links = Link
status_of_object objects.Children = Child

abbrev pub write_line : List ℕ
write_line = fault_line faults.Write

abbrev pub link_line : List ℕ
link_line = error_line (codes "link")

abbrev pub child_line : List ℕ
child_line = error_line (codes "child")

abbrev pub line_of_object : Object → List ℕ
line_of_object (objects.File line) = string_bytes line
line_of_object objects.Output = write_line
line_of_object objects.Links = link_line
line_of_object objects.Children = child_line

-- a status tells a fault: memory ran out, or this is known of the object that has the status. A refusal may have one of these statuses, too.
abbrev pub TellsFault : (file output links children : Type 0) → Status → Type 0
TellsFault file output links children Memory = Unit {0}
TellsFault file output links children File = file
TellsFault file output links children Write = output
TellsFault file output links children Link = links
TellsFault file output links children Child = children
TellsFault file output links children _ = ⊥
