use Rattle.std.proofs.Common.{take}
use Rattle.std.specs.Fmt.{HasWritten, IsPlainFormatter}
use Rattle.sc_text.specs.Elements.{elements_text}
use Rattle.sc_text.proofs.elements.ElementsDisplay.fmt.Given as goal

abbrev pub invariant-loop-element : goal.invariant-loop-element
invariant-loop-element g l =
    IsPlainFormatter l.initial.f → HasWritten g.W.Write.write_str_gives l.initial.f (elements_text (take l.element-index l.element-items)) l.f
