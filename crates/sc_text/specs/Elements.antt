-- The elements of a printed value, as text and as words.
use Rattle.std.specs.Prelude.{ℕ, ◌-◌, ◌%◌, ◌^◌, List, ◌++◌, codes, true, false}
use Rattle.std.specs.Fmt.{decimal}
use Rattle.std.specs.List.{flat_map}
use Rattle.sc_text.specs.declared.elements.Element.{Element}
use Rattle.sc_text.specs.declared.elements.Element.TheVariants as elements

-- a number in decimal, after `-` where it is below 0, a truth value as a word of English
unfoldable pub element_text : Element → List ℕ
element_text (elements.Word word) = decimal word
element_text (elements.Negative below) = codes "-" ++ decimal below
element_text (elements.Truth true) = codes "true"
element_text (elements.Truth false) = codes "false"

-- a space and then the element, for each
unfoldable pub elements_text : List Element → List ℕ
elements_text list = flat_map (λ element. codes " " ++ element_text element) list

-- an element as a word: a number below 0 by two's complement, a truth value 1 or 0
abbrev pub element_word : Element → ℕ
element_word (elements.Word word) = word
element_word (elements.Negative below) = (2 ^ 64 - below) % 2 ^ 64
element_word (elements.Truth true) = 1
element_word (elements.Truth false) = 0
