-- The words with which lines begin.
use Rattle.std.specs.Prelude.{ℕ, List, [], ◌∷◌, Option, None, find, codes, bytes_eq, if◌then◌else◌}
use Rattle.std.specs.Str.{is_utf8}
use Rattle.tx_pilot.specs.declared.verb.Verb.{Verb}
use Rattle.tx_pilot.specs.declared.verb.Verb.TheVariants.{Press, Click, Hover, Pause, Resize, Class, Text, Style, Disable, Enable, Mount, Remove, Before, Advance, Theme}

abbrev pub verb_name : Verb → List ℕ
verb_name Press = codes "press"
verb_name Click = codes "click"
verb_name Hover = codes "hover"
verb_name Pause = codes "pause"
verb_name Resize = codes "resize"
verb_name Class = codes "class"
verb_name Text = codes "text"
verb_name Style = codes "style"
verb_name Disable = codes "disable"
verb_name Enable = codes "enable"
verb_name Mount = codes "mount"
verb_name Remove = codes "remove"
verb_name Before = codes "before"
verb_name Advance = codes "advance"
verb_name Theme = codes "theme"

abbrev pub verbs : List Verb
verbs = Press ∷ Click ∷ Hover ∷ Pause ∷ Resize ∷ Class ∷ Text ∷ Style ∷ Disable ∷ Enable ∷ Mount ∷ Remove ∷ Before ∷ Advance ∷ Theme ∷ []

abbrev pub verb_named : List ℕ → Option Verb
verb_named name = find (λ verb. bytes_eq name (verb_name verb)) verbs

abbrev pub verb_of : List ℕ → Option Verb
verb_of word = if is_utf8 word then verb_named word else None
