-- What the pseudo-classes are called.
use Rattle.std.specs.Prelude.{ℕ, List, Option, codes, bytes_eq}
use Rattle.std.specs.List.{find}
use Rattle.tx_select.specs.declared.lexemes.TheConstants.{PSEUDO_NAMES}
use Rattle.tx_select.specs.declared.value.PseudoName.{PseudoName}
use Rattle.tx_select.specs.declared.value.PseudoName.TheVariants.{Hover, Focus, FocusWithin, Blur, Enabled, Disabled, Dark, Light, FirstChild, LastChild}

abbrev pub pseudo_name : PseudoName → List ℕ
pseudo_name Hover = codes "hover"
pseudo_name Focus = codes "focus"
pseudo_name FocusWithin = codes "focus-within"
pseudo_name Blur = codes "blur"
pseudo_name Enabled = codes "enabled"
pseudo_name Disabled = codes "disabled"
pseudo_name Dark = codes "dark"
pseudo_name Light = codes "light"
pseudo_name FirstChild = codes "first-child"
pseudo_name LastChild = codes "last-child"

-- the pseudo-class of this name
unfoldable pub pseudo_of : List ℕ → Option PseudoName
pseudo_of name = find (λ pseudo. bytes_eq (pseudo_name pseudo) name) PSEUDO_NAMES
