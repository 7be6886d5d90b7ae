-- What a kind is called, and what a row of it may hold.
use Rattle.std.specs.Prelude.{◌≡◌, Bool, true, false, ℕ, List, [], ◌∷◌, Option, Some, bytes_eq, codes, find}
use Rattle.std.specs.List.{list_any}
use Rattle.tx_tree.specs.declared.kind.Kind.{Kind}
use Rattle.tx_tree.specs.declared.kind.Kind.TheVariants.{Screen, Container, Vertical, Horizontal, Grid, VerticalScroll, Static, Label, Button, Checkbox, Input, OptionList, ProgressBar, Header, Footer, Handed}
use Rattle.tx_tree.specs.declared.kind.Private.{Private}
use Rattle.tx_tree.specs.declared.kind.Private.TheVariants.{Plain, Cursor, On, Chosen, Bar}

-- whether rows of this kind may have children
abbrev pub holds_children : Kind → Bool
holds_children Screen = true
holds_children Container = true
holds_children Vertical = true
holds_children Horizontal = true
holds_children Grid = true
holds_children VerticalScroll = true
holds_children _ = false

-- whether this is the Screen
abbrev pub is_screen : Kind → Bool
is_screen Screen = true
is_screen _ = false

-- the name of a kind
abbrev pub kind_name : Kind → List ℕ
kind_name Screen = codes "Screen"
kind_name Container = codes "Container"
kind_name Vertical = codes "Vertical"
kind_name Horizontal = codes "Horizontal"
kind_name Grid = codes "Grid"
kind_name VerticalScroll = codes "VerticalScroll"
kind_name Static = codes "Static"
kind_name Label = codes "Label"
kind_name Button = codes "Button"
kind_name Checkbox = codes "Checkbox"
kind_name Input = codes "Input"
kind_name OptionList = codes "OptionList"
kind_name ProgressBar = codes "ProgressBar"
kind_name Header = codes "Header"
kind_name Footer = codes "Footer"
kind_name (Handed name) = name

-- the built-in kinds
abbrev pub built_in : List Kind
built_in = Screen ∷ Container ∷ Vertical ∷ Horizontal ∷ Grid ∷ VerticalScroll ∷ Static ∷ Label ∷ Button ∷ Checkbox ∷ Input ∷ OptionList ∷ ProgressBar ∷ Header ∷ Footer ∷ []

-- the built-in kind of this name
unfoldable pub kind_named : List ℕ → Option Kind
kind_named name = find (λ kind. bytes_eq name (kind_name kind)) built_in

-- the name of a kind's base; the base of Static and of Custom is Widget too
abbrev pub base_name : Kind → List ℕ
base_name Label = codes "Static"
base_name (Handed name) = codes "Custom"
base_name _ = codes "Widget"

-- whether a name is the kind's own or that of one of its bases
abbrev pub is_called : Kind → List ℕ → Bool
is_called kind name = list_any (bytes_eq name) (kind_name kind ∷ (base_name kind ∷ (codes "Widget" ∷ [])))

-- whether a row of this kind can have the focus
abbrev pub can_focus : Kind → Bool
can_focus VerticalScroll = true
can_focus Button = true
can_focus Checkbox = true
can_focus Input = true
can_focus OptionList = true
can_focus (Handed name) = true
can_focus _ = false

-- the private state that a row of a kind without text begins with
abbrev pub first_state : Kind → Private
first_state Checkbox = On false
first_state Input = Cursor 0
first_state OptionList = Chosen 0
first_state ProgressBar = Bar 0 100
first_state _ = Plain

-- the private state once the text is so long: a cursor stands at its end, and the first line is chosen
abbrev pub private_at : ℕ → Private → Private
private_at size Plain = Plain
private_at size (Cursor place) = Cursor size
private_at size (On b) = On b
private_at size (Chosen line) = Chosen 0
private_at size (Bar done total) = Bar done total

-- the private state that a row of a kind begins with, where its text has so many bytes
abbrev pub fresh : Kind → ℕ → Private
fresh kind size = private_at size (first_state kind)

-- whether two private states are of one form
abbrev pub is_alike : Private → Private → Bool
is_alike Plain Plain = true
is_alike (Cursor a) (Cursor b) = true
is_alike (On a) (On b) = true
is_alike (Chosen a) (Chosen b) = true
is_alike (Bar a b) (Bar c d) = true
is_alike _ _ = false

-- whether a private state is of the form that rows of a kind have, which is that of the first one
abbrev pub has_form : Kind → Private → Bool
has_form kind private = is_alike (first_state kind) private

-- whether a kind is handed in
abbrev pub is_handed : Kind → Bool
is_handed (Handed name) = true
is_handed _ = false

-- a built-in kind is found by its name, so that none is missing in the list and no two have one name
abbrev pub FoundByName : Type 0
FoundByName = (kind : Kind) → is_handed kind ≡ false → kind_named (kind_name kind) ≡ Some kind
