-- What a line of a script spells, and which rule it breaks.
use Rattle.std.specs.Prelude.{◌≡◌, ◌⊎◌, ◌≤◌, ◌<◌, ℕ, true, false, Bool, List, [], ◌++◌, length, codes, Option, Some, None, is_some}
use Rattle.std.specs.List.{list_all}
use Rattle.std.specs.Str.{is_utf8}
use Rattle.tx_read.specs.Pieces.{behind}
use Rattle.tx_tree.specs.Spelled.{no_line_feed}
use Rattle.tx_tree_file.specs.Words.{IsKeyName}
use Rattle.tx_route.specs.declared.input.Input.{Input}
use Rattle.tx_route.specs.declared.input.Input.TheVariants as input
use Rattle.tx_pilot.specs.declared.fault.LineFault.{LineFault}
use Rattle.tx_pilot.specs.declared.fault.LineFault.TheVariants.{Line, NoMemory}
use Rattle.tx_pilot.specs.declared.fault.LineKind.{LineKind}
use Rattle.tx_pilot.specs.declared.fault.LineKind.TheVariants.{TooMany, TooLong, BadByte, Expected, BadKey, BadNumber, BadSelector, BadInline}
use Rattle.tx_pilot.specs.declared.verb.Verb.{Verb}
use Rattle.tx_pilot.specs.declared.verb.Verb.TheVariants.{Press, Click, Hover, Pause, Resize, Class, Text, Style, Disable, Enable, Mount, Remove, Before, Advance, Theme}
use Rattle.tx_pilot.specs.Verbs.{verb_name}
use Rattle.tx_pilot.specs.Words.{IsNumber, IsString, IsTarget, IsMarked, IsInline, IsRow, NoWord, NoSelector, NoInline, NoRowInline}

-- ---- the lines

-- one more word, and two more, each after one blank
abbrev pub OneWord : {A : Type 0} → List ℕ → (List ℕ → A → Type 0) → List ℕ → A → Type 0
OneWord verb Is line a = (word : List ℕ) × (line ≡ verb ++ (codes " " ++ word)) × Is word a

abbrev pub TwoWords : {A B : Type 0} → List ℕ → (List ℕ → A → Type 0) → (List ℕ → B → Type 0) → List ℕ → A → B → Type 0
TwoWords verb Is And line a b =
    (first second : List ℕ) × (line ≡ verb ++ (codes " " ++ (first ++ (codes " " ++ second)))) × Is first a × And second b

-- the number of a column or a row of the screen
abbrev pub IsPlace : List ℕ → ℕ → Type 0
IsPlace = IsNumber 0 9999

-- the line is this input
abbrev pub IsLine : List ℕ → Input → Type 0
IsLine line (input.Press key) = OneWord (codes "press") IsKeyName line key
IsLine line (input.ClickAt x y) = TwoWords (codes "click") IsPlace IsPlace line x y
IsLine line (input.Click target) = OneWord (codes "click") IsTarget line target
IsLine line (input.HoverAt x y) = TwoWords (codes "hover") IsPlace IsPlace line x y
IsLine line (input.Hover target) = OneWord (codes "hover") IsTarget line target
IsLine line input.Pause = line ≡ codes "pause"
IsLine line (input.Resize size) = TwoWords (codes "resize") (IsNumber 1 1024) (IsNumber 1 512) line size.width size.height
IsLine line (input.AddClass target name) = TwoWords (codes "class") IsTarget (IsMarked 43) line target name
IsLine line (input.RemoveClass target name) = TwoWords (codes "class") IsTarget (IsMarked 45) line target name
IsLine line (input.SetText target text) = TwoWords (codes "text") IsTarget IsString line target text
IsLine line (input.SetInline target text) = TwoWords (codes "style") IsTarget IsInline line target text
IsLine line (input.Disable target) = OneWord (codes "disable") IsTarget line target
IsLine line (input.Enable target) = OneWord (codes "enable") IsTarget line target
IsLine line (input.Mount target row) = TwoWords (codes "mount") IsTarget IsRow line target row
IsLine line (input.Remove target) = OneWord (codes "remove") IsTarget line target
IsLine line (input.Before target other) = TwoWords (codes "before") IsTarget IsTarget line target other
IsLine line (input.Advance target by) = TwoWords (codes "advance") IsTarget (IsNumber 0 1000000) line target by
IsLine line (input.Theme true) = line ≡ codes "theme dark"
IsLine line (input.Theme false) = line ≡ codes "theme light"

-- bytes that may be a line: few, UTF-8 and without a line feed
pub record IsSound (line : List ℕ) : Type 0 where
  pub short : length line ≤ 65536
  pub utf8 : is_utf8 line ≡ true
  pub whole : list_all no_line_feed line ≡ true

-- what a line stands for: an empty one for no input
abbrev pub Spells : List ℕ → Option Input → Type 0
Spells line None = line ≡ []
Spells line (Some input) = IsSound line × IsLine line input

-- ---- the first word at fault

-- it stands after one blank
abbrev pub Next : (List ℕ → Type 0) → List ℕ → Type 0
Next Bad bytes = (rest : List ℕ) × (bytes ≡ codes " " ++ rest) × Bad rest

-- where a key stands, a number, a target, an inline text or a row, and where no word has a fault of its own
abbrev pub KeyFault : LineKind → List ℕ → Type 0
KeyFault BadKey bytes = Next (NoWord IsKeyName) bytes
KeyFault kind bytes = ⊥

abbrev pub NumberFault : ℕ → ℕ → LineKind → List ℕ → Type 0
NumberFault least most BadNumber bytes = Next (NoWord (IsNumber least most)) bytes
NumberFault least most kind bytes = ⊥

abbrev pub TargetFault : LineKind → List ℕ → Type 0
TargetFault BadSelector bytes = Next NoSelector bytes
TargetFault kind bytes = ⊥

abbrev pub InlineFault : LineKind → List ℕ → Type 0
InlineFault BadInline bytes = Next NoInline bytes
InlineFault kind bytes = ⊥

abbrev pub RowFault : LineKind → List ℕ → Type 0
RowFault BadInline bytes = Next NoRowInline bytes
RowFault kind bytes = ⊥

abbrev pub NoFault : LineKind → List ℕ → Type 0
NoFault kind bytes = ⊥

-- after a word that is good
abbrev pub Behind : {A : Type 0} → (List ℕ → A → Type 0) → (List ℕ → Type 0) → List ℕ → Type 0
Behind {A = A} Is Bad bytes = (word rest : List ℕ) × (a : A) × (bytes ≡ codes " " ++ (word ++ rest)) × Is word a × Bad rest

-- of two words the first, or else the second
abbrev pub InTwo : {A : Type 0} → (List ℕ → A → Type 0) → (LineKind → List ℕ → Type 0) → (LineKind → List ℕ → Type 0) → LineKind → List ℕ → Type 0
InTwo Is First Second kind bytes = First kind bytes ⊎ Behind Is (Second kind) bytes

-- whether a quote comes next, after one blank
abbrev pub is_quote_next : List ℕ → Bool
is_quote_next bytes = is_some (behind (codes " \"") bytes)

-- of a target, or of a column and a row
abbrev pub PlaceFault : LineKind → List ℕ → Type 0
PlaceFault kind bytes =
    TargetFault kind bytes
    ⊎ ((is_quote_next bytes ≡ false) × InTwo IsPlace (NumberFault 0 9999) (NumberFault 0 9999) kind bytes)

-- by the first word of the line
abbrev pub Fault : Verb → LineKind → List ℕ → Type 0
Fault Press = KeyFault
Fault Click = PlaceFault
Fault Hover = PlaceFault
Fault Pause = NoFault
Fault Resize = InTwo (IsNumber 1 1024) (NumberFault 1 1024) (NumberFault 1 512)
Fault Class = TargetFault
Fault Text = TargetFault
Fault Style = InTwo IsTarget TargetFault InlineFault
Fault Disable = TargetFault
Fault Enable = TargetFault
Fault Mount = InTwo IsTarget TargetFault RowFault
Fault Remove = TargetFault
Fault Before = InTwo IsTarget TargetFault TargetFault
Fault Advance = InTwo IsTarget TargetFault (NumberFault 0 1000000)
Fault Theme = NoFault

-- all words before one are good, and that one has this fault
pub record HasFault (line : List ℕ) (kind : LineKind) : Type 0 where
  pub sound : IsSound line
  pub verb : Verb
  pub rest : List ℕ
  pub text : line ≡ verb_name verb ++ rest
  pub fault : Fault verb kind rest

-- everything else that is no line: neither an input nor none, and no word has a fault of its own
pub record IsOther (line : List ℕ) : Type 0 where
  pub short : length line ≤ 65536
  pub utf8 : is_utf8 line ≡ true
  pub nothing : (read : Option Input) → Spells line read → ⊥
  pub no_fault : (kind : LineKind) → HasFault line kind → ⊥

-- the first rule that a line breaks
abbrev pub Breaks : List ℕ → LineKind → Type 0
Breaks line TooMany = ⊥
Breaks line TooLong = 65536 < length line
Breaks line BadByte = (length line ≤ 65536) × (is_utf8 line ≡ false)
Breaks line Expected = IsOther line
Breaks line BadKey = HasFault line BadKey
Breaks line BadNumber = HasFault line BadNumber
Breaks line BadSelector = HasFault line BadSelector
Breaks line BadInline = HasFault line BadInline

-- what a reader of a line may be refused for
abbrev pub IsFaultOf : List ℕ → LineFault → Type 0
IsFaultOf line (Line kind) = Breaks line kind
IsFaultOf line NoMemory = Unit {0}
