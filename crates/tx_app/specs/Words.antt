-- What the words of a command line ask for.
use Rattle.std.specs.Prelude.{ℕ, ◌^◌, ◌==◌, Bool, false, nat_lt, nat_le, Result, Ok, Err, List, [], ◌∷◌, ◌++◌, length, take, drop, find, Option, Some, None, is_some, if◌then◌else◌, codes, option_and_then, option_map}
use Rattle.std.specs.List.{list_any, before_first, after_first}
use Rattle.std.specs.Str.{bytes_eq}
use Rattle.tx_compose.specs.Presented.{IsScreen}
use Rattle.tx_geom.specs.declared.places.Size.{Size}
use Rattle.tx_read.specs.Number.{number_at_most}
use Rattle.tx_select.specs.SelectorValue.{SelectorValue}
use Rattle.tx_select.specs.Texts.{selector_of}
use Rattle.tx_app.specs.declared.words.Task.{Task as TaskRead}
use Rattle.tx_app.specs.declared.words.Task.TheVariants as task

-- one picture of a tree under a sheet, each named by its file, on a screen of this size
pub record Show : Type 0 where
  pub tree : List ℕ
  pub sheet : List ℕ
  pub size : Size

-- ---- the words after a mode

-- it begins with `-` and has more bytes than that
abbrev pub is_hyphenated : List ℕ → Bool
is_hyphenated (first ∷ _ ∷ _) = first == 45
is_hyphenated _ = false

-- what stands before the first `=` (61), and what stands after it where there is one
abbrev pub halves_of : List ℕ → List ℕ × Option (List ℕ)
halves_of text = (before_first (λ byte. byte == 61) text, if list_any (λ byte. byte == 61) text then Some (after_first (λ byte. byte == 61) text) else None)

-- `--name` or `--name=value`: the name, and the value where it is there
abbrev pub option_of : List ℕ → Option (List ℕ × Option (List ℕ))
option_of word = if bytes_eq (take 2 word) (codes "--") then Some (halves_of (drop 2 word)) else None

-- the options with their values, and the other words, both in their order
pub record Given : Type 0 where
  pub options : List (List ℕ × List ℕ)
  pub others : List (List ℕ)

abbrev pub nothing : Given
nothing = record { options = []; others = [] }

abbrev pub value_of_option : List ℕ → Given → Option (List ℕ)
value_of_option name seen = option_map (λ option. option.1) (find (λ option. bytes_eq option.0 name) seen.options)

abbrev pub is_among : List ℕ → List (List ℕ) → Bool
is_among name names = list_any (λ one. bytes_eq one name) names

-- one option more, which isn't there yet
abbrev pub with_option : List ℕ → List ℕ → Given → Option Given
with_option name value seen = if is_some (value_of_option name seen) then None else Some (record seen { options = seen.options ++ (name, value) ∷ [] })

abbrev pub with_others : List (List ℕ) → Given → Given
with_others words seen = record seen { others = seen.others ++ words }

-- A word where no option waits for its value: `--`, after which all words are others, an option of the mode with its value
-- or before it, or one of the others. `next` is what the words after it come to, where an option may wait.
abbrev pub option_met : List (List ℕ) → Option (List ℕ × Option (List ℕ)) → Given → (Option (List ℕ) → Given → Option Given) → Option Given
option_met names None seen next = None
option_met names (Some (name, None)) seen next = if is_among name names then next (Some name) seen else None
option_met names (Some (name, Some value)) seen next = if is_among name names then option_and_then (next None) (with_option name value seen) else None

abbrev pub word_met : List (List ℕ) → List ℕ → List (List ℕ) → Given → (Option (List ℕ) → Given → Option Given) → Option Given
word_met names word rest seen next =
    if bytes_eq word (codes "--") then Some (with_others rest seen)
    else if is_hyphenated word then option_met names (option_of word) seen next
    else next None (with_others (word ∷ []) seen)

-- the value of an option that waits for it
abbrev pub value_met : List ℕ → List ℕ → Given → (Option (List ℕ) → Given → Option Given) → Option Given
value_met name word seen next = if is_hyphenated word then None else option_and_then (next None) (with_option name word seen)

-- What the words give, with what was given before them, to a mode whose options have these names. None where they are
-- refused.
unfoldable pub given_after : List (List ℕ) → List (List ℕ) → Option (List ℕ) → Given → Option Given
given_after names [] None seen = Some seen
given_after names [] (Some name) seen = None
given_after names (word ∷ rest) None seen = word_met names word rest seen (given_after names rest)
given_after names (word ∷ rest) (Some name) seen = value_met name word seen (given_after names rest)

abbrev pub given : List (List ℕ) → List (List ℕ) → Option Given
given names words = given_after names words None nothing

-- ---- the size of a screen

-- a size from 1 to a greatest one, in at most 10 digits
abbrev pub side : ℕ → List ℕ → Option ℕ
side greatest word = if nat_le (length word) 10 then option_and_then (λ n. if nat_le 1 n then Some n else None) (number_at_most greatest word) else None

-- the usual one, where none is given
abbrev pub side_or : ℕ → ℕ → Option (List ℕ) → Option ℕ
side_or usual greatest None = Some usual
side_or usual greatest (Some word) = side greatest word

abbrev pub size_of_sides : Option ℕ → Option ℕ → Option Size
size_of_sides width height = option_and_then (λ w. option_map (λ h. record { width = w; height = h }) height) width

abbrev pub size_of : Option (List ℕ) → Option (List ℕ) → Option Size
size_of width height = size_of_sides (side_or 80 1024 width) (side_or 24 512 height)

abbrev pub size_options : List (List ℕ)
size_options = codes "width" ∷ codes "height" ∷ []

-- ---- what the words ask for

pub data Task : Type 0 where
  -- one picture
  Shows : Show → Task
  -- the counts of a sheet, named by its file
  Checks : List ℕ → Task
  -- the rows of a tree, named by its file, that a selector matches
  Queries : List ℕ → SelectorValue → Task

-- the two files and the size of a picture
abbrev pub shows : List (List ℕ) → Option (List ℕ) → Option (List ℕ) → Option Task
shows (tree ∷ sheet ∷ []) width height = option_map (λ size. Shows (record { tree = tree; sheet = sheet; size = size })) (size_of width height)
shows _ width height = None

-- the file of a sheet
abbrev pub checks : List (List ℕ) → Option Task
checks (sheet ∷ []) = Some (Checks sheet)
checks _ = None

-- a text of less than 4 GiB that is a selector
abbrev pub value_of : {A : Type 0} → Result A ℕ → Option A
value_of (Ok value) = Some value
value_of (Err place) = None

abbrev pub selector_in : List ℕ → Option SelectorValue
selector_in text = if nat_lt (length text) (2 ^ 32) then value_of (selector_of text) else None

-- the file of a tree, and a selector
abbrev pub queries : List (List ℕ) → Option Task
queries (tree ∷ selector ∷ []) = option_map (Queries tree) (selector_in selector)
queries _ = None

-- the words after the program's name: a mode, and what is given to it
abbrev pub asked : List (List ℕ) → Option Task
asked (_ ∷ mode ∷ words) =
    if bytes_eq mode (codes "show")
    then option_and_then (λ found. shows found.others (value_of_option (codes "width") found) (value_of_option (codes "height") found)) (given size_options words)
    else if bytes_eq mode (codes "check") then option_and_then (λ found. checks found.others) (given [] words)
    else if bytes_eq mode (codes "query") then option_and_then (λ found. queries found.others) (given [] words) else None
asked _ = None

-- ---- what their reader answers

-- the task that it is
abbrev pub task_of : TaskRead → Task
task_of (task.Show show) = Shows (record { tree = show.tree.now; sheet = show.sheet.now; size = show.size })
task_of (task.Check sheet) = Checks sheet.now
task_of (task.Query tree selector) = Queries tree.now selector

-- its screen is within the limits
abbrev pub IsPossible : TaskRead → Type 0
IsPossible (task.Show show) = IsScreen show.size
IsPossible (task.Check sheet) = Unit {0}
IsPossible (task.Query tree selector) = Unit {0}
