-- What a script spells, and its first line that breaks a rule.
use Rattle.std.specs.Prelude.{◌≡◌, ◌≢◌, ◌⊎◌, ◌≤◌, ◌<◌, ◌+◌, ℕ, true, List, [], ◌∷◌, ◌++◌, length, flat_map, Option, codes, option_to_list}
use Rattle.std.specs.List.{list_all}
use Rattle.tx_tree.specs.Spelled.{no_line_feed}
use Rattle.tx_tree_file.specs.FirstFault.{is_line_end}
use Rattle.tx_route.specs.declared.input.Input.{Input}
use Rattle.tx_pilot.specs.Lines.{Spells, Breaks}
use Rattle.tx_pilot.specs.declared.fault.LineKind.{LineKind}
use Rattle.tx_pilot.specs.declared.fault.LineKind.TheVariants.{TooMany, TooLong}
use Rattle.tx_pilot.specs.declared.fault.ScriptFault.{ScriptFault}
use Rattle.tx_pilot.specs.declared.fault.ScriptFault.TheVariants.{Line, NoMemory}

-- the line with its line feed
abbrev pub fed : List ℕ → List ℕ
fed line = line ++ codes "\n"

-- the lines spell these inputs, one after another
abbrev pub SpellAll : List (List ℕ) → List Input → Type 0
SpellAll [] inputs = inputs ≡ []
SpellAll (line ∷ lines) inputs =
    (read : Option Input) × (more : List Input) × Spells line read × (inputs ≡ option_to_list read ++ more) × SpellAll lines more

-- how many lines there are, of which the last one, without a line feed, counts where it has a byte
abbrev pub count_with : List (List ℕ) → List ℕ → ℕ
count_with lines [] = length lines
count_with lines (byte ∷ bytes) = length lines + 1

-- Lines, each with its line feed, and after them a last one without, which may be empty. There are at most 100,000, and
-- at most 64 MiB in all.
pub record IsScript (bytes : List ℕ) (inputs : List Input) : Type 0 where
  pub lines : List (List ℕ)
  pub end : List ℕ
  pub text : bytes ≡ flat_map fed lines ++ end
  pub spelled : SpellAll (lines ++ end ∷ []) inputs
  pub few : count_with lines end ≤ 100000
  pub small : length bytes ≤ 67108864

-- ---- the first line that breaks a rule

-- So many lines stand before this one, and so many bytes up to its end, its line feed among them. TooMany comes first, then
-- TooLong.
abbrev pub BreaksAt : ℕ → ℕ → List ℕ → LineKind → Type 0
BreaksAt before size line TooMany = 100000 ≤ before
BreaksAt before size line TooLong = (before < 100000) × ((67108864 < size) ⊎ Breaks line TooLong)
BreaksAt before size line kind = (before < 100000) × (size ≤ 67108864) × Breaks line kind

-- the bytes up to the end of a line: its line feed, where it has one
abbrev pub feed_count : List ℕ → ℕ
feed_count [] = 0
feed_count (byte ∷ bytes) = 1

-- The lines before this one are inputs, or empty, within the limits. This one has a byte or a line feed, and breaks the rule.
pub record IsFirstFault (bytes : List ℕ) (number : ℕ) (kind : LineKind) : Type 0 where
  pub lines : List (List ℕ)
  pub line : List ℕ
  pub after : List ℕ
  pub text : bytes ≡ flat_map fed lines ++ (line ++ after)
  pub inputs : List Input
  pub spelled : SpellAll lines inputs
  pub few : length lines ≤ 100000
  pub small : length (flat_map fed lines) ≤ 67108864
  pub whole : list_all no_line_feed line ≡ true
  pub ends : is_line_end after ≡ true
  pub some : line ++ after ≢ []
  pub counted : number ≡ length lines + 1
  pub broken : BreaksAt (length lines) (length (flat_map fed lines) + (length line + feed_count after)) line kind

-- what a reader of a script may be refused for
abbrev pub IsFaultOf : List ℕ → ScriptFault → Type 0
IsFaultOf bytes (Line line kind) = IsFirstFault bytes line kind
IsFaultOf bytes NoMemory = Unit {0}
