-- What holds of every map.
use Rattle.std.specs.Prelude.{◌≡◌, ◌≤◌, ◌⊎◌, ℕ, pos, List, [], ◌∷◌, ◌++◌, map, Some, Ok, Err, All, unwrap_or}
use Rattle.tx_geom.specs.Along.{region_of}
use Rattle.tx_geom.specs.Region.{Holds}
use Rattle.tx_geom.specs.declared.choices.Axis.{Axis}
use Rattle.tx_geom.specs.declared.choices.Overflow.TheVariants.{Hidden}
use Rattle.tx_geom.specs.declared.places.Offset.{Offset}
use Rattle.tx_geom.specs.declared.places.Region.{Region}
use Rattle.tx_geom.specs.declared.places.Size.{Size}
use Rattle.tx_map.specs.LayoutMap.{Place, barred_row, content_size, layout_map, viewport_region}
use Rattle.tx_map.specs.Lookup.{entry_of}
use Rattle.tx_map.specs.Nodes.{AreOfRows, entry_count}
use Rattle.tx_map.specs.Scene.{Scene, rows_of, scroll_of}
use Rattle.tx_map.specs.Shown.{shown_rows}
use Rattle.tx_map.specs.Subtrees.{barred_in, subtree_entries}
use Rattle.tx_map.specs.declared.entry.Entry.{Entry}
use Rattle.tx_sizes.specs.Forest.{Styled, Forest, Empty, Grown, depth}
use Rattle.tx_sizes.specs.Laws.{AreDeeper, BeginsBeside, SamePictures}
use Rattle.tx_sizes.specs.Measures.{Pictures, boxes, measures}
use Rattle.tx_tree.specs.Walk.{NumbersDiffer}
use Rattle.tx_tree.specs.declared.row.NodeId.{NodeId}
use Rattle.tx_tree.specs.declared.row.Row.{Row}
use Rattle.tx_value.specs.Style.{initial_style}
use Rattle.tx_value.specs.StyleReads.{overflow_x, overflow_y}
use Rattle.tx_value.specs.declared.value.Value.{Value}

-- The bars of a row and where its children stand beside them depend on nothing but the size of its content, the screen, and the row
-- and the rows below it with their styles and the pictures of those below it: whatever stands after these rows and whatever pictures
-- the other nodes have, it is the same.
abbrev pub SubtreesArrange : Type 0
SubtreesArrange =
    (row : Styled) (below after other : List Styled) → AreDeeper (depth row) below → BeginsBeside (depth row) after → BeginsBeside (depth row) other
    → (pictures others : Pictures) → SamePictures pictures others below → (screen content : Size)
    → barred_in pictures screen row (below ++ after) content ≡ barred_in others screen row (below ++ other) content

-- rows are scrolled as far in one scene as in another
abbrev pub SameScrolls : Scene → Scene → List Styled → Type 0
SameScrolls first second rows = All (λ row. scroll_of first row ≡ scroll_of second row) rows

-- The entries of a row and of those below it depend on nothing but where the row stands, the screen, the row and the rows below it with
-- their styles, how far these are scrolled, and the pictures of those below it: whatever stands behind these rows, however far the other
-- nodes are scrolled and whatever pictures they have, they are the same.
abbrev pub SubtreesAreMapped : Type 0
SubtreesAreMapped =
    (row : Styled) (below after other : List Styled) → AreDeeper (depth row) below → BeginsBeside (depth row) after → BeginsBeside (depth row) other
    → (first second : Scene) → SamePictures first.pictures second.pictures below → SameScrolls first second (row ∷ below) → first.size ≡ second.size
    → (place : Place) → subtree_entries first row (below ++ after) place ≡ subtree_entries second row (below ++ other) place

-- a region begins at the corner of the screen and is as large
abbrev pub whole_screen : Size → Region
whole_screen size = region_of (record { x = pos 0; y = pos 0 }) size

-- an entry fills the screen, and is behind all others
pub record FillsScreen (size : Size) (entry : Entry) : Type 0 where
  pub region : entry.region ≡ whole_screen size
  pub clip : entry.clip ≡ whole_screen size
  pub key : entry.key ≡ []

-- the first entry, that of the Screen, fills the screen, whatever the rows' styles say
abbrev pub ScreenFills : Type 0
ScreenFills = (scene : Scene) (entry : Entry) (entries : List Entry) → layout_map scene ≡ Ok (entry ∷ entries) → FillsScreen scene.size entry

-- entries begin with one of a row that fills the screen
pub record BeginsWithScreen (size : Size) (row : Row) (entries : List Entry) : Type 0 where
  pub entry : Entry
  pub others : List Entry
  pub begins : entries ≡ entry ∷ others
  pub node : entry.node ≡ row.node
  pub fills : FillsScreen size entry

-- a map begins with the entry of the first row, which is the Screen, and this one fills the screen
abbrev pub ScreenIsFirst : Type 0
ScreenIsFirst =
    (scene : Scene) (row : Row) (rest : List Row) (entries : List Entry) → scene.rows ≡ row ∷ rest → layout_map scene ≡ Ok entries
    → BeginsWithScreen scene.size row entries

-- what of an entry can show is within a region
abbrev pub IsClippedTo : Region → Entry → Type 0
IsClippedTo region entry = (p : Offset) → Holds entry.clip p → Holds region p

-- of a row and of the rows below it nothing shows but in the row's own clip
abbrev pub SubtreesAreClipped : Type 0
SubtreesAreClipped =
    (scene : Scene) (row : Styled) (behind : List Styled) (place : Place) (entries : List Entry) → subtree_entries scene row behind place ≡ Ok entries
    → All (IsClippedTo place.clip) entries

-- of the rows below a row nothing shows but in that row's viewport
abbrev pub ViewportsClip : Type 0
ViewportsClip =
    (scene : Scene) (row : Styled) (behind : List Styled) (place : Place) (own : Entry) (below : List Entry)
    → subtree_entries scene row behind place ≡ Ok (own ∷ below) → All (IsClippedTo (viewport_region row own.region own.viewport)) below

-- the style of a node
abbrev pub style_at : Scene → NodeId → List Value
style_at scene node = unwrap_or (scene.styles node.0) initial_style

-- an entry's scroll is at most what its children go over, and 0 along an axis that its row hides
pub record KeepsScroll (scene : Scene) (entry : Entry) : Type 0 where
  pub across : entry.scroll.0 ≤ entry.over.width
  pub down : entry.scroll.1 ≤ entry.over.height
  pub across_hidden : overflow_x (style_at scene entry.node) ≡ Hidden → entry.scroll.0 ≡ 0
  pub down_hidden : overflow_y (style_at scene entry.node) ≡ Hidden → entry.scroll.1 ≡ 0

abbrev pub ScrollsAreKept : Type 0
ScrollsAreKept = (scene : Scene) (entries : List Entry) → layout_map scene ≡ Ok entries → All (KeepsScroll scene) entries

-- a row is one of a forest, with these rows below it
abbrev pub Stands : Styled → Forest → Forest → Type 0
Stands row below Empty = ⊥
Stands row below (Grown other own beside) = ((row ≡ other) × (below ≡ own)) ⊎ (Stands row below own ⊎ Stands row below beside)

-- the bars of a row of a forest are undefined along an axis, in some region
pub record IsRefused (scene : Scene) (rows : Forest) (node : NodeId) (axis : Axis) : Type 0 where
  pub row : Styled
  pub below : Forest
  pub region : Region
  pub stands : Stands row below rows
  pub is : row.row.node ≡ node
  pub refused :
      barred_row scene.size row (boxes row.style below) (measures scene.pictures scene.size below) (content_size row region) ≡ Err axis

-- where a map is undefined, the container that it names is a row of the tree whose own arrangement is undefined along that axis, in some
-- region
abbrev pub RefusedAreNamed : Type 0
RefusedAreNamed = (scene : Scene) (node : NodeId) (axis : Axis) → layout_map scene ≡ Err (node, axis) → IsRefused scene (rows_of scene) node axis

-- The entries of a map are those of rows of the tree, one for each, in the order of the document.
abbrev pub EntriesAreOfRows : Type 0
EntriesAreOfRows = (scene : Scene) (entries : List Entry) → layout_map scene ≡ Ok entries → AreOfRows entries scene.rows

-- where no two rows have one node, no two entries have, and each is the one that is found by its node
pub record HasOneEach (entries : List Entry) : Type 0 where
  pub once : (n : ℕ) → entry_count n entries ≤ 1
  pub itself : All (λ (entry : Entry). entry_of entry.node.0 entries ≡ Some entry) entries

abbrev pub NodesHaveOneEntry : Type 0
NodesHaveOneEntry = (scene : Scene) (entries : List Entry) → NumbersDiffer scene.rows → layout_map scene ≡ Ok entries → HasOneEach entries

-- The rows that have entries, in the order of the document: the Screen, and each row that is displayed and finds room in a row that has one.
abbrev pub ShownHaveEntries : Type 0
ShownHaveEntries =
    (scene : Scene) (entries : List Entry) → layout_map scene ≡ Ok entries
    → map (λ (entry : Entry). entry.node) entries ≡ map (λ (row : Styled). row.row.node) (shown_rows (rows_of scene))
