-- The layout map: where every row that takes part stands, and what of it can show.
use Rattle.std.specs.Prelude.{ℕ, ◌+◌, pos, neg_ℤ, false, List, [], ◌∷◌, ◌++◌, Option, Some, None, drop, Result, Ok, Err, if◌then◌else◌}
use Rattle.tx_geom.specs.Along.{region_of}
use Rattle.tx_geom.specs.Region.{corner, moved}
use Rattle.tx_geom.specs.declared.choices.Axis.{Axis}
use Rattle.tx_geom.specs.declared.choices.Edge.{Edge}
use Rattle.tx_geom.specs.declared.places.Offset.{Offset}
use Rattle.tx_geom.specs.declared.places.Region.{Region}
use Rattle.tx_geom.specs.declared.places.Size.{Size}
use Rattle.tx_layout.specs.declared.styles.BoxStyle.{BoxStyle}
use Rattle.tx_look.specs.Boxes.{grid_style}
use Rattle.tx_look.specs.Content.{content_region}
use Rattle.tx_look.specs.Layers.{layer_number}
use Rattle.tx_map.specs.Scene.{Scene, rows_of, scroll_of}
use Rattle.tx_map.specs.declared.entry.Entry.{Entry}
use Rattle.tx_read.specs.Reading.{◌>>=◌}
use Rattle.tx_scroll.specs.Bars.{barred}
use Rattle.tx_scroll.specs.Clip.{clipped}
use Rattle.tx_scroll.specs.Scroll.{kept_scroll}
use Rattle.tx_scroll.specs.declared.trials.Barred.{Barred}
use Rattle.tx_sizes.specs.Forest.{Styled, Forest, Empty, Grown}
use Rattle.tx_sizes.specs.Measures.{Measure, answer_of, boxes, is_taking_part, measures}
use Rattle.tx_tree.specs.Kind.{holds_children}
use Rattle.tx_tree.specs.declared.row.NodeId.{NodeId}
use Rattle.tx_value.specs.StyleReads as style
use Rattle.tx_value.specs.declared.value.Value.{Value}

-- where a row is undefined: the first container, in the order of the document, whose arrangement is, with its axis
abbrev pub Mapped : Type 0 → Type 0
Mapped A = Result A (NodeId × Axis)

-- ---- the arrangement inside a row

-- a row of a kind without children has its content as its viewport, no bars, and nothing goes over
abbrev pub without_children : Size → Barred
without_children content =
    record { across = false; down = false; viewport = content; arrangement = record { placed = []; over = record { width = 0; height = 0 } } }

-- the bars of a row with a content of this size, and its children beside them, which have these boxes and measures
unfoldable pub barred_row : Size → Styled → List BoxStyle → List Measure → Size → Result Barred Axis
barred_row screen row children measures content =
    if holds_children row.row.kind then
    barred (answer_of measures) (style.overflow_x row.style) (style.overflow_y row.style) (style.layout row.style) (grid_style row.style)
    (style.align row.style) children content screen
    else Ok (without_children content)

-- the same with the row as the one that is at fault
abbrev pub at_node : {A : Type 0} → NodeId → Result A Axis → Mapped A
at_node node (Ok value) = Ok value
at_node node (Err axis) = Err (node, axis)

-- ---- what a row hands down

-- where a row stands: its region on the screen, to which region it is clipped, and its key
pub record Place : Type 0 where
  pub region : Region
  pub clip : Region
  pub key : List ℕ

-- a container as its children see it: its style, the region of its viewport, to what they are clipped, how far they are
-- scrolled, and its key
pub record Container : Type 0 where
  pub style : List Value
  pub viewport : Region
  pub clip : Region
  pub scroll : ℕ × ℕ
  pub key : List ℕ

-- the viewport begins where the content does
abbrev pub viewport_region : Styled → Region → Size → Region
viewport_region row region viewport = region_of (corner (content_region row.style region)) viewport

-- a scroll is kept within what goes over
abbrev pub scroll_in : Scene → Styled → Barred → ℕ × ℕ
scroll_in scene row bars = kept_scroll (scroll_of scene row) bars.arrangement.over (style.overflow_x row.style) (style.overflow_y row.style)

-- children are clipped to the viewport, as far as the row's own clip shows it
abbrev pub container : Scene → Styled → Place → Barred → Container
container scene row place bars =
    record {
      style = row.style;
      viewport = viewport_region row place.region bars.viewport;
      clip = clipped (viewport_region row place.region bars.viewport) place.clip;
      scroll = scroll_in scene row bars;
      key = place.key;
    }

-- ---- where a child stands

-- a child that follows others moves by the scroll, a docked one doesn't
abbrev pub scrolled_by : Option Edge → ℕ × ℕ → Offset
scrolled_by None scroll = record { x = neg_ℤ (pos scroll.0); y = neg_ℤ (pos scroll.1) }
scrolled_by (Some edge) scroll = record { x = pos 0; y = pos 0 }

-- the region of a child on the screen, by the one from the corner of the viewport on
abbrev pub child_region : Container → Styled → Region → Region
child_region above row region = moved (moved region (corner above.viewport)) (scrolled_by (style.dock row.style) above.scroll)

abbrev pub docked_number : Option Edge → ℕ
docked_number None = 0
docked_number (Some edge) = 1

-- the parent's key, then the layer, whether it is docked, and its place among all children
abbrev pub child_key : Container → Styled → ℕ → List ℕ
child_key above row place = above.key ++ layer_number above.style row.style ∷ (docked_number (style.dock row.style) ∷ (place ∷ []))

abbrev pub child_place : Container → Styled → ℕ → Region → Place
child_place above row place region = record { region = child_region above row region; clip = above.clip; key = child_key above row place }

-- ---- entries

-- the entry of a row at its place, with these bars
abbrev pub entry_at : Scene → Styled → Place → Barred → Entry
entry_at scene row place bars =
    record {
      node = row.row.node;
      region = place.region;
      clip = place.clip;
      viewport = bars.viewport;
      across = bars.across;
      down = bars.down;
      over = bars.arrangement.over;
      scroll = scroll_in scene row bars;
      key = place.key;
    }

-- the size of a row's content
abbrev pub content_size : Styled → Region → Size
content_size row region = record { width = (content_region row.style region).width; height = (content_region row.style region).height }

-- the entry of a row with these bars, and then those of its children by the regions that they have from the viewport's corner on
abbrev pub entries_with : Scene → Styled → Place → (Container → List (Option Region) → Mapped (List Entry)) → Barred → Mapped (List Entry)
entries_with scene row place children bars =
    children (container scene row place bars) bars.arrangement.placed >>= (λ below. Ok (entry_at scene row place bars ∷ below))

-- the entry of a row at its place and then those of the rows below it, whose parents have these boxes and measures
unfoldable pub row_entries : Scene → Styled → List BoxStyle → List Measure → (Container → List (Option Region) → Mapped (List Entry)) → Place → Mapped (List Entry)
row_entries scene row boxes measures children place =
    at_node row.row.node (barred_row scene.size row boxes measures (content_size row place.region)) >>= entries_with scene row place children

-- the first of some regions, if there is one
abbrev pub first_region : List (Option Region) → Option Region
first_region [] = None
first_region (region ∷ regions) = region

-- a child of a grid that found no place has no entry, and no row below it has one
abbrev pub entries_if : (Region → Mapped (List Entry)) → Option Region → Mapped (List Entry)
entries_if entries None = Ok []
entries_if entries (Some region) = entries region

-- The entries of the rows beside each other in a container, from the child at a place on, and of the rows below them, in the
-- order of the document. The regions are those of the rows that take part.
unfoldable pub entries : Scene → Forest → Container → ℕ → List (Option Region) → Mapped (List Entry)
entries scene Empty above place regions = Ok []
entries scene (Grown row below beside) above place regions =
    if is_taking_part row then
    entries_if (λ region. row_entries scene row (boxes row.style below) (measures scene.pictures scene.size below) (λ within. entries scene below within 0)
    (child_place above row place region)) (first_region regions) >>= (λ own.
    entries scene beside above (place + 1) (drop 1 regions) >>= (λ others. Ok (own ++ others)))
    else entries scene beside above (place + 1) regions

-- ---- the map

-- the Screen fills the screen, whatever its style says of its display, box, dock and layer
abbrev pub screen_place : Size → Place
screen_place size =
    record {
      region = region_of (record { x = pos 0; y = pos 0 }) size;
      clip = region_of (record { x = pos 0; y = pos 0 }) size;
      key = [];
    }

abbrev pub entries_from : Scene → Forest → Mapped (List Entry)
entries_from scene Empty = Ok []
entries_from scene (Grown row below beside) =
    row_entries scene row (boxes row.style below) (measures scene.pictures scene.size below) (λ within. entries scene below within 0) (screen_place scene.size)

-- The entries of all rows that take part, from the Screen on in the order of the document; or the first container whose arrangement is
-- undefined, with its axis.
abbrev pub layout_map : Scene → Mapped (List Entry)
layout_map scene = entries_from scene (rows_of scene)
