-- The children of a container: numbered, and cut into layers and their parts.
use Rattle.std.specs.Prelude.{ℕ, ◌+◌, ◌<◌, ◌==◌, ◌≤◌, ◌^◌, nat_lt, Bool, true, false, not, Option, Some, None, List, [], ◌∷◌, map, if◌then◌else◌}
use Rattle.std.specs.List.{filter}
use Rattle.tx_geom.specs.declared.choices.Edge.{Edge}
use Rattle.tx_geom.specs.declared.choices.Edge.TheVariants.{Top, Right, Bottom, Left}
use Rattle.tx_box.specs.declared.items.Span.{Span}
use Rattle.tx_box.specs.Shape.{EndsBy, IsSpan}
use Rattle.tx_layout.specs.declared.styles.BoxStyle.{BoxStyle}
use Rattle.tx_layout.specs.declared.children.Child.{Child}
use Rattle.tx_layout.specs.declared.children.Side.{Side}
use Rattle.tx_layout.specs.Style.{IsBoxStyle}

-- cells that begin before 2^41, and a margin after that
pub record IsSide (s : Side) : Type 0 where
  pub from : s.from ≤ 2 ^ 41 + 65535
  pub size : s.size < 2 ^ 32

-- a gap between children: a margin or a gutter
abbrev pub IsGap : ℕ → Type 0
IsGap gap = gap ≤ 65535

-- a span as an axis gives it, that ends before 2^41
pub record IsNearSpan (s : Span) : Type 0 where
  pub span : IsSpan s
  pub near : EndsBy (2 ^ 41) s

-- one of so many children, with a style that the calls accept
pub record IsChild (count : ℕ) (c : Child) : Type 0 where
  pub below : c.place < count
  pub style : IsBoxStyle c.style
  pub wide : IsSide c.wide
  pub tall : IsSide c.tall

-- no cells
abbrev pub nothing : Side
nothing = record { from = 0; size = 0 }

-- a child that has no cells yet
abbrev pub child_at : ℕ → BoxStyle → Child
child_at place style = record { place = place; style = style; wide = nothing; tall = nothing }

-- the children with their places, from n on
abbrev pub numbered : ℕ → List BoxStyle → List Child
numbered n [] = []
numbered n (style ∷ styles) = child_at n style ∷ numbered (n + 1) styles

-- the number of a child's layer
abbrev pub layer_of : Child → ℕ
layer_of c = c.style.layer

-- ---- layers

-- a list of ascending numbers with one more, which stands in it once
abbrev pub with_number : ℕ → List ℕ → List ℕ
with_number n [] = n ∷ []
with_number n (m ∷ ms) = if n == m then m ∷ ms else if nat_lt n m then n ∷ (m ∷ ms) else m ∷ with_number n ms

-- the numbers of the layers of children: each once, ascending
abbrev pub layer_numbers : List Child → List ℕ
layer_numbers [] = []
layer_numbers (c ∷ cs) = with_number (layer_of c) (layer_numbers cs)

abbrev pub is_in_layer : ℕ → Child → Bool
is_in_layer n c = layer_of c == n

-- the layers of children by their numbers, each with its children in the order of the document
unfoldable pub layers : List Child → List (List Child)
layers cs = map (λ n. filter (is_in_layer n) cs) (layer_numbers cs)

-- a child before runs: in the first one, where that is of the child's layer, else in a run of its own
abbrev pub in_first : Child → List (List Child) → List (List Child)
in_first c [] = (c ∷ []) ∷ []
in_first c ([] ∷ runs) = (c ∷ []) ∷ ([] ∷ runs)
in_first c ((d ∷ ds) ∷ runs) = if layer_of c == layer_of d then (c ∷ (d ∷ ds)) ∷ runs else (c ∷ []) ∷ ((d ∷ ds) ∷ runs)

-- children cut where the number of their layer changes
abbrev pub runs : List Child → List (List Child)
runs [] = []
runs (c ∷ cs) = in_first c (runs cs)

-- ---- the parts of a layer

abbrev pub is_docked_by : Option Edge → Bool
is_docked_by None = false
is_docked_by (Some edge) = true

abbrev pub is_side_edge : Option Edge → Bool
is_side_edge None = false
is_side_edge (Some Top) = false
is_side_edge (Some Right) = true
is_side_edge (Some Bottom) = false
is_side_edge (Some Left) = true

-- it stands at an edge
abbrev pub is_docked : Child → Bool
is_docked c = is_docked_by c.style.dock

-- it stands at the left or at the right edge
abbrev pub is_at_side : Child → Bool
is_at_side c = is_side_edge c.style.dock

-- it is one of those that follow each other
abbrev pub is_in_flow : Child → Bool
is_in_flow c = not (is_docked c)

abbrev pub docked : List Child → List Child
docked cs = filter is_docked cs

abbrev pub at_sides : List Child → List Child
at_sides cs = filter is_at_side cs

abbrev pub flow : List Child → List Child
flow cs = filter is_in_flow cs
