-- The cells of children in one direction: across it each by itself, along it one after another.
use Rattle.std.specs.Prelude.{ℕ, ◌-◌, ℤ, pos, negsuc, ◌-ℤ◌, Bool, true, false, Option, Some, None, List, [], ◌∷◌, Result, Ok, Err, max, map, if◌then◌else◌}
use Rattle.std.specs.List.{zip}
use Rattle.tx_read.specs.Answer.{or_refused}
use Rattle.tx_read.specs.Reading.{◌>>=◌}
use Rattle.tx_geom.specs.declared.choices.Axis.{Axis}
use Rattle.tx_geom.specs.declared.choices.Axis.TheVariants.{Width, Height}
use Rattle.tx_geom.specs.declared.places.Size.{Size}
use Rattle.tx_geom.specs.Along.{ahead_of, behind_of, room_along}
use Rattle.tx_box.specs.declared.items.Item.{Item}
use Rattle.tx_box.specs.declared.items.Basis.{Basis}
use Rattle.tx_box.specs.declared.items.Span.{Span}
use Rattle.tx_box.specs.Sizes.{box_cells}
use Rattle.tx_box.specs.Axis.{bases, axis_spans}
use Rattle.tx_layout.specs.declared.styles.Ask.{Ask}
use Rattle.tx_layout.specs.declared.children.Child.{Child}
use Rattle.tx_layout.specs.declared.children.Side.{Side}
use Rattle.tx_layout.specs.Steps.{each_of}
use Rattle.tx_layout.specs.Style.{item_of, size_in, base, inner, is_auto}

-- an area and the screen
abbrev pub basis_of : Size → Size → Basis
basis_of area screen = record { area = area; screen = screen }

-- ---- measures

-- the width of the content, once the columns are known: these less padding and border
abbrev pub content_width : Child → ℕ
content_width c = c.wide.size - room_along Width c.style.gutter

-- a height is asked for at the width that the child has
abbrev pub width_for : Axis → Child → Option ℕ
width_for Width c = None
width_for Height c = Some (content_width c)

-- what is asked of a child in an area
abbrev pub ask_of : Axis → Size → Child → Ask
ask_of axis area c = record { child = c.place; width = width_for axis c; area = inner c.style area }

-- the content where the size is that of the content, else nothing is asked
abbrev pub content_if : Bool → Axis → Option ℕ → Result ℕ Axis
content_if true axis means = or_refused axis means
content_if false axis means = Ok 0

unfoldable pub content_of : (Ask → Option ℕ) → Axis → Size → Child → Result ℕ Axis
content_of meaning axis area c = content_if (is_auto (size_in axis c.style).unit) axis (meaning (ask_of axis area c))

-- a child as a box along a direction
unfoldable pub measured : (Ask → Option ℕ) → Axis → Size → Child → Result Item Axis
measured meaning axis area c = content_of meaning axis area c >>= (λ n. Ok (item_of axis c.style n))

-- ---- sides

-- a whole number, or 0 for one below 0
abbrev pub count_of : ℤ → ℕ
count_of (pos n) = n
count_of (negsuc n) = 0

abbrev pub side_of : Span → Side
side_of span = record { from = count_of span.from; size = count_of (span.to -ℤ span.from) }

-- a child that has its cells in one direction
abbrev pub with_side : Axis → Side → Child → Child
with_side Width s c = record { place = c.place; style = c.style; wide = s; tall = c.tall }
with_side Height s c = record { place = c.place; style = c.style; wide = c.wide; tall = s }

abbrev pub side_in : Axis → Child → Side
side_in Width c = c.wide
side_in Height c = c.tall

-- ---- across

-- a child by itself, from its margin on
abbrev pub by_itself : Axis → Child → ℤ → Child
by_itself axis c n = with_side axis (record { from = ahead_of axis c.style.margin; size = count_of n }) c

abbrev pub sized_by : Axis → Child → Option ℤ → Result Child Axis
sized_by axis c None = Err axis
sized_by axis c (Some n) = Ok (by_itself axis c n)

unfoldable pub across_one : (Ask → Option ℕ) → Axis → Basis → Child → Result Child Axis
across_one meaning axis basis c =
    measured meaning axis basis.area c >>= (λ item. sized_by axis c (box_cells item (bases axis basis (base c.style basis.area))))

-- ---- along

-- the gaps after a margin: between two margins the greater one counts, and the last margin stands at the end
abbrev pub gaps_behind : Axis → ℕ → List Child → List ℕ
gaps_behind axis margin [] = margin ∷ []
gaps_behind axis margin (c ∷ cs) = max margin (ahead_of axis c.style.margin) ∷ gaps_behind axis (behind_of axis c.style.margin) cs

-- before the first child there is no margin but its own
abbrev pub gaps : Axis → List Child → List ℕ
gaps axis cs = gaps_behind axis 0 cs

-- children with the cells of these spans
abbrev pub with_spans : Axis → List Child → List Span → List Child
with_spans axis cs spans = map (λ (x : Child × Span). with_side axis (side_of x.1) x.0) (zip cs spans)

abbrev pub areas : Size → List Child → List Size
areas area cs = map (λ c. base c.style area) cs

abbrev pub in_row : Axis → Basis → List Child → List Item → Result (List Child) Axis
in_row axis basis cs items = or_refused axis (axis_spans items (gaps axis cs) axis basis (areas basis.area cs)) >>= (λ spans. Ok (with_spans axis cs spans))

-- ---- both

abbrev pub is_axis : Axis → Axis → Bool
is_axis Width Width = true
is_axis Width Height = false
is_axis Height Width = false
is_axis Height Height = true

-- whether children follow each other in a direction
abbrev pub is_main : Option Axis → Axis → Bool
is_main None axis = false
is_main (Some main) axis = is_axis main axis

unfoldable pub across : (Ask → Option ℕ) → Axis → Basis → List Child → Result (List Child) Axis
across meaning axis basis cs = each_of (across_one meaning axis basis) cs

unfoldable pub along : (Ask → Option ℕ) → Axis → Basis → List Child → Result (List Child) Axis
along meaning axis basis cs = each_of (measured meaning axis basis.area) cs >>= in_row axis basis cs

-- the children with their cells in one direction, in an area
abbrev pub sized : (Ask → Option ℕ) → Option Axis → Basis → Axis → List Child → Result (List Child) Axis
sized meaning main basis axis cs = if is_main main axis then along meaning axis basis cs else across meaning axis basis cs

-- first their columns, then their rows
unfoldable pub sized_both : (Ask → Option ℕ) → Option Axis → Basis → List Child → Result (List Child) Axis
sized_both meaning main basis cs = sized meaning main basis Width cs >>= sized meaning main basis Height
