-- One direction of a layout: the spans of its items, one after another.
use Rattle.std.specs.Prelude.{◌≡◌, ⊤, ℕ, zero, suc, Bool, ◌&&◌, ◌==◌, pos, negsuc, ℤ, ◌-ℤ◌, if◌then◌else◌, Option, Some, None, List, [], ◌∷◌, sum, filter_map, length, drop, slice_index}
use Rattle.std.specs.List.{zip}
use Rattle.std.specs.Ordering.{int_eq}
use Rattle.std.specs.Option.{option_and_then, option_map}
use Rattle.tx_frac.specs.Ratio.{Ratio, whole_of, floor_of, add, sub, mul, div}
use Rattle.tx_frac.specs.declared.scalars.Unit.{Unit}
use Rattle.tx_frac.specs.declared.scalars.Unit.TheVariants.{Fr}
use Rattle.tx_geom.specs.declared.places.Size.{Size}
use Rattle.tx_geom.specs.declared.choices.Axis.{Axis}
use Rattle.tx_box.specs.declared.items.Item.{Item}
use Rattle.tx_box.specs.declared.items.Basis.{Basis}
use Rattle.tx_box.specs.declared.items.Span.{Span}
use Rattle.tx_box.specs.declared.items.LayoutFault.{LayoutFault}
use Rattle.tx_box.specs.declared.items.LayoutFault.TheVariants.{Fraction, NoMemory}
use Rattle.tx_box.specs.declared.sizes.Bases.{Bases}
use Rattle.tx_box.specs.declared.parts.Limits.{Limits}
use Rattle.tx_box.specs.declared.parts.Part.{Part}
use Rattle.tx_box.specs.declared.parts.Part.TheVariants.{Settled, Growing}
use Rattle.tx_geom.specs.Along.{side}
use Rattle.tx_box.specs.Sizes.{cells, outer, limits_of, clamp}

-- the answers of f for all elements, where each has one
abbrev pub each : {A B : Type 0} → (A → Option B) → List A → Option (List B)
each f [] = Some []
each f (x ∷ xs) = option_and_then (λ y. option_map (λ ys. y ∷ ys) (each f xs)) (f x)

-- x and y are one fraction
abbrev pub same : Ratio → Ratio → Bool
same x y = int_eq x.num y.num && (x.den == y.den)

-- ---- the parts

-- an item's part: what it has of its own, or a share of what is left
abbrev pub part_in : Unit → Item → Bases → Limits → Option Part
part_in Fr i b l = Some (Growing i.size.value l)
part_in u i b l = option_map Settled (option_and_then (clamp l) (outer i.size i b))

unfoldable pub part_of : Item → Bases → Option Part
part_of i b = option_and_then (part_in i.size.unit i b) (limits_of i b)

-- the size of a part that has one
abbrev pub settled_size : Part → Option Ratio
settled_size (Settled c) = Some c
settled_size (Growing s l) = None

-- the share of a part that has none yet
abbrev pub share_of : Part → Option Ratio
share_of (Settled c) = None
share_of (Growing s l) = Some s

abbrev pub settled_sizes : List Part → List Ratio
settled_sizes ps = filter_map settled_size ps

abbrev pub shares : List Part → List Ratio
shares ps = filter_map share_of ps

-- how many parts have no size yet
abbrev pub growing : List Part → ℕ
growing ps = length (shares ps)

-- ---- what is left

-- r less each of the sizes
abbrev pub less_each : Ratio → List Ratio → Option Ratio
less_each r [] = Some r
less_each r (c ∷ cs) = option_and_then (λ s. less_each s cs) (sub r c)

-- what the gaps and the settled sizes leave of a total
abbrev pub room : ℕ → List ℕ → List Part → Option Ratio
room total gaps ps = less_each (whole_of (pos total -ℤ pos (sum gaps))) (settled_sizes ps)

-- r, or 0 where it is below 0
abbrev pub above_zero_in : ℤ → Ratio → Ratio
above_zero_in (pos n) r = r
above_zero_in (negsuc n) r = cells 0

abbrev pub above_zero : Ratio → Ratio
above_zero r = above_zero_in r.num r

-- ---- the rounds

-- x and each of the shares
abbrev pub total_from : Ratio → List Ratio → Option Ratio
total_from x [] = Some x
total_from x (s ∷ ss) = option_and_then (λ y. total_from y ss) (add x s)

-- the unit of a round: what is left over the sum of the shares. There is none where that sum is 0
unfoldable pub unit_of : Ratio → List Part → Option (Option Ratio)
unit_of r ps =
    option_and_then (λ s. if same s (cells 0) then Some None else option_map Some (div (above_zero r) s)) (total_from (cells 0) (shares ps))

-- one part in a round with the unit u: where its limits change its share of the units it is settled, and r is less by its size
unfoldable pub part_round : Ratio → Ratio → Part → Option (Part × Ratio)
part_round u r (Settled c) = Some (Settled c, r)
part_round u r (Growing s l) =
    option_and_then
    (λ v. option_and_then (λ c. if same c v then Some (Growing s l, r) else option_map (λ left. (Settled c, left)) (sub r c)) (clamp l v))
    (mul s u)

-- with a part more before the others
abbrev pub behind : Part → Option (Ratio × List Part) → Option (Ratio × List Part)
behind p o = option_map (λ rest. (rest.0, p ∷ rest.1)) o

-- what such a round leaves of r, and its parts
abbrev pub round : Ratio → Ratio → List Part → Option (Ratio × List Part)
round u r [] = Some (r, [])
round u r (p ∷ ps) = option_and_then (λ x. behind x.0 (round u x.1 ps)) (part_round u r p)

-- the round that follows what is left and the parts so far
abbrev pub round_with : Option Ratio → Ratio → List Part → Option (Ratio × List Part)
round_with None r ps = Some (r, ps)
round_with (Some u) r ps = round u r ps

unfoldable pub next_round : Ratio → List Part → Option (Ratio × List Part)
next_round r ps = option_and_then (λ u. round_with u (above_zero r) ps) (unit_of r ps)

-- what is left and the parts in the first round that settles no further part, after at most n others
unfoldable pub last_round : ℕ → Ratio → List Part → Option (Ratio × List Part)
last_round zero r ps = Some (r, ps)
last_round (suc n) r ps =
    option_and_then (λ next. if growing next.1 == growing ps then Some (r, ps) else last_round n next.0 next.1) (next_round r ps)

-- what a share comes to in units: 0 where there is no unit
abbrev pub wish : Option Ratio → Ratio → Option Ratio
wish None share = Some (cells 0)
wish (Some u) share = mul share u

-- the size of a part in the last round
abbrev pub final_size : Option Ratio → Part → Option Ratio
final_size u (Settled c) = Some c
final_size u (Growing s l) = option_and_then (clamp l) (wish u s)

unfoldable pub final_sizes : Ratio → List Part → Option (List Ratio)
final_sizes r ps = option_and_then (λ u. each (final_size u) ps) (unit_of r ps)

-- ---- the spans

-- the whole cells from x to y
abbrev pub span : Ratio → Ratio → Span
span x y = record { from = floor_of x; to = floor_of y }

-- the span of a size from x on, and the place after the gap that follows it
unfoldable pub placed : Ratio → Ratio → ℕ → Option (Span × Ratio)
placed x size gap = option_and_then (λ end. option_map (λ next. (span x end, next)) (add end (cells gap))) (add x size)

-- the spans from x on, of sizes each with the gap after it
abbrev pub spans_from : Ratio → List (Ratio × ℕ) → Option (List Span)
spans_from x [] = Some []
spans_from x (s ∷ ss) = option_and_then (λ y. option_map (λ spans. y.0 ∷ spans) (spans_from y.1 ss)) (placed x s.0 s.1)

-- ---- an axis

-- what the percentages of an item are taken of
abbrev pub bases : Axis → Basis → Size → Bases
bases axis basis own = record { axis = axis; own = own; screen = basis.screen }

-- the parts of the items, each with its own base
unfoldable pub axis_parts : List Item → Axis → Basis → List Size → Option (List Part)
axis_parts items axis basis own = each (λ x. part_of x.0 (bases axis basis x.1)) (zip items own)

-- what is left and the parts in the last round, of a total with these gaps
unfoldable pub last_of : ℕ → List ℕ → List Part → Option (Ratio × List Part)
last_of total gaps ps = option_and_then (λ r. last_round (growing ps) r ps) (room total gaps ps)

-- the sizes of the parts
unfoldable pub sizes_of : ℕ → List ℕ → List Part → Option (List Ratio)
sizes_of total gaps ps = option_and_then (λ last. final_sizes last.0 last.1) (last_of total gaps ps)

-- the sizes of the items
unfoldable pub axis_sizes : List Item → List ℕ → Axis → Basis → List Size → Option (List Ratio)
axis_sizes items gaps axis basis own = option_and_then (sizes_of (side axis basis.area) gaps) (axis_parts items axis basis own)

-- their spans, where the first gap stands before the first item
unfoldable pub axis_spans : List Item → List ℕ → Axis → Basis → List Size → Option (List Span)
axis_spans items gaps axis basis own =
    option_and_then (λ sizes. spans_from (cells (slice_index gaps 0)) (zip sizes (drop 1 gaps))) (axis_sizes items gaps axis basis own)

-- why a call gives no spans: there was no memory, or the axis is undefined
abbrev pub IsCause : Axis → Type 0 → LayoutFault → Type 0
IsCause axis undefined (Fraction named) = (named ≡ axis) × undefined
IsCause axis undefined NoMemory = ⊤
