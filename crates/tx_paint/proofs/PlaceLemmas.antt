-- What single places of a drawing show.
use Rattle.std.proofs.Common.{◌≡◌, ℕ, ◌+◌, ◌-◌, ◌<◌, ◌≤◌, ◌==◌, nat_lt, Bool, true, false, [], get_or, Option, Some, None, IfSome, option_map, unwrap_or, if◌then◌else◌, refl, sym, ap, subst, arith}
use Rattle.std.proofs.lemmas.Bool.Decides.{nat_tests}
use Rattle.std.specs.Option.{option_or}
use Rattle.tx_cell.specs.Cell.{CellValue, blank}
use Rattle.tx_cell.specs.Pen.{HasByteChannels}
use Rattle.tx_cell.specs.declared.pen.Pen.{Pen}
use Rattle.tx_paint.specs.Bars.{bar_at, is_thumb, thumb, track}
use Rattle.tx_paint.specs.Drawing.{DrawingValue, IsDrawing, IsSet, content_at, content_size, drawn, inner_at, is_among, is_content, line_at}
use Rattle.tx_paint.specs.Edges.{border_at, stroke_cell, where_on}
use Rattle.tx_paint.specs.declared.edges.Stroke.{Stroke}
use Rattle.tx_paint.specs.declared.glyphs.Part.{Part}
use Rattle.tx_paint.proofs.FormedLemmas.{IsSingle}
use Rattle.tx_paint.proofs.GlyphLemmas.{blank-single, blank-utf8, glyph-single, glyph-utf8, thumb-single, thumb-utf8, track-single, track-utf8}

-- ---- single cells

pub blank-is : (pen : Pen) → HasByteChannels pen → IsSingle (blank pen)
blank-is pen channels = record { own = record { channels = channels; utf8 = blank-utf8; own = blank-single pen }; narrow = refl }

stroke-is : (part : Part) (stroke : Stroke) → HasByteChannels stroke.pen → IsSingle (stroke_cell part stroke)
stroke-is part stroke channels =
    record { own = record { channels = channels; utf8 = glyph-utf8 stroke.kind part; own = glyph-single stroke.kind part stroke.pen }; narrow = refl }

thumb-is : (pen : Pen) → HasByteChannels pen → IsSingle (thumb pen)
thumb-is pen channels = record { own = record { channels = channels; utf8 = thumb-utf8; own = thumb-single pen }; narrow = refl }

track-is : (pen : Pen) → HasByteChannels pen → IsSingle (track pen)
track-is pen channels = record { own = record { channels = channels; utf8 = track-utf8; own = track-single pen }; narrow = refl }

if-single : (b : Bool) (x y : CellValue) → IsSingle x → IsSingle y → IsSingle (if b then x else y)
if-single true x y first second = first
if-single false x y first second = second

bar-is : (length over scroll : ℕ) (pen : Pen) (at : ℕ) → HasByteChannels pen → IsSingle (bar_at length over scroll pen at)
unfolding bar_at
bar-is length over scroll pen at channels = if-single (is_thumb length over scroll at) (thumb pen) (track pen) (thumb-is pen channels) (track-is pen channels)

-- ---- the border

edge-single : (room : ℕ) (here : Bool) (part : Part) (stroke : Option Stroke) → IfSome stroke (IsSet room)
    → IfSome (option_map (stroke_cell part) (where_on here stroke)) IsSingle
edge-single room true part None set = tt
edge-single room false part None set = tt
edge-single room true part (Some stroke) set = stroke-is part stroke set.channels
edge-single room false part (Some stroke) set = tt

edge-off : (room : ℕ) (here : Bool) (part : Part) (stroke : Option Stroke) → IfSome stroke (IsSet room) → (1 ≤ room → here ≡ false)
    → option_map (stroke_cell part) (where_on here stroke) ≡ None
edge-off room true part None set off = refl
edge-off room false part None set off = refl
edge-off room true part (Some stroke) set off = let impossible : true ≡ false = off set.some in cc
edge-off room false part (Some stroke) set off = refl

or-single : (a b : Option CellValue) → IfSome a IsSingle → IfSome b IsSingle → IfSome (option_or a b) IsSingle
or-single None b first second = second
or-single (Some cell) b first second = first

border-single : (d : DrawingValue) (x y : ℕ) → IsDrawing d → IfSome (border_at d.edges d.size x y) IsSingle
border-single d x y is =
    or-single _ _ (edge-single d.gutter.top (y == 0) _ d.edges.top is.top)
    (or-single _ _ (edge-single d.gutter.bottom (y + 1 == d.size.height) _ d.edges.bottom is.bottom)
    (or-single _ _ (edge-single d.gutter.left (x == 0) _ d.edges.left is.left) (edge-single d.gutter.right (x + 1 == d.size.width) _ d.edges.right is.right)))

unwrap-single : (border : Option CellValue) (inner : CellValue) → IfSome border IsSingle → IsSingle inner → IsSingle (unwrap_or border inner)
unwrap-single None inner first second = second
unwrap-single (Some cell) inner first second = first

pub drawn-single : (d : DrawingValue) (x y : ℕ) → IsDrawing d → IsSingle (inner_at d x y) → IsSingle (drawn d x y)
unfolding drawn
drawn-single d x y is inner = unwrap-single (border_at d.edges d.size x y) (inner_at d x y) (border-single d x y is) inner

-- ---- where a place is

pub among-true : (from count at : ℕ) → from ≤ at → at < from + count → is_among from count at ≡ true
among-true from count at low high = grind (arith, nat_tests)

pub among-below : (from count at : ℕ) → at < from → is_among from count at ≡ false
among-below from count at low = grind (arith, nat_tests)

pub among-past : (from count at : ℕ) → from + count ≤ at → is_among from count at ≡ false
among-past from count at high = grind (arith, nat_tests)

off-first : (from at : ℕ) → from ≤ at → 1 ≤ from → (at == 0) ≡ false
off-first from at low some = grind (arith, nat_tests)

off-last : (from behind all at : ℕ) → from ≤ at → at < from + (all - (from + behind)) → 1 ≤ behind → (at + 1 == all) ≡ false
off-last from behind all at low high some = grind (arith, nat_tests)

none-or : (a b : Option CellValue) → a ≡ None → b ≡ None → option_or a b ≡ None
none-or None b first second = second
none-or (Some cell) b first second = first

-- the border and the content have no place in common
pub border-off : (d : DrawingValue) (x y : ℕ) → IsDrawing d → d.gutter.left ≤ x → x < d.gutter.left + (content_size d).width
    → d.gutter.top ≤ y → y < d.gutter.top + (content_size d).height → border_at d.edges d.size x y ≡ None
border-off d x y is left right top bottom =
    none-or _ _ (edge-off d.gutter.top (y == 0) _ d.edges.top is.top (off-first d.gutter.top y top))
    (none-or _ _ (edge-off d.gutter.bottom (y + 1 == d.size.height) _ d.edges.bottom is.bottom (off-last d.gutter.top d.gutter.bottom d.size.height y top bottom))
    (none-or _ _ (edge-off d.gutter.left (x == 0) _ d.edges.left is.left (off-first d.gutter.left x left))
    (edge-off d.gutter.right (x + 1 == d.size.width) _ d.edges.right is.right (off-last d.gutter.left d.gutter.right d.size.width x left right))))

-- ---- within the border

pub inner-off : (d : DrawingValue) (x y : ℕ) → IsDrawing d → is_content d x y ≡ false → IsSingle (inner_at d x y)
inner-off d x y is off =
    let same : inner_at d x y ≡ blank d.pen = ap (λ (here : Bool). if here then content_at d (x - d.gutter.left) (y - d.gutter.top) else blank d.pen) off in
    subst IsSingle (sym same) (blank-is d.pen is.pen)

content-single : (d : DrawingValue) (x y : ℕ) → IsDrawing d → IsSingle (line_at d x y) → IsSingle (content_at d x y)
content-single d x y is line =
    if-single (nat_lt x d.viewport.width) _ _
    (if-single (nat_lt y d.viewport.height) _ _ line (bar-is d.viewport.width d.over.width d.scroll.0 d.pen x is.pen))
    (if-single (nat_lt y d.viewport.height) _ _ (bar-is d.viewport.height d.over.height d.scroll.1 d.pen y is.pen) (blank-is d.pen is.pen))

-- where the content has no line, each place is of one column
pub inner-single : (d : DrawingValue) (x y : ℕ) → IsDrawing d → get_or d.lines (y - d.gutter.top) [] ≡ [] → IsSingle (inner_at d x y)
inner-single d x y is none =
    let same : line_at d (x - d.gutter.left) (y - d.gutter.top) ≡ blank d.pen = ap (λ line. get_or line (x - d.gutter.left) (blank d.pen)) none in
    if-single (is_content d x y) _ _ (content-single d _ _ is (subst IsSingle (sym same) (blank-is d.pen is.pen))) (blank-is d.pen is.pen)
