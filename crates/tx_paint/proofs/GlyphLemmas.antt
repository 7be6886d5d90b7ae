-- Each character of a border makes one cell of one column.
use Rattle.std.proofs.Common.{◌≡◌, [], ◌∷◌, true, Some, refl}
use Rattle.std.proofs.Math.Utf8.{encode}
use Rattle.std.specs.Str.{chars, is_utf8}
use Rattle.unicode_segmentation.proofs.Computing.{unicode_segmentation}
use Rattle.unicode_width.proofs.Computing.{unicode_width}
use Rattle.tx_geom.specs.declared.choices.BorderKind.{BorderKind}
use Rattle.tx_geom.specs.declared.choices.BorderKind.TheVariants.{Blank, Ascii, Solid, Round, Double, Heavy}
use Rattle.tx_cell.specs.Cell.{cell_of, cluster_cell, shown}
use Rattle.tx_cell.specs.declared.pen.Pen.{Pen}
use Rattle.tx_paint.specs.Bars.{thumb, track}
use Rattle.tx_paint.specs.Glyphs.{glyph, utf8_of}
use Rattle.tx_paint.specs.declared.glyphs.Part.{Part}
use Rattle.tx_paint.specs.declared.glyphs.Part.TheVariants.{Horizontal, Vertical, TopLeft, TopRight, BottomRight, BottomLeft}

pub glyph-single : (kind : BorderKind) (part : Part) (pen : Pen) → cell_of (glyph kind part) pen ≡ Some (shown (glyph kind part) 1 pen)
unfolding cell_of cluster_cell chars unicode_segmentation unicode_width
glyph-single Blank part pen = refl
glyph-single Ascii Horizontal pen = refl
glyph-single Ascii Vertical pen = refl
glyph-single Ascii TopLeft pen = refl
glyph-single Ascii TopRight pen = refl
glyph-single Ascii BottomRight pen = refl
glyph-single Ascii BottomLeft pen = refl
glyph-single Solid Horizontal pen = refl
glyph-single Solid Vertical pen = refl
glyph-single Solid TopLeft pen = refl
glyph-single Solid TopRight pen = refl
glyph-single Solid BottomRight pen = refl
glyph-single Solid BottomLeft pen = refl
glyph-single Round Horizontal pen = refl
glyph-single Round Vertical pen = refl
glyph-single Round TopLeft pen = refl
glyph-single Round TopRight pen = refl
glyph-single Round BottomRight pen = refl
glyph-single Round BottomLeft pen = refl
glyph-single Double Horizontal pen = refl
glyph-single Double Vertical pen = refl
glyph-single Double TopLeft pen = refl
glyph-single Double TopRight pen = refl
glyph-single Double BottomRight pen = refl
glyph-single Double BottomLeft pen = refl
glyph-single Heavy Horizontal pen = refl
glyph-single Heavy Vertical pen = refl
glyph-single Heavy TopLeft pen = refl
glyph-single Heavy TopRight pen = refl
glyph-single Heavy BottomRight pen = refl
glyph-single Heavy BottomLeft pen = refl

pub glyph-utf8 : (kind : BorderKind) (part : Part) → is_utf8 (glyph kind part) ≡ true
unfolding is_utf8 chars encode
glyph-utf8 Blank part = refl
glyph-utf8 Ascii Horizontal = refl
glyph-utf8 Ascii Vertical = refl
glyph-utf8 Ascii TopLeft = refl
glyph-utf8 Ascii TopRight = refl
glyph-utf8 Ascii BottomRight = refl
glyph-utf8 Ascii BottomLeft = refl
glyph-utf8 Solid Horizontal = refl
glyph-utf8 Solid Vertical = refl
glyph-utf8 Solid TopLeft = refl
glyph-utf8 Solid TopRight = refl
glyph-utf8 Solid BottomRight = refl
glyph-utf8 Solid BottomLeft = refl
glyph-utf8 Round Horizontal = refl
glyph-utf8 Round Vertical = refl
glyph-utf8 Round TopLeft = refl
glyph-utf8 Round TopRight = refl
glyph-utf8 Round BottomRight = refl
glyph-utf8 Round BottomLeft = refl
glyph-utf8 Double Horizontal = refl
glyph-utf8 Double Vertical = refl
glyph-utf8 Double TopLeft = refl
glyph-utf8 Double TopRight = refl
glyph-utf8 Double BottomRight = refl
glyph-utf8 Double BottomLeft = refl
glyph-utf8 Heavy Horizontal = refl
glyph-utf8 Heavy Vertical = refl
glyph-utf8 Heavy TopLeft = refl
glyph-utf8 Heavy TopRight = refl
glyph-utf8 Heavy BottomRight = refl
glyph-utf8 Heavy BottomLeft = refl

pub thumb-single : (pen : Pen) → cell_of (utf8_of 0x2588) pen ≡ Some (thumb pen)
unfolding cell_of cluster_cell chars unicode_segmentation unicode_width
thumb-single pen = refl

pub track-single : (pen : Pen) → cell_of (utf8_of 0x2591) pen ≡ Some (track pen)
unfolding cell_of cluster_cell chars unicode_segmentation unicode_width
track-single pen = refl

pub thumb-utf8 : is_utf8 (utf8_of 0x2588) ≡ true
unfolding is_utf8 chars encode
thumb-utf8 = refl

pub track-utf8 : is_utf8 (utf8_of 0x2591) ≡ true
unfolding is_utf8 chars encode
track-utf8 = refl

pub blank-single : (pen : Pen) → cell_of (32 ∷ []) pen ≡ Some (shown (32 ∷ []) 1 pen)
unfolding cell_of cluster_cell chars unicode_segmentation unicode_width
blank-single pen = refl

pub blank-utf8 : is_utf8 (32 ∷ []) ≡ true
unfolding is_utf8 chars encode
blank-utf8 = refl
