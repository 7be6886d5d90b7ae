-- The pen of an empty screen, and when two pens are the same.
use Rattle.std.specs.Prelude.{◌≡◌, ◌≤◌, Bool, ◌&&◌, ◌==◌}
use Rattle.std.proofs.Common.{ap}
use Rattle.std.proofs.lemmas.Bool.Decides.{Decides-and, Decides-like}
use Rattle.std.specs.Bool.{Decides}
use Rattle.std.specs.Cmp.{booleans_Decides, unsigned_Decides}
use mathlib.Core.Bool.{beq}
use Rattle.tx_geom.specs.Marks.{no_marks}
use Rattle.tx_geom.specs.declared.colours.Rgb.{Rgb}
use Rattle.tx_geom.specs.declared.styles.TextStyle.{TextStyle}
use Rattle.tx_cell.specs.declared.pen.Pen.{Pen}

-- white on black, without marks
abbrev pub white_on_black : Pen
white_on_black = record { fore = record { r = 255; g = 255; b = 255 }; back = record { r = 0; g = 0; b = 0 }; style = no_marks }

-- each channel of the two colours is a byte
pub record HasByteChannels (pen : Pen) : Type 0 where
  pub fore_r : pen.fore.r ≤ 255
  pub fore_g : pen.fore.g ≤ 255
  pub fore_b : pen.fore.b ≤ 255
  pub back_r : pen.back.r ≤ 255
  pub back_g : pen.back.g ≤ 255
  pub back_b : pen.back.b ≤ 255

-- whether two colours have the same channels
abbrev pub colour_eq : Rgb → Rgb → Bool
colour_eq a b = (a.r == b.r) && ((a.g == b.g) && (a.b == b.b))

-- whether two styles have the same marks
abbrev pub style_eq : TextStyle → TextStyle → Bool
style_eq a b =
    beq a.bold b.bold && (beq a.dim b.dim && (beq a.italic b.italic && (beq a.underline b.underline && (beq a.reverse b.reverse && beq a.strike b.strike))))

-- whether two pens have the same colours and the same style
abbrev pub pen_eq : Pen → Pen → Bool
pen_eq a b = colour_eq a.fore b.fore && (colour_eq a.back b.back && style_eq a.style b.style)

-- the test of colours is right
pub colour_eq-decides : (a b : Rgb) → Decides (colour_eq a b) (a ≡ b)
colour_eq-decides a b =
    Decides-like (colour_eq a b)
    (λ (same : (a.r ≡ b.r) × ((a.g ≡ b.g) × (a.b ≡ b.b))). λ i. record { r = same.0 i; g = same.1.0 i; b = same.1.1 i })
    (λ same. (ap (λ (c : Rgb). c.r) same, (ap (λ (c : Rgb). c.g) same, ap (λ (c : Rgb). c.b) same)))
    (Decides-and _ _ (unsigned_Decides a.r b.r) (Decides-and _ _ (unsigned_Decides a.g b.g) (unsigned_Decides a.b b.b)))

-- the same marks
abbrev AreSameMarks : TextStyle → TextStyle → Type 0
AreSameMarks a b = (a.bold ≡ b.bold) × ((a.dim ≡ b.dim) × ((a.italic ≡ b.italic) × ((a.underline ≡ b.underline) × ((a.reverse ≡ b.reverse) × (a.strike ≡ b.strike)))))

-- the test of styles is right
pub style_eq-decides : (a b : TextStyle) → Decides (style_eq a b) (a ≡ b)
style_eq-decides a b =
    Decides-like (style_eq a b)
    (λ (same : AreSameMarks a b). λ i. record { bold = same.0 i; dim = same.1.0 i; italic = same.1.1.0 i; underline = same.1.1.1.0 i; reverse = same.1.1.1.1.0 i; strike = same.1.1.1.1.1 i })
    (λ same. (
      ap (λ (s : TextStyle). s.bold) same,
      (ap (λ (s : TextStyle). s.dim) same, (ap (λ (s : TextStyle). s.italic) same, (ap (λ (s : TextStyle). s.underline) same, (ap (λ (s : TextStyle). s.reverse) same, ap (λ (s : TextStyle). s.strike) same)))),
    ))
    (Decides-and _ _ (booleans_Decides a.bold b.bold) (Decides-and _ _ (booleans_Decides a.dim b.dim) (Decides-and _ _ (booleans_Decides a.italic b.italic)
    (Decides-and _ _ (booleans_Decides a.underline b.underline) (Decides-and _ _ (booleans_Decides a.reverse b.reverse) (booleans_Decides a.strike b.strike))))))

-- the test of pens is right
pub pen_eq-decides : (a b : Pen) → Decides (pen_eq a b) (a ≡ b)
pen_eq-decides a b =
    Decides-like (pen_eq a b)
    (λ (same : (a.fore ≡ b.fore) × ((a.back ≡ b.back) × (a.style ≡ b.style))). λ i. record { fore = same.0 i; back = same.1.0 i; style = same.1.1 i })
    (λ same. (ap (λ (p : Pen). p.fore) same, (ap (λ (p : Pen). p.back) same, ap (λ (p : Pen). p.style) same)))
    (Decides-and _ _ (colour_eq-decides a.fore b.fore) (Decides-and _ _ (colour_eq-decides a.back b.back) (style_eq-decides a.style b.style)))
