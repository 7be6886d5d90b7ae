-- Styles that are found to be equal.
use Rattle.std.proofs.Common.{◌≡◌, ℕ, ◌+◌, ◌<◌, ◌≤◌, ◌&&◌, Bool, true, length, drop, get_or, add-one, List, [], ◌∷◌, map, sym, ap, ◌∙◌}
use Rattle.std.proofs.lemmas.Bool.Decides.{Decides-and}
use Rattle.std.proofs.lemmas.List.{drop_all}
use Rattle.std.proofs.Math.Seq.{drop-cons}
use Rattle.std.specs.Cmp.{booleans_Decides}
use mathlib.Core.Bool.{beq}
use Rattle.tx_geom.specs.declared.styles.TextStyle.{TextStyle}
use Rattle.tx_value.specs.Style.{IsStyle, style_value, every_property, StylesAreTheirValues}
use Rattle.tx_value.specs.declared.property.Property.{Property}
use Rattle.tx_value.specs.declared.value.Value.{Value}

abbrev marks_agree : TextStyle → TextStyle → Bool
marks_agree a b =
    beq a.bold b.bold && (beq a.dim b.dim && (beq a.italic b.italic && (beq a.underline b.underline && (beq a.reverse b.reverse && beq a.strike b.strike))))

-- who has the same marks is the same
pub same-marks : (a b : TextStyle) → marks_agree a b ≡ true → a ≡ b
same-marks a b is =
    let same = (Decides-and _ _ (booleans_Decides a.bold b.bold) (Decides-and _ _ (booleans_Decides a.dim b.dim) (Decides-and _ _ (booleans_Decides a.italic b.italic)
    (Decides-and _ _ (booleans_Decides a.underline b.underline) (Decides-and _ _ (booleans_Decides a.reverse b.reverse) (booleans_Decides a.strike b.strike)))))).0 is in
    λ i. record { bold = same.0 i; dim = same.1.0 i; italic = same.1.1.0 i; underline = same.1.1.1.0 i; reverse = same.1.1.1.1.0 i; strike = same.1.1.1.1.1 i }

-- the values that are left being the same, all are
abbrev pub SameOn : List Value → List Value → ℕ → List Property → Type 0
SameOn first second i properties =
    map (style_value first) (drop i properties) ≡ map (style_value second) (drop i properties)
    → map (style_value first) properties ≡ map (style_value second) properties

pub same-step : (first second : List Value) (properties : List Property) (i : ℕ) (d : Property) → i < length properties
    → style_value first (get_or properties i d) ≡ style_value second (get_or properties i d)
    → SameOn first second i properties → SameOn first second (i + 1) properties
same-step first second properties i d within here so_far rest =
    let e : drop i properties ≡ get_or properties i d ∷ drop (i + 1) properties = rw (add-one i) (drop-cons properties i d within) in
    so_far
    (ap (map (style_value first)) e
    ∙ (ap (λ (v : Value). v ∷ map (style_value first) (drop (i + 1) properties)) here
    ∙ (ap (λ (vs : List Value). style_value second (get_or properties i d) ∷ vs) rest ∙ sym (ap (map (style_value second)) e))))

pub same-end : (first second : List Value) (properties : List Property) (i : ℕ) → StylesAreTheirValues → properties ≡ every_property → IsStyle first → IsStyle second → length properties ≤ i
    → SameOn first second i properties → first ≡ second
same-end first second properties i made all one other over so_far =
    let none : drop i properties ≡ [] = drop_all i properties over in
    let same = so_far (ap (map (style_value first)) none ∙ sym (ap (map (style_value second)) none)) in
    made first one
    ∙ (sym (ap (map (style_value first)) all) ∙ (same ∙ (ap (map (style_value second)) all ∙ sym (made second other))))
