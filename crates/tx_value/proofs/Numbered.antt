-- Properties of one number are one.
use Rattle.std.proofs.Common.{◌≡◌, Some, slice_get, refl, ap, sym, ◌∙◌}
use Rattle.tx_value.specs.Style.{number, every_property}
use Rattle.tx_value.specs.declared.property.Property.{Property}
use Rattle.tx_value.specs.declared.property.Property.TheVariants as property

-- each property stands at its number
pub numbered : (p : Property) → slice_get every_property (number p) ≡ Some p
unfolding number
numbered property.Display = refl
numbered property.Visibility = refl
numbered property.Layout = refl
numbered property.Dock = refl
numbered property.Width = refl
numbered property.Height = refl
numbered property.MinWidth = refl
numbered property.MaxWidth = refl
numbered property.MinHeight = refl
numbered property.MaxHeight = refl
numbered property.BoxSizing = refl
numbered property.MarginTop = refl
numbered property.MarginRight = refl
numbered property.MarginBottom = refl
numbered property.MarginLeft = refl
numbered property.PaddingTop = refl
numbered property.PaddingRight = refl
numbered property.PaddingBottom = refl
numbered property.PaddingLeft = refl
numbered property.BorderTop = refl
numbered property.BorderRight = refl
numbered property.BorderBottom = refl
numbered property.BorderLeft = refl
numbered property.Background = refl
numbered property.Color = refl
numbered property.TextStyle = refl
numbered property.GridSize = refl
numbered property.GridColumns = refl
numbered property.GridRows = refl
numbered property.GridGutter = refl
numbered property.ColumnSpan = refl
numbered property.RowSpan = refl
numbered property.Layers = refl
numbered property.Layer = refl
numbered property.OverflowX = refl
numbered property.OverflowY = refl
numbered property.Offset = refl
numbered property.AlignHorizontal = refl
numbered property.AlignVertical = refl
numbered property.ContentAlignHorizontal = refl
numbered property.ContentAlignVertical = refl
numbered property.TextAlign = refl

pub same_number : (p q : Property) → number p ≡ number q → p ≡ q
same_number p q same = let e : Some p ≡ Some q = sym (numbered p) ∙ ap (slice_get every_property) same ∙ numbered q in cc
