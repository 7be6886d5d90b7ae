-- The rules of the default sheet, which stands below every other.
use Rattle.std.specs.Prelude.{ℕ, true, false, pos, List, [], ◌∷◌, ◌++◌, Some, codes}
use Rattle.tx_frac.specs.Ratio.{whole_of}
use Rattle.tx_frac.specs.declared.scalars.Unit.{Unit}
use Rattle.tx_frac.specs.declared.scalars.Unit.TheVariants.{Cells, Percent, Fr, Auto}
use Rattle.tx_geom.specs.declared.choices.BorderKind.TheVariants.{Solid}
use Rattle.tx_select.specs.SelectorValue.{SelectorValue}
use Rattle.tx_select.specs.declared.value.Part.{Part}
use Rattle.tx_select.specs.declared.value.Part.TheVariants.{Pseudo}
use Rattle.tx_select.specs.declared.value.PseudoName.TheVariants.{Focus}
use Rattle.tx_value.specs.Declarations.{Pair}
use Rattle.tx_value.specs.declared.property.Property.TheVariants as property
use Rattle.tx_value.specs.declared.theme.ThemeName.{ThemeName}
use Rattle.tx_value.specs.declared.theme.ThemeName.TheVariants as theme
use Rattle.tx_value.specs.declared.value.Ink.TheVariants.{Theme}
use Rattle.tx_value.specs.declared.value.Value.{Value}
use Rattle.tx_value.specs.declared.value.Value.TheVariants as value
use Rattle.tx_value.specs.declared.value.Word.{Word}
use Rattle.tx_value.specs.declared.value.Word.TheVariants as word
use Rattle.tx_parse.specs.Values.{RuleValue, important_pairs}

-- ---- values

abbrev pub sized : ℕ → Unit → Value
sized n unit = value.Size (record { value = whole_of (pos n); unit = unit })

abbrev pub auto : Value
auto = sized 0 Auto

abbrev pub one_share : Value
one_share = sized 1 Fr

abbrev pub ink : ThemeName → Value
ink name = value.Ink (Theme name 100)

abbrev pub reversed : Value
reversed = value.Marks (record { bold = false; dim = false; italic = false; underline = false; reverse = true; strike = false })

-- ---- declarations

abbrev pub is_sized : Value → Value → List Pair
is_sized width height = (property.Width, width) ∷ ((property.Height, height) ∷ [])

abbrev pub in_colours : ThemeName → ThemeName → List Pair
in_colours back fore = (property.Background, ink back) ∷ ((property.Color, ink fore) ∷ [])

abbrev pub overflows : Word → Word → List Pair
overflows x y = (property.OverflowX, value.Word x) ∷ ((property.OverflowY, value.Word y) ∷ [])

abbrev pub is_centred : List Pair
is_centred = (property.ContentAlignHorizontal, value.Word word.Center) ∷ ((property.ContentAlignVertical, value.Word word.Middle) ∷ [])

-- a solid border round it
abbrev pub has_border : ThemeName → List Pair
has_border name =
    (property.BorderTop, solid) ∷ ((property.BorderRight, solid) ∷ ((property.BorderBottom, solid) ∷ ((property.BorderLeft, solid) ∷ [])))
  where
    solid : Value
    solid = value.Border Solid (Some (Theme name 100))

-- ---- rules

-- a rule for the rows whose kind is called so and which are these
abbrev pub rule_for : List ℕ → List Part → List Pair → RuleValue
rule_for name parts pairs = record { selectors = selector ∷ []; declarations = important_pairs false pairs }
  where
    selector : SelectorValue
    selector = record { compounds = record { child = false; kind = Some name; parts = parts } ∷ [] }

abbrev pub of_kind : List ℕ → List Pair → RuleValue
of_kind name pairs = rule_for name [] pairs

abbrev pub in_focus : List ℕ → List Pair → RuleValue
in_focus name pairs = rule_for name (Pseudo Focus ∷ []) pairs

unfoldable pub default_rules : List RuleValue
default_rules =
    of_kind (codes "Screen") ((property.Layout, value.Word word.Vertical) ∷ (overflows word.Auto word.Auto ++ in_colours theme.Background theme.Foreground))
    ∷ (of_kind (codes "Container") (is_sized one_share one_share)
    ∷ (of_kind (codes "Vertical") (is_sized one_share one_share)
    ∷ (of_kind (codes "Horizontal") (is_sized one_share one_share ++ ((property.Layout, value.Word word.Horizontal) ∷ []))
    ∷ (of_kind (codes "Grid") (is_sized one_share one_share ++ ((property.Layout, value.Word word.Grid) ∷ []))
    ∷ (of_kind (codes "VerticalScroll") (is_sized one_share one_share ++ overflows word.Hidden word.Auto)
    ∷ (of_kind (codes "Static") (is_sized one_share auto)
    ∷ (of_kind (codes "Label") ((property.Width, auto) ∷ [])
    ∷ (of_kind (codes "Button") ((property.Width, auto) ∷ ((property.MinWidth, sized 16 Cells) ∷ ((property.Height, sized 3 Cells) ∷ (in_colours theme.Surface theme.Text ++ is_centred))))
    ∷ (in_focus (codes "Button") ((property.TextStyle, reversed) ∷ [])
    ∷ (of_kind (codes "Checkbox") (is_sized auto (sized 1 Cells))
    ∷ (in_focus (codes "Checkbox") ((property.TextStyle, reversed) ∷ [])
    ∷ (of_kind (codes "Input") (is_sized one_share (sized 3 Cells) ++ has_border theme.Panel)
    ∷ (in_focus (codes "Input") (has_border theme.Primary)
    ∷ (of_kind (codes "OptionList") (is_sized one_share auto ++ ((property.MaxHeight, sized 100 Percent) ∷ []))
    ∷ (of_kind (codes "ProgressBar") (is_sized (sized 32 Cells) (sized 1 Cells))
    ∷ (of_kind (codes "Header") ((property.Dock, value.Word word.Top) ∷ (is_sized one_share (sized 1 Cells) ++ (in_colours theme.Primary theme.Text ++ is_centred)))
    ∷ (of_kind (codes "Footer") ((property.Dock, value.Word word.Bottom) ∷ (is_sized one_share (sized 1 Cells) ++ in_colours theme.Panel theme.Text))
    ∷ (of_kind (codes "Custom") (is_sized auto auto)
    ∷ []))))))))))))))))))
