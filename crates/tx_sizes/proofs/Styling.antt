-- Rows with their styles, one after another.
use Rattle.std.proofs.Common.{◌≡◌, List, [], ◌∷◌, ◌++◌, map, Some, ◌∙◌, sym, ap}
use Rattle.std.proofs.lemmas.List.{map-append}
use Rattle.std.specs.Prelude.{unwrap_or, Option}
use Rattle.tx_sizes.specs.Forest.{Styled, Styles, styled, styled_rows}
use Rattle.tx_tree.specs.declared.row.Row.{Row}
use Rattle.tx_value.specs.Style.{initial_style}
use Rattle.tx_value.specs.declared.value.Value.{Value}

-- one more row with the style that it has
pub styled_next : (styles : Styles) (done : List Row) (row : Row) (style : List Value) (made : List Styled) → made ≡ styled_rows styles done
    → styles row.node.0 ≡ Some style → made ++ record { row = row; style = style } ∷ [] ≡ styled_rows styles (done ++ row ∷ [])
styled_next styles done row style made is own =
    ap (λ (rows : List Styled). rows ++ record { row = row; style = style } ∷ []) is
    ∙ ap (λ (o : Option (List Value)). map (styled styles) done ++ record { row = row; style = unwrap_or o initial_style } ∷ []) (sym own)
    ∙ sym (map-append (styled styles) done (row ∷ []))
