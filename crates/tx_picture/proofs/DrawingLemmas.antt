-- The drawing of an entry's row.
use Rattle.std.proofs.Common.{◌≡◌, ℕ, false, List, [], ◌∷◌, Option, Some, None, option_map, sym, ap, subst, ◌∙◌, inl, inr}
use Rattle.std.specs.Prelude.{unwrap_or}
use Rattle.std.proofs.lemmas.Bool.{cases_Bool}
use Rattle.std.proofs.lemmas.List.Elements.{All-head, All-tail}
use Rattle.tx_cascade.proofs.lemmas.Parents.{row-number}
use Rattle.tx_cascade.specs.Styles.{StylesValue}
use Rattle.tx_geom.specs.declared.colours.Rgb.{Rgb}
use Rattle.tx_map.specs.declared.entry.Entry.{Entry}
use Rattle.tx_paint.specs.Drawing.{DrawingValue, drawing_of}
use Rattle.tx_picture.specs.Given.{AreBuiltIn}
use Rattle.tx_picture.specs.Picture.{background_under, entry_drawing, placement_of, row_drawing, style_of, styles_of}
use Rattle.tx_select.specs.Holds.{is_row_of}
use Rattle.tx_select.specs.declared.value.Pseudo.{Pseudo as State}
use Rattle.tx_tree.specs.Kind.{is_handed}
use Rattle.tx_tree.specs.Row.{has_number, number}
use Rattle.tx_tree.specs.Rows.{row_at}
use Rattle.tx_tree.specs.declared.row.Row.{Row}
use Rattle.tx_value.specs.Style.{initial_style}
use Rattle.tx_value.specs.declared.value.Value.{Value}

some-is : {A : Type 0} (a b : A) → Some a ≡ Some b → a ≡ b
some-is a b is = cc

-- a row of the tree is of a built-in kind
pub built-in : (rows : List Row) (n : ℕ) (row : Row) → AreBuiltIn rows → row_at n rows ≡ Some row → is_handed row.kind ≡ false
built-in [] n row all is = let clash : None ≡ Some row = is in cc
built-in (first ∷ rows) n row all is = elim (cases_Bool (has_number n first)) [
  | inl same ↦
      let found = rw same at is in
      subst (λ (r : Row). is_handed r.kind ≡ false) (some-is first row found) (All-head (λ row. is_handed row.kind ≡ false) first rows all)
  | inr other ↦
      let found = rw other at is in
      built-in rows n row (All-tail (λ row. is_handed row.kind ≡ false) first rows all) found
]

pub drawing-is : (shown : StylesValue) (entry : Entry) (row : Row) (state : State) (values : List Value) (under : Rgb) (d : DrawingValue)
    → row_at entry.node.0 shown.rows ≡ Some row → shown.state ≡ state → Some values ≡ styles_of shown entry.node.0 → Some under ≡ Some (background_under shown entry.node.0)
    → d ≡ drawing_of state.dark values under row.kind row.text row.private (is_row_of state.focused row.node.0) (placement_of entry)
    → Some d ≡ entry_drawing shown entry
unfolding row_drawing
drawing-is shown entry row state values under d there state_is values_are under_is d_is =
    let node : number row ≡ entry.node.0 = row-number entry.node.0 shown.rows row there in
    let own : values ≡ style_of shown row =
    sym (ap (λ (n : ℕ). unwrap_or (styles_of shown n) initial_style) node ∙ ap (λ (v : Option (List Value)). unwrap_or v initial_style) (sym values_are))
    in
    let below : under ≡ background_under shown (number row) = some-is under _ under_is ∙ ap (background_under shown) (sym node) in
    ap (λ (d : DrawingValue). Some d) (d_is
    ∙ ap (λ (s : State). drawing_of s.dark values under row.kind row.text row.private (is_row_of s.focused row.node.0) (placement_of entry)) (sym state_is)
    ∙ ap (λ (v : List Value). drawing_of shown.state.dark v under row.kind row.text row.private (is_row_of shown.state.focused row.node.0) (placement_of entry)) own
    ∙ ap (λ (u : Rgb). drawing_of shown.state.dark (style_of shown row) u row.kind row.text row.private (is_row_of shown.state.focused row.node.0) (placement_of entry)) below)
    ∙ sym (ap (option_map (row_drawing shown entry)) there)
