-- Styles as choices of values.
use Rattle.std.proofs.Common.{◌≡◌, ℕ, zero, suc, List, [], ◌∷◌, Some, None, map, slice_get, get_or, refl, ap}
use Rattle.std.proofs.lemmas.List.FromFn.{fill_by_all}
use Rattle.tx_value.specs.Style.{number, every_property, style_value, StylesAreTheirValues, ValuesMakeStyles}
use Rattle.tx_value.specs.declared.property.Property.{Property}
use Rattle.tx_value.proofs.Numbered.{numbered}
use Rattle.tx_value.specs.declared.value.Value.{Value}
use Rattle.tx_value.specs.declared.value.Value.TheVariants.{Initial}

-- what a choice gives at a property's number
at_number : (choice : Property → Value) (p : Property) (ps : List Property) (i : ℕ) → slice_get ps i ≡ Some p → get_or (map choice ps) i Initial ≡ choice p
at_number choice p [] i is = absurd (let clash : None ≡ Some p = is in cc)
at_number choice p (x ∷ ps) zero is = let same : x ≡ p = cc in ap choice same
at_number choice p (x ∷ ps) (suc i) is = at_number choice p ps i is

chosen : (choice : Property → Value) (p : Property) → style_value (map choice every_property) p ≡ choice p
chosen choice p = at_number choice p every_property (number p) (numbered p)

pub values_make_styles : ValuesMakeStyles
values_make_styles choice = (refl, chosen choice)

pub styles_are_their_values : StylesAreTheirValues
unfolding number
styles_are_their_values style is = fill_by_all (λ k. get_or style k Initial) style 42 Initial is (λ k less. refl)
