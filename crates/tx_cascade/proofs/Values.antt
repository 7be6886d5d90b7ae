-- A style whose values are set one after another.
use Rattle.std.proofs.Common.{◌≡◌, map, refl}
use Rattle.std.specs.List.{fold}
use Rattle.tx_value.specs.Style.{number, with_value, every_property, initial_style}
use Rattle.tx_value.specs.declared.property.Property.{Property}
use Rattle.tx_value.specs.declared.value.Value.{Value}

-- where each property is given its value, the style has these
pub all-set : (choice : Property → Value) → fold (λ style p. with_value style p (choice p)) initial_style every_property ≡ map choice every_property
unfolding number
all-set choice = refl
