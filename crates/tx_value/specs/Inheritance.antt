-- What a row's property has to do with its parent's, by the table of properties.
use Rattle.tx_value.specs.declared.inheritance.Inheritance.{Inheritance}
use Rattle.tx_value.specs.declared.inheritance.Inheritance.TheVariants.{NotInherited, Inherited, Added}
use Rattle.tx_value.specs.declared.property.Property.{Property}
use Rattle.tx_value.specs.declared.property.Property.TheVariants as property

abbrev pub inheritance_of : Property → Inheritance
inheritance_of property.Visibility = Inherited
inheritance_of property.Color = Inherited
inheritance_of property.TextStyle = Added
inheritance_of _ = NotInherited
