-- How many parts of each sort a selector has.
use Rattle.std.specs.Prelude.{ℕ, Bool, true, false, List, is_some}
use Rattle.std.specs.List.{count_by, sum_by}
use Rattle.tx_select.specs.declared.value.Part.{Part}
use Rattle.tx_select.specs.declared.value.Part.TheVariants.{Id, Class, Pseudo}
use Rattle.tx_select.specs.declared.value.Compound.{Compound}

abbrev pub is_id : Part → Bool
is_id (Id name) = true
is_id (Class name) = false
is_id (Pseudo pseudo) = false

-- a class or a pseudo-class
abbrev pub is_class : Part → Bool
is_class (Id name) = false
is_class (Class name) = true
is_class (Pseudo pseudo) = true

-- a name of a kind stands there, and no `*`
abbrev pub has_kind : Compound → Bool
has_kind compound = is_some compound.kind

-- the ids of all compounds, their classes and pseudo-classes, and their names of kinds
abbrev pub ids : List Compound → ℕ
ids compounds = sum_by (λ compound. count_by is_id compound.parts) compounds

abbrev pub classes : List Compound → ℕ
classes compounds = sum_by (λ compound. count_by is_class compound.parts) compounds

abbrev pub types : List Compound → ℕ
types compounds = count_by has_kind compounds
