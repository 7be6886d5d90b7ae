-- What a picture is made of.
use Rattle.std.specs.Prelude.{◌≡◌, ℕ, false, List}
use Rattle.std.specs.List.{All}
use Rattle.tx_geom.specs.declared.places.Size.{Size}
use Rattle.tx_map.specs.declared.entry.Entry.{Entry}
use Rattle.tx_node_map.specs.Held.{held}
use Rattle.tx_owner.specs.Owner.{owners, spot}
use Rattle.tx_owner.specs.Owners.{OwnersValue}
use Rattle.tx_sizes.specs.Forest.{Styles}
use Rattle.tx_tree.specs.Kind.{is_handed}
use Rattle.tx_tree.specs.declared.row.Row.{Row}

-- the owners of all cells of a screen of this size, and where each row is met first
pub record AreOwners (styles : Styles) (entries : List Entry) (screen : Size) (of : OwnersValue) : Type 0 where
  pub size : of.size ≡ screen
  pub lines : of.lines ≡ owners styles entries screen
  pub spots : (n : ℕ) → held of.spots n ≡ spot entries of.lines n

-- no row is of a kind that is handed in
abbrev pub AreBuiltIn : List Row → Type 0
AreBuiltIn rows = All (λ row. is_handed row.kind ≡ false) rows
