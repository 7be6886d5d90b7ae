-- The room that a row has for further classes is nothing to a compound.
use Rattle.std.proofs.Common.{◌≡◌, ◌&&◌, List, [], ◌∷◌, refl, ap, ◌∙◌}
use Rattle.std.specs.List.{list_all}
use Rattle.tx_tree.specs.Row.{plain}
use Rattle.tx_tree.specs.declared.row.Row.{Row}
use Rattle.tx_select.specs.Holds.{is_above, is_disabled, is_first_child, is_last_child, pseudo_holds, part_holds, kind_holds, compound_holds}
use Rattle.tx_select.specs.declared.value.Part.{Part}
use Rattle.tx_select.specs.declared.value.Part.TheVariants.{Id, Class, Pseudo}
use Rattle.tx_select.specs.declared.value.PseudoName.{PseudoName}
use Rattle.tx_select.specs.declared.value.PseudoName.TheVariants.{Hover, Focus, FocusWithin, Blur, Enabled, Disabled, Dark, Light, FirstChild, LastChild}
use Rattle.tx_select.specs.declared.value.Compound.{Compound}
use Rattle.tx_select.specs.declared.value.Pseudo.{Pseudo as State}

pseudo-plain : (state : State) (rows : List Row) (row : Row) (name : PseudoName) → pseudo_holds state rows row name ≡ pseudo_holds state rows (plain row) name
unfolding pseudo_holds is_above is_disabled is_first_child is_last_child
pseudo-plain state rows row Hover = refl
pseudo-plain state rows row Focus = refl
pseudo-plain state rows row FocusWithin = refl
pseudo-plain state rows row Blur = refl
pseudo-plain state rows row Enabled = refl
pseudo-plain state rows row Disabled = refl
pseudo-plain state rows row Dark = refl
pseudo-plain state rows row Light = refl
pseudo-plain state rows row FirstChild = refl
pseudo-plain state rows row LastChild = refl

part-plain : (state : State) (rows : List Row) (row : Row) (part : Part) → part_holds state rows row part ≡ part_holds state rows (plain row) part
unfolding part_holds
part-plain state rows row (Id name) = refl
part-plain state rows row (Class name) = refl
part-plain state rows row (Pseudo name) = pseudo-plain state rows row name

parts-plain : (state : State) (rows : List Row) (row : Row) (parts : List Part) → list_all (part_holds state rows row) parts ≡ list_all (part_holds state rows (plain row)) parts
parts-plain state rows row [] = refl
parts-plain state rows row (part ∷ parts) =
    ap (λ b. b && list_all (part_holds state rows row) parts) (part-plain state rows row part)
    ∙ ap (λ b. part_holds state rows (plain row) part && b) (parts-plain state rows row parts)

pub holds_plain : (state : State) (rows : List Row) (row : Row) (compound : Compound) → compound_holds state rows row compound ≡ compound_holds state rows (plain row) compound
unfolding compound_holds
holds_plain state rows row compound = ap (λ b. kind_holds compound.kind row.kind && b) (parts-plain state rows row compound.parts)
